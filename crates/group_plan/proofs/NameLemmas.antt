-- Names in sixteen bytes.
use Rattle.std.proofs.Common.{◌≡◌, ℕ, ◌-◌, ◌≤◌, true, List, ◌++◌, length, drop, replicate, refl, ap, ◌∙◌, arith, length-append}
use Rattle.std.specs.Prelude.{nat_le, ◌&&◌}
use Rattle.std.specs.List.{list_all}
use Rattle.std.proofs.lemmas.List.{drop-replicate, length-replicate, take_at, drop_at}
use Rattle.std.proofs.lemmas.Bool.{and_parts}
use Rattle.std.proofs.lemmas.Bool.Decides.{nat_tests}
use Rattle.group_plan.specs.Names.{is_name, is_name_byte}
use Rattle.group_plan.specs.NameBytes.{KeepsName}

name-le : (text : List ℕ) → is_name text ≡ true → length text ≤ 16
name-le text is =
    let both = and_parts (nat_le 1 (length text) && nat_le (length text) 16) (list_all is_name_byte text) is in
    let small = (and_parts (nat_le 1 (length text)) (nat_le (length text) 16) both.0).1 in
    grind (arith, nat_tests, small)

-- a name written over sixteen zeros
pub keeps-name : (text : List ℕ) → is_name text ≡ true → KeepsName (record { bytes = text ++ drop (length text) (replicate 16 0); len = length text })
keeps-name text is =
    let short : length text ≤ 16 = name-le text is in
    let zeros : drop (length text) (replicate 16 0) ≡ replicate (16 - length text) 0 = drop-replicate (length text) 16 0 in
    let tail : length (drop (length text) (replicate 16 0)) ≡ 16 - length text = ap length zeros ∙ length-replicate (16 - length text) 0 in
    record {
      long = omega (arith, length-append text (drop (length text) (replicate 16 0)), tail, short);
      fits = short;
      named = ap is_name (take_at text (drop (length text) (replicate 16 0)) (length text) refl) ∙ is;
      rest = drop_at text (drop (length text) (replicate 16 0)) (length text) refl ∙ zeros;
    }
