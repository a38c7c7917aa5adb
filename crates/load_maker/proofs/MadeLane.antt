-- The lane of a made plan takes its argument.
use Rattle.std.proofs.Common.{◌≡◌, ◌∙◌, ◌<◌, ◌≤◌, ◌+◌, ◌-◌, ◌%◌, ◌^◌, ◌==◌, nat_le, if◌then◌else◌, ℕ, Bool, true, false, List, [], ◌∷◌, ◌++◌, Option, Some, None, refl, ap, arith, codes, decimal}
use Rattle.std.specs.List.{All, slice_split}
use Rattle.std.specs.Option.{option_and_then}
use Rattle.std.proofs.lemmas.Bool.Decides.{nat_tests}
use Rattle.std.proofs.lemmas.Fmt.{decimal_by_steps}
use Rattle.std.proofs.lemmas.List.Elements.{All-append, All-cons, All-nil}
use Rattle.std.proofs.lemmas.List.Splits.{slice_split_at}
use Rattle.field_texts.specs.Numbers.{number_of, within}
use Rattle.field_texts.specs.Parts.{parts}
use Rattle.field_texts.proofs.NumberLaws.{number_again}
use Rattle.link_lanes.specs.Kinds.{Chances, chances_by, chances_of}
use Rattle.link_lanes.specs.Texts.{four}
use Rattle.load_maker.specs.MadeFiles.{MadeLaneFits}

-- no digit is a colon
no_colon : (n : ℕ) → n < 2 ^ 64 → All (λ b. (b == 58) ≡ false) (decimal n)
no_colon n few =
    decimal_by_steps (λ m ds. All (λ b. (b == 58) ≡ false) ds) (λ m small. digit m small) (λ m ds big ih. All-append (λ b. (b == 58) ≡ false) ds ((48 + m % 10) ∷ []) ih (digit (m % 10) (omega arith))) n few
  where
    digit : (d : ℕ) → d < 10 → All (λ b. (b == 58) ≡ false) ((48 + d) ∷ [])
    digit d small = let other : ((48 + d) == 58) ≡ false = grind (arith, nat_tests) in All-cons (λ b. (b == 58) ≡ false) (48 + d) [] other (All-nil _)

pub made_lane_fits : MadeLaneFits
unfolding number_of
made_lane_fits seed few =
    let cut : parts 58 (decimal seed ++ codes ":5:10:2") ≡ decimal seed ∷ parts 58 (codes "5:10:2") = slice_split_at (λ b. b == 58) (decimal seed) 58 (codes "5:10:2") (no_colon seed few) refl in
    ap (λ ps. option_and_then (λ p. chances_by (number_of p.0) (within 0 1001 (number_of p.1)) (within 0 1001 (number_of p.2)) (within 1 17 (number_of p.3))) (four ps)) cut
    ∙ ap (λ s. chances_by s (Some 5) (Some 10) (Some 2)) (number_again seed few)
