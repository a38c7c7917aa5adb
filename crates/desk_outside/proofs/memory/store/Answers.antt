use Rattle.std.proofs.Common.{◌≡◌, ◌∙◌, ap, refl, ℕ, Bool, true, false, cond, Option, Some, Vec, string_bytes}
use Rattle.std.specs.Option.{option_map}
use Rattle.std.specs.Str.{bytes_eq}
use Rattle.std.specs.declared.alloc.Global.{Global}
use Rattle.std.proofs.lemmas.Map.Text.{btree_map_updates_text}
use Rattle.desk_outside.specs.Parts.{held_in}
use Rattle.desk_outside.proofs.memory.store.Goals as goal

-- the bytes of one of two values are those of the one that is picked
bytes-cond : (b : Bool) (new : Vec ℕ Global) (rest : Option (Vec ℕ Global)) → option_map (λ (v : Vec ℕ Global). v.items) (cond b (Some new) rest) ≡ cond b (Some new.items) (option_map (λ (v : Vec ℕ Global). v.items) rest)
bytes-cond true new rest = refl
bytes-cond false new rest = refl

pub returns-clause-ok : goal.returns-clause-ok
returns-clause-ok c = λ other.
    let sets = btree_map_updates_text (string_bytes c.in_ok-name.name) c.args.files.now c.insert.new.self _ c.in_ok-insert.ensures.updates other in
    let picked : held_in c.insert.new.self other ≡ cond (bytes_eq (string_bytes c.in_ok-name.name) other) (Some c.args.bytes.items) (held_in c.args.files.now other) =
    ap (option_map (λ (v : Vec ℕ Global). v.items)) sets ∙ bytes-cond _ _ _ in
    rw c.in_ok-name.ensures.ok at picked
