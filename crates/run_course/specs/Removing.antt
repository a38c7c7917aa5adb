-- What taking an element out of a list does.
use Rattle.std.specs.Prelude.{◌≡◌, Bool, true, false, List, ◌∷◌, ◌++◌}
use Rattle.run_course.specs.Lists.{IsIn}

-- one such element is taken out; or there is none, and the list is as before
abbrev pub Removes : {X : Type 0} → X → List X → Bool → List X → Type 0
Removes {X} x old true new = (before : List X) × (after : List X) × (old ≡ before ++ x ∷ after) × (new ≡ before ++ after)
Removes x old false new = (IsIn x old → ⊥) × (new ≡ old)
