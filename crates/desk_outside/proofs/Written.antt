-- Bytes that are written piece by piece.
use Rattle.std.proofs.Common.{◌≡◌, ◌<◌, ◌+◌, ℕ, min, List, [], ◌∷◌, ◌++◌, length, Option, None, Some, refl, ap, arith}
use Rattle.std.specs.Prelude.{⊤}

-- what is written, where that is known, and what is still to come are what there was and what was to come at first
abbrev pub Reaches : Option (List ℕ) → Option (List ℕ) → (rest all : List ℕ) → Type 0
Reaches None now rest all = ⊤
Reaches (Some before) None rest all = ⊥
Reaches (Some before) (Some now) rest all = now ++ rest ≡ before ++ all

-- a slice has no byte left where its front was empty
pub none_left : (most : ℕ) (all front after : List ℕ) → 0 < most → length front ≡ min (length all) most → length after + min (length all) most ≡ length all → front ≡ [] → after ≡ []
none_left most all front [] some front_is after_is empty = refl
none_left most all front (x ∷ after) some front_is after_is empty =
    let none = ap length empty in
    absurd (omega (arith, some, front_is, after_is, none))
