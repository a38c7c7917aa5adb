-- Fates: the delays of the copies that arrive.
use Rattle.std.specs.Prelude.{◌≡◌, ℕ, ◌<◌, ◌≤◌, IsTrue, Bool, true, false, ◌&&◌, nat_le, List, [], ◌∷◌, length, Result, Ok, Err}
use Rattle.std.specs.List.{list_all}
use Rattle.link_lanes.specs.declared.FateError.{FateError}
use Rattle.link_lanes.specs.declared.FateError.TheVariants.{Copies, Delay, Order}

-- a delay is 1 to 16 ticks
abbrev pub is_delay : ℕ → Bool
is_delay d = nat_le 1 d && nat_le d 16

-- no delay is below the one before it
abbrev pub never_falls : List ℕ → Bool
never_falls [] = true
never_falls (d ∷ []) = true
never_falls (d ∷ e ∷ rest) = nat_le d e && never_falls (e ∷ rest)

-- 0 to 3 delays of 1 to 16 ticks, none below the one before it
pub record IsFate (fate : List ℕ) : Type 0 where
  pub few : length fate ≤ 3
  pub delays : IsTrue (list_all is_delay fate)
  pub order : IsTrue (never_falls fate)

-- what a fate made of these delays is: it keeps them, or the first rule that they break is answered
abbrev pub MakesFate : List ℕ → Result (List ℕ) FateError → Type 0
MakesFate delays (Ok fate) =
    (fate ≡ delays) × (length delays ≤ 3) × (list_all is_delay delays ≡ true) × (never_falls delays ≡ true)
MakesFate delays (Err Copies) = 3 < length delays
MakesFate delays (Err Delay) = (length delays ≤ 3) × (list_all is_delay delays ≡ false)
MakesFate delays (Err Order) = (length delays ≤ 3) × (list_all is_delay delays ≡ true) × (never_falls delays ≡ false)
