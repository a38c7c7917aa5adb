-- The fields that keep a fate.
use Rattle.std.specs.Prelude.{◌≡◌, ℕ, List, [], ◌∷◌, take, IsTrue}
use Rattle.std.specs.List.{list_all}
use Rattle.link_lanes.specs.declared.Fate.TheInside.{Inside}
use Rattle.link_lanes.specs.Fates.{is_delay, never_falls}

-- the delays that the fields keep
abbrev pub delays_of : Inside → List ℕ
delays_of a = take a.count a.delays

-- the fields that keep these delays, with zeros behind them
abbrev pub fields_of : List ℕ → Inside
fields_of [] = record { count = 0; delays = 0 ∷ 0 ∷ 0 ∷ [] }
fields_of (a ∷ []) = record { count = 1; delays = a ∷ 0 ∷ 0 ∷ [] }
fields_of (a ∷ b ∷ []) = record { count = 2; delays = a ∷ b ∷ 0 ∷ [] }
fields_of (a ∷ b ∷ c ∷ _) = record { count = 3; delays = a ∷ b ∷ c ∷ [] }

-- the fields keep a fate, and nothing else
pub record IsKept (a : Inside) : Type 0 where
  pub kept : fields_of (delays_of a) ≡ a
  pub in_range : IsTrue (list_all is_delay (delays_of a))
  pub rising : IsTrue (never_falls (delays_of a))
