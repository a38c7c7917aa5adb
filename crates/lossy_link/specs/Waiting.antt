-- The copies that a map from ticks to bytes keeps.
use Rattle.std.specs.Prelude.{◌≡◌, ℕ, List, length, map, Vec}
use Rattle.std.specs.List.{flat_map}
use Rattle.std.specs.List.Sorted.{IsStrictlySortedBy}
use Rattle.std.specs.Map.{keys_of}
use Rattle.std.specs.Ordering.{nat_cmp}
use Rattle.std.specs.declared.alloc.Global.{Global}
use Rattle.lossy_link.specs.Arrivals.{Arrival, arrival}

-- tick by tick, the bytes of each copy in their order
abbrev pub copies_of : List (ℕ × Vec (List ℕ) Global) → List Arrival
copies_of entries = flat_map (λ e. map (arrival e.0) e.1.items) entries

-- the ticks ascend, and the number is that of the copies
pub record IsKept (entries : List (ℕ × Vec (List ℕ) Global)) (left : ℕ) : Type 0 where
  pub ordered : IsStrictlySortedBy nat_cmp (keys_of entries)
  pub counted : left ≡ length (copies_of entries)
