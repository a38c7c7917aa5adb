-- What a meter's journal says of each round: the reading that was marked for it, and the missing set that is kept for it.
use Rattle.std.specs.Prelude.{ℕ, ◌==◌, if◌then◌else◌, List, [], ◌∷◌, Option, Some, None}
use Rattle.meter_apart.specs.declared.answers.Noted.{Noted}
use Rattle.meter_apart.specs.declared.answers.Noted.TheVariants.{Read, Kept}

-- the reading that was marked for round r
unfoldable pub marked : List Noted → ℕ → Option ℕ
marked [] r = None
marked (Read q reading ∷ ls) r = if q == r then Some reading else marked ls r
marked (Kept q set ∷ ls) r = marked ls r

-- the missing set that is kept for round r
unfoldable pub kept : List Noted → ℕ → Option (List ℕ)
kept [] r = None
kept (Read q reading ∷ ls) r = kept ls r
kept (Kept q set ∷ ls) r = if q == r then Some set else kept ls r
