use Rattle.std.proofs.Common.{◌≡◌, ℕ, ◌+◌, ◌<◌, None, length, slice_index_or}
use Rattle.group_plan.specs.Tables.{reading}
use Rattle.plan_meters.proofs.hidden.readings_of_meter.Given as goal

-- the readings of the rounds so far
abbrev pub invariant-loop-later : goal.invariant-loop-later
invariant-loop-later l =
    (length l.row ≡ 8)
    × ((j : ℕ) → j < l.later → slice_index_or l.row j None ≡ reading l.readings.table l.group (l.first + j) l.meter)
