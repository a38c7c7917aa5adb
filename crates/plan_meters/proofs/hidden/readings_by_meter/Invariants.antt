use Rattle.std.proofs.Common.{◌≡◌, ℕ, ◌+◌, ◌<◌, [], None, length, slice_index_or}
use Rattle.group_plan.specs.Tables.{reading}
use Rattle.plan_meters.proofs.hidden.readings_by_meter.Given as goal

-- the readings of the meters so far
abbrev pub invariant-loop-meter : goal.invariant-loop-meter
invariant-loop-meter l = record {
  long : length l.rows.items ≡ l.meter;
  each : (i j : ℕ) → i < l.meter → j < 8 → slice_index_or (slice_index_or l.rows.items i []) j None ≡ reading l.readings.table l.group (l.first + j) i;
}
