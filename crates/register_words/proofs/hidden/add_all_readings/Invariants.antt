use Rattle.std.proofs.Common.{◌≡◌, ℕ, ◌+◌, ◌<◌, ◌≤◌, [], length, unwrap_or}
use Rattle.std.specs.Prelude.{slice_index, slice_index_or}
use Rattle.group_plan.specs.Tables.{reading}
use Rattle.missing_round.specs.Words.{word}
use Rattle.plan_files.specs.Registers.{table}
use Rattle.register_words.proofs.hidden.add_all_readings.Given as goal

-- the meters so far have their readings
abbrev pub invariant-loop-meter : goal.invariant-loop-meter
invariant-loop-meter l = record {
  done : (i k : ℕ) → i < l.meter → k < length l.tables.tables
      → slice_index (slice_index_or l.words i []) k ≡ word (slice_index (slice_index_or l.fn.words i []) k + unwrap_or (reading (table l.tables k) l.group l.round i) 0);
  left : (i : ℕ) → l.meter ≤ i → slice_index_or l.words i [] ≡ slice_index_or l.fn.words i [];
}
