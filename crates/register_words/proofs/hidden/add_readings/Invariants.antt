use Rattle.std.proofs.Common.{◌≡◌, ℕ, ◌+◌, ◌<◌, ◌≤◌, length, unwrap_or}
use Rattle.std.specs.Prelude.{slice_index}
use Rattle.group_plan.specs.Tables.{reading}
use Rattle.missing_round.specs.Words.{word}
use Rattle.plan_files.specs.Registers.{table}
use Rattle.register_words.proofs.hidden.add_readings.Given as goal

-- the registers so far have their readings
abbrev pub invariant-loop-register : goal.invariant-loop-register
invariant-loop-register l = record {
  long : length l.words ≡ 8;
  done : (k : ℕ) → k < l.register → slice_index l.words k ≡ word (slice_index l.fn.words k + unwrap_or (reading (table l.tables k) l.group l.round l.meter) 0);
  left : (k : ℕ) → l.register ≤ k → k < 8 → slice_index l.words k ≡ slice_index l.fn.words k;
}
