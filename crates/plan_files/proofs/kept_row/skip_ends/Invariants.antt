use Rattle.std.proofs.Common.{◌≡◌, ◌≤◌, ◌-◌, drop, length}
use Rattle.plan_files.specs.KeptRows.{next_row}
use Rattle.plan_files.proofs.kept_row.skip_ends.Given as goal

-- the ends of lines so far are skipped
abbrev pub invariant-loop-count : goal.invariant-loop-count
invariant-loop-count l = record {
  inside : l.count ≤ length l.bytes;
  same : next_row l.bytes ≡ next_row (drop l.count l.bytes);
}

abbrev pub decreases-loop-count : goal.decreases-loop-count
decreases-loop-count l = length l.bytes - l.count
