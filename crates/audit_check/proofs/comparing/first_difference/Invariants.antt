use Rattle.std.proofs.Common.{◌≡◌, ◌≤◌, ◌-◌, length, take}
use Rattle.audit_check.proofs.comparing.first_difference.Given as goal

abbrev pub invariant-loop-at : goal.invariant-loop-at
invariant-loop-at l = record {
  same : take l.at l.from_frames ≡ take l.at l.reported;
  one : l.at ≤ length l.from_frames;
  other : l.at ≤ length l.reported;
}

abbrev pub decreases-loop-at : goal.decreases-loop-at
decreases-loop-at l = length l.from_frames - l.at
