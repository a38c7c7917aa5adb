use Rattle.std.proofs.Common.{◌≤◌, ◌-◌, ◌<◌}
use Rattle.group_plan.specs.Plans.{span_of}
use Rattle.transcript_text.proofs.head_writing.round_after.Given as goal

abbrev pub invariant-loop-round : goal.invariant-loop-round
invariant-loop-round l = record {
  after : (span_of l.plan.groups l.group l.meter).from < l.round;
  within : l.round ≤ (span_of l.plan.groups l.group l.meter).until;
}

abbrev pub decreases-loop-round : goal.decreases-loop-round
decreases-loop-round l = (span_of l.plan.groups l.group l.meter).until - l.round
