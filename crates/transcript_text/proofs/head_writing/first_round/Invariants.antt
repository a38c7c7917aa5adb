use Rattle.std.proofs.Common.{◌≤◌, ◌-◌}
use Rattle.group_plan.specs.Plans.{span_of}
use Rattle.transcript_text.proofs.head_writing.first_round.Given as goal

abbrev pub invariant-loop-round : goal.invariant-loop-round
invariant-loop-round l = l.round ≤ (span_of l.plan.groups l.group l.meter).from

abbrev pub decreases-loop-round : goal.decreases-loop-round
decreases-loop-round l = (span_of l.plan.groups l.group l.meter).from - l.round
