use Rattle.std.proofs.Common.{◌≡◌}
use Rattle.billing_read.specs.Changes.{after_change, HasBefore}
use Rattle.billing_read.proofs.changes.Change.put_round.Given as goal

abbrev pub invariant-loop-meter : goal.invariant-loop-meter
invariant-loop-meter l = record {
  plan : l.other.plan ≡ l.fn.other.plan;
  before : HasBefore (after_change l.self) l.other l.group l.round l.meter;
}
