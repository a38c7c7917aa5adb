use Rattle.std.proofs.Common.{◌≡◌}
use Rattle.billing_read.specs.Changes.{after_change, HasBefore}
use Rattle.billing_read.proofs.changes.other_world.Given as goal

abbrev pub invariant-loop-group : goal.invariant-loop-group
invariant-loop-group l = record {
  plan : l.other.plan ≡ l.plan;
  before : HasBefore (after_change l.change) l.other l.group 0 0;
}
