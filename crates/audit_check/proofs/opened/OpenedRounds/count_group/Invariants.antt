use Rattle.std.proofs.Common.{◌≡◌, ◌+◌}
use Rattle.std.specs.List.{count_by, range_with_len}
use Rattle.audit_check.specs.OpenedParts.{lacks_by, HasFewest}
use Rattle.audit_check.proofs.opened.OpenedRounds.count_group.Given as goal

abbrev pub invariant-loop-round : goal.invariant-loop-round
invariant-loop-round l = record {
  without_total : l.self.without_total ≡ l.fn.self.without_total + count_by (lacks_by l.rounds l.group) (range_with_len 0 l.round);
  fewest : HasFewest l.rounds l.group l.round l.self.fewest;
}
