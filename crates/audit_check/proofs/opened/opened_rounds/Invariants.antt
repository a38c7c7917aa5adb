use Rattle.std.proofs.Common.{◌≡◌, ◌*◌, ◌≤◌}
use Rattle.std.specs.List.{count_by, sum_by, range_with_len}
use Rattle.audit_check.specs.OpenedParts.{lacks_by, HasFewest}
use Rattle.audit_check.proofs.opened.opened_rounds.Given as goal

abbrev pub invariant-loop-group : goal.invariant-loop-group
invariant-loop-group l = record {
  without_total : l.opened.without_total ≡ sum_by (λ g. count_by (lacks_by l.rounds g) (range_with_len 0 l.rounds.presence.plan.rounds)) (range_with_len 0 l.group);
  few : l.opened.without_total ≤ l.group * 4096;
  fewest : HasFewest l.rounds l.group 0 l.opened.fewest;
}
