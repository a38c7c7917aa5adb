use Rattle.std.proofs.Common.{◌≡◌, map}
use Rattle.std.specs.List.{flat_map, range_with_len}
use Rattle.group_plan.specs.Plans.{size}
use Rattle.group_plan.specs.Tables.{reading}
use Rattle.billing_read.specs.Bills.{bill}
use Rattle.billing_read.proofs.bills.bills_of.Given as goal

abbrev pub invariant-loop-group : goal.invariant-loop-group
invariant-loop-group l =
    l.bills.items ≡ flat_map (λ g. map (bill l.plan l.from l.until (reading l.readings.table) g) (range_with_len 0 (size l.plan.groups g))) (range_with_len 0 l.group)
