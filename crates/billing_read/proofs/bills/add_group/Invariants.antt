use Rattle.std.proofs.Common.{◌≡◌, ◌++◌, map}
use Rattle.std.specs.List.{range_with_len}
use Rattle.group_plan.specs.Tables.{reading}
use Rattle.billing_read.specs.Bills.{bill}
use Rattle.billing_read.proofs.bills.add_group.Given as goal

abbrev pub invariant-loop-meter : goal.invariant-loop-meter
invariant-loop-meter l = l.bills.items ≡ l.fn.bills.items ++ map (bill l.readings.plan l.from l.until (reading l.readings.table) l.group) (range_with_len 0 l.meter)
