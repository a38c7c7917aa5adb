use Rattle.std.proofs.Common.{◌≡◌, ◌<◌, ◌≤◌, ◌-◌, ◌*◌, ◌^◌}
use Rattle.std.specs.List.{range_with_len}
use Rattle.group_plan.specs.Tables.{reading}
use Rattle.billing_read.specs.Bills.{bill_over}
use Rattle.billing_read.proofs.bills.bill_of.Given as goal

-- the bill over the rounds so far
abbrev pub invariant-loop-round : goal.invariant-loop-round
invariant-loop-round l = record {
  bill : l.bill ≡ bill_over (range_with_len l.from (l.round - l.from)) (reading l.readings.table) l.group l.meter;
  none : l.round-end < l.from → l.round ≡ l.from;
  few : l.bill.readings ≤ l.round;
  small : l.bill.sum ≤ l.round * 2 ^ 40;
}
