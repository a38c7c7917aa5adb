use Rattle.std.proofs.Common.{◌≡◌, ◌++◌, take}
use Rattle.std.specs.List.{flat_map}
use Rattle.billing_read.specs.BillsText.{heading, bill_line}
use Rattle.billing_read.proofs.writing.bills_text.Given as goal

abbrev pub invariant-loop-bill : goal.invariant-loop-bill
invariant-loop-bill l = l.out.items ≡ heading ++ flat_map (bill_line l.plan l.from l.until) (take l.bill-index l.bills)
