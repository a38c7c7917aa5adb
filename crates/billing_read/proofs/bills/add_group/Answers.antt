use Rattle.group_plan.specs.Tables.{reading}
use Rattle.billing_read.specs.Bills.{bill}
use Rattle.billing_read.proofs.BillLemmas.{bills_more}
use Rattle.billing_read.proofs.bills.add_group.Goals as goal

pub loop-meter-preserved : goal.loop-meter-preserved
loop-meter-preserved c =
    bills_more (bill c.args.readings.now.plan c.args.from c.args.until (reading c.args.readings.now.table) c.args.group) c.loop-meter.meter c.args.bills.now.items c.loop-meter.bills.items
    c.push.new.self.items c.bill_of.result c.loop-meter.invariant c.in_ok-push.ensures.items c.bill_of.ensures
