use Rattle.billing_read.proofs.BillLemmas.{line_is}
use Rattle.billing_read.proofs.writing.put_bill.Goals as goal

pub returns : goal.returns
returns c =
    let whole = line_is c.args.plan.now c.args.from c.args.until c.args.bill.now c.args.out.now.items in
    cc (whole, c.in_ok-push.ensures.items, c.in_ok-put_next-5.ensures, c.in_ok-put_next-4.ensures, c.in_ok-put_next-3.ensures, c.in_ok-put_next-2.ensures, c.in_ok-put_next.ensures, c.in_ok-extend_from_slice.ensures.items, c.name_of.ensures)
