use Rattle.transcript_text.proofs.WrittenFields.{one_digit, goes_on}
use Rattle.transcript_text.proofs.written.number.Goals as goal

pub loop-rest-init : goal.loop-rest-init
loop-rest-init c = one_digit c.args.text.now c.in_ok-number.number c.in-len1-up.len_at_least c.in_ok-number.ensures.0 c.in_ok-number.ensures.1

pub loop-rest-preserved : goal.loop-rest-preserved
loop-rest-preserved c = goes_on c.args.text.now c.loop-rest.rest.now c.loop-rest.number c.in_ok-number-2.number c.loop-rest.invariant c.in-len1-up-rest.len_at_least c.in_ok-number-2.ensures
