use Rattle.std.proofs.Common.{◌≤◌, arith}
use Rattle.std.proofs.lemmas.Bool.Decides.{nat_tests}
use Rattle.transcript_text.proofs.WrittenFields.{one_more}
use Rattle.transcript_text.proofs.written.with_digit.Goals as goal

pub returns : goal.returns
returns c =
    let some : 1 ≤ c.args.number = grind (arith, nat_tests, c.if-number-eq0.false) in
    let product = c.in_ok-checked_mul.ensures in
    let sum = c.in_ok-more.ensures in
    one_more c.args.number c.in_ok-digit.digit c.args.byte c.in_ok-more.more some c.in_ok-digit.ensures.0 c.in_ok-digit.ensures.1 (omega (arith, sum.1, product.1)) (omega (arith, sum.0, sum.1))
