use Rattle.std.proofs.Common.{arith}
use Rattle.std.proofs.lemmas.Bool.Decides.{nat_tests}
use Rattle.field_texts.proofs.Cutting.{cut_none, cut_here}
use Rattle.field_texts.proofs.parts.cut_far.Goals as goal

pub returns-in-Some : goal.returns-in-Some
returns-in-Some c =
    let f = c.in-Some.ensures in
    cut_here c.args.stop c.args.text.now c.in-Some.end f.0.high (grind (arith, nat_tests, f.1)) (λ k lt. let n = f.0.before k (omega arith) lt in grind (arith, nat_tests, n))

pub returns-in-None : goal.returns-in-None
returns-in-None c = cut_none c.args.stop c.args.text.now (λ k lt. let n = c.in-None.ensures k (omega arith) lt in grind (arith, nat_tests, n))
