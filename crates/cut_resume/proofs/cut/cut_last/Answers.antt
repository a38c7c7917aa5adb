use Rattle.std.proofs.Common.{arith}
use Rattle.std.proofs.lemmas.Bool.Decides.{nat_tests}
use Rattle.field_texts.proofs.Cutting.{cut_none}
use Rattle.cut_resume.proofs.LastLine.{cut_last_here}
use Rattle.cut_resume.proofs.cut.cut_last.Goals as goal

pub returns-in-Some : goal.returns-in-Some
returns-in-Some c =
    let f = c.in-Some.ensures in
    cut_last_here 10 c.args.text.now c.in-Some.end f.0.high (grind (arith, nat_tests, f.1)) (λ k low lt. let n = f.0.after k (omega (arith, low)) lt in grind (arith, nat_tests, n))

pub returns-in-None : goal.returns-in-None
returns-in-None c = cut_none 10 c.args.text.now (λ k lt. let n = c.in-None.ensures k (omega arith) lt in grind (arith, nat_tests, n))
