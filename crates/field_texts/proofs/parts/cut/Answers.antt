use Rattle.std.proofs.Common.{arith}
use Rattle.std.proofs.lemmas.Bool.Decides.{nat_tests}
use Rattle.field_texts.proofs.Cutting.{cut_here}
use Rattle.field_texts.proofs.parts.cut.Goals as goal

pub returns-then-text-end : goal.returns-then-text-end
returns-then-text-end c =
    let s = c.loop-end.invariant in
    cut_here c.args.stop c.args.text.now c.loop-end.end (omega arith) (grind (arith, nat_tests)) s.none
