use Rattle.std.proofs.Common.{arith}
use Rattle.cut_resume.proofs.HeardLemmas.{one_more}
use Rattle.cut_resume.proofs.heard.first_same.Goals as goal

pub loop-at-preserved : goal.loop-at-preserved
loop-at-preserved c =
    one_more c.args.cut.now.entries c.args.part.now.entries c.args.from c.loop-at.at c.entry.result c.entry-in-loop-at.result
    (omega (arith, c.requires, c.loop-at-test.true, c.min-most.ensures, c.len.ensures.len, c.len-2.ensures.len)) (omega (arith, c.loop-at-test.true, c.min-most.ensures, c.len.ensures.len, c.len-2.ensures.len))
    c.entry.ensures c.entry-in-loop-at.ensures c.if-not-is_same.ensures c.loop-at.invariant
