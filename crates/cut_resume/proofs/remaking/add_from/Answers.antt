use Rattle.std.proofs.Common.{arith}
use Rattle.cut_resume.proofs.RemakingLemmas.{from_more, from_next}
use Rattle.cut_resume.proofs.remaking.add_from.Goals as goal

pub add-requires : goal.add-requires
add-requires c =
    from_next c.args.made.now c.loop-at.made c.args.part.now.entries c.args.from c.loop-at.at c.entry.result (omega (arith, c.loop-at.auto.at)) (omega (arith, c.loop-at-test.true, c.len-at-end.ensures.len)) c.entry.ensures c.requires.entries c.loop-at.invariant

pub loop-at-preserved : goal.loop-at-preserved
loop-at-preserved c =
    from_more c.args.made.now c.loop-at.made c.add.new.made c.args.part.now.entries c.args.from c.loop-at.at c.entry.result (omega (arith, c.loop-at.auto.at)) (omega (arith, c.loop-at-test.true, c.len-at-end.ensures.len)) c.entry.ensures c.loop-at.invariant c.in_ok-add.ensures
