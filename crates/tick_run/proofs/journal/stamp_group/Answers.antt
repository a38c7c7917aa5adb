use Rattle.std.proofs.Common.{◌<◌, length, arith}
use Rattle.tick_run.proofs.JournalLemmas.{stamping-next, stamp-begins}
use Rattle.tick_run.proofs.journal.stamp_group.Goals as goal

pub stamp_one-requires-clause-next : goal.stamp_one-requires-clause-next
stamp_one-requires-clause-next c =
    let lt : c.loop-at.at < length c.args.frames.now = c.loop-at-test.true in
    let in_fates : c.loop-at.at < length c.args.fates.now = omega (arith, lt, c.requires.fates) in
    stamp-begins c.args.tick c.loop-at.at c.args.frames.now c.args.fates.now c.index-frames-at.result c.index-fates-at.result c.args.transcript.now c.loop-at.transcript c.args.journal.now.items
    c.index-frames-at.is lt c.index-fates-at.is in_fates c.loop-at.invariant c.requires.lines

pub loop-at-preserved : goal.loop-at-preserved
loop-at-preserved c =
    let lt : c.loop-at.at < length c.args.frames.now = c.loop-at-test.true in
    let in_fates : c.loop-at.at < length c.args.fates.now = omega (arith, lt, c.requires.fates) in
    stamping-next c.args.tick c.loop-at.at c.args.frames.now c.args.fates.now c.index-frames-at.result c.index-fates-at.result c.args.transcript.now c.loop-at.transcript c.stamp_one.new.transcript
    c.index-frames-at.is lt c.index-fates-at.is in_fates c.loop-at.invariant c.in_ok-stamp_one.ensures
