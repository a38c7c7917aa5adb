use Rattle.std.proofs.Common.{◌<◌, length, sym, ap, ◌∙◌, arith}
use Rattle.lossy_link.specs.Arrivals.{posted}
use Rattle.tick_run.proofs.GroupCalls.{post-next, post-end}
use Rattle.tick_run.proofs.group_tick.post_all.Goals as goal

pub loop-at-preserved : goal.loop-at-preserved
loop-at-preserved c =
    let lt : c.loop-at.at < length c.args.frames.now = c.loop-at-test.true in
    let in_fates : c.loop-at.at < length c.args.fates.now = omega (arith, lt, c.requires.long) in
    post-next c.args.tick c.loop-at.at c.args.frames.now c.args.fates.now c.index-frames-at.result c.index-fates-at.result c.args.link.now c.loop-at.link c.post.new.self lt (sym c.index-frames-at.is) in_fates (sym c.index-fates-at.is)
    c.loop-at.invariant (c.in_ok-post.ensures ∙ ap (λ bytes. posted c.args.tick bytes c.index-fates-at.result c.loop-at.link) c.encode.ensures.spelled)

pub returns : goal.returns
returns c = post-end c.args.tick c.loop-at.at c.args.frames.now c.args.fates.now c.args.link.now c.loop-at.link c.loop-at-test.false c.loop-at.invariant
