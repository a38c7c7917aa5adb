use Rattle.std.proofs.Common.{take, arith}
use Rattle.meter_apart.proofs.ReplayLemmas.{followed_more, followed_not, followed_all}
use Rattle.meter_apart.proofs.replaying.replay.Goals as goal

pub returns-then-not-follow : goal.returns-then-not-follow
returns-then-not-follow c =
    followed_not c.args.keys c.args.lines.now c.loop-at.at c.index-lines-at.result c.loop-at.meter c.follow.new.self c.follow.result (omega (arith, c.loop-at-test.true)) c.loop-at.invariant c.if-not-follow.true
    c.index-lines-at.is (c.follow.ensures.follows (take c.loop-at.at c.args.lines.now) c.loop-at.invariant.after)

pub loop-at-preserved : goal.loop-at-preserved
loop-at-preserved c =
    followed_more c.args.keys c.args.lines.now c.loop-at.at c.index-lines-at.result c.loop-at.meter c.follow.new.self c.follow.result (omega (arith, c.loop-at-test.true)) c.loop-at.invariant c.if-not-follow.false
    c.index-lines-at.is c.follow.ensures.keys (c.follow.ensures.follows (take c.loop-at.at c.args.lines.now) c.loop-at.invariant.after)

pub returns : goal.returns
returns c = followed_all c.args.keys c.args.lines.now c.loop-at.at c.loop-at.meter (omega (arith, c.loop-at-test.false)) c.loop-at.invariant
