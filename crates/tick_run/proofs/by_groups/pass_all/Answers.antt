use Rattle.std.proofs.Common.{◌≡◌, ◌<◌, length, get_or, sym, ap, arith}
use Rattle.tick_run.specs.declared.running.Group.{Group}
use Rattle.tick_run.proofs.PassLemmas.{passes-none, all-next, all-ends, frames-left, long-passed}
use Rattle.tick_run.proofs.by_groups.pass_all.Goals as goal

pub loop-group-init : goal.loop-group-init
loop-group-init g c = record {
  room = c.requires.room;
  posts = c.requires.posts;
  few = c.requires.few;
  passing = passes-none c.args.tick _ _ _ c.clear.ensures.items;
}

pub loop-group-preserved : goal.loop-group-preserved
loop-group-preserved g c =
    let was = c.loop-group.invariant in
    let k = c.loop-group.group-index in
    let works = c.args.groups.now in
    let w : Group = c.group-item.result in
    let lt : k < length works = c.loop-group-test.true in
    let is : get_or works k w ≡ w = sym c.group-item.is in
    let left = frames-left k works w lt is in
    let spare = c.in_ok-pass_frames.ensures.spare in
    let posts = was.posts in
    let few = was.few in
    let passes = c.in_ok-pass_frames.ensures.passes in
    let own : c.deref.result.now ≡ w.work.frames.items = c.deref.ensures.value in
    let more = long-passed c.args.tick c.deref.result.now _ _ _ _ passes.met passes.passes in
    let long : length c.deref.result.now ≡ length w.work.frames.items = ap length own in
    record {
      room = c.pass_frames.ensures.room;
      posts = omega (arith, posts, left, spare, long);
      few = omega (arith, few, left, more, long);
      passing = all-next c.args.tick k works w c.deref.result.now _ _ _ _ _ _ _ _ lt is own passes was.passing;
    }

pub returns-clause-passes : goal.returns-clause-passes
returns-clause-passes g c = all-ends c.args.tick c.loop-group.group-index c.args.groups.now _ _ _ _ _ c.loop-group-test.false c.loop-group.invariant.passing
