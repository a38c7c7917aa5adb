use Rattle.std.proofs.Common.{◌≡◌, ◌+◌, ◌∷◌, [], length, sym, ap, ◌∙◌, arith}
use Rattle.std.proofs.lemmas.List.{length-append}
use Rattle.link_lanes.specs.Racks.{posts_of}
use Rattle.tick_run.proofs.PassLemmas.{passing-starts, passing-next, passing-ends}
use Rattle.tick_run.proofs.by_groups.pass_frames.Goals as goal

pub loop-frame-init : goal.loop-frame-init
loop-frame-init g c = record {
  room = c.requires.room;
  posts = omega (arith, c.requires.posts);
  spare = omega arith;
  few = omega (arith, c.requires.few);
  passing = passing-starts c.args.tick c.args.frames.now _ _ c.args.fates.now.items;
}

pub loop-frame-preserved : goal.loop-frame-preserved
loop-frame-preserved g c =
    let was = c.loop-frame.invariant in
    let a = was.posts in
    let b = c.pass-fate.ensures.spare in
    let s = was.spare in
    let few = was.few in
    let long : length (posts_of c.pass-fate.new.self) ≡ length (posts_of c.loop-frame.rack) + 1
    = ap length c.pass-fate.ensures.posts ∙ length-append (posts_of c.loop-frame.rack) (record { tick = c.args.tick; tag = c.frame-item.result.tag; fate = c.pass-fate.result } ∷ []) in
    record {
      room = c.pass-fate.ensures.room;
      posts = omega (arith, a, b);
      spare = omega (arith, s, b);
      few = omega (arith, few, long);
      passing = passing-next c.args.tick c.loop-frame.frame-index c.args.frames.now c.frame-item.result _ _ _ _ _ _ c.pass-fate.result c.args.fates.now.items c.loop-frame.fates.items _ c.loop-frame-test.true (sym c.frame-item.is)
          c.pass-fate.ensures.fate c.pass-fate.ensures.lanes c.pass-fate.ensures.posts c.in_ok-push.ensures.items c.fate_is.ensures was.passing;
    }

pub returns-clause-passes : goal.returns-clause-passes
returns-clause-passes g c = passing-ends c.args.tick c.loop-frame.frame-index c.args.frames.now _ _ _ _ _ _ c.loop-frame-test.false c.loop-frame.invariant.passing
