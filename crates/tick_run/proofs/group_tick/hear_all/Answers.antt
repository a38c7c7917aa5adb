use Rattle.std.proofs.Common.{◌≡◌, true, sym, subst}
use Rattle.meter_frames.specs.declared.Frame.{Frame}
use Rattle.plan_meters.specs.GroupMeters.{AreGroupMeters}
use Rattle.plan_meters.specs.Meters.{is_announcement, IsTold}
use Rattle.tick_run.proofs.group_tick.hear_all.Goals as goal

pub hear-requires : goal.hear-requires
hear-requires c =
    let can = c.requires.can in
    let k = c.loop-frame.frame-index in
    let f = c.frame-item.result in
    let own : f.tag.group ≡ can.group = subst (λ (x : Frame). x.tag.group ≡ can.group) (sym c.frame-item.is) (can.own k f c.loop-frame-test.true) in
    record {
      presence = can.presence;
      past = can.past;
      until = can.until;
      are = subst (λ h. AreGroupMeters can.presence can.past can.until h c.loop-frame.meters.meters.items) (sym own) (c.loop-frame.invariant.meters can.presence can.past can.until can.group can.own can.are can.told);
      told = subst (λ (x : Frame). is_announcement x.tag ≡ true → IsTold can.presence can.past can.until x) (sym c.frame-item.is) (can.told k f c.loop-frame-test.true);
    }
