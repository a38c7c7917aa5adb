use Rattle.std.proofs.Common.{sym, subst, ap, ◌∙◌, take, ◌++◌, ◌∷◌, []}
use Rattle.std.proofs.lemmas.List.{take_more}
use Rattle.meter_frames.specs.declared.Frame.{Frame}
use Rattle.plan_meters.specs.Hearers.{AreHearers}
use Rattle.plan_meters.proofs.HearerLemmas.{hearers-none}
use Rattle.plan_meters.proofs.group.hearers_in.Goals as goal

pub loop-frame-init : goal.loop-frame-init
loop-frame-init c = hearers-none c.args.group c.args.round c.no_hearers-hearers.result c.no_hearers-hearers.ensures

pub loop-frame-preserved : goal.loop-frame-preserved
loop-frame-preserved c =
    let came = c.args.came.now in
    let k = c.loop-frame.frame-index in
    subst (λ l. AreHearers l c.args.group c.args.round c.add_heard.new.hearers)
    (sym (take_more came k c.frame-item.result c.loop-frame-test.true ∙ ap (λ (f : Frame). take k came ++ f ∷ []) (sym c.frame-item.is)))
    (c.add_heard.ensures (take k came) c.loop-frame.invariant)
