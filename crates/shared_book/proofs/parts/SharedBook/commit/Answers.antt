use Rattle.std.proofs.Common.{◌≡◌, ◌≤◌, ◌∙◌, Err, Result, length, ap, subst, arith}
use Rattle.std.proofs.lemmas.List.{length-map}
use Rattle.group_plan.specs.Plans.{PlanView}
use Rattle.group_plan.specs.Tables.{PresenceView}
use Rattle.meter_frames.specs.declared.FrameError.{FrameError}
use Rattle.shared_book.specs.declared.parcel.Request.{Request}
use Rattle.shared_book.specs.Parcels.{group_in}
use Rattle.shared_book.specs.Passes.{CommitEnds}
use Rattle.shared_book.specs.Ends.{opening, view}
use Rattle.shared_book.proofs.Turning.{outside_ends}
use Rattle.shared_book.proofs.parts.SharedBook.commit.Goals as goal

pub returns-then-group-groups-clause-ends : goal.returns-then-group-groups-clause-ends
returns-then-group-groups-clause-ends g c =
    let o = opening c.args.self.now in
    let v = view c.args.pass.now in
    let request = c.in-Ok.request in
    let lines = c.args.lines.now.items in
    let long : length c.groups.result.now ≡ length o.presence.plan.groups = ap length c.groups.ensures.groups ∙ length-map c.plan.result.now.groups _ ∙ ap (λ (p : PlanView). length p.groups) (c.plan.ensures.plan ∙ ap (λ (q : PresenceView). q.plan) c.args.self.now.presence_is) in
    let past : length o.presence.plan.groups ≤ group_in request = (let t = c.if-group-groups.true in let n = c.group.ensures in omega arith) in
    subst (λ (asked : Result Request FrameError). CommitEnds o v asked lines (Err c.outside.result) lines v) c.in-Ok.ensures (outside_ends o v request c.outside.result lines c.requires.free past c.outside.ensures)
