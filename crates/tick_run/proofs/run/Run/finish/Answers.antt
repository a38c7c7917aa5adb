use Rattle.std.proofs.Common.{List, sym, subst, Ok, Result}
use Rattle.std.specs.Prelude.{IfOk}
use Rattle.std.specs.declared.alloc.AllocError.{AllocError}
use Rattle.group_plan.specs.Tables.{PresenceView, IsPresenceTable}
use Rattle.link_lanes.specs.declared.Post.{Post}
use Rattle.link_lanes.specs.Lanes.{Slot}
use Rattle.tick_run.specs.declared.finished.Finished.{Finished}
use Rattle.tick_run.specs.Finished.{IsFinishedUnder, HasRowsOf}
use Rattle.tick_run.specs.Runs.{RunView, HaveMet, IsOver}
use Rattle.tick_run.proofs.RunLemmas.{finishes-if, reports-if}
use Rattle.tick_run.proofs.WholeEnd.{run-made}
use Rattle.tick_run.proofs.run.Run.finish.Goals as goal

pub make_finished-requires : goal.make_finished-requires
make_finished-requires g c =
    let inside = c.self.inside in
    let members = subst (λ (p : PresenceView). IsPresenceTable p.plan p.table) c.presence.ensures c.presence_is_of_members.ensures in
    run-made inside.context.known.readings.now (g.M.Masks.table inside.context.known.masks.now) inside.tick inside.running c.self.invariant.runs c.readings_are_limited.ensures.limits members

pub returns-clause-finished : goal.returns-clause-finished
returns-clause-finished g c =
    let inside = c.self.inside in
    let made = c.make_finished.ensures in
    let members = subst (λ (p : PresenceView). IsPresenceTable p.plan p.table) c.presence.ensures c.presence_is_of_members.ensures in
    let done : Result Finished AllocError = Ok c.make_finished.result in
    subst (λ (v : RunView _). (first lanes : List Slot) (posts : List Post) → HaveMet first v lanes posts → IfOk done (λ f. IsFinishedUnder v.readings (g.M.Masks.table v.masks) first f.book f.transcript)) c.self.view_is
    (finishes-if inside.context.known.readings.now (g.M.Masks.table inside.context.known.masks.now) inside.tick inside.running c.self.invariant.runs c.readings_are_limited.ensures.limits members
    c.readings_are_limited.ensures.table (subst IsOver (sym c.self.view_is) c.requires) done made.presence made.journal made.transcript)

pub returns-clause-report : goal.returns-clause-report
returns-clause-report g c =
    let inside = c.self.inside in
    let made = c.make_finished.ensures in
    let members = subst (λ (p : PresenceView). IsPresenceTable p.plan p.table) c.presence.ensures c.presence_is_of_members.ensures in
    let done : Result Finished AllocError = Ok c.make_finished.result in
    subst (λ (v : RunView _). (first lanes : List Slot) (posts : List Post) → HaveMet first v lanes posts → IfOk done (λ f. HasRowsOf f.transcript.entries f.book)) c.self.view_is
    (reports-if inside.context.known.readings.now (g.M.Masks.table inside.context.known.masks.now) inside.tick inside.running c.self.invariant.runs c.readings_are_limited.ensures.limits members
    c.readings_are_limited.ensures.table (subst IsOver (sym c.self.view_is) c.requires) done made.presence made.journal made.transcript)
