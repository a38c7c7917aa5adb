use Rattle.std.proofs.Common.{◌≤◌, ◌∷◌, [], length, sym, ap, subst, ◌∙◌, arith, append_assoc}
use Rattle.transcript_log.specs.Lines.{LinesView}
use Rattle.transcript_log.specs.Stamps.{entries_of}
use Rattle.event_schedule.specs.Events.{lines_of}
use Rattle.transcript_log.specs.Drafts.{Begins, IsDrafted}
use Rattle.transcript_log.proofs.Drafting.{room, drafted, added}
use Rattle.transcript_log.proofs.draft.Draft.push.Goals as goal

pub push-requires : goal.push-requires
push-requires c =
    let next = c.requires.next in
    let entries = c.args.self.now.entries in
    let before : Begins c.args.journal.now.items (lines_of entries) = record {
      rest = c.args.entry.line ∷ next.rest;
      is = next.is ∙ append_assoc (lines_of entries) (c.args.entry.line ∷ []) next.rest;
    } in
    let room : length c.self.inside.stamps ≤ length c.args.journal.now.items
    = room c.self.inside.plan c.self.inside.stamps c.self.inside.stamps c.self.inside.lines.value.items c.args.journal.now.items c.args.self.now c.args.entry.tick c.self.view_is c.self.invariant before in
    omega (arith, room, c.len-lines.ensures)

pub invariant_of-self-2 : goal.invariant_of-self-2
invariant_of-self-2 c =
    subst (λ (j : LinesView). IsDrafted c.self.inside.plan c.push.new.self j.items) (sym c.of.ensures)
    (drafted c.self.inside.plan c.self.inside.stamps c.push.new.self c.self.inside.lines.value.items c.args.journal.now.items c.args.self.now c.args.entry c.self.view_is c.self.invariant
    c.requires.next c.in_ok-push.ensures.ok c.requires.fits c.entry_is.ensures c.requires.tick)

pub returns : goal.returns
returns c =
    ap (λ (j : LinesView). record { plan = c.self.inside.plan; entries = entries_of c.push.new.self j.items }) c.of.ensures
    ∙ added c.self.inside.plan c.self.inside.stamps c.push.new.self c.self.inside.lines.value.items c.args.journal.now.items c.args.self.now c.args.entry c.self.view_is c.self.invariant
    c.requires.next c.in_ok-push.ensures.ok
