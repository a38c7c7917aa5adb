use Rattle.std.proofs.Common.{◌≡◌, ℕ, ◌≤◌, ◌-◌, ◌++◌, [], List, length, replicate, sym, ap, subst, ◌∙◌}
use Rattle.transcript_log.specs.Lines.{LinesView}
use Rattle.transcript_log.specs.Stamps.{entries_of}
use Rattle.link_lanes.specs.Fates.{IsFate}
use Rattle.transcript_log.specs.Drafts.{IsDrafted}
use Rattle.transcript_log.proofs.Drafting.{room, all_drafted, all_added}
use Rattle.transcript_log.proofs.draft.Draft.push_all.Goals as goal

pub add_stamps-requires : goal.add_stamps-requires
add_stamps-requires c =
    subst (λ n. length c.self.inside.stamps ≤ n) (sym c.len.ensures.len)
    (room c.self.inside.plan c.self.inside.stamps c.self.inside.stamps c.self.inside.lines.value.items c.args.journal.now.items c.args.self.now c.args.tick c.self.view_is c.self.invariant c.requires.before)

-- the stamps of the further lines
added : (c : goal.After-drop-self-inside) → c.add_stamps.new.stamps
    ≡ c.self.inside.stamps ++ replicate (length c.args.journal.now.items - length c.self.inside.stamps) (record { tick = c.args.tick; fate = [] })
added c =
    c.in_ok-add_stamps.ensures.ok
    ∙ ap (λ n. c.self.inside.stamps ++ replicate (n - length c.self.inside.stamps) (record { tick = c.args.tick; fate = c.lost-fate.result })) c.len.ensures.len
    ∙ ap (λ (fate : List ℕ). c.self.inside.stamps ++ replicate (length c.args.journal.now.items - length c.self.inside.stamps) (record { tick = c.args.tick; fate = fate })) c.lost-fate.ensures

pub invariant_of-self-2 : goal.invariant_of-self-2
invariant_of-self-2 c =
    subst (λ (j : LinesView). IsDrafted c.self.inside.plan c.add_stamps.new.stamps j.items) (sym c.of.ensures)
    (all_drafted c.self.inside.plan c.self.inside.stamps c.add_stamps.new.stamps c.self.inside.lines.value.items c.args.journal.now.items c.args.self.now c.args.tick c.self.view_is c.self.invariant c.requires.before (added c)
    c.requires.fits c.are_lines.ensures c.tick_is.ensures (subst IsFate c.lost-fate.ensures c.fate_is.ensures) c.requires.tick)

pub returns-clause-ok : goal.returns-clause-ok
returns-clause-ok c =
    ap (λ (j : LinesView). record { plan = c.self.inside.plan; entries = entries_of c.add_stamps.new.stamps j.items }) c.of.ensures
    ∙ all_added c.self.inside.plan c.self.inside.stamps c.add_stamps.new.stamps c.self.inside.lines.value.items c.args.journal.now.items c.args.self.now c.args.tick c.self.view_is c.self.invariant c.requires.before (added c)
