use Rattle.std.proofs.Common.{◌∙◌, ◌++◌, ap, drop, sym, subst}
use Rattle.event_schedule.specs.Transcripts.{no_entries}
use Rattle.cut_resume.specs.Left.{at_places, entries_left}
use Rattle.cut_resume.specs.Remaking.{CanGoOn}
use Rattle.cut_resume.proofs.RemakingLemmas.{can_first, can_rest, starts}
use Rattle.cut_resume.proofs.remaking.remake.Goals as goal

pub add_from-requires-clause-entries : goal.add_from-requires-clause-entries
add_from-requires-clause-entries c =
    can_first _ c.args.cut.now.entries (entries_left c.args.left.now)
    (starts _ c.args.cut.now.plan (c.args.cut.now.entries ++ entries_left c.args.left.now) c.in_ok-with_room.ensures (c.in_ok-with_room-2.ensures ∙ ap no_entries c.plan.ensures) c.requires.fits c.requires.ticks)

pub add_places-requires-clause-entries : goal.add_places-requires-clause-entries
add_places-requires-clause-entries c =
    let l = c.args.left.now in
    let all = starts _ c.args.cut.now.plan (c.args.cut.now.entries ++ entries_left l) c.in_ok-with_room.ensures (c.in_ok-with_room-2.ensures ∙ ap no_entries c.plan.ensures) c.requires.fits c.requires.ticks in
    let behind = can_rest _ c.add_from.new.made c.args.cut.now.entries (entries_left l) all c.in_ok-add_from.ensures in
    subst (λ places. CanGoOn c.add_from.new.made (at_places l.run.entries places)) (sym c.deref.ensures.value) (can_first c.add_from.new.made (at_places l.run.entries l.passed.items) (drop l.next l.run.entries) behind)

pub add_from-requires-2-clause-entries : goal.add_from-requires-2-clause-entries
add_from-requires-2-clause-entries c =
    let l = c.args.left.now in
    let all = starts _ c.args.cut.now.plan (c.args.cut.now.entries ++ entries_left l) c.in_ok-with_room.ensures (c.in_ok-with_room-2.ensures ∙ ap no_entries c.plan.ensures) c.requires.fits c.requires.ticks in
    let behind = can_rest _ c.add_from.new.made c.args.cut.now.entries (entries_left l) all c.in_ok-add_from.ensures in
    can_rest c.add_from.new.made c.add_places.new.made (at_places l.run.entries c.deref.result.now) (drop l.next l.run.entries)
    (subst (λ places. CanGoOn c.add_from.new.made (at_places l.run.entries places ++ drop l.next l.run.entries)) (sym c.deref.ensures.value) behind) c.in_ok-add_places.ensures
