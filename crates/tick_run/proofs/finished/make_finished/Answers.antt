use Rattle.std.proofs.Common.{sym, subst, ◌∙◌}
use Rattle.group_plan.specs.Tables.{PresenceView}
use Rattle.group_book.specs.Replay.{AreReplayed}
use Rattle.shared_book.specs.Ends.{view}
use Rattle.tick_run.proofs.JoinLemmas.{replayed}
use Rattle.tick_run.proofs.finished.make_finished.Goals as goal

pub join_all-requires-clause-groups : goal.join_all-requires-clause-groups
join_all-requires-clause-groups c = λ g d lt. let turns = c.requires.turns g d lt in record { of = turns.of; number = turns.number; free = turns.free }

pub of_parts-book-requires : goal.of_parts-book-requires
of_parts-book-requires c =
    let run = c.args.run in
    let parts = c.shut-presence.result in
    subst (λ (p : PresenceView). AreReplayed p run.journal.items parts.groups.items) (sym c.shut-presence.ensures.ends.presence)
    (replayed run.shared run.first run.groups.items run.journal.items (view c.join_all.new.first) parts c.requires c.join_all.ensures.joins c.shut-presence.ensures.ends)
