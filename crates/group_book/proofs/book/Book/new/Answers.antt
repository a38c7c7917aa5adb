use Rattle.std.proofs.Common.{sym, subst}
use Rattle.group_book.specs.Replay.{AreReplayed}
use Rattle.group_book.proofs.StartLemmas.{replays_start}
use Rattle.group_book.proofs.book.Book.new.Goals as goal

pub invariant_of-result : goal.invariant_of-result
invariant_of-result c =
    subst (λ j. AreReplayed c.in_ok-try_copy.field-0 j c.in_ok-first_groups.field-0.items) (sym c.new.ensures)
    (replays_start c.args.presence.now c.in_ok-try_copy.field-0 c.args.plan.now _ c.in_ok-try_copy.ensures.presence c.requires c.in_ok-first_groups.ensures.limits c.in_ok-try_copy.ensures.table
    c.in_ok-first_groups.ensures.groups)
