use Rattle.std.proofs.Common.{◌≡◌, ◌&&◌, filter}
use Rattle.missing_round.specs.Sets.{is_member}
use Rattle.missing_round.specs.Words.{group}
use Rattle.event_schedule.specs.Schedule.{is_answer_sent}
use Rattle.group_book.specs.Books.{shape_of, past}
use Rattle.ideal_masks.proofs.chain.answered.Given as goal

abbrev pub invariant-loop-meter : goal.invariant-loop-meter
invariant-loop-meter l =
    l.answered ≡ filter (λ i. is_member i l.others && is_answer_sent (shape_of l.book) l.group l.round i (past l.book)) (group l.meter)
