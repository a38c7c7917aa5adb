use Rattle.std.proofs.Common.{◌≡◌}
use Rattle.std.specs.List.{list_all}
use Rattle.event_schedule.specs.Schedule.{is_answer_sent}
use Rattle.group_book.specs.Books.{shape_of, past}
use Rattle.audit_check.proofs.opened.have_answered.Given as goal

abbrev pub invariant-loop-meter : goal.invariant-loop-meter
invariant-loop-meter l =
    list_all (λ i. is_answer_sent (shape_of l.rounds) l.group l.round i (past l.rounds)) l.fn.meters
    ≡ list_all (λ i. is_answer_sent (shape_of l.rounds) l.group l.round i (past l.rounds)) l.meter-iterator
