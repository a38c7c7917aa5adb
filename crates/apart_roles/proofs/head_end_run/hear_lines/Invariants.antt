use Rattle.std.specs.Prelude.{List}
use Rattle.group_plan.specs.Plans.{PlanView}
use Rattle.head_end.specs.declared.answers.Logged.{Logged}
use Rattle.apart_roles.specs.HeadEndTurns.{IsHeadEnd, IsSomewhere}
use Rattle.apart_roles.proofs.HeadEndRunLemmas.{HasAnswered}
use Rattle.apart_roles.proofs.head_end_run.hear_lines.Given as goal

abbrev pub invariant-loop-turn : goal.invariant-loop-turn
invariant-loop-turn g l = IsSomewhere l.head
    × ((plan : PlanView) (journal : List Logged) → IsHeadEnd plan journal l.fn.head → HasAnswered plan journal (g.W.Wire.view l.fn.wire) l._turn (g.W.Wire.view l.wire) l.head)
