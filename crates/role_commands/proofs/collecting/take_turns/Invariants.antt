use Rattle.std.specs.Prelude.{◌≡◌, ◌≤◌, List}
use Rattle.group_plan.specs.Plans.{PlanView}
use Rattle.head_end.specs.declared.answers.Logged.{Logged}
use Rattle.apart_roles.specs.HeadEndTurns.{IsHeadEnd, IsSomewhere}
use Rattle.command_words.specs.Commands.{collect_names_of}
use Rattle.role_commands.proofs.CourseLemmas.{HasReported}
use Rattle.role_commands.proofs.collecting.take_turns.Given as goal

abbrev pub invariant-loop-turn : goal.invariant-loop-turn
invariant-loop-turn g l = IsSomewhere l.head × (g.D.Desk.faults l.fn.desk ≤ g.D.Desk.faults l.desk) × ((g.W.Wire.view l.wire).faults ≡ (g.W.Wire.view l.fn.wire).faults)
    × ((plan : PlanView) (journal : List Logged) → IsHeadEnd plan journal l.fn.head
    → HasReported plan (collect_names_of l.fn.files) journal (g.D.Desk.view l.fn.desk) (g.D.Desk.view l.desk) (g.W.Wire.view l.fn.wire) (g.W.Wire.view l.wire) l.head)
