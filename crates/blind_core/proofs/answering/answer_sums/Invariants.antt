use Rattle.std.proofs.Common.{map}
use Rattle.group_plan.specs.Plans.{is_place}
use Rattle.blind_core.proofs.AnswerLoops.{AllShared}
use Rattle.blind_core.proofs.answering.answer_sums.Given as goal

abbrev pub invariant-loop-other : goal.invariant-loop-other
invariant-loop-other g l =
    AllShared ((g.M.Masks.table l.masks).pair l.group l.round) (is_place (g.M.Masks.plan l.masks) l.group l.round)
    l.meters l.missing (map ((g.M.Masks.table l.masks).own l.group l.round) l.meters) l.other-iterator l.sums.items
