use Rattle.std.specs.List.{All}
use Rattle.group_plan.specs.Plans.{size}
use Rattle.ideal_masks.specs.KeptMasks.{round_of, IsSmall}
use Rattle.ideal_masks.proofs.Tabulated.{Upto}
use Rattle.ideal_masks.proofs.mask_table.group_words.Given as goal

abbrev pub invariant-loop-round : goal.invariant-loop-round
invariant-loop-round g l =
    Upto (All IsSmall) (round_of (g.M.Masks.table l.masks) l.group (size l.plan.groups l.group)) l.round l.rounds.items
