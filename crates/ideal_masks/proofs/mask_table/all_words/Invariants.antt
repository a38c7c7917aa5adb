use Rattle.std.specs.List.{All}
use Rattle.ideal_masks.specs.KeptMasks.{group_of, IsSmall}
use Rattle.ideal_masks.proofs.Tabulated.{Upto}
use Rattle.ideal_masks.proofs.mask_table.all_words.Given as goal

abbrev pub invariant-loop-group : goal.invariant-loop-group
invariant-loop-group g l = Upto (All (All IsSmall)) (group_of l.plan (g.M.Masks.table l.masks)) l.group l.groups.items
