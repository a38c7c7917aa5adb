use Rattle.ideal_masks.proofs.AboveLemmas.{Copied}
use Rattle.ideal_masks.proofs.mask_table.higher_words.Given as goal

abbrev pub invariant-loop-value : goal.invariant-loop-value
invariant-loop-value g l = Copied l.value-items l.value-index l.words.items
