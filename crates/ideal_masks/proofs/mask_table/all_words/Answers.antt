use Rattle.ideal_masks.proofs.Tabulated.{upto-more}
use Rattle.ideal_masks.proofs.mask_table.all_words.Goals as goal

pub loop-group-preserved : goal.loop-group-preserved
loop-group-preserved g c = upto-more _ _ _ _ _ _ c.in_ok-push.ensures.items c.in_ok-group_words.ensures.words c.in_ok-group_words.ensures.small c.loop-group.invariant
