use Rattle.ideal_masks.proofs.Tabulated.{upto-more}
use Rattle.ideal_masks.proofs.mask_table.group_words.Goals as goal

pub loop-round-preserved : goal.loop-round-preserved
loop-round-preserved g c = upto-more _ _ _ _ _ _ c.in_ok-push.ensures.items c.in_ok-round_words.ensures.words c.in_ok-round_words.ensures.small c.loop-round.invariant
