use Rattle.ideal_masks.proofs.Tabulated.{upto-more}
use Rattle.ideal_masks.proofs.mask_table.round_words.Goals as goal

pub loop-meter-preserved : goal.loop-meter-preserved
loop-meter-preserved g c = upto-more _ _ _ _ _ _ c.in_ok-push.ensures.items c.in_ok-meter_words.ensures.words c.in_ok-meter_words.ensures.small c.loop-meter.invariant
