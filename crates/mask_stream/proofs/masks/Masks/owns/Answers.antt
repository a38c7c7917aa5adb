use Rattle.std.proofs.Common.{◌∙◌}
use Rattle.mask_stream.proofs.RowLoop.{begins}
use Rattle.mask_stream.proofs.masks.Masks.owns.Goals as goal

pub loop-meter-init : goal.loop-meter-init
loop-meter-init g c = begins _ _ _ _ _ (c.into_iter-meter-iterator.ensures.into_iter_gives ∙ c.members-meter-items.ensures.members) c.new-row.ensures c.members-meter-items.ensures.set c.requires
