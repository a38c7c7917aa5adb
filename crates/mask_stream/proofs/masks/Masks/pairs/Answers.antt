use Rattle.std.proofs.Common.{◌∙◌}
use Rattle.mask_stream.proofs.RowLoop.{begins}
use Rattle.mask_stream.proofs.masks.Masks.pairs.Goals as goal

pub loop-other-init : goal.loop-other-init
loop-other-init g c = begins _ _ _ _ _ (c.into_iter-other-iterator.ensures.into_iter_gives ∙ c.members-other-items.ensures.members) c.new-row.ensures c.members-other-items.ensures.set c.requires.others
