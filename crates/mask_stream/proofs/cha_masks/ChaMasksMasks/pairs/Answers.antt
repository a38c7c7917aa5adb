use Rattle.std.proofs.Common.{◌∙◌, ap}
use Rattle.mask_stream.proofs.RowLoop.{begins}
use Rattle.mask_stream.proofs.cha_masks.ChaMasksMasks.pairs.Goals as goal

pub loop-other-init : goal.loop-other-init
loop-other-init c = (
  ap (λ row. row.round) c.new-row.ensures,
  begins _ _ _ _ _ (c.into_iter-other-iterator.ensures.into_iter_gives ∙ c.members-other-items.ensures.members) (ap (λ row. row.words) c.new-row.ensures) c.members-other-items.ensures.set c.requires.others,
)
