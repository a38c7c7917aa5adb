use Rattle.std.proofs.Common.{◌∙◌, ap}
use Rattle.mask_stream.proofs.RowLoop.{begins}
use Rattle.mask_stream.proofs.cha_masks.ChaMasksMasks.owns.Goals as goal

pub loop-meter-init : goal.loop-meter-init
loop-meter-init c = (
  ap (λ row. row.round) c.new-row.ensures,
  begins _ _ _ _ _ (c.into_iter-meter-iterator.ensures.into_iter_gives ∙ c.members-meter-items.ensures.members) (ap (λ row. row.words) c.new-row.ensures) c.members-meter-items.ensures.set c.requires,
)
