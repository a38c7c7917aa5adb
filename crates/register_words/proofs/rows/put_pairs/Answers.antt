use Rattle.std.proofs.Common.{◌∙◌, refl}
use Rattle.register_words.proofs.ShareLoops.{few_made, made_begins, made_fit}
use Rattle.register_words.proofs.rows.put_pairs.Goals as goal

pub loop-other-init : goal.loop-other-init
loop-other-init c = (
  refl,
  made_begins _ _ _ _ _ (c.into_iter-other-iterator.ensures.into_iter_gives ∙ c.members-other-items.ensures.members) c.members-other-items.ensures.set c.requires.others
      (few_made c.args.batch.now c.args.blocks.now.items c.requires.room),
)

pub returns-clause-fits : goal.returns-clause-fits
returns-clause-fits c = made_fit _ _ _ _ _ c.loop-other.batch c.loop-other.blocks.items c.loop-other.invariant.1
