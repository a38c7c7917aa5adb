use Rattle.std.proofs.Common.{◌∙◌, ap, arith, nat_lt, subst, sym, List, ℕ, []}
use Rattle.group_plan.specs.Plans.{size}
use Rattle.pair_keys.specs.Keys.{table_of}
use Rattle.pair_keys.specs.declared.KeyId.TheVariants.{Own}
use Rattle.register_words.specs.Words.{words_of}
use Rattle.register_words.proofs.ShareLoops.{Made, made_begins, none_made}
use Rattle.register_words.proofs.rows.own_blocks.Goals as goal

pub loop-meter-init : goal.loop-meter-init
loop-meter-init c = (
  ap (λ b. b.round) c.new-batch.ensures,
  subst (λ (made : List (List ℕ)). Made (λ i. nat_lt i (size (table_of c.args.keys.now).plan.groups c.args.group)) (λ i. words_of ((table_of c.args.keys.now).key (Own c.args.group i)) c.args.round) [] c.args.meters.now c.into_iter-meter-iterator.result made)
      (sym (none_made c.new-batch.result c.clear.new.self.items c.args.round c.new-batch.ensures c.clear.ensures))
      (made_begins _ _ _ _ _ (c.into_iter-meter-iterator.ensures.into_iter_gives ∙ c.members-meter-items.ensures.members) c.members-meter-items.ensures.set c.requires (omega arith)),
)
