use Rattle.std.proofs.Common.{◌≡◌, nat_lt, []}
use Rattle.group_plan.specs.Plans.{size}
use Rattle.pair_keys.specs.Keys.{table_of}
use Rattle.pair_keys.specs.declared.KeyId.TheVariants.{Own}
use Rattle.register_words.specs.Blocks.{made_with}
use Rattle.register_words.specs.Words.{words_of}
use Rattle.register_words.proofs.ShareLoops.{Made}
use Rattle.register_words.proofs.rows.own_blocks.Given as goal

abbrev pub invariant-loop-meter : goal.invariant-loop-meter
invariant-loop-meter l =
    (l.batch.round ≡ l.round)
    × Made (λ i. nat_lt i (size (table_of l.keys).plan.groups l.group)) (λ i. words_of ((table_of l.keys).key (Own l.group i)) l.round) []
    l.meters l.meter-iterator (made_with l.batch l.blocks.items)
