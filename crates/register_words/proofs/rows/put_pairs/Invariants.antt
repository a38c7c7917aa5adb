use Rattle.std.proofs.Common.{◌≡◌}
use Rattle.pair_keys.specs.Keys.{table_of}
use Rattle.register_words.specs.Blocks.{is_end, made_with, pair_of}
use Rattle.register_words.specs.Words.{words_of}
use Rattle.register_words.proofs.ShareLoops.{Made}
use Rattle.register_words.proofs.rows.put_pairs.Given as goal

abbrev pub invariant-loop-other : goal.invariant-loop-other
invariant-loop-other l =
    (l.batch.round ≡ l.fn.batch.round)
    × Made (is_end (table_of l.keys).plan l.group l.meter) (λ j. words_of ((table_of l.keys).key (pair_of l.group l.meter j)) l.fn.batch.round) (made_with l.fn.batch l.fn.blocks.items)
    l.others l.other-iterator (made_with l.batch l.blocks.items)
