use Rattle.std.proofs.Common.{drop}
use Rattle.pair_keys.specs.Keys.{table_of}
use Rattle.register_words.proofs.ShareLoops.{Sums}
use Rattle.register_words.proofs.shares.answer_words.Given as goal

abbrev pub invariant-loop-other : goal.invariant-loop-other
invariant-loop-other l = Sums (table_of l.keys) l.group l.round l.meter l.missing l.other-iterator (drop l.place l.row) l.total
