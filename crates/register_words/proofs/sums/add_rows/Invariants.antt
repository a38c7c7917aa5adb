use Rattle.std.proofs.Common.{ℕ, ◌<◌}
use Rattle.blind_core.specs.Columns.{column}
use Rattle.blind_core.proofs.RowLoop.{Rows}
use Rattle.pair_keys.specs.Keys.{table_of}
use Rattle.register_words.specs.Hidden.{pair_words}
use Rattle.register_words.proofs.sums.add_rows.Given as goal

abbrev pub invariant-loop-low : goal.invariant-loop-low
invariant-loop-low l =
    (k : ℕ) → k < 8
    → Rows (table_of l.keys).plan l.group l.round (pair_words (table_of l.keys) l.group l.round k) l.members (column 0 k l.fn.sums) l.low-iterator (column 0 k l.sums) l.higher
