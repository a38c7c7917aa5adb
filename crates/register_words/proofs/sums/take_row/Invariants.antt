use Rattle.std.proofs.Common.{◌≡◌, ℕ, ◌<◌, List, length, drop, get_or, map}
use Rattle.std.specs.Prelude.{slice_index}
use Rattle.blind_core.specs.Columns.{column}
use Rattle.blind_core.proofs.ColumnLemmas.{Taken}
use Rattle.register_words.proofs.HidingLemmas.{Row}
use Rattle.register_words.proofs.sums.take_row.Given as goal

abbrev pub invariant-loop-high : goal.invariant-loop-high
invariant-loop-high l = record {
  row : Row (length l.fn.sums) l.higher l.high-iterator l.row (drop l.place l.row);
  columns : (f : ℕ → List ℕ) → l.row ≡ map f l.higher → (k : ℕ) → k < 8
      → Taken (λ j. slice_index (f j) k) l.higher (column 0 k l.fn.sums) l.high-iterator (column 0 k l.sums) (get_or l.total k 0);
}
