use Rattle.std.proofs.Common.{◌≡◌, ℕ, ◌<◌, List, length, drop, map}
use Rattle.std.specs.Prelude.{slice_index}
use Rattle.blind_core.specs.Columns.{column}
use Rattle.blind_core.specs.Rows.{with_owns}
use Rattle.register_words.proofs.HidingLemmas.{Row}
use Rattle.register_words.proofs.sums.put_owns.Given as goal

abbrev pub invariant-loop-meter : goal.invariant-loop-meter
invariant-loop-meter l = record {
  row : Row (length l.fn.sums) l.members l.meter-iterator l.row (drop l.place l.row);
  put : (f : ℕ → List ℕ) → l.row ≡ map f l.members → (k : ℕ) → k < 8
      → with_owns (λ i. slice_index (f i) k) l.meter-iterator (column 0 k l.sums) ≡ with_owns (λ i. slice_index (f i) k) l.members (column 0 k l.fn.sums);
}
