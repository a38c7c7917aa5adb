use Rattle.std.proofs.Common.{◌≡◌, ℕ, ◌<◌, ◌≤◌, [], None, get_or, slice_index_or}
use Rattle.blind_core.specs.Rows.{hidden_or_0}
use Rattle.blind_core.proofs.rounds.hide.Given as goal

-- the words of the meters so far, and the sums of the others
abbrev pub invariant-loop-meter : goal.invariant-loop-meter
invariant-loop-meter l = record {
  done : (i j : ℕ) → i < l.meter → j < 8 → get_or (get_or l.sums i []) j 0 ≡ hidden_or_0 (get_or (get_or l.fn.sums i []) j 0) (slice_index_or (slice_index_or l.readings i []) j None);
  left : (i : ℕ) → l.meter ≤ i → get_or l.sums i [] ≡ get_or l.fn.sums i [];
}
