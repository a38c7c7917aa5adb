use Rattle.std.proofs.Common.{◌≡◌, ℕ, ◌+◌, ◌<◌, IsTrue, nat_lt, length}
use Rattle.std.specs.List.{list_all}
use Rattle.blind_core.specs.Blind.{are_places}
use Rattle.blind_core.specs.Columns.{column}
use Rattle.blind_core.specs.Rows.{with_owns}
use Rattle.blind_core.proofs.rounds.put_owns.Given as goal

abbrev pub invariant-loop-meter : goal.invariant-loop-meter
invariant-loop-meter g l = record {
  places : IsTrue (are_places (g.M.Masks.plan l.masks) l.group (l.first + 7) l.meter-iterator);
  within : IsTrue (list_all (λ k. nat_lt k (length l.fn.sums)) l.meter-iterator);
  put : (j : ℕ) → j < 8
      → with_owns ((g.M.Masks.table l.masks).own l.group (l.first + j)) l.meter-iterator (column 0 j l.sums) ≡ with_owns ((g.M.Masks.table l.masks).own l.group (l.first + j)) l.members (column 0 j l.fn.sums);
}
