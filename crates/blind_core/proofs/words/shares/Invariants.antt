use Rattle.std.proofs.Common.{◌≡◌, ℕ, ◌+◌, Bool, IsTrue, List, drop, map, sum_by}
use Rattle.std.specs.List.{list_all}
use Rattle.missing_round.specs.Words.{word, share}
use Rattle.mask_stream.specs.Ends.{is_other, between}
use Rattle.blind_core.proofs.words.shares.Given as goal

-- the meters that are left, the words of their pairs, and their shares
pub record Shares (pair : ℕ → ℕ → ℕ) (meter : ℕ) (is_end : ℕ → Bool) (all left words : List ℕ) (total : ℕ) : Type 0 where
  pub ends : IsTrue (list_all is_end left)
  pub of_left : words ≡ map (between pair meter) left
  pub sum : word (total + sum_by (share pair meter) left) ≡ word (sum_by (share pair meter) all)

abbrev pub invariant-loop-other : goal.invariant-loop-other
invariant-loop-other g l =
    Shares ((g.M.Masks.table l.masks).pair l.group l.round) l.meter (is_other (g.M.Masks.plan l.masks) l.group l.round l.meter) l.others l.other-iterator (drop l.place l.words) l.total
