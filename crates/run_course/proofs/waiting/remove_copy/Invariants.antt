use Rattle.std.proofs.Common.{◌≡◌, ℕ, ◌<◌, ◌≤◌, length, get_or}
use Rattle.run_course.proofs.waiting.remove_copy.Given as goal

abbrev pub invariant-loop-at : goal.invariant-loop-at
invariant-loop-at l = record {
  same : l.copies.items ≡ l.fn.copies.items;
  within : l.at ≤ length l.copies.items;
  none : (k : ℕ) → l.at ≤ k → k < length l.copies.items → get_or l.copies.items k l.tag ≡ l.tag → ⊥;
}

abbrev pub decreases-loop-at : goal.decreases-loop-at
decreases-loop-at l = l.at
