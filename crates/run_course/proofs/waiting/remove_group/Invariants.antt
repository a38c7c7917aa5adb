use Rattle.std.proofs.Common.{◌≡◌, ℕ, ◌<◌, get_or}
use Rattle.run_course.proofs.waiting.remove_group.Given as goal

abbrev pub invariant-loop-at : goal.invariant-loop-at
invariant-loop-at l = record {
  same : l.groups.items ≡ l.fn.groups.items;
  none : (k : ℕ) → k < l.at → get_or l.groups.items k l.group ≡ l.group → ⊥;
}
