use Rattle.std.proofs.Common.{length, ◌-◌, ◌≢◌, ◌<◌, ◌≤◌, ℕ, get_or}
use Rattle.field_texts.proofs.parts.cut.Given as goal

abbrev pub invariant-loop-end : goal.invariant-loop-end
invariant-loop-end l = record { inside : l.end ≤ length l.text; none : (k : ℕ) → k < l.end → get_or l.text k 0 ≢ l.stop }

abbrev pub decreases-loop-end : goal.decreases-loop-end
decreases-loop-end l = length l.text - l.end
