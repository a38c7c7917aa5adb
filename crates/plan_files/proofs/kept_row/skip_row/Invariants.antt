use Rattle.std.proofs.Common.{◌≡◌, ℕ, List, length}
use Rattle.plan_files.specs.Fields.{behind_fields}
use Rattle.plan_files.proofs.kept_row.skip_row.Given as goal

-- the row goes on here
abbrev pub invariant-loop-text : goal.invariant-loop-text
invariant-loop-text l = (fields : List (List ℕ)) → (more : List (List ℕ)) × (behind_fields fields l.fn.left ≡ behind_fields more l.left)

abbrev pub decreases-loop-text : goal.decreases-loop-text
decreases-loop-text l = length l.left
