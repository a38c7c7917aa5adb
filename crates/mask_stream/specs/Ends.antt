-- The two ends of a pair.
use Rattle.std.specs.Prelude.{ℕ, Bool, not, ◌&&◌, ◌==◌, nat_lt, if◌then◌else◌}
use Rattle.group_plan.specs.Plans.{PlanView, is_place}

-- whether meter j can be the other end of a pair with i: it has a place in the round, and is not i
abbrev pub is_other : PlanView → ℕ → ℕ → ℕ → ℕ → Bool
is_other plan g r i j = is_place plan g r j && not (j == i)

-- the word of the pair of two meters, whichever is the lower
abbrev pub between : (ℕ → ℕ → ℕ) → ℕ → ℕ → ℕ
between pair i j = if nat_lt i j then pair i j else pair j i
