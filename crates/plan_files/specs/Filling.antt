-- How a table of readings is filled in, row by row and field by field.
use Rattle.std.specs.Prelude.{◌≡◌, ℕ, ◌==◌, ◌&&◌, nat_lt, if◌then◌else◌, List, Option}
use Rattle.group_plan.specs.Plans.{PlanView}
use Rattle.group_plan.specs.Tables.{Table, reading}
use Rattle.plan_files.specs.Readings.{Says, reading_in}

-- the first n meters of group g have in round r the readings of the row, and no other place is changed
abbrev pub FillsRow : Says → PlanView → (g r : ℕ) → List (List ℕ) → ℕ → Table (Option ℕ) → Table (Option ℕ) → Type 0
FillsRow says plan g r fields n old new =
    (a b c : ℕ) → reading new a b c ≡ (if (a == g) && (b == r) && nat_lt c n then reading_in says plan g r fields c else reading old a b c)
