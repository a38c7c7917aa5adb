-- How the tables of a plan are kept: a value for each number of a place.
use Rattle.std.specs.Prelude.{◌≡◌, ℕ, ◌^◌, ◌<◌, Bool, true, false, List, length, slice_index_or, Option, Some, None, is_some}
use Rattle.group_plan.specs.Plans.{PlanView, is_place, is_member, IsWithinLimits}
use Rattle.group_plan.specs.Places.{place_at, places}
use Rattle.group_plan.specs.Tables.{table_of}

-- the table that has at each place what is kept at its number
abbrev pub kept_table : {X : Type 0} → X → PlanView → List X → List (List (List X))
kept_table d plan kept = table_of plan (λ g r i. slice_index_or kept (place_at plan g r i) d)

-- what is kept of a table of readings is one of the plan
pub record KeepsReadings (plan : PlanView) (kept : List (Option ℕ)) : Type 0 where
  pub within : IsWithinLimits plan
  pub long : length kept ≡ places plan
  pub small : (g r i v : ℕ) → is_place plan g r i ≡ true → slice_index_or kept (place_at plan g r i) None ≡ Some v → v < 2 ^ 40
  pub of_members : (g r i : ℕ) → is_place plan g r i ≡ true → is_some (slice_index_or kept (place_at plan g r i) None) ≡ true → is_member plan.groups g r i ≡ true

-- what is kept of a presence is one of the plan
pub record KeepsPresence (plan : PlanView) (kept : List Bool) : Type 0 where
  pub within : IsWithinLimits plan
  pub long : length kept ≡ places plan
  pub of_members : (g r i : ℕ) → is_place plan g r i ≡ true → slice_index_or kept (place_at plan g r i) false ≡ true → is_member plan.groups g r i ≡ true
