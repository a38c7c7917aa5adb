-- Where the meters of each group begin among those of all groups.
use Rattle.std.specs.Prelude.{◌≡◌, ℕ, ◌<◌, List, length, take, slice_index}
use Rattle.group_plan.specs.NewPlans.{meters_of}
use Rattle.group_plan.specs.declared.plan.GroupPlan.{GroupPlan}

-- where the meters of each group begin
pub record AreStarts (starts : List ℕ) (groups : List GroupPlan) : Type 0 where
  pub long : length starts ≡ length groups
  pub each : (g : ℕ) → g < length groups → slice_index starts g ≡ meters_of (take g groups)
