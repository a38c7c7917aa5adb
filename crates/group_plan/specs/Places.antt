-- Numbers of meters and of places, counted from 0: meters group by group, places round by round.
use Rattle.std.specs.Prelude.{ℕ, ◌+◌, ◌*◌, List, take}
use Rattle.group_plan.specs.Plans.{Group, PlanView, all_meters}

-- the number of a meter among those of all groups
abbrev pub meter_at : List Group → ℕ → ℕ → ℕ
meter_at groups g i = all_meters (take g groups) + i

-- the number of a place
abbrev pub place_at : PlanView → ℕ → ℕ → ℕ → ℕ
place_at plan g r i = r * all_meters plan.groups + meter_at plan.groups g i

-- how many places a plan has
abbrev pub places : PlanView → ℕ
places plan = plan.rounds * all_meters plan.groups
