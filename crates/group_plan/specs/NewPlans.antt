-- What a new plan is, and why one is refused.
use Rattle.std.specs.Prelude.{◌≡◌, ℕ, ◌*◌, nat_le, nat_lt, Bool, ◌==◌, ◌&&◌, ◌||◌, if◌then◌else◌, List, [], ◌∷◌, ◌++◌, length, map, sum_by, replicate, position, bytes_eq, IsTrue, Option, Some, None, Result, Ok, Err}
use Rattle.std.specs.Option.{option_map, option_or}
use Rattle.std.specs.List.{All}
use Rattle.group_plan.specs.Names.{is_name}
use Rattle.group_plan.specs.Plans.{Rounds, Group, PlanView, pairs}
use Rattle.group_plan.specs.declared.plan.GroupPlan.{GroupPlan}
use Rattle.group_plan.specs.declared.plan.PlanError.{PlanError}
use Rattle.group_plan.specs.declared.plan.PlanError.TheVariants as fault

-- all rounds of a plan
abbrev pub whole : ℕ → Rounds
whole rounds = record { from = 0; until = rounds }

-- a group whose every meter is a member in all rounds
abbrev pub group_of : ℕ → GroupPlan → Group
group_of rounds g = record {
  name = g.name;
  floor = g.floor;
  spans = replicate g.meters (whole rounds);
}

-- a plan whose every meter is a member in all rounds
abbrev pub plan_of : List GroupPlan → ℕ → ℕ → ℕ → PlanView
plan_of groups rounds w1 w2 = record { groups = map (group_of rounds) groups; rounds = rounds; w1 = w1; w2 = w2 }

-- what a plan states of a group but for its meters' spans
abbrev pub stated : Group → GroupPlan
stated g = record { name = g.name; meters = length g.spans; floor = g.floor }

-- each group has a name of the right form
abbrev pub AreNamed : List GroupPlan → Type 0
AreNamed groups = All (λ g. IsTrue (is_name g.name)) groups

-- the meters of all groups together
abbrev pub meters_of : List GroupPlan → ℕ
meters_of groups = sum_by (λ g. g.meters) groups

-- the pairs of all groups together
abbrev pub pairs_of : List GroupPlan → ℕ
pairs_of groups = sum_by (λ g. pairs g.meters) groups

-- no group, or more than 256
abbrev pub wrong_count : List GroupPlan → Option PlanError
wrong_count groups =
    if length groups == 0 then Some fault.NoGroup else
    if nat_lt 256 (length groups) then Some (fault.TooManyGroups (length groups)) else None

-- the first group of a name
abbrev pub position_of_name : List ℕ → List GroupPlan → Option ℕ
position_of_name name groups = position (λ g. bytes_eq g.name name) groups

-- the first group whose name one before it has, with the first that has it
unfoldable pub same_name_from : List GroupPlan → List GroupPlan → Option PlanError
same_name_from before [] = None
same_name_from before (h ∷ rest) =
    option_or (option_map (λ g. fault.SameName g (length before)) (position_of_name h.name before))
    (same_name_from (before ++ h ∷ []) rest)

-- two groups with one name
abbrev pub same_name : List GroupPlan → Option PlanError
same_name groups = same_name_from [] groups

-- fewer than 2 meters, or more than 256
abbrev pub has_wrong_meters : GroupPlan → Bool
has_wrong_meters g = nat_lt g.meters 2 || nat_lt 256 g.meters

-- a floor below 2, or above the group's meters
abbrev pub has_wrong_floor : GroupPlan → Bool
has_wrong_floor g = nat_lt g.floor 2 || nat_lt g.meters g.floor

-- the first group with too few meters or too many
abbrev pub wrong_meters : List GroupPlan → Option PlanError
wrong_meters groups = option_map fault.Meters (position has_wrong_meters groups)

-- the first group with a floor that it can't have
abbrev pub wrong_floor : List GroupPlan → Option PlanError
wrong_floor groups = option_map fault.Floor (position has_wrong_floor groups)

-- no round, or more than 4096
abbrev pub wrong_rounds : ℕ → Option PlanError
wrong_rounds rounds = if nat_le 1 rounds && nat_le rounds 4096 then None else Some fault.Rounds

-- a window outside its limits
abbrev pub wrong_window : ℕ → ℕ → Option PlanError
wrong_window w1 w2 = if nat_le 1 w1 && nat_le w1 16 && nat_le 2 w2 && nat_le w2 32 then None else Some fault.Window

-- more than 131,072 readings
abbrev pub too_many_readings : List GroupPlan → ℕ → Option PlanError
too_many_readings groups rounds =
    if nat_lt 131072 (rounds * meters_of groups) then Some (fault.TooManyReadings (rounds * meters_of groups)) else None

-- more than 1,048,576 pairs of meters
abbrev pub too_many_pairs : List GroupPlan → Option PlanError
too_many_pairs groups = if nat_lt 1048576 (pairs_of groups) then Some (fault.TooManyPairs (pairs_of groups)) else None

-- the first fault of the plan's numbers, in the order of the refusals
abbrev pub first_fault : List GroupPlan → ℕ → ℕ → ℕ → Option PlanError
first_fault groups rounds w1 w2 =
    option_or (wrong_count groups)
    (option_or (same_name groups)
    (option_or (wrong_meters groups)
    (option_or (wrong_floor groups)
    (option_or (wrong_rounds rounds)
    (option_or (wrong_window w1 w2)
    (option_or (too_many_readings groups rounds)
    (too_many_pairs groups)))))))

-- a check answers the fault that there is
abbrev pub Finds : {T : Type 0} → Option PlanError → Result T PlanError → Type 0
Finds found (Ok passed) = found ≡ None
Finds found (Err e) = found ≡ Some e

-- the plan is made exactly where there is no fault; want of memory is free
abbrev pub MakesPlan : List GroupPlan → ℕ → ℕ → ℕ → Result PlanView PlanError → Type 0
MakesPlan groups rounds w1 w2 (Ok plan) = (first_fault groups rounds w1 w2 ≡ None) × (plan ≡ plan_of groups rounds w1 w2)
MakesPlan groups rounds w1 w2 (Err fault.Memory) = Unit {0}
MakesPlan groups rounds w1 w2 (Err e) = first_fault groups rounds w1 w2 ≡ Some e
