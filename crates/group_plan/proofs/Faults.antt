-- What a plan without a fault keeps to.
use Rattle.std.proofs.Common.{◌≡◌, ℕ, ◌+◌, ◌<◌, ◌≤◌, Bool, true, false, List, length, take, drop, get_or, refl, arith, cond, length-take-le}
use Rattle.std.specs.Prelude.{nat_lt, position, Some, None}
use Rattle.std.specs.List.{All, position_or_len}
use Rattle.std.proofs.lemmas.List.Sums.{fails_before_first, sum_by-le}
use Rattle.std.proofs.lemmas.Bool.{ltb-false}
use Rattle.std.proofs.lemmas.Bool.Decides.{nat_tests}
use Rattle.group_plan.specs.declared.plan.GroupPlan.{GroupPlan}
use Rattle.std.proofs.lemmas.List.{drop_more, drop_all, take_more}
use Rattle.group_plan.specs.declared.plan.PlanError.TheVariants as fault
use Rattle.group_plan.specs.NewPlans.{has_wrong_meters, meters_of, same_name_from, position_of_name}

-- where none is found, none passes
pub position-none : {X : Type 0} (p : X → Bool) (xs : List X) → position p xs ≡ None → All (λ x. p x ≡ false) xs
position-none p xs none k d h =
    let past : length xs ≤ position_or_len p xs = ltb-false (position_or_len p xs) (length xs) (not_found (nat_lt (position_or_len p xs) (length xs)) none) in
    fails_before_first p xs k d (omega (arith, past, h))
  where
    not_found : (b : Bool) → cond b (Some (position_or_len p xs)) None ≡ None → b ≡ false
    not_found true e = cc
    not_found false e = refl

right_meters : (g : GroupPlan) → has_wrong_meters g ≡ false → g.meters ≤ 256
right_meters g right = grind (arith, nat_tests, right)

pub few_meters : (groups : List GroupPlan) → position has_wrong_meters groups ≡ None → All (λ g. g.meters ≤ 256) groups
few_meters groups none k d h = right_meters (get_or groups k d) (position-none has_wrong_meters groups none k d h)

pub meters_of_le : (groups : List GroupPlan) → length groups ≤ 256 → All (λ g. g.meters ≤ 256) groups → meters_of groups ≤ 65536
meters_of_le groups few all = omega (arith, sum_by-le (λ (g : GroupPlan). g.meters) 256 groups all, few)

-- ---- names, group by group

pub same_name_more : (groups : List GroupPlan) (h : ℕ) (d : GroupPlan) (name : List ℕ) → h < length groups → name ≡ (get_or groups h d).name → position_of_name name (take h groups) ≡ None → same_name_from (take h groups) (drop h groups) ≡ same_name_from (take (h + 1) groups) (drop (h + 1) groups)
unfolding same_name_from
same_name_more groups h d name lt is none =
    rw (drop_more groups h d lt, take_more groups h d lt, ← is, none) refl

pub same_name_found : (groups : List GroupPlan) (h g : ℕ) (d : GroupPlan) (name : List ℕ) → h < length groups → name ≡ (get_or groups h d).name → position_of_name name (take h groups) ≡ Some g → same_name_from (take h groups) (drop h groups) ≡ Some (fault.SameName g h)
unfolding same_name_from
same_name_found groups h g d name lt is found =
    let long : length (take h groups) ≡ h = length-take-le h groups (omega (arith, lt)) in
    rw (drop_more groups h d lt, ← is, found, long) refl

pub same_name_end : (groups : List GroupPlan) (h : ℕ) → length groups ≤ h → same_name_from (take h groups) (drop h groups) ≡ None
unfolding same_name_from
same_name_end groups h le = rw (drop_all h groups le) refl
