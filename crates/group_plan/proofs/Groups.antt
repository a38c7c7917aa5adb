-- The groups of a plan, from the spans of all meters that stand one group after another.
use Rattle.std.proofs.Common.{◌≡◌, ℕ, zero, suc, ◌+◌, ◌<◌, ◌≤◌, List, [], ◌∷◌, ◌++◌, length, map, take, drop, replicate, get_or, refl, sym, ap, ◌∙◌, arith, length-take-le, length-drop}
use Rattle.std.specs.Prelude.{slice_get, Some}
use Rattle.std.proofs.lemmas.List.{drop-drop, take_at, drop_at, length-replicate, replicate-append-replicate}
use Rattle.std.proofs.lemmas.List.Sums.{sum_by-cons, sum_by-take-le}
use Rattle.group_plan.specs.Plans.{Rounds, Group, all_meters, all_pairs, pairs}
use Rattle.group_plan.specs.declared.plan.GroupPlan.{GroupPlan}
use Rattle.group_plan.specs.NewPlans.{group_of, stated, meters_of, pairs_of}
use Rattle.group_plan.specs.PlanParts.{groups_of}

meters-cons : (g : GroupPlan) (groups : List GroupPlan) → meters_of (g ∷ groups) ≡ g.meters + meters_of groups
meters-cons g groups = sum_by-cons (λ (x : GroupPlan). x.meters) g groups

all_meters-cons : (g : Group) (groups : List Group) → all_meters (g ∷ groups) ≡ length g.spans + all_meters groups
all_meters-cons g groups = sum_by-cons (λ (x : Group). length x.spans) g groups

all_pairs-cons : (g : Group) (groups : List Group) → all_pairs (g ∷ groups) ≡ pairs (length g.spans) + all_pairs groups
all_pairs-cons g groups = sum_by-cons (λ (x : Group). pairs (length x.spans)) g groups

pairs-cons : (g : GroupPlan) (groups : List GroupPlan) → pairs_of (g ∷ groups) ≡ pairs g.meters + pairs_of groups
pairs-cons g groups = sum_by-cons (λ (x : GroupPlan). pairs x.meters) g groups

-- ---- sums over what is stated of the groups

pub all_meters-stated : (groups : List Group) → all_meters groups ≡ meters_of (map stated groups)
all_meters-stated [] = refl
all_meters-stated (g ∷ groups) =
    all_meters-cons g groups ∙ ap (λ n. length g.spans + n) (all_meters-stated groups) ∙ sym (meters-cons (stated g) (map stated groups))

pub all_pairs-stated : (groups : List Group) → all_pairs groups ≡ pairs_of (map stated groups)
all_pairs-stated [] = refl
all_pairs-stated (g ∷ groups) =
    all_pairs-cons g groups ∙ ap (λ n. pairs (length g.spans) + n) (all_pairs-stated groups) ∙ sym (pairs-cons (stated g) (map stated groups))

-- ---- a plan of whole spans

split : {X : Type 0} (n m : ℕ) (x : X) → (take n (replicate (n + m) x) ≡ replicate n x) × (drop n (replicate (n + m) x) ≡ replicate m x)
split n m x =
    let both : replicate n x ++ replicate m x ≡ replicate (n + m) x = replicate-append-replicate n m x in
    (ap (take n) (sym both) ∙ take_at (replicate n x) (replicate m x) n (length-replicate n x), ap (drop n) (sym both) ∙ drop_at (replicate n x) (replicate m x) n (length-replicate n x))

pub groups_of-whole : (rounds : ℕ) (groups : List GroupPlan) → groups_of groups (replicate (meters_of groups) (record { from = 0; until = rounds })) ≡ map (group_of rounds) groups
unfolding groups_of
groups_of-whole rounds [] = refl
groups_of-whole rounds (g ∷ groups) =
    let whole : Rounds = record { from = 0; until = rounds } in
    let here = split g.meters (meters_of groups) whole in
    rw (meters-cons g groups, here.0, here.1, groups_of-whole rounds groups) refl

pub stated-group_of : (rounds : ℕ) (groups : List GroupPlan) → map stated (map (group_of rounds) groups) ≡ groups
stated-group_of rounds [] = refl
stated-group_of rounds (g ∷ groups) =
    rw (length-replicate g.meters, stated-group_of rounds groups) refl

-- ---- what is stated, and the spans

pub stated-groups_of : (groups : List GroupPlan) (spans : List Rounds) → length spans ≡ meters_of groups → map stated (groups_of groups spans) ≡ groups
unfolding groups_of
stated-groups_of [] spans long = refl
stated-groups_of (g ∷ groups) spans long =
    let sum : meters_of (g ∷ groups) ≡ g.meters + meters_of groups = meters-cons g groups in
    let here : length (take g.meters spans) ≡ g.meters = length-take-le g.meters spans (omega (arith, sum, long)) in
    let rest : length (drop g.meters spans) ≡ meters_of groups = omega (arith, length-drop g.meters spans, sum, long) in
    rw (here, stated-groups_of groups (drop g.meters spans) rest) refl

-- group g, with the spans of its meters
abbrev pub group_at : List GroupPlan → List Rounds → ℕ → GroupPlan → Group
group_at groups spans g d = record {
  name = (get_or groups g d).name;
  floor = (get_or groups g d).floor;
  spans = take (get_or groups g d).meters (drop (meters_of (take g groups)) spans);
}

pub groups_of-at : (groups : List GroupPlan) (spans : List Rounds) (g : ℕ) (d : GroupPlan) → g < length groups → slice_get (groups_of groups spans) g ≡ Some (group_at groups spans g d)
unfolding groups_of
groups_of-at [] spans g d lt = absurd (omega (arith, lt))
groups_of-at (x ∷ groups) spans zero d lt = refl
groups_of-at (x ∷ groups) spans (suc g) d lt =
    groups_of-at groups (drop x.meters spans) g d (omega (arith, lt)) ∙ rw (drop-drop (meters_of (take g groups)) x.meters spans, ← meters-cons x (take g groups)) refl

pub length-groups_of : (groups : List GroupPlan) (spans : List Rounds) → length (groups_of groups spans) ≡ length groups
unfolding groups_of
length-groups_of [] spans = refl
length-groups_of (g ∷ groups) spans = ap suc (length-groups_of groups (drop g.meters spans))

take-groups_of : (n : ℕ) (groups : List GroupPlan) (spans : List Rounds) → take n (groups_of groups spans) ≡ groups_of (take n groups) spans
unfolding groups_of
take-groups_of zero groups spans = refl
take-groups_of (suc n) [] spans = refl
take-groups_of (suc n) (g ∷ groups) spans = ap (λ x. record { name = g.name; floor = g.floor; spans = take g.meters spans } ∷ x) (take-groups_of n groups (drop g.meters spans))

pub all_meters-groups_of : (groups : List GroupPlan) (spans : List Rounds) → meters_of groups ≤ length spans → all_meters (groups_of groups spans) ≡ meters_of groups
unfolding groups_of
all_meters-groups_of [] spans long = refl
all_meters-groups_of (g ∷ groups) spans long =
    let sum : meters_of (g ∷ groups) ≡ g.meters + meters_of groups = meters-cons g groups in
    let here : length (take g.meters spans) ≡ g.meters = length-take-le g.meters spans (omega (arith, sum, long)) in
    all_meters-cons (record { name = g.name; floor = g.floor; spans = take g.meters spans }) (groups_of groups (drop g.meters spans))
    ∙ rw (here, all_meters-groups_of groups (drop g.meters spans) (omega (arith, length-drop g.meters spans, sum, long))) (sym sum)

-- where the meters of group g begin
pub start-groups_of : (groups : List GroupPlan) (spans : List Rounds) → meters_of groups ≤ length spans → (g : ℕ) → all_meters (take g (groups_of groups spans)) ≡ meters_of (take g groups)
start-groups_of groups spans long g =
    ap all_meters (take-groups_of g groups spans) ∙ all_meters-groups_of (take g groups) spans (omega (arith, sum_by-take-le (λ (x : GroupPlan). x.meters) groups g, long))
