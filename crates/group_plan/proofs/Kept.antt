-- What the parts of a plan say of it.
use Rattle.std.proofs.Common.{◌≡◌, ℕ, zero, suc, List, [], ◌∷◌, replicate, ◌+◌, ◌<◌, ◌≤◌, length, take, drop, get_or, map, refl, sym, ap, ◌∙◌, subst, ◌*◌, arith}
use Rattle.std.specs.Prelude.{true, slice_get, Option, Some, None}
use Rattle.std.proofs.lemmas.List.{get_or-take, get_or-drop, get_or_default, get_or-replicate, length-take, length-replicate}
use Rattle.std.proofs.lemmas.Bool.Decides.{nat_tests}
use Rattle.std.proofs.Math.Nat.{mul-le-mul_right}
use Rattle.group_plan.specs.Plans.{Rounds, Group, PlanView, size, size_or, is_place, span_of, span_or, is_member_of, holds, all_meters, IsWithinLimits}
use Rattle.group_plan.specs.Places.{meter_at}
use Rattle.group_plan.specs.declared.plan.GroupPlan.{GroupPlan}
use Rattle.group_plan.specs.declared.plan.Plan.TheInside.{Inside}
use Rattle.group_plan.specs.NewPlans.{group_of, plan_of, stated, first_fault, meters_of, AreNamed}
use Rattle.group_plan.specs.PlanParts.{plan, KeepsPlan, AreSpans, groups_of}
use Rattle.group_plan.specs.PlanStarts.{AreStarts}
use Rattle.group_plan.proofs.Groups.{stated-groups_of, groups_of-whole, group_at, groups_of-at, length-groups_of, all_meters-groups_of, start-groups_of}
use Rattle.group_plan.proofs.Limits.{limits, right_rounds, are_right, head, none, stated-at, past}
use Rattle.group_plan.proofs.MeterNumbers.{group-lt, in_place, meter_at-lt, place_at-lt}

-- what is stated of the groups
pub stated_is : (p : Inside) → KeepsPlan p → map stated (plan p).groups ≡ p.groups.items
stated_is p keeps = stated-groups_of p.groups.items p.spans.items keeps.long

pub limits_are : (p : Inside) → KeepsPlan p → IsWithinLimits (plan p)
limits_are p keeps =
    limits (plan p) (rw (stated_is p keeps) keeps.sound) (subst AreNamed (sym (stated_is p keeps)) keeps.named) keeps.spans

pub length_is : (p : Inside) → length (plan p).groups ≡ length p.groups.items
length_is p = length-groups_of p.groups.items p.spans.items

pub meters_are : (p : Inside) → KeepsPlan p → all_meters (plan p).groups ≡ length p.spans.items
meters_are p keeps = all_meters-groups_of p.groups.items p.spans.items (omega (arith, keeps.long)) ∙ sym keeps.long

-- ---- of the plan `now`, whose parts p are

pub size_is : (p : Inside) (now : PlanView) → KeepsPlan p → plan p ≡ now → (g : ℕ) (x : GroupPlan) → g < length p.groups.items → x ≡ get_or p.groups.items g x → x.meters ≡ size now.groups g
size_is p now keeps is g x lt at =
    let stated_at : get_or p.groups.items g x ≡ head (plan p).groups g = ap (λ s. get_or s g x) (sym (stated_is p keeps)) ∙ stated-at (plan p).groups g x (omega (arith, lt, length_is p)) in
    ap (λ y. y.meters) (at ∙ stated_at) ∙ ap (λ v. size v.groups g) is

pub size_past : (p : Inside) (now : PlanView) → plan p ≡ now → (g : ℕ) → length p.groups.items ≤ g → 0 ≡ size now.groups g
size_past p now is g le = sym (past (plan p).groups g (omega (arith, le, length_is p))).0 ∙ ap (λ v. size v.groups g) is

pub group_is : (p : Inside) (now : PlanView) → plan p ≡ now → (g i : ℕ) → i < size now.groups g → g < length p.groups.items
group_is p now is g i lt =
    let there : i < size (plan p).groups g = subst (λ v. i < size v.groups g) (sym is) lt in
    omega (arith, group-lt (plan p).groups g i there, length_is p)

pub start_is : (p : Inside) (now : PlanView) → KeepsPlan p → plan p ≡ now → (g : ℕ) → g < length p.groups.items → get_or p.starts.items g 0 ≡ all_meters (take g now.groups)
start_is p now keeps is g lt =
    keeps.starts.each g lt ∙ sym (start-groups_of p.groups.items p.spans.items (omega (arith, keeps.long)) g) ∙ ap (λ v. all_meters (take g v.groups)) is

pub all_is : (p : Inside) (now : PlanView) → KeepsPlan p → plan p ≡ now → all_meters now.groups ≡ length p.spans.items
all_is p now keeps is = ap (λ v. all_meters v.groups) (sym is) ∙ meters_are p keeps

pub few_meters : (p : Inside) → KeepsPlan p → length p.spans.items ≤ 131072
few_meters p keeps =
    let within = limits_are p keeps in
    let times : 1 * all_meters (plan p).groups ≤ p.rounds * all_meters (plan p).groups = mul-le-mul_right (all_meters (plan p).groups) within.some_round in
    omega (arith, times, within.readings, meters_are p keeps)

pub few_places : (p : Inside) → KeepsPlan p → p.rounds * length p.spans.items ≤ 131072
few_places p keeps = rw (← meters_are p keeps) (limits_are p keeps).readings

pub span_is : (p : Inside) (now : PlanView) → KeepsPlan p → plan p ≡ now → (g i : ℕ) (d : Rounds) → i < size now.groups g → get_or p.spans.items (meter_at now.groups g i) d ≡ span_of now.groups g i
span_is p now keeps is g i d lt = subst (λ v. get_or p.spans.items (meter_at v.groups g i) d ≡ span_of v.groups g i) is (here d)
  where
    there : i < size (plan p).groups g
    there = subst (λ v. i < size v.groups g) (sym is) lt

    nowhere : Rounds
    nowhere = record { from = 0; until = 0 }

    here : (e : Rounds) → get_or p.spans.items (meter_at (plan p).groups g i) e ≡ span_of (plan p).groups g i
    here e =
        let s = meters_of (take g p.groups.items) in
        let m = (get_or p.groups.items g none).meters in
        let part = take m (drop s p.spans.items) in
        let start : all_meters (take g (plan p).groups) ≡ s = start-groups_of p.groups.items p.spans.items (omega (arith, keeps.long)) g in
        let at : slice_get (plan p).groups g ≡ Some (group_at p.groups.items p.spans.items g none) = groups_of-at p.groups.items p.spans.items g none (omega (arith, group-lt (plan p).groups g i there, length_is p)) in
        let inside : i < length part = subst (λ o. i < size_or o) at there in
        let below : meter_at (plan p).groups g i < length p.spans.items = omega (arith, meter_at-lt (plan p).groups g i there, meters_are p keeps) in
        get_or_default p.spans.items (meter_at (plan p).groups g i) e nowhere below
        ∙ ap (λ n. get_or p.spans.items (n + i) nowhere) start
        ∙ sym (get_or-drop s p.spans.items i nowhere)
        ∙ sym (get_or-take m (drop s p.spans.items) i nowhere (omega (arith, inside, length-take m (drop s p.spans.items))))
        ∙ ap (λ o. span_or o i) (sym at)

pub is_member-or : (o : Option Group) (r i : ℕ) → is_member_of o r i ≡ holds (span_or o i) r
is_member-or None r i = grind (arith, nat_tests)
is_member-or (Some g) r i = refl

pub limits_of : (p : Inside) (now : PlanView) → KeepsPlan p → plan p ≡ now → IsWithinLimits now
limits_of p now keeps is = subst IsWithinLimits is (limits_are p keeps)

pub start_read : (p : Inside) (now : PlanView) → KeepsPlan p → plan p ≡ now → (g i v : ℕ) → i < size now.groups g → v ≡ get_or p.starts.items g v → v + i ≡ meter_at now.groups g i
start_read p now keeps is g i v lt at =
    let within : g < length p.groups.items = group_is p now is g i lt in
    let zero_default : get_or p.starts.items g v ≡ get_or p.starts.items g 0 = get_or_default p.starts.items g v 0 (omega (arith, within, keeps.starts.long)) in
    ap (λ n. n + i) (at ∙ zero_default ∙ start_is p now keeps is g within)

-- the number of a place, from that of its round
pub small_place : (now : PlanView) (g r i : ℕ) → IsWithinLimits now → is_place now g r i ≡ true → (r * all_meters now.groups ≤ 131072) × (r * all_meters now.groups + meter_at now.groups g i < 131072)
small_place now g r i within is =
    let both = in_place now g r i is in
    let lt = place_at-lt now g r i both.0 both.1 in
    (omega (arith, lt, within.readings), omega (arith, lt, within.readings))

-- ---- a new plan

whole_span : (rounds : ℕ) (groups : List GroupPlan) (g i : ℕ) → i < size (map (group_of rounds) groups) g → span_of (map (group_of rounds) groups) g i ≡ record { from = 0; until = rounds }
whole_span rounds [] g i lt = absurd (omega (arith, lt))
whole_span rounds (x ∷ groups) zero i lt = get_or-replicate x.meters i (record { from = 0; until = rounds }) (record { from = 0; until = 0 }) (omega (arith, lt, length-replicate x.meters (let s : Rounds = record { from = 0; until = rounds } in s)))
whole_span rounds (x ∷ groups) (suc g) i lt = whole_span rounds groups g i lt

pub record IsNew (p : Inside) (given : List GroupPlan) : Type 0 where
  pub groups : p.groups.items ≡ given
  pub starts : AreStarts p.starts.items given
  pub spans : p.spans.items ≡ replicate (meters_of given) (record { from = 0; until = p.rounds })
  pub sound : first_fault given p.rounds p.w1 p.w2 ≡ None
  pub named : AreNamed given

pub new_is : (p : Inside) (groups : List GroupPlan) → IsNew p groups → plan p ≡ plan_of groups p.rounds p.w1 p.w2
new_is p groups new =
    ap (λ gs. record { groups = gs; rounds = p.rounds; w1 = p.w1; w2 = p.w2 })
    (ap (λ gs. groups_of gs p.spans.items) new.groups ∙ ap (groups_of groups) new.spans ∙ groups_of-whole p.rounds groups)

pub new_keeps : (p : Inside) (groups : List GroupPlan) → IsNew p groups → KeepsPlan p
new_keeps p groups new =
    let is = new_is p groups new in
    let some_round = (right_rounds p.rounds (are_right groups p.rounds p.w1 p.w2 new.sound).round).0 in
    let from : (g i : ℕ) → i < size (plan_of groups p.rounds p.w1 p.w2).groups g → span_of (plan_of groups p.rounds p.w1 p.w2).groups g i ≡ record { from = 0; until = p.rounds } = whole_span p.rounds groups in
    let spans : AreSpans (plan_of groups p.rounds p.w1 p.w2) = record {
      some = λ g i lt. rw (from g i lt) (omega (arith, some_round));
      within = λ g i lt. rw (from g i lt) (omega arith);
    } in
    record {
      sound = rw new.groups new.sound;
      named = subst AreNamed (sym new.groups) new.named;
      long = ap length new.spans ∙ length-replicate (meters_of groups) (record { from = 0; until = p.rounds }) ∙ ap meters_of (sym new.groups);
      starts = subst (AreStarts p.starts.items) (sym new.groups) new.starts;
      spans = subst AreSpans (sym is) spans;
    }
