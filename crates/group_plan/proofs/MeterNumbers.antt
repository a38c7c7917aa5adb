-- Numbers of meters and places: within their count, and no two alike.
use Rattle.std.proofs.Common.{◌≡◌, ℕ, zero, suc, ◌/◌, ◌%◌, ◌<◌, List, [], ◌∷◌, length, take, refl, sym, ap, ◌∙◌, inl, inr, arith, mul_comm}
use Rattle.std.specs.Prelude.{true, nat_lt}
use Rattle.std.proofs.lemmas.Bool.{and_parts, cases_lt, ltb-true}
use Rattle.std.proofs.lemmas.Nat.{div-mul-add, mod-mul-add, mul-add-lt}
use Rattle.std.proofs.lemmas.List.Sums.{sum_by-cons}
use Rattle.std.proofs.lemmas.Option.{slice_get_past}
use Rattle.group_plan.specs.Plans.{Group, PlanView, size, size_or, is_place, all_meters}
use Rattle.group_plan.specs.Places.{meter_at, place_at, places}

-- a group with a meter is there
pub group-lt : (groups : List Group) (g i : ℕ) → i < size groups g → g < length groups
group-lt groups g i lt = elim (cases_lt g (length groups)) [ inl within ↦ within | inr past ↦ absurd (omega (arith, lt, ap size_or (slice_get_past groups g past))) ]

-- the meters of a group stand before those of the next
pub meter_at-lt : (groups : List Group) (g i : ℕ) → i < size groups g → meter_at groups g i < all_meters groups
meter_at-lt [] g i lt = absurd (omega (arith, lt))
meter_at-lt (x ∷ groups) zero i lt = omega (arith, lt, sum_by-cons (λ (y : Group). length y.spans) x groups)
meter_at-lt (x ∷ groups) (suc g) i lt =
    omega (arith, meter_at-lt groups g i lt, sum_by-cons (λ (y : Group). length y.spans) x groups, sum_by-cons (λ (y : Group). length y.spans) x (take g groups))

-- a place has a round and a meter of the plan
pub in_place : (plan : PlanView) (g r i : ℕ) → is_place plan g r i ≡ true → (r < plan.rounds) × (i < size plan.groups g)
in_place plan g r i is =
    let both = and_parts (nat_lt r plan.rounds) (nat_lt i (size plan.groups g)) is in
    (ltb-true r plan.rounds both.0, ltb-true i (size plan.groups g) both.1)

pub place_at-lt : (plan : PlanView) (g r i : ℕ) → r < plan.rounds → i < size plan.groups g → place_at plan g r i < places plan
place_at-lt plan g r i round meter =
    rw (mul_comm plan.rounds (all_meters plan.groups))
    (mul-add-lt r (all_meters plan.groups) (meter_at plan.groups g i) plan.rounds round (meter_at-lt plan.groups g i meter))

pub record SameMeter (g i h j : ℕ) : Type 0 where
  pub group : g ≡ h
  pub meter : i ≡ j

pub same_meter : (groups : List Group) (g i h j : ℕ) → i < size groups g → j < size groups h → meter_at groups g i ≡ meter_at groups h j → SameMeter g i h j
same_meter [] g i h j lt lu e = absurd (omega (arith, lt))
same_meter (x ∷ groups) zero i zero j lt lu e = record { group = refl; meter = omega (arith, e) }
same_meter (x ∷ groups) zero i (suc h) j lt lu e = absurd (omega (arith, e, lt, sum_by-cons (λ (y : Group). length y.spans) x (take h groups)))
same_meter (x ∷ groups) (suc g) i zero j lt lu e = absurd (omega (arith, e, lu, sum_by-cons (λ (y : Group). length y.spans) x (take g groups)))
same_meter (x ∷ groups) (suc g) i (suc h) j lt lu e =
    let rest = same_meter groups g i h j lt lu (omega (arith, e, sum_by-cons (λ (y : Group). length y.spans) x (take g groups), sum_by-cons (λ (y : Group). length y.spans) x (take h groups))) in
    record { group = ap suc rest.group; meter = rest.meter }

pub record SamePlace (g r i h q j : ℕ) : Type 0 where
  pub group : g ≡ h
  pub round : r ≡ q
  pub meter : i ≡ j

-- no two places have one number
pub same_place : (plan : PlanView) (g r i h q j : ℕ) → r < plan.rounds → i < size plan.groups g → q < plan.rounds → j < size plan.groups h → place_at plan g r i ≡ place_at plan h q j → SamePlace g r i h q j
same_place plan g r i h q j round meter round2 meter2 e =
    let all = all_meters plan.groups in
    let m = meter_at plan.groups g i in
    let n = meter_at plan.groups h j in
    let m_in = meter_at-lt plan.groups g i meter in
    let n_in = meter_at-lt plan.groups h j meter2 in
    let rounds = sym (div-mul-add r all m m_in) ∙ ap (λ k. k / all) e ∙ div-mul-add q all n n_in in
    let meters = sym (mod-mul-add r all m m_in) ∙ ap (λ k. k % all) e ∙ mod-mul-add q all n n_in in
    let both = same_meter plan.groups g i h j meter meter2 meters in
    record { group = both.group; round = rounds; meter = both.meter }
