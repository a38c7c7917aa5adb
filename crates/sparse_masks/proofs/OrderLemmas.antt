-- What holds at each place before one, and at one place, round or group more.
use Rattle.std.proofs.Common.{◌≡◌, ℕ, ◌+◌, ◌<◌, ◌≤◌, Bool, true, false, List, length, refl, sym, ap, ◌∙◌, arith, ⊎_elim}
use Rattle.std.specs.Prelude.{nat_lt, nat_le, Option, Some, None, slice_get}
use Rattle.std.specs.List.{list_all, range_with_len}
use Rattle.std.proofs.lemmas.Bool.{false≢true, and_parts, ltb-true, lt-ltb, cases_lt}
use Rattle.std.proofs.lemmas.Bool.Decides.{nat_tests}
use Rattle.std.proofs.lemmas.Option.{slice_get_past}
use Rattle.missing_round.specs.Sets.{is_member}
use Rattle.group_plan.specs.Plans.{Group, PlanView, size, size_or, span_or, is_member as is_plan_member, is_member_of, IsWithinLimits}
use Rattle.event_schedule.specs.declared.Event.{Event}
use Rattle.event_schedule.specs.Schedule.{Shape, survivors}
use Rattle.event_schedule.proofs.MemberLemmas.{is_member-below}
use Rattle.ideal_masks.specs.OffsetEnds.{is_earlier}
use Rattle.sparse_masks.specs.Opened.{Before}
use Rattle.sparse_masks.proofs.ReachLemmas.{of_filter}
use Rattle.sparse_masks.proofs.ForestLemmas.{all_pass}
use Rattle.sparse_masks.proofs.ConverseLemmas.{survivor-in}

-- ---- one place more

one_place : (a b c g r i : ℕ) → is_earlier a b c g r (i + 1) ≡ true → is_earlier a b c g r i ≡ false → (a ≡ g) × (b ≡ r) × (c ≡ i)
one_place a b c g r i h k = (grind (arith, nat_tests, h, k), grind (arith, nat_tests, h, k), grind (arith, nat_tests, h, k))

one_round : (a b c g r i : ℕ) → is_earlier a b c g (r + 1) 0 ≡ true → is_earlier a b c g r i ≡ false → (a ≡ g) × (b ≡ r) × (i ≤ c)
one_round a b c g r i h k = (grind (arith, nat_tests, h, k), grind (arith, nat_tests, h, k), grind (arith, nat_tests, h, k))

one_group : (a b c g r : ℕ) → is_earlier a b c (g + 1) 0 0 ≡ true → is_earlier a b c g r 0 ≡ false → (a ≡ g) × (r ≤ b)
one_group a b c g r h k = (grind (arith, nat_tests, h, k), grind (arith, nat_tests, h, k))

no_group : (a b c n : ℕ) → is_earlier a b c n 0 0 ≡ false → n ≤ a
no_group a b c n k = grind (arith, nat_tests, k)

none_before : (a b c : ℕ) → is_earlier a b c 0 0 0 ≡ true → ⊥
none_before a b c h = grind (arith, nat_tests, h)

pub before-first : (P : ℕ → ℕ → ℕ → Type 0) → Before P 0 0 0
before-first P a b c h = absurd (none_before a b c h)

pub before-place : (P : ℕ → ℕ → ℕ → Type 0) (g r i : ℕ) → Before P g r i → P g r i → Before P g r (i + 1)
before-place P g r i before here a b c earlier = step (is_earlier a b c g r i) refl
  where
    step : (t : Bool) → is_earlier a b c g r i ≡ t → P a b c
    step true is = before a b c is
    step false is = let at = one_place a b c g r i earlier is in rw (at.0, at.1, at.2) here

pub before-round : (P : ℕ → ℕ → ℕ → Type 0) (g r i : ℕ) → Before P g r i → ((c : ℕ) → i ≤ c → P g r c) → Before P g (r + 1) 0
before-round P g r i before rest a b c earlier = step (is_earlier a b c g r i) refl
  where
    step : (t : Bool) → is_earlier a b c g r i ≡ t → P a b c
    step true is = before a b c is
    step false is = let at = one_round a b c g r i earlier is in rw (at.0, at.1) (rest c at.2)

pub before-group : (P : ℕ → ℕ → ℕ → Type 0) (g r : ℕ) → Before P g r 0 → ((b c : ℕ) → r ≤ b → P g b c) → Before P (g + 1) 0 0
before-group P g r before rest a b c earlier = step (is_earlier a b c g r 0) refl
  where
    step : (t : Bool) → is_earlier a b c g r 0 ≡ t → P a b c
    step true is = before a b c is
    step false is = let at = one_group a b c g r earlier is in rw at.0 (rest b c at.1)

pub before-all : (P : ℕ → ℕ → ℕ → Type 0) (n : ℕ) → Before P n 0 0 → ((a b c : ℕ) → n ≤ a → P a b c) → (a b c : ℕ) → P a b c
before-all P n before rest a b c = step (is_earlier a b c n 0 0) refl
  where
    step : (t : Bool) → is_earlier a b c n 0 0 ≡ t → P a b c
    step true is = before a b c is
    step false is = rest a b c (no_group a b c n is)

-- ---- survivors are of the plan

member-until : (o : Option Group) (r i : ℕ) → is_member_of o r i ≡ true → r < (span_or o i).until
member-until None r i h = absurd (false≢true h)
member-until (Some g) r i h = ltb-true r (span_or (Some g) i).until (and_parts (nat_le (span_or (Some g) i).from r) (nat_lt r (span_or (Some g) i).until) h).1

planned : (s : Shape) (g r i : ℕ) (p : List Event) → is_member i (survivors s g r p) ≡ true → is_plan_member s.groups g r i ≡ true
planned s g r i p within = (of_filter (is_plan_member s.groups g r) i (range_with_len 0 (size s.groups g)) (survivor-in s g r p i within).0).1

pub survivor-low : (s : Shape) (g r i : ℕ) (p : List Event) → is_member i (survivors s g r p) ≡ true → i < size s.groups g
survivor-low s g r i p within = is_member-below s.groups g r i (planned s g r i p within)

pub survivors-below : (s : Shape) (g r : ℕ) (p : List Event) (n : ℕ) (xs : List ℕ) → n ≡ size s.groups g → xs ≡ survivors s g r p → list_all (λ i. nat_lt i n) xs ≡ true
survivors-below s g r p n xs n_is xs_is =
    all_pass (λ i. nat_lt i n) xs
    (λ i within. lt-ltb i n (let low = survivor-low s g r i p (ap (is_member i) (sym xs_is) ∙ within) in omega (arith, low, n_is)))

-- none is in a round or a group after the last
pub survivor-round : (plan : PlanView) (s : Shape) (g r i : ℕ) (p : List Event) → s.groups ≡ plan.groups → IsWithinLimits plan → is_member i (survivors s g r p) ≡ true → r < plan.rounds
survivor-round plan s g r i p same limits within =
    let h : is_plan_member plan.groups g r i ≡ true = ap (λ groups. is_plan_member groups g r i) (sym same) ∙ planned s g r i p within in
    let low : i < size plan.groups g = is_member-below plan.groups g r i h in
    let until = member-until (slice_get plan.groups g) r i h in
    let to = limits.span_to g i low in
    omega (arith, until, to)

pub survivor-group : (s : Shape) (g r i : ℕ) (p : List Event) → is_member i (survivors s g r p) ≡ true → g < length s.groups
survivor-group s g r i p within =
    ⊎_elim (λ lt. lt)
    (λ le. absurd (let none : size s.groups g ≡ 0 = ap size_or (slice_get_past s.groups g le) in let low = survivor-low s g r i p within in omega (arith, none, low)))
    (cases_lt g (length s.groups))
