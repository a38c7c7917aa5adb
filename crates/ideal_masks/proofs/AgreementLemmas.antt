-- What is known of the rounds before one, and one more.
use Rattle.std.proofs.Common.{◌≡◌, ℕ, zero, suc, ◌+◌, ◌^◌, ◌<◌, ◌≤◌, Bool, true, false, cond, not, ◌&&◌, List, [], ◌∷◌, refl, sym, ap, ◌∙◌, subst, arith}
use Rattle.std.specs.Prelude.{nat_lt, nat_le, Option, Some, None, slice_get, unwrap_or}
use Rattle.std.specs.List.{filter, list_all, range_with_len}
use Rattle.std.proofs.lemmas.Bool.{false≢true, and_parts, ltb-true}
use Rattle.std.proofs.lemmas.Bool.Decides.{nat_tests}
use Rattle.std.proofs.lemmas.Slice.Eq.{bytes_eq-Decides}
use Rattle.std.specs.Str.{bytes_eq}
use Rattle.missing_round.specs.Words.{word}
use Rattle.group_plan.specs.Plans.{Group, PlanView, size, size_or, span_or, is_member, is_member_of, members, IsWithinLimits}
use Rattle.group_plan.specs.Tables.{Table, reading, IsReadingTable}
use Rattle.event_schedule.specs.declared.Event.{Event}
use Rattle.event_schedule.specs.Schedule.{Shape, is_reading_taken, is_announced, is_answer_sent}
use Rattle.event_schedule.specs.Tables.{Readings, plain_sum, IsBounded}
use Rattle.event_schedule.proofs.MemberLemmas.{plain_sum_fits}
use Rattle.ideal_masks.specs.Pools.{Pool, others, others_answered, is_open}
use Rattle.ideal_masks.specs.OffsetEnds.{is_earlier_round, HasOneTotalFor, HaveOneTotalBeforeFor}

-- ---- totals

pub totals-round : (pool : Pool) (s : Shape) (x y : Readings) (p : List Event) (g r : ℕ) → HaveOneTotalBeforeFor pool s x y p g r → HasOneTotalFor pool s x y p g r → HaveOneTotalBeforeFor pool s x y p g (r + 1)
totals-round pool s x y p g r before here a b earlier = step (is_earlier_round a b g r) refl
  where
    one_more : (a b : ℕ) → is_earlier_round a b g (r + 1) ≡ true → is_earlier_round a b g r ≡ false → (a ≡ g) × (b ≡ r)
    one_more a b h k = (grind (arith, nat_tests, h, k), grind (arith, nat_tests, h, k))

    step : (t : Bool) → is_earlier_round a b g r ≡ t → HasOneTotalFor pool s x y p a b
    step true is = before a b is
    step false is = let at = one_more a b earlier is in rw (at.0, at.1) here

pub totals-group : (pool : Pool) (s : Shape) (x y : Readings) (p : List Event) (g r : ℕ) → HaveOneTotalBeforeFor pool s x y p g r → ((b : ℕ) → r ≤ b → HasOneTotalFor pool s x y p g b) → HaveOneTotalBeforeFor pool s x y p (g + 1) 0
totals-group pool s x y p g r before past a b earlier = step (is_earlier_round a b g r) refl
  where
    one_more : (a b : ℕ) → is_earlier_round a b (g + 1) 0 ≡ true → is_earlier_round a b g r ≡ false → (a ≡ g) × (r ≤ b)
    one_more a b h k = (grind (arith, nat_tests, h, k), grind (arith, nat_tests, h, k))

    step : (t : Bool) → is_earlier_round a b g r ≡ t → HasOneTotalFor pool s x y p a b
    step true is = before a b is
    step false is = let at = one_more a b earlier is in rw at.0 (past b at.1)

-- ---- no member outside the plan

is_member-span : (o : Option Group) (r i : ℕ) → is_member_of o r i ≡ true → (i < size_or o → r < (span_or o i).until → ⊥) → i < size_or o → ⊥
is_member-span None r i h out lt = false≢true h
is_member-span (Some g) r i h out lt = out lt (ltb-true r (span_or (Some g) i).until (and_parts (nat_le (span_or (Some g) i).from r) (nat_lt r (span_or (Some g) i).until) h).1)

filter-none : (t : ℕ → Bool) (a n : ℕ) → ((i : ℕ) → i < a + n → t i ≡ true → ⊥) → filter t (range_with_len a n) ≡ []
filter-none t a zero none = refl
filter-none t a (suc n) none = step (t a) refl (filter-none t (a + 1) n (λ i lt. none i (omega arith)))
  where
    step : (c : Bool) → t a ≡ c → filter t (range_with_len (a + 1) n) ≡ [] → cond c (a ∷ filter t (range_with_len (a + 1) n)) (filter t (range_with_len (a + 1) n)) ≡ []
    step true is rest = absurd (none a (omega arith) is)
    step false is rest = rest

members-after : (plan : PlanView) (g r : ℕ) → IsWithinLimits plan → plan.rounds ≤ r → members plan.groups g r ≡ []
members-after plan g r limits le =
    filter-none (is_member plan.groups g r) 0 (size plan.groups g)
    (λ i lt is. let within : i < size plan.groups g = omega arith in is_member-span (slice_get plan.groups g) r i is (λ _ below. let to = limits.span_to g i within in omega arith) within)

one_total-none : (pool : Pool) (s : Shape) (x y : Readings) (p : List Event) (g r : ℕ) → members s.groups g r ≡ [] → HasOneTotalFor pool s x y p g r
one_total-none pool s x y p g r none = λ _.
    ap (λ ms. plain_sum x g r (filter (λ i. not (pool g i) && is_reading_taken s g r i p) ms)) none ∙ sym (ap (λ ms. plain_sum y g r (filter (λ i. not (pool g i) && is_reading_taken s g r i p) ms)) none)

pub one_total-after : (pool : Pool) (s : Shape) (plan : PlanView) (x y : Readings) (p : List Event) (g r : ℕ) → s.groups ≡ plan.groups → IsWithinLimits plan → plan.rounds ≤ r → HasOneTotalFor pool s x y p g r
one_total-after pool s plan x y p g r same limits le = one_total-none pool s x y p g r (ap (λ gs. members gs g r) same ∙ members-after plan g r limits le)

-- ---- one round

filter-all : (t : ℕ → Bool) (xs : List ℕ) → list_all t xs ≡ true → filter t xs ≡ xs
filter-all t [] all = refl
filter-all t (x ∷ xs) all =
    let both = and_parts (t x) (list_all t xs) all in
    ap (λ c. cond c (x ∷ filter t xs) (filter t xs)) both.0 ∙ ap (λ l. x ∷ l) (filter-all t xs both.1)

all-filtered : (t : ℕ → Bool) (xs ys : List ℕ) → filter t xs ≡ ys → list_all t ys ≡ true
all-filtered t xs ys is = ap (list_all t) (sym is) ∙ passes xs
  where
    passes : (zs : List ℕ) → list_all t (filter t zs) ≡ true
    passes [] = refl
    passes (z ∷ zs) = step (t z) refl (passes zs)
      where
        step : (c : Bool) → t z ≡ c → list_all t (filter t zs) ≡ true → list_all t (cond c (z ∷ filter t zs) (filter t zs)) ≡ true
        step true is rest = ap (λ b. b && list_all t (filter t zs)) is ∙ rest
        step false is rest = rest

pub open-if : (pool : Pool) (s : Shape) (g r : ℕ) (p : List Event) → is_announced s g r p ≡ true → others_answered pool s g r p ≡ others pool s g r p → is_open pool s g r p ≡ true
open-if pool s g r p announced same =
    ap (λ b. b && list_all (λ i. is_answer_sent s g r i p) (others pool s g r p)) announced ∙ all-filtered (λ i. is_answer_sent s g r i p) (others pool s g r p) (others pool s g r p) same

-- a round that isn't announced, and one where a survivor's answer lacks, isn't open
pub not_open-unannounced : (pool : Pool) (s : Shape) (g r : ℕ) (p : List Event) → is_announced s g r p ≡ false → is_open pool s g r p ≡ false
not_open-unannounced pool s g r p none = ap (λ b. b && list_all (λ i. is_answer_sent s g r i p) (others pool s g r p)) none

pub not_open : (pool : Pool) (s : Shape) (g r : ℕ) (p : List Event) → (others_answered pool s g r p ≡ others pool s g r p → ⊥) → is_open pool s g r p ≡ false
not_open pool s g r p lacks = step (is_open pool s g r p) refl
  where
    step : (b : Bool) → is_open pool s g r p ≡ b → b ≡ false
    step true opened = absurd (lacks (filter-all (λ i. is_answer_sent s g r i p) (others pool s g r p) (and_parts (is_announced s g r p) (list_all (λ i. is_answer_sent s g r i p) (others pool s g r p)) opened).1))
    step false _ = refl

pub one_total-closed : (pool : Pool) (s : Shape) (x y : Readings) (p : List Event) (g r : ℕ) → is_open pool s g r p ≡ false → HasOneTotalFor pool s x y p g r
one_total-closed pool s x y p g r closed = λ opened. absurd (false≢true (sym closed ∙ opened))

pub bounded : (plan : PlanView) (t : Table (Option ℕ)) → IsWithinLimits plan → IsReadingTable plan t → IsBounded plan.groups (reading t)
bounded plan t limits fits = record { meters = limits.meters; readings = λ g r i. small (reading t g r i) (fits.small g r i) }
  where
    small : (o : Option ℕ) → ((v : ℕ) → o ≡ Some v → v < 2 ^ 40) → unwrap_or o 0 < 2 ^ 40
    small None h = omega arith
    small (Some v) h = h v refl

-- the sum of a table over the survivors is its word
pub sum-is : (pool : Pool) (s : Shape) (plan : PlanView) (t : Table (Option ℕ)) (p : List Event) (g r sum : ℕ) → s.groups ≡ plan.groups → IsWithinLimits plan → IsReadingTable plan t
    → sum ≡ word (plain_sum (reading t) g r (others pool s g r p)) → sum ≡ plain_sum (reading t) g r (others pool s g r p)
sum-is pool s plan t p g r sum same limits fits is =
    is ∙ plain_sum_fits s.groups (reading t) g r (λ i. not (pool g i) && is_reading_taken s g r i p) (subst (λ gs. IsBounded gs (reading t)) (sym same) (bounded plan t limits fits))

-- what the test on the two sets says
pub sets-same : (xs ys : List ℕ) → not (bytes_eq xs ys) ≡ false → xs ≡ ys
sets-same xs ys no_test = (bytes_eq-Decides xs ys).0 (not_false (bytes_eq xs ys) no_test)
  where
    not_false : (b : Bool) → not b ≡ false → b ≡ true
    not_false true e = refl
    not_false false e = absurd (false≢true (sym e))

pub sets-differ : (xs ys : List ℕ) → not (bytes_eq xs ys) ≡ true → xs ≡ ys → ⊥
sets-differ xs ys test same = false≢true (sym (ap not ((bytes_eq-Decides xs ys).1 same)) ∙ test)
