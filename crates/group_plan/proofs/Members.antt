-- The spans that a plan is given, one after another.
use Rattle.std.proofs.Common.{◌≡◌, ◌≢◌, ℕ, ◌+◌, ◌*◌, ◌<◌, ◌≤◌, Bool, true, false, List, [], ◌∷◌, ◌++◌, length, take, drop, set, get_or, replicate, refl, sym, ap, ◌∙◌, arith, length-set, length-take-le, get_or-set_same, get_or-set_other, length-append, cond, inl, inr}
use Rattle.std.specs.Prelude.{◌&&◌, ◌||◌, ◌==◌, nat_lt, nat_le, count_by, Some, None}
use Rattle.std.specs.List.{list_any}
use Rattle.std.proofs.Math.Nat.{mul-le-mul_right}
use Rattle.std.proofs.lemmas.Bool.{and_parts, eqb-true, eq-eqb, ltb-true, leb-true, both_ways, cases_eq}
use Rattle.std.proofs.lemmas.List.{drop_more, drop_all, take_more, get_or_default, get_or-replicate, length-replicate}
use Rattle.std.proofs.lemmas.List.Folds.{list_any-append, sum_by-replicate}
use Rattle.std.proofs.lemmas.List.Sums.{sum_by-set, count_by-le-length}
use Rattle.group_plan.specs.Plans.{Rounds, PlanView, size, all_meters, IsWithinLimits}
use Rattle.group_plan.specs.Places.{meter_at}
use Rattle.group_plan.specs.NewPlans.{whole}
use Rattle.group_plan.specs.declared.plan.members.Span.{Span}
use Rattle.group_plan.specs.declared.plan.members.SpanError.TheVariants as fault
use Rattle.group_plan.specs.Spans.{is_in_plan, is_of, span_fault_from, rounds_given, rounds_of, AreGiven}
use Rattle.group_plan.proofs.MeterNumbers.{meter_at-lt, same_meter}

-- ---- faults, span by span

pub fault_more : (plan : PlanView) (spans : List Span) (at : ℕ) (d : Span) → at < length spans → is_in_plan plan (get_or spans at d) ≡ true → list_any (is_of (get_or spans at d).group (get_or spans at d).meter) (take at spans) ≡ false → span_fault_from plan (take at spans) (drop at spans) ≡ span_fault_from plan (take (at + 1) spans) (drop (at + 1) spans)
unfolding span_fault_from
fault_more plan spans at d lt known new = rw (drop_more spans at d lt, take_more spans at d lt, known, new) refl

pub fault_range : (plan : PlanView) (spans : List Span) (at : ℕ) (d : Span) → at < length spans → is_in_plan plan (get_or spans at d) ≡ false → span_fault_from plan (take at spans) (drop at spans) ≡ Some (fault.Range at)
unfolding span_fault_from
fault_range plan spans at d lt unknown =
    let long : length (take at spans) ≡ at = length-take-le at spans (omega (arith, lt)) in
    rw (drop_more spans at d lt, unknown, long) refl

pub fault_twice : (plan : PlanView) (spans : List Span) (at : ℕ) (d : Span) → at < length spans → is_in_plan plan (get_or spans at d) ≡ true → list_any (is_of (get_or spans at d).group (get_or spans at d).meter) (take at spans) ≡ true → span_fault_from plan (take at spans) (drop at spans) ≡ Some (fault.Twice at)
unfolding span_fault_from
fault_twice plan spans at d lt known old =
    let long : length (take at spans) ≡ at = length-take-le at spans (omega (arith, lt)) in
    rw (drop_more spans at d lt, known, old, long) refl

pub fault_end : (plan : PlanView) (spans : List Span) (at : ℕ) → length spans ≤ at → span_fault_from plan (take at spans) (drop at spans) ≡ None
unfolding span_fault_from
fault_end plan spans at le = rw (drop_all at spans le) refl

-- ---- one more span

or_parts : (x y : Bool) → (x || y) ≡ false → (x ≡ false) × (y ≡ false)
or_parts true y none = cc
or_parts false y none = (refl, none)

is_of-true : (g i : ℕ) (span : Span) → is_of g i span ≡ true → (span.group ≡ g) × (span.meter ≡ i)
is_of-true g i span is =
    let both = and_parts (span.group == g) (span.meter == i) is in
    (eqb-true span.group g both.0, eqb-true span.meter i both.1)

is_of-own : (span : Span) → is_of span.group span.meter span ≡ true
is_of-own span = rw (eq-eqb span.group span.group refl, eq-eqb span.meter span.meter refl) refl

or_true : (b : Bool) → (b || true) ≡ true
or_true true = refl
or_true false = refl

or_false : (b : Bool) → (b || false) ≡ b
or_false true = refl
or_false false = refl

any_one : (p : Span → Bool) (before : List Span) (span : Span) → list_any p (before ++ span ∷ []) ≡ (list_any p before || p span)
any_one p before span = list_any-append p before (span ∷ []) ∙ ap (λ b. list_any p before || b) (or_false (p span))

has_meter : (plan : PlanView) (span : Span) → is_in_plan plan span ≡ true → span.meter < size plan.groups span.group
has_meter plan span known =
    ltb-true span.meter (size plan.groups span.group) (and_parts (nat_lt span.meter (size plan.groups span.group)) (nat_lt span.from span.until) (and_parts _ (nat_le span.until plan.rounds) known).0).0

other_meter : (plan : PlanView) (g i : ℕ) (span : Span) → i < size plan.groups g → is_in_plan plan span ≡ true → is_of g i span ≡ false → meter_at plan.groups g i ≢ meter_at plan.groups span.group span.meter
other_meter plan g i span lt known other same =
    let both = same_meter plan.groups g i span.group span.meter lt (has_meter plan span known) same in
    let own : is_of g i span ≡ true = rw (both.group, both.meter) (is_of-own span) in
    both_ways (is_of g i span) other own

given_last : (rounds : ℕ) (before : List Span) (span : Span) (g i : ℕ) → list_any (is_of g i) before ≡ false → is_of g i span ≡ true → rounds_given rounds (before ++ span ∷ []) g i ≡ rounds_of span
unfolding rounds_given
given_last rounds [] span g i new is = rw is refl
given_last rounds (x ∷ before) span g i new is =
    let parts = or_parts (is_of g i x) (list_any (is_of g i) before) new in
    rw parts.0 (given_last rounds before span g i parts.1 is)

given_other : (rounds : ℕ) (before : List Span) (span : Span) (g i : ℕ) → is_of g i span ≡ false → rounds_given rounds (before ++ span ∷ []) g i ≡ rounds_given rounds before g i
unfolding rounds_given
given_other rounds [] span g i other = rw other refl
given_other rounds (x ∷ before) span g i other = rw (given_other rounds before span g i other) refl

-- ---- what the loop keeps

-- the meters of the spans so far are marked
pub record AreMarked (plan : PlanView) (before : List Span) (given : List Bool) : Type 0 where
  pub long : length given ≡ all_meters plan.groups
  pub each : (g i : ℕ) → i < size plan.groups g → get_or given (meter_at plan.groups g i) false ≡ list_any (is_of g i) before
  pub count : count_by (λ b. b) given ≡ length before

pub none_marked : (plan : PlanView) → AreMarked plan [] (replicate (all_meters plan.groups) false)
none_marked plan = record {
  long = length-replicate (all_meters plan.groups) false;
  each = λ g i lt. get_or-replicate (all_meters plan.groups) (meter_at plan.groups g i) false false (meter_at-lt plan.groups g i lt);
  count = omega (arith, sum_by-replicate (λ (b : Bool). cond {A = ℕ} b 1 0) (all_meters plan.groups) false);
}

mark_at : (plan : PlanView) (before : List Span) (given : List Bool) (span : Span) → AreMarked plan before given → is_in_plan plan span ≡ true → (g i : ℕ) → i < size plan.groups g → (b : Bool) → is_of g i span ≡ b → get_or (set given (meter_at plan.groups span.group span.meter) true) (meter_at plan.groups g i) false ≡ (list_any (is_of g i) before || b)
mark_at plan before given span marked known g i lt true own =
    let is = is_of-true g i span own in
    let below : meter_at plan.groups g i < length given = omega (arith, meter_at-lt plan.groups g i lt, marked.long) in
    rw (is.0, is.1, get_or-set_same given (meter_at plan.groups g i) true false below) (sym (or_true (list_any (is_of g i) before)))
mark_at plan before given span marked known g i lt false other =
    get_or-set_other given (meter_at plan.groups span.group span.meter) (meter_at plan.groups g i) true false (other_meter plan g i span lt known other)
    ∙ marked.each g i lt ∙ sym (or_false (list_any (is_of g i) before))

pub one_marked : (plan : PlanView) (before : List Span) (given : List Bool) (span : Span) (m : ℕ) → AreMarked plan before given → is_in_plan plan span ≡ true → get_or given m false ≡ false → m ≡ meter_at plan.groups span.group span.meter → AreMarked plan (before ++ span ∷ []) (set given m true)
one_marked plan before given span m marked known new at =
    let below : m < length given = omega (arith, at, meter_at-lt plan.groups span.group span.meter (has_meter plan span known), marked.long) in
    record {
      long = length-set given m true ∙ marked.long;
      each = λ g i lt. ap (λ k. get_or (set given k true) (meter_at plan.groups g i) false) at ∙ mark_at plan before given span marked known g i lt (is_of g i span) refl ∙ sym (any_one (is_of g i) before span);
      count = omega (arith, sum_by-set (λ (b : Bool). cond {A = ℕ} b 1 0) given m true false below, ap (λ b. cond {A = ℕ} b 1 0) new, marked.count, length-append before (span ∷ []));
    }

-- as many marks as spans, so not many
pub few_spans : (plan : PlanView) (spans : List Span) (at : ℕ) (given : List Bool) → IsWithinLimits plan → AreMarked plan (take at spans) given → at ≤ length spans → at ≤ 131072
few_spans plan spans at given within marked le =
    let times : 1 * all_meters plan.groups ≤ plan.rounds * all_meters plan.groups = mul-le-mul_right (all_meters plan.groups) within.some_round in
    omega (arith, length-take-le at spans le, marked.count, marked.long, count_by-le-length (λ (b : Bool). b) given, times, within.readings)

pub none_given : (plan : PlanView) → 1 ≤ plan.rounds → AreGiven plan [] (replicate (all_meters plan.groups) (whole plan.rounds))
unfolding rounds_given
none_given plan some = record {
  long = length-replicate (all_meters plan.groups) (whole plan.rounds);
  each = λ g i lt. get_or-replicate (all_meters plan.groups) (meter_at plan.groups g i) (whole plan.rounds) (whole 0) (meter_at-lt plan.groups g i lt);
  some = λ k lt. rw (all_whole k lt) (omega (arith, some));
  within = λ k lt. rw (all_whole k lt) (omega arith);
}
  where
    all_whole : (k : ℕ) → k < length (replicate (all_meters plan.groups) (whole plan.rounds)) → get_or (replicate (all_meters plan.groups) (whole plan.rounds)) k (whole 0) ≡ whole plan.rounds
    all_whole k lt = get_or-replicate (all_meters plan.groups) k (whole plan.rounds) (whole 0) (omega (arith, lt, length-replicate (all_meters plan.groups) (whole plan.rounds)))

given_at : (plan : PlanView) (before : List Span) (kept : List Rounds) (span : Span) → AreGiven plan before kept → is_in_plan plan span ≡ true → list_any (is_of span.group span.meter) before ≡ false → (g i : ℕ) → i < size plan.groups g → (b : Bool) → is_of g i span ≡ b → get_or (set kept (meter_at plan.groups span.group span.meter) (rounds_of span)) (meter_at plan.groups g i) (whole 0) ≡ rounds_given plan.rounds (before ++ span ∷ []) g i
given_at plan before kept span given known new g i lt true own =
    let is = is_of-true g i span own in
    let below : meter_at plan.groups g i < length kept = omega (arith, meter_at-lt plan.groups g i lt, given.long) in
    let fresh : list_any (is_of g i) before ≡ false = ap (λ k. list_any (is_of k i) before) (sym is.0) ∙ ap (λ k. list_any (is_of span.group k) before) (sym is.1) ∙ new in
    rw (is.0, is.1) (get_or-set_same kept (meter_at plan.groups g i) (rounds_of span) (whole 0) below) ∙ sym (given_last plan.rounds before span g i fresh own)
given_at plan before kept span given known new g i lt false other =
    get_or-set_other kept (meter_at plan.groups span.group span.meter) (meter_at plan.groups g i) (rounds_of span) (whole 0) (other_meter plan g i span lt known other)
    ∙ given.each g i lt ∙ sym (given_other plan.rounds before span g i other)

-- the rounds of a span that the plan has
right_span : (plan : PlanView) (span : Span) → is_in_plan plan span ≡ true → (span.from < span.until) × (span.until ≤ plan.rounds)
right_span plan span known =
    let both = and_parts (nat_lt span.meter (size plan.groups span.group) && nat_lt span.from span.until) (nat_le span.until plan.rounds) known in
    (ltb-true span.from span.until (and_parts (nat_lt span.meter (size plan.groups span.group)) (nat_lt span.from span.until) both.0).1, leb-true span.until plan.rounds both.1)

pub one_given : (plan : PlanView) (before : List Span) (kept : List Rounds) (span : Span) (m : ℕ) → AreGiven plan before kept → is_in_plan plan span ≡ true → list_any (is_of span.group span.meter) before ≡ false → m ≡ meter_at plan.groups span.group span.meter → AreGiven plan (before ++ span ∷ []) (set kept m (rounds_of span))
one_given plan before kept span m given known new at =
    let right = right_span plan span known in
    let below : m < length kept = omega (arith, at, meter_at-lt plan.groups span.group span.meter (has_meter plan span known), given.long) in
    let either : (P : Rounds → Type 0) → P (rounds_of span) → ((k : ℕ) → k < length kept → P (get_or kept k (whole 0))) → (k : ℕ) → k < length (set kept m (rounds_of span)) → P (get_or (set kept m (rounds_of span)) k (whole 0)) = λ P here there k lt.
    elim (cases_eq k m) [
      | inl same ↦ rw same (rw (get_or-set_same kept m (rounds_of span) (whole 0) below) here)
      | inr apart ↦ rw (get_or-set_other kept m k (rounds_of span) (whole 0) apart) (there k (omega (arith, lt, length-set kept m (rounds_of span))))
    ] in
    record {
      long = length-set kept m (rounds_of span) ∙ given.long;
      each = λ g i lt. ap (λ k. get_or (set kept k (rounds_of span)) (meter_at plan.groups g i) (whole 0)) at ∙ given_at plan before kept span given known new g i lt (is_of g i span) refl;
      some = either (λ s. s.from < s.until) right.0 given.some;
      within = either (λ s. s.until ≤ plan.rounds) right.1 given.within;
    }

-- what the mark of a span's meter says
pub mark_is : (plan : PlanView) (before : List Span) (given : List Bool) (span : Span) (m : ℕ) → AreMarked plan before given → is_in_plan plan span ≡ true → m ≡ meter_at plan.groups span.group span.meter → (b : Bool) → b ≡ get_or given m b → (get_or given m false ≡ b) × (list_any (is_of span.group span.meter) before ≡ b)
mark_is plan before given span m marked known at b is =
    let below : m < length given = omega (arith, at, meter_at-lt plan.groups span.group span.meter (has_meter plan span known), marked.long) in
    let mark : get_or given m false ≡ b = get_or_default given m false b below ∙ sym is in
    (mark, sym (marked.each span.group span.meter (has_meter plan span known)) ∙ ap (λ k. get_or given k false) (sym at) ∙ mark)
