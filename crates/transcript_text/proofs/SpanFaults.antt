-- Spans that a head states have no fault.
use Rattle.std.proofs.Common.{◌≡◌, ◌<◌, ◌≤◌, ◌&&◌, nat_lt, nat_le, ℕ, zero, suc, Bool, true, false, List, [], ◌∷◌, ◌++◌, length, map, replicate, refl, ap, arith, sym, Option, Some, None, subst}
use Rattle.std.specs.List.{list_any}
use Rattle.std.proofs.lemmas.Bool.Decides.{nat_tests}
use Rattle.group_plan.specs.declared.plan.GroupPlan.{GroupPlan}
use Rattle.group_plan.specs.declared.plan.members.Span.{Span}
use Rattle.group_plan.specs.Plans.{size}
use Rattle.group_plan.specs.NewPlans.{group_of, plan_of, whole}
use Rattle.group_plan.specs.Spans.{is_in_plan, is_of, span_fault, span_fault_from}
use Rattle.transcript_text.specs.Heads.{AreStated, comes_after, meters_at, span_fits}
use Rattle.transcript_text.specs.Spelling.{is_partial}
use Rattle.transcript_text.proofs.Choices.{test_of}

length-replicate : {X : Type 0} (n : ℕ) (x : X) → length (replicate n x) ≡ n
length-replicate zero x = refl
length-replicate (suc n) x = ap suc (length-replicate n x)

pub size_planned : (rounds : ℕ) (groups : List GroupPlan) (g : ℕ) → size (map (group_of rounds) groups) g ≡ meters_at groups g
size_planned rounds [] g = refl
size_planned rounds (x ∷ xs) zero = length-replicate x.meters (whole rounds)
size_planned rounds (x ∷ xs) (suc g) = size_planned rounds xs g

-- what a span that fits says
pub record IsFitting (rounds : ℕ) (groups : List GroupPlan) (last : Option Span) (s : Span) : Type 0 where
  pub meter : s.meter < meters_at groups s.group
  pub some : s.from < s.until
  pub until : s.until ≤ rounds
  pub partial : is_partial rounds s ≡ true
  pub after : comes_after last s ≡ true

pub fitting : (rounds : ℕ) (groups : List GroupPlan) (last : Option Span) (s : Span) → span_fits rounds groups last s ≡ true → IsFitting rounds groups last s
fitting rounds groups last s h =
    let meter : Bool = nat_lt s.meter (meters_at groups s.group) in
    let some : Bool = nat_lt s.from s.until in
    let until : Bool = nat_le s.until rounds in
    let a = test_of (meter && some && until && is_partial rounds s) (comes_after last s) h in
    let b = test_of (meter && some && until) (is_partial rounds s) a.0 in
    let c = test_of (meter && some) until b.0 in
    let d = test_of meter some c.0 in
    record { meter = grind (arith, nat_tests, d.0); some = grind (arith, nat_tests, d.1); until = grind (arith, nat_tests, c.1); partial = b.1; after = a.1 }

in_plan : (groups : List GroupPlan) (rounds w1 w2 : ℕ) (last : Option Span) (s : Span) → IsFitting rounds groups last s → is_in_plan (plan_of groups rounds w1 w2) s ≡ true
in_plan groups rounds w1 w2 last s f =
    let e = size_planned rounds groups s.group in
    let a : nat_lt s.meter (meters_at groups s.group) ≡ true = grind (arith, nat_tests, f.meter) in
    let b : nat_lt s.from s.until ≡ true = grind (arith, nat_tests, f.some) in
    let c : nat_le s.until rounds ≡ true = grind (arith, nat_tests, f.until) in
    rw (e, a, b, c) refl

-- the spans come before a place, by group and then by meter
abbrev pub Before : ℕ → ℕ → List Span → Type 0
Before g i [] = Unit {0}
Before g i (s ∷ ss) = (comes_after (Some s) (record { group = g; meter = i; from = 0; until = 0 }) ≡ true) × Before g i ss

comes_on : (s t : Span) (g i : ℕ) → comes_after (Some s) t ≡ true → comes_after (Some t) (record { group = g; meter = i; from = 0; until = 0 }) ≡ true → comes_after (Some s) (record { group = g; meter = i; from = 0; until = 0 }) ≡ true
comes_on s t g i a b = grind (arith, nat_tests, a, b)

before_on : (t : Span) (g i : ℕ) (ss : List Span) → Before t.group t.meter ss → comes_after (Some t) (record { group = g; meter = i; from = 0; until = 0 }) ≡ true → Before g i ss
before_on t g i [] b h = tt
before_on t g i (s ∷ ss) b h = (comes_on s t g i b.0 h, before_on t g i ss b.1 h)

before_more : (g i : ℕ) (ss : List Span) (t : Span) → Before g i ss → comes_after (Some t) (record { group = g; meter = i; from = 0; until = 0 }) ≡ true → Before g i (ss ++ t ∷ [])
before_more g i [] t b h = (h, tt)
before_more g i (s ∷ ss) t b h = (b.0, before_more g i ss t b.1 h)

not_of : (s : Span) (g i : ℕ) → comes_after (Some s) (record { group = g; meter = i; from = 0; until = 0 }) ≡ true → is_of g i s ≡ false
not_of s g i h = grind (arith, nat_tests, h)

none_of : (g i : ℕ) (ss : List Span) → Before g i ss → list_any (is_of g i) ss ≡ false
none_of g i [] b = refl
none_of g i (s ∷ ss) b = rw (not_of s g i b.0, none_of g i ss b.1) refl

-- the spans come before the last one, which is one of them
abbrev Behind : Option Span → List Span → Type 0
Behind None before = before ≡ []
Behind (Some last) before = (front : List Span) × (before ≡ front ++ last ∷ []) × Before last.group last.meter front

all_before : (last : Option Span) (before : List Span) (s : Span) → Behind last before → comes_after last s ≡ true → Before s.group s.meter before
all_before None before s b h = subst (λ (ss : List Span). Before s.group s.meter ss) (sym b) tt
all_before (Some t) before s b h =
    subst (λ (ss : List Span). Before s.group s.meter ss) (sym b.1) (before_more s.group s.meter b.0 t (before_on t s.group s.meter b.0 b.2 h) h)

no_fault_from : (groups : List GroupPlan) (rounds w1 w2 : ℕ) (last : Option Span) (before spans : List Span) → Behind last before → AreStated rounds groups last spans → span_fault_from (plan_of groups rounds w1 w2) before spans ≡ None
unfolding span_fault_from
no_fault_from groups rounds w1 w2 last before [] b a = refl
no_fault_from groups rounds w1 w2 last before (s ∷ ss) b a =
    let f = fitting rounds groups last s a.0 in
    let i = in_plan groups rounds w1 w2 last s f in
    let all = all_before last before s b f.after in
    let n = none_of s.group s.meter before all in
    rw (i, n) (no_fault_from groups rounds w1 w2 (Some s) (before ++ s ∷ []) ss (before, refl, all) a.1)

pub no_span_fault : (groups : List GroupPlan) (rounds w1 w2 : ℕ) (spans : List Span) → AreStated rounds groups None spans → span_fault (plan_of groups rounds w1 w2) spans ≡ None
no_span_fault groups rounds w1 w2 spans a = no_fault_from groups rounds w1 w2 None [] spans refl a
