-- What stays and what comes to be as events come.
use Rattle.std.proofs.Common.{◌≡◌, ℕ, zero, suc, ◌+◌, ◌<◌, ◌≤◌, Bool, true, ◌&&◌, ◌||◌, List, [], ◌∷◌, ◌++◌, map, length, refl, sym, ap, ◌∙◌, subst, arith, ⊎_elim}
use Rattle.std.proofs.Math.Bool.{and-false}
use Rattle.std.specs.Prelude.{Option, Some, None, ◌==◌}
use Rattle.std.specs.List.{range_with_len}
use Rattle.std.proofs.lemmas.Bool.{cases_eq, ne_eqb, eq-eqb, and_from}
use Rattle.group_plan.specs.Plans.{PlanView}
use Rattle.event_schedule.specs.declared.Event.{Event}
use Rattle.event_schedule.specs.declared.Event.TheVariants.{Close, End}
use Rattle.event_schedule.specs.Events.{once, is_close, is_end}
use Rattle.event_schedule.specs.Schedule.{is_closed, is_ended}
use Rattle.event_schedule.proofs.ScheduleLemmas.{once-cons, once-more, once-now, is_closed-more}
use Rattle.apart_courses.specs.Courses.{and_then, of_groups}

-- what stays at each event stays
pub keeps : (Q : List Event → Type 0) → ((e : Event) (p : List Event) → Q p → Q (e ∷ p)) → (p rest : List Event) → Q p → Q (and_then p rest)
keeps Q stays p [] q = q
keeps Q stays p (e ∷ rest) q = keeps Q stays (e ∷ p) rest (stays e p q)

pub then_both : (p first later : List Event) → and_then p (first ++ later) ≡ and_then (and_then p first) later
then_both p [] later = refl
then_both p (e ∷ first) later = then_both (e ∷ p) first later

-- ---- one event for each group

-- a test that such an event doesn't touch
pub untouched : (test : List Event → Bool) (event : ℕ → ℕ → Event) → ((g r : ℕ) (p : List Event) → test (event g r ∷ p) ≡ test p)
    → (plan : PlanView) (round : Option ℕ) (p : List Event) → test (and_then p (of_groups plan event round)) ≡ test p
untouched test event same plan None p = refl
untouched test event same plan (Some r) p = all (range_with_len 0 (length plan.groups)) p
  where
    all : (groups : List ℕ) (p : List Event) → test (and_then p (map (λ g. event g r) groups)) ≡ test p
    all [] p = refl
    all (g ∷ groups) p = all groups (event g r ∷ p) ∙ same g r p

-- the event of group g comes, where the test then passes for good
comes : (Q : List Event → Type 0) (event : ℕ → Event) (g : ℕ) → ((e : Event) (p : List Event) → Q p → Q (e ∷ p)) → (R : List Event → Type 0) → ((e : Event) (p : List Event) → R p → R (e ∷ p))
    → ((p : List Event) → R p → Q (event g ∷ p)) → (k m : ℕ) (p : List Event) → m ≤ g → g < m + k → R p → Q (and_then p (map event (range_with_len m k)))
comes Q event g stays R lasts now zero m p le lt r = absurd (omega (arith, le, lt))
comes Q event g stays R lasts now (suc k) m p le lt r = ⊎_elim
    (λ same. keeps Q stays (event m ∷ p) (map event (range_with_len (m + 1) k)) (here (sym same)))
    (λ other. comes Q event g stays R lasts now k (m + 1) (event m ∷ p) (omega (arith, le, other)) (omega (arith, lt)) (lasts (event m) p r))
    (cases_eq g m)
  where
    here : m ≡ g → Q (event m ∷ p)
    here same = subst (λ n. Q (event n ∷ p)) (sym same) (now p r)

-- ---- Closes

close_now : (g r : ℕ) (p : List Event) → is_closed g r (Close g r ∷ p) ≡ true
close_now g r p = once-now (λ e before. is_close g r e) (Close g r) p (and_from (g == g) (r == r) (eq-eqb g g refl) (eq-eqb r r refl))

pub closes_come : (plan : PlanView) (g r : ℕ) (p : List Event) → g < length plan.groups → is_closed g r (and_then p (of_groups plan Close (Some r))) ≡ true
closes_come plan g r p lt =
    comes (λ q. is_closed g r q ≡ true) (λ h. Close h r) g (is_closed-more g r) (λ q. Unit {0}) (λ e q u. tt) (λ q u. close_now g r q) (length plan.groups) 0 p (omega arith) (omega (arith, lt)) tt

close_other : (g r h q : ℕ) (p : List Event) → (q ≡ r → ⊥) → is_closed g r (Close h q ∷ p) ≡ is_closed g r p
close_other g r h q p other = once-cons (λ e before. is_close g r e) (Close h q) p ∙ ap (λ b. ((h == g) && b) || is_closed g r p) (ne_eqb q r other) ∙ ap (λ b. b || is_closed g r p) (and-false (h == g))

pub closes_of_others : (plan : PlanView) (g r q : ℕ) (p : List Event) → (q ≡ r → ⊥) → is_closed g r (and_then p (of_groups plan Close (Some q))) ≡ is_closed g r p
closes_of_others plan g r q p other = all (range_with_len 0 (length plan.groups)) p
  where
    all : (groups : List ℕ) (p : List Event) → is_closed g r (and_then p (map (λ h. Close h q) groups)) ≡ is_closed g r p
    all [] p = refl
    all (h ∷ groups) p = all groups (Close h q ∷ p) ∙ close_other g r h q p other

-- ---- Ends

end_now : (g r : ℕ) (p : List Event) → is_closed g r p ≡ true → is_ended g r (End g r ∷ p) ≡ true
end_now g r p closed =
    once-now (λ e before. is_end g r e && is_closed g r before) (End g r) p
    (and_from ((g == g) && (r == r)) (is_closed g r p) (and_from (g == g) (r == r) (eq-eqb g g refl) (eq-eqb r r refl)) closed)

pub ends_come : (plan : PlanView) (g r : ℕ) (p : List Event) → g < length plan.groups → is_closed g r p ≡ true → is_ended g r (and_then p (of_groups plan End (Some r))) ≡ true
ends_come plan g r p lt closed =
    comes (λ q. is_ended g r q ≡ true) (λ h. End h r) g (λ e q is. once-more (λ e before. is_end g r e && is_closed g r before) e q is) (λ q. is_closed g r q ≡ true) (is_closed-more g r) (end_now g r)
    (length plan.groups) 0 p (omega arith) (omega (arith, lt)) closed

end_other : (g r h q : ℕ) (p : List Event) → (q ≡ r → ⊥) → is_ended g r (End h q ∷ p) ≡ is_ended g r p
end_other g r h q p other =
    once-cons (λ e before. is_end g r e && is_closed g r before) (End h q) p
    ∙ ap (λ b. (((h == g) && b) && is_closed g r p) || is_ended g r p) (ne_eqb q r other)
    ∙ ap (λ b. (b && is_closed g r p) || is_ended g r p) (and-false (h == g))

pub ends_of_others : (plan : PlanView) (g r q : ℕ) (p : List Event) → (q ≡ r → ⊥) → is_ended g r (and_then p (of_groups plan End (Some q))) ≡ is_ended g r p
ends_of_others plan g r q p other = all (range_with_len 0 (length plan.groups)) p
  where
    all : (groups : List ℕ) (p : List Event) → is_ended g r (and_then p (map (λ h. End h q) groups)) ≡ is_ended g r p
    all [] p = refl
    all (h ∷ groups) p = all groups (End h q ∷ p) ∙ end_other g r h q p other

-- ---- what events of another kind leave

pub close_left : (g r h q : ℕ) (p : List Event) → is_closed g r (End h q ∷ p) ≡ is_closed g r p
unfolding once
close_left g r h q p = refl

pub end_left : (g r h q : ℕ) (p : List Event) → is_ended g r (Close h q ∷ p) ≡ is_ended g r p
unfolding once
end_left g r h q p = refl
