-- A tick that passes closes and ends in the schedule what it closes and ends in the journal.
use Rattle.std.proofs.Common.{◌≡◌, ℕ, ◌+◌, ◌-◌, ◌<◌, ◌≤◌, Bool, true, false, ◌&&◌, List, ◌++◌, length, refl, sym, ap, ◌∙◌, arith, ⊎_elim}
use Rattle.std.specs.Prelude.{nat_lt, nat_le, if◌then◌else◌, Some, None}
use Rattle.std.proofs.lemmas.Bool.{cases_eq, and_from, and_parts, lt-ltb, le-leb, leb-true, le-ltb, cases_lt}
use Rattle.group_plan.specs.Plans.{PlanView}
use Rattle.event_schedule.specs.declared.Event.{Event}
use Rattle.event_schedule.specs.declared.Event.TheVariants.{Close, End}
use Rattle.event_schedule.specs.Schedule.{is_closed, is_ended}
use Rattle.head_end.specs.Lines.{round_before}
use Rattle.apart_courses.specs.Courses.{and_then, of_groups, ends, closes}
use Rattle.apart_courses.proofs.PastLemmas.{then_both, untouched, close_left, end_left, closes_come, closes_of_others, ends_come, ends_of_others}

-- the round that began so many ticks before
pub round_is : (rounds ago t r : ℕ) → r < rounds → r + ago ≡ t → round_before rounds ago t ≡ Some r
round_is rounds ago t r lt at =
    let late : nat_le ago t ≡ true = le-leb ago t (omega (arith, at)) in
    let same : t - ago ≡ r = omega (arith, at) in
    let few : nat_lt (t - ago) rounds ≡ true = lt-ltb (t - ago) rounds (omega (arith, same, lt)) in
    ap (λ b. if b then Some (t - ago) else None) (and_from (nat_le ago t) (nat_lt (t - ago) rounds) late few) ∙ ap Some same

-- where the event isn't that of round r, nothing changes
another : (test : List Event → Bool) (event : ℕ → ℕ → Event) (plan : PlanView) (ago t r : ℕ) (p : List Event)
    → ((q : ℕ) → (q ≡ r → ⊥) → test (and_then p (of_groups plan event (Some q))) ≡ test p) → (r + ago ≡ t → ⊥)
    → test (and_then p (of_groups plan event (round_before plan.rounds ago t))) ≡ test p
another test event plan ago t r p others other = by (nat_le ago t && nat_lt (t - ago) plan.rounds) refl
  where
    by : (b : Bool) → (nat_le ago t && nat_lt (t - ago) plan.rounds) ≡ b → test (and_then p (of_groups plan event (if b then Some (t - ago) else None))) ≡ test p
    by true is =
        let le : ago ≤ t = leb-true ago t (and_parts (nat_le ago t) (nat_lt (t - ago) plan.rounds) is).0 in
        others (t - ago) (λ same. other (omega (arith, le, same)))
    by false is = refl

-- one tick more, and another tick than this
next_tick : (n t : ℕ) → (n ≡ t → ⊥) → nat_lt n (t + 1) ≡ nat_lt n t
next_tick n t other = ⊎_elim
    (λ lt. lt-ltb n (t + 1) (omega (arith, lt)) ∙ sym (lt-ltb n t lt))
    (λ ge. le-ltb n (t + 1) (omega (arith, ge, other)) ∙ sym (le-ltb n t ge))
    (cases_lt n t)

pub closed_by_tick : (plan : PlanView) (t g r : ℕ) (p : List Event) → g < length plan.groups → r < plan.rounds → is_closed g r p ≡ nat_lt (r + plan.w1) t
    → is_closed g r (and_then p (ends plan t ++ closes plan t)) ≡ nat_lt (r + plan.w1) (t + 1)
closed_by_tick plan t g r p group round before =
    ap (is_closed g r) (then_both p (ends plan t) (closes plan t))
    ∙ ⊎_elim
    (λ now. ap (λ o. is_closed g r (and_then (and_then p (ends plan t)) (of_groups plan Close o))) (round_is plan.rounds plan.w1 t r round now)
    ∙ closes_come plan g r (and_then p (ends plan t)) group
    ∙ sym (lt-ltb (r + plan.w1) (t + 1) (omega (arith, now))))
    (λ other. another (is_closed g r) Close plan plan.w1 t r (and_then p (ends plan t)) (λ q differs. closes_of_others plan g r q (and_then p (ends plan t)) differs) other
    ∙ untouched (is_closed g r) End (close_left g r) plan (round_before plan.rounds (plan.w1 + plan.w2) t) p
    ∙ before
    ∙ sym (next_tick (r + plan.w1) t other))
    (cases_eq (r + plan.w1) t)

pub ended_by_tick : (plan : PlanView) (t g r : ℕ) (p : List Event) → 2 ≤ plan.w2 → g < length plan.groups → r < plan.rounds → is_closed g r p ≡ nat_lt (r + plan.w1) t → is_ended g r p ≡ nat_lt (r + plan.w1 + plan.w2) t
    → is_ended g r (and_then p (ends plan t ++ closes plan t)) ≡ nat_lt (r + plan.w1 + plan.w2) (t + 1)
ended_by_tick plan t g r p long group round closed before =
    ap (is_ended g r) (then_both p (ends plan t) (closes plan t))
    ∙ untouched (is_ended g r) Close (end_left g r) plan (round_before plan.rounds plan.w1 t) (and_then p (ends plan t))
    ∙ ⊎_elim
    (λ now.
    let at : r + (plan.w1 + plan.w2) ≡ t = omega (arith, now) in
    ap (λ o. is_ended g r (and_then p (of_groups plan End o))) (round_is plan.rounds (plan.w1 + plan.w2) t r round at)
    ∙ ends_come plan g r p group (closed ∙ lt-ltb (r + plan.w1) t (omega (arith, now, long)))
    ∙ sym (lt-ltb (r + plan.w1 + plan.w2) (t + 1) (omega (arith, now))))
    (λ other.
    another (is_ended g r) End plan (plan.w1 + plan.w2) t r p (λ q differs. ends_of_others plan g r q p differs) (λ at. other (omega (arith, at)))
    ∙ before
    ∙ sym (next_tick (r + plan.w1 + plan.w2) t other))
    (cases_eq (r + plan.w1 + plan.w2) t)
