-- The rounds of a meter, found by asking round by round.
use Rattle.std.proofs.Common.{◌≡◌, ◌∙◌, ◌<◌, ◌≤◌, ◌+◌, ℕ, true, false, sym, arith}
use Rattle.std.specs.Prelude.{slice_get}
use Rattle.std.proofs.lemmas.Bool.Decides.{nat_tests}
use Rattle.group_plan.specs.Plans.{PlanView, IsWithinLimits, holds, is_member, is_place, size, span_of}
use Rattle.group_plan.proofs.Kept.{is_member-or}

-- the span of a meter of the plan has a round, and none past the plan's
bounds : (plan : PlanView) (g i : ℕ) → IsWithinLimits plan → i < size plan.groups g → ((span_of plan.groups g i).from < (span_of plan.groups g i).until) × ((span_of plan.groups g i).until ≤ plan.rounds)
bounds plan g i limits h = (limits.span_from g i h, limits.span_to g i h)

pub some_round : (plan : PlanView) (g i : ℕ) → IsWithinLimits plan → i < size plan.groups g → (span_of plan.groups g i).from < (span_of plan.groups g i).until
some_round plan g i limits h = limits.span_from g i h

pub few_rounds : (plan : PlanView) (g i : ℕ) → IsWithinLimits plan → i < size plan.groups g → (span_of plan.groups g i).until ≤ plan.rounds
few_rounds plan g i limits h = limits.span_to g i h

pub in_place : (plan : PlanView) (g r i : ℕ) → r < plan.rounds → i < size plan.groups g → is_place plan g r i ≡ true
in_place plan g r i a b = grind (arith, nat_tests)

-- up to the first round of the span
pub first_in_place : (plan : PlanView) (g r i : ℕ) → IsWithinLimits plan → i < size plan.groups g → r ≤ (span_of plan.groups g i).from → is_place plan g r i ≡ true
first_in_place plan g r i limits h le =
    let b = bounds plan g i limits h in
    in_place plan g r i (omega (arith, b.0, b.1, le)) h

pub is_first : (plan : PlanView) (g r i : ℕ) → is_member plan.groups g r i ≡ true → r ≤ (span_of plan.groups g i).from → r ≡ (span_of plan.groups g i).from
is_first plan g r i m le =
    let t : holds (span_of plan.groups g i) r ≡ true = sym (is_member-or (slice_get plan.groups g) r i) ∙ m in
    grind (arith, nat_tests, t, le)

pub not_first : (plan : PlanView) (g r i : ℕ) → IsWithinLimits plan → i < size plan.groups g → is_member plan.groups g r i ≡ false → r ≤ (span_of plan.groups g i).from → r + 1 ≤ (span_of plan.groups g i).from
not_first plan g r i limits h m le =
    let b = bounds plan g i limits h in
    let t : holds (span_of plan.groups g i) r ≡ false = sym (is_member-or (slice_get plan.groups g) r i) ∙ m in
    grind (arith, nat_tests, t, le, b.0)

-- after it
pub still_member : (plan : PlanView) (g r i : ℕ) → is_member plan.groups g r i ≡ true → r + 1 ≤ (span_of plan.groups g i).until
still_member plan g r i m =
    let t : holds (span_of plan.groups g i) r ≡ true = sym (is_member-or (slice_get plan.groups g) r i) ∙ m in
    grind (arith, nat_tests, t)

pub no_member : (plan : PlanView) (g r i : ℕ) → is_member plan.groups g r i ≡ false → (span_of plan.groups g i).from ≤ r → r ≤ (span_of plan.groups g i).until → r ≡ (span_of plan.groups g i).until
no_member plan g r i m lo hi =
    let t : holds (span_of plan.groups g i) r ≡ false = sym (is_member-or (slice_get plan.groups g) r i) ∙ m in
    grind (arith, nat_tests, t, lo, hi)
