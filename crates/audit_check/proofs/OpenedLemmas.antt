-- The opened rounds of a book, one more after another, and those of the transcript whose lines it has.
use Rattle.std.proofs.Common.{◌≡◌, ℕ, zero, suc, ◌+◌, ◌<◌, ◌≤◌, ◌⊎◌, Bool, true, false, not, ◌&&◌, List, [], length, refl, sym, ap, ◌∙◌, subst, inl, inr, arith}
use Rattle.std.specs.Prelude.{cond, if◌then◌else◌, Option, Some, None, reverse}
use Rattle.std.specs.List.{count_by, sum_by, range_with_len}
use Rattle.std.proofs.lemmas.Bool.{false≢true}
use Rattle.std.proofs.lemmas.Bool.Decides.{nat_tests}
use Rattle.std.proofs.lemmas.List.FromFn.{length-range_with_len}
use Rattle.std.proofs.lemmas.List.Sums.{sum_by-cons, count_by-le-length}
use Rattle.group_plan.specs.Plans.{PlanView}
use Rattle.event_schedule.specs.declared.Event.{Event}
use Rattle.event_schedule.specs.Events.{events_of}
use Rattle.event_schedule.specs.Schedule.{Shape, is_opened, is_published, survivors}
use Rattle.event_schedule.specs.Frames.{shape_of_lines}
use Rattle.event_schedule.specs.Journal.{past_of}
use Rattle.event_schedule.specs.Transcripts.{TranscriptView}
use Rattle.group_book.specs.Books.{BookView, shape_of, past}
use Rattle.group_book.specs.Places.{is_round}
use Rattle.audit_check.specs.declared.opened.OpenedRounds.{OpenedRounds}
use Rattle.audit_check.specs.Audits.{lines_in}
use Rattle.audit_check.specs.Ends.{Holds}
use Rattle.audit_check.specs.Opened.{IsFewest, AreCounted, count_rounds}
use Rattle.audit_check.specs.OpenedParts.{opened_by, size_by, published_by, lacks_by, is_before, IsFewer, CountsRound, HasFewest, AreCountedBy}
use Rattle.audit_check.proofs.HonestLemmas.{events_lines}

-- ---- sums over a range

sum_from : (f : ℕ → ℕ) (a n : ℕ) → sum_by f (range_with_len a (suc n)) ≡ sum_by f (range_with_len a n) + f (a + n)
sum_from f a zero =
    let here : f a ≡ f (a + 0) = ap f (omega arith) in
    let one = sum_by-cons f a [] in
    omega (arith, here, one)
sum_from f a (suc n) =
    let rest = sum_from f (a + 1) n in
    let last : f (a + 1 + n) ≡ f (a + suc n) = ap f (omega arith) in
    let more = sum_by-cons f a (range_with_len (a + 1) (suc n)) in
    let less = sum_by-cons f a (range_with_len (a + 1) n) in
    omega (arith, rest, last, more, less)

pub sum_more : (f : ℕ → ℕ) (n : ℕ) → sum_by f (range_with_len 0 (n + 1)) ≡ sum_by f (range_with_len 0 n) + f n
sum_more f n =
    let next : n + 1 ≡ suc n = omega arith in
    ap (λ k. sum_by f (range_with_len 0 k)) next ∙ sum_from f 0 n ∙ ap (λ k. sum_by f (range_with_len 0 n) + f k) (omega arith)

pub count_few : (p : ℕ → Bool) (n : ℕ) → count_by p (range_with_len 0 n) ≤ n
count_few p n =
    let few = count_by-le-length p (range_with_len 0 n) in
    let long = length-range_with_len 0 n in
    omega (arith, few, long)

-- ---- the fewest survivors

-- of the same rounds it is the same
pub fewest_same : (p q opened : ℕ → ℕ → Bool) (size : ℕ → ℕ → ℕ) (f : Option ℕ) → ((a c : ℕ) → p a c ≡ true → q a c ≡ true) → ((a c : ℕ) → q a c ≡ true → opened a c ≡ true → p a c ≡ true)
    → IsFewest p opened size f → IsFewest q opened size f
fewest_same p q opened size None there back none = λ a c is. step a c is (opened a c) refl
  where
    step : (a c : ℕ) → q a c ≡ true → (o : Bool) → opened a c ≡ o → opened a c ≡ false
    step a c is false at = at
    step a c is true at = none a c (back a c is at)
fewest_same p q opened size (Some n) there back (one, least) = (
  record { group = one.group; round = one.round; among_is = there one.group one.round one.among_is; opened_is = one.opened_is; size_is = one.size_is },
  λ a c is at. least a c (back a c is at) at,
)

-- with an opened round more
fewest_more : (p q opened : ℕ → ℕ → Bool) (size : ℕ → ℕ → ℕ) (g r : ℕ) (f : Option ℕ) (m : ℕ) → ((a c : ℕ) → p a c ≡ true → q a c ≡ true)
    → ((a c : ℕ) → q a c ≡ true → (p a c ≡ true) ⊎ ((a ≡ g) × (c ≡ r))) → q g r ≡ true → opened g r ≡ true
    → IsFewest p opened size f → IsFewer f (size g r) m → IsFewest q opened size (Some m)
fewest_more p q opened size g r None m there back among is none fewer = (
  record { group = g; round = r; among_is = among; opened_is = is; size_is = sym fewer },
  λ a c at here. elim (back a c at) [
    | inl before ↦ absurd (false≢true (sym (none a c before) ∙ here))
    | inr same ↦ let size_is : size a c ≡ size g r = ap (λ x. size x c) same.0 ∙ ap (size g) same.1 in omega (arith, size_is, fewer)
  ],
)
fewest_more p q opened size g r (Some k) m there back among is (one, least) (below, under, either) = (
  elim either [
    | inl old ↦ record { group = one.group; round = one.round; among_is = there one.group one.round one.among_is; opened_is = one.opened_is; size_is = one.size_is ∙ sym old }
    | inr new ↦ record { group = g; round = r; among_is = among; opened_is = is; size_is = sym new }
  ],
  λ a c at here. elim (back a c at) [
    | inl before ↦ let le = least a c before here in omega (arith, le, below)
    | inr same ↦ let size_is : size a c ≡ size g r = ap (λ x. size x c) same.0 ∙ ap (size g) same.1 in omega (arith, size_is, under)
  ],
)

module _ (plan : PlanView) (g r : ℕ) where
  -- one round more comes before the next one
  still_before : (a c : ℕ) → is_before plan g r a c ≡ true → is_before plan g (r + 1) a c ≡ true
  still_before a c h = grind (arith, nat_tests, h)

  before_or_here : (a c : ℕ) → is_before plan g (r + 1) a c ≡ true → (is_before plan g r a c ≡ true) ⊎ ((a ≡ g) × (c ≡ r))
  before_or_here a c h = step (is_before plan g r a c) refl
    where
      at : is_before plan g r a c ≡ false → (a ≡ g) × (c ≡ r)
      at k = (grind (arith, nat_tests, h, k), grind (arith, nat_tests, h, k))

      step : (t : Bool) → is_before plan g r a c ≡ t → (is_before plan g r a c ≡ true) ⊎ ((a ≡ g) × (c ≡ r))
      step true is = inl is
      step false is = inr (at is)

  here_before : g < length plan.groups → r < plan.rounds → is_before plan g (r + 1) g r ≡ true
  here_before group round = grind (arith, nat_tests, group, round)

-- the rounds of a group, with one more
pub round_counted : (b : BookView) (g r base : ℕ) (old new : OpenedRounds) → g < length b.presence.plan.groups → r < b.presence.plan.rounds
    → old.without_total ≡ base + count_by (lacks_by b g) (range_with_len 0 r) → HasFewest b g r old.fewest → CountsRound b g r old new
    → (new.without_total ≡ base + count_by (lacks_by b g) (range_with_len 0 (r + 1))) × HasFewest b g (r + 1) new.fewest
round_counted b g r base old new group round counted fewest (inl (closed, same)) = (
  let more = sum_more (λ c. cond (lacks_by b g c) 1 0) r in
      let none : ◌≡◌ {A = ℕ} (cond (lacks_by b g r) 1 0) 0 = ap (λ o. cond {A = ℕ} (o && not (published_by b g r)) 1 0) closed in
      let is = ap (λ (o : OpenedRounds). o.without_total) same in
      omega (arith, more, none, is, counted),
  subst (λ (o : OpenedRounds). HasFewest b g (r + 1) o.fewest) (sym same)
      (fewest_same (is_before b.presence.plan g r) (is_before b.presence.plan g (r + 1)) (opened_by b) (size_by b) old.fewest (still_before b.presence.plan g r) back fewest),
)
  where
    back : (a c : ℕ) → is_before b.presence.plan g (r + 1) a c ≡ true → opened_by b a c ≡ true → is_before b.presence.plan g r a c ≡ true
    back a c is at = elim (before_or_here b.presence.plan g r a c is) [
      | inl before ↦ before
      | inr same ↦ absurd (false≢true (sym closed ∙ sym (ap (λ x. opened_by b x c) same.0 ∙ ap (opened_by b g) same.1) ∙ at))
    ]
round_counted b g r base old new group round counted fewest (inr counts) = (
  let more = sum_more (λ c. cond (lacks_by b g c) 1 0) r in
      let one : ◌≡◌ {A = ℕ} (cond (lacks_by b g r) 1 0) (if published_by b g r then 0 else 1) = ap (λ o. cond {A = ℕ} (o && not (published_by b g r)) 1 0) counts.opened ∙ turned (published_by b g r) in
      let is = counts.without_total in
      omega (arith, more, one, is, counted),
  subst (λ f. HasFewest b g (r + 1) f) (sym counts.fewest.1)
      (fewest_more (is_before b.presence.plan g r) (is_before b.presence.plan g (r + 1)) (opened_by b) (size_by b) g r old.fewest counts.fewest.0 (still_before b.presence.plan g r) (before_or_here b.presence.plan g r)
      (here_before b.presence.plan g r group round) counts.opened fewest counts.fewest.2),
)
  where
    turned : (p : Bool) → ◌≡◌ {A = ℕ} (cond (not p) 1 0) (if p then 0 else 1)
    turned true = refl
    turned false = refl

-- the rounds of a whole group come before the next group
pub group_counted : (b : BookView) (g r : ℕ) (f : Option ℕ) → b.presence.plan.rounds ≤ r → HasFewest b g r f → HasFewest b (g + 1) 0 f
group_counted b g r f all fewest = fewest_same (is_before b.presence.plan g r) (is_before b.presence.plan (g + 1) 0) (opened_by b) (size_by b) f there (λ a c is at. back a c is) fewest
  where
    there : (a c : ℕ) → is_before b.presence.plan g r a c ≡ true → is_before b.presence.plan (g + 1) 0 a c ≡ true
    there a c h = grind (arith, nat_tests, h)

    back : (a c : ℕ) → is_before b.presence.plan (g + 1) 0 a c ≡ true → is_before b.presence.plan g r a c ≡ true
    back a c h = grind (arith, nat_tests, h, all)

-- all rounds come before the group behind the last
pub all_before : (b : BookView) (g : ℕ) (f : Option ℕ) → length b.presence.plan.groups ≤ g → HasFewest b g 0 f → IsFewest (is_round b.presence.plan) (opened_by b) (size_by b) f
all_before b g f all fewest = fewest_same (is_before b.presence.plan g 0) (is_round b.presence.plan) (opened_by b) (size_by b) f there (λ a c is at. back a c is) fewest
  where
    there : (a c : ℕ) → is_before b.presence.plan g 0 a c ≡ true → is_round b.presence.plan a c ≡ true
    there a c h = grind (arith, nat_tests, h)

    back : (a c : ℕ) → is_round b.presence.plan a c ≡ true → is_before b.presence.plan g 0 a c ≡ true
    back a c h = grind (arith, nat_tests, h, all)

-- ---- the rounds of a transcript

abbrev pub lacks : Shape → List Event → ℕ → ℕ → Bool
lacks s p g r = is_opened s g r p && not (is_published s g r p)

abbrev pub FewestOf : OpenedRounds → PlanView → Shape → List Event → Type 0
FewestOf found plan s p = IsFewest (is_round plan) (λ g r. is_opened s g r p) (λ g r. length (survivors s g r p)) found.fewest

pub transcript_counted : (t : TranscriptView) (b : BookView) (found : OpenedRounds) → Holds t.plan (lines_in t) b → AreCountedBy b found → AreCounted t found
transcript_counted t b found holds counted = record {
  without_total = counted.without_total
      ∙ ap (λ plan. count_rounds plan (lacks_by b)) holds.plan_is
      ∙ ap (λ s. count_rounds t.plan (lacks s (past b))) holds.shape_is
      ∙ ap (λ p. count_rounds t.plan (lacks (shape_of_lines t.plan.groups (lines_in t)) p)) past_is;
  fewest =
      subst (λ p. FewestOf found t.plan (shape_of_lines t.plan.groups (lines_in t)) p) past_is
      (subst (λ s. FewestOf found t.plan s (past b)) holds.shape_is (subst (λ plan. FewestOf found plan (shape_of b) (past b)) holds.plan_is counted.fewest));
}
  where
    past_is : past b ≡ reverse (events_of t.entries)
    past_is = ap past_of holds.journal_is ∙ ap reverse (events_lines t.entries)
