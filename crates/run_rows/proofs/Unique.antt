-- No tag is sent twice in a tick.
use Rattle.std.proofs.Common.{◌≡◌, ℕ, zero, suc, ◌+◌, ◌<◌, ◌≤◌, Bool, true, false, cond, ◌&&◌, List, [], ◌∷◌, ◌++◌, length, refl, sym, ap, ◌∙◌, subst, ⊎_elim, arith}
use Rattle.std.specs.Prelude.{◌==◌, if◌then◌else◌, nat_lt, slice_get}
use mathlib.Core.List.{reverse}
use Rattle.std.specs.List.{sum_by, filter, flat_map, range_with_len}
use Rattle.std.proofs.lemmas.Bool.{cases_eq}
use Rattle.std.proofs.lemmas.Bool.Decides.{nat_tests}
use Rattle.std.proofs.lemmas.List.Sums.{sum_by-cons, sum_by-append}
use Rattle.group_plan.specs.declared.Kind.{Kind}
use Rattle.group_plan.specs.declared.Kind.TheVariants.{Reading, Announcement, Answer}
use Rattle.group_plan.specs.declared.Tag.{Tag}
use Rattle.missing_round.specs.Words.{group}
use Rattle.event_schedule.specs.Schedule.{Shape, members_of, is_announced, is_reading_taken, survivors}
use Rattle.group_plan.specs.Plans.{size_or, is_member}
use Rattle.event_schedule.specs.Events.{same_kind, is_tag, events_of}
use Rattle.run_rows.specs.Ticks.{Clock, tags, tag_of, takes_at, due_of}
use Rattle.event_schedule.specs.declared.Entry.{Entry}
use Rattle.event_schedule.proofs.ListLemmas.{sum_by-flat_map, sum_by-map, sum_none}

-- 1 for the tag of this place and kind, and 0 for others
abbrev pub hit : ℕ → ℕ → ℕ → Kind → Tag → ℕ
hit g r i k tag = cond (is_tag g r i k tag) 1 0

sum_below : (f : ℕ → ℕ) (i a n : ℕ) → i < a → ((j : ℕ) → (j ≡ i → ⊥) → f j ≡ 0) → sum_by f (range_with_len a n) ≡ 0
sum_below f i a zero below none = refl
sum_below f i a (suc n) below none =
    omega (arith, sum_by-cons f a (range_with_len (a + 1) n), none a (λ e. omega arith), sum_below f i (a + 1) n (omega arith) none)

sum_le_one : (f : ℕ → ℕ) (i a n : ℕ) → f i ≤ 1 → ((j : ℕ) → (j ≡ i → ⊥) → f j ≡ 0) → sum_by f (range_with_len a n) ≤ 1
sum_le_one f i a zero le none = omega arith
sum_le_one f i a (suc n) le none =
    ⊎_elim
    (λ e. let here : f a ≤ 1 = subst (λ z. f z ≤ 1) (sym e) le in omega (arith, here, sum_by-cons f a (range_with_len (a + 1) n), sum_below f i (a + 1) n (omega arith) none))
    (λ ne. omega (arith, sum_by-cons f a (range_with_len (a + 1) n), none a ne, sum_le_one f i (a + 1) n le none))
    (cases_eq a i)

sum_filter_le : (p : ℕ → Bool) (f : ℕ → ℕ) (xs : List ℕ) → sum_by f (filter p xs) ≤ sum_by f xs
sum_filter_le p f [] = omega arith
sum_filter_le p f (x ∷ xs) = step (p x) (sum_filter_le p f xs)
  where
    step : (c : Bool) → sum_by f (filter p xs) ≤ sum_by f xs → sum_by f (cond c (x ∷ filter p xs) (filter p xs)) ≤ sum_by f (x ∷ xs)
    step true le = omega (arith, le, sum_by-cons f x (filter p xs), sum_by-cons f x xs)
    step false le = omega (arith, le, sum_by-cons f x xs)

-- ---- the tags of a kind, a group and a round

abbrev pub tag_hit : ℕ → ℕ → ℕ → Kind → Kind → ℕ → ℕ → ℕ → ℕ
tag_hit g r i k kind h q j = cond ((h == g) && (q == r) && (j == i) && same_kind kind k) 1 0

off_group : (g r i h q j : ℕ) (b : Bool) → (h ≡ g → ⊥) → cond {A = ℕ} ((h == g) && (q == r) && (j == i) && b) 1 0 ≡ 0
off_group g r i h q j b ne = grind (arith, nat_tests)

off_round : (g r i h q j : ℕ) (b : Bool) → (q ≡ r → ⊥) → cond {A = ℕ} ((h == g) && (q == r) && (j == i) && b) 1 0 ≡ 0
off_round g r i h q j b ne = grind (arith, nat_tests)

off_meter : (g r i h q j : ℕ) (b : Bool) → (j ≡ i → ⊥) → cond {A = ℕ} ((h == g) && (q == r) && (j == i) && b) 1 0 ≡ 0
off_meter g r i h q j b ne = grind (arith, nat_tests)

off_kind : (a b c : Bool) → cond {A = ℕ} (a && b && c && false) 1 0 ≡ 0
off_kind true true true = refl
off_kind true true false = refl
off_kind true false c = refl
off_kind false b c = refl

cond_le_one : (b : Bool) → cond {A = ℕ} b 1 0 ≤ 1
cond_le_one true = omega arith
cond_le_one false = omega arith

sum_tags : (g r i : ℕ) (k kind : Kind) (h q : ℕ) (ms : List ℕ) → sum_by (hit g r i k) (tags kind h q ms) ≡ sum_by (tag_hit g r i k kind h q) ms
sum_tags g r i k kind h q ms = sum_by-map (hit g r i k) (λ j. record { group = h; round = q; meter = j; kind = kind }) ms

tags_none : (g r i : ℕ) (k kind : Kind) (h q : ℕ) (ms : List ℕ) → ((j : ℕ) → tag_hit g r i k kind h q j ≡ 0) → sum_by (hit g r i k) (tags kind h q ms) ≡ 0
tags_none g r i k kind h q ms none = sum_tags g r i k kind h q ms ∙ sum_none (tag_hit g r i k kind h q) none ms

tags_le_one : (g r i : ℕ) (k kind : Kind) (h q : ℕ) (p m : ℕ → Bool) (n : ℕ) → sum_by (hit g r i k) (tags kind h q (filter p (filter m (group n)))) ≤ 1
tags_le_one g r i k kind h q p m n =
    omega (
      arith,
      sum_tags g r i k kind h q (filter p (filter m (group n))),
      sum_filter_le p (tag_hit g r i k kind h q) (filter m (group n)),
      sum_filter_le m (tag_hit g r i k kind h q) (group n),
      sum_le_one (tag_hit g r i k kind h q) i 0 n (cond_le_one ((h == g) && (q == r) && (i == i) && same_kind kind k)) (λ j ne. off_meter g r i h q j (same_kind kind k) ne),
    )

-- ---- what a group is to send

module _ (s : Shape) (c : Clock) (xs : List Entry) (t : ℕ) (g r i : ℕ) where
  abbrev all : List ℕ
  all = range_with_len 0 c.rounds

  abbrev firsts : ℕ → List Tag
  firsts h = tags Reading h t (if nat_lt t c.rounds then filter (λ j. s.present h t j) (members_of s h t) else [])

  abbrev second : ℕ → ℕ → List Tag
  second h q = if (q + c.w1 == t) && is_announced s h q (reverse (events_of xs)) then tags Announcement h q (survivors s h q (reverse (events_of xs))) else []

  abbrev third : ℕ → ℕ → List Tag
  third h q = tags Answer h q (filter (λ j. nat_lt 0 (takes_at xs (tag_of Announcement h q j) t)) (members_of s h q))

  firsts_le : (k : Kind) (h : ℕ) → sum_by (hit g r i k) (firsts h) ≤ 1
  firsts_le k h = step (nat_lt t c.rounds)
    where
      step : (b : Bool) → sum_by (hit g r i k) (tags Reading h t (cond b (filter (λ j. s.present h t j) (members_of s h t)) [])) ≤ 1
      step true = tags_le_one g r i k Reading h t (λ j. s.present h t j) (is_member s.groups h t) (size_or (slice_get s.groups h))
      step false = omega arith

  second_none : (k : Kind) (h q : ℕ) → ((j : ℕ) → tag_hit g r i k Announcement h q j ≡ 0) → sum_by (hit g r i k) (second h q) ≡ 0
  second_none k h q none = step ((q + c.w1 == t) && is_announced s h q (reverse (events_of xs)))
    where
      step : (b : Bool) → sum_by (hit g r i k) (cond b (tags Announcement h q (survivors s h q (reverse (events_of xs)))) []) ≡ 0
      step true = tags_none g r i k Announcement h q (survivors s h q (reverse (events_of xs))) none
      step false = refl

  second_le : (k : Kind) (h q : ℕ) → sum_by (hit g r i k) (second h q) ≤ 1
  second_le k h q = step ((q + c.w1 == t) && is_announced s h q (reverse (events_of xs)))
    where
      step : (b : Bool) → sum_by (hit g r i k) (cond b (tags Announcement h q (survivors s h q (reverse (events_of xs)))) []) ≤ 1
      step true = tags_le_one g r i k Announcement h q (λ j. is_reading_taken s h q j (reverse (events_of xs))) (is_member s.groups h q) (size_or (slice_get s.groups h))
      step false = omega arith

  seconds_le : (k : Kind) (h : ℕ) → sum_by (hit g r i k) (flat_map (second h) all) ≤ 1
  seconds_le k h =
      omega (
        arith,
        sum_by-flat_map (hit g r i k) (second h) all,
        sum_le_one (λ q. sum_by (hit g r i k) (second h q)) r 0 c.rounds (second_le k h r) (λ q ne. second_none k h q (λ j. off_round g r i h q j (same_kind Announcement k) ne)),
      )

  seconds_none : (k : Kind) (h : ℕ) → ((q j : ℕ) → tag_hit g r i k Announcement h q j ≡ 0) → sum_by (hit g r i k) (flat_map (second h) all) ≡ 0
  seconds_none k h none = sum_by-flat_map (hit g r i k) (second h) all ∙ sum_none (λ q. sum_by (hit g r i k) (second h q)) (λ q. second_none k h q (none q)) all

  thirds_le : (k : Kind) (h : ℕ) → sum_by (hit g r i k) (flat_map (third h) all) ≤ 1
  thirds_le k h =
      omega (
        arith,
        sum_by-flat_map (hit g r i k) (third h) all,
        sum_le_one (λ q. sum_by (hit g r i k) (third h q)) r 0 c.rounds
            (tags_le_one g r i k Answer h r (λ j. nat_lt 0 (takes_at xs (tag_of Announcement h r j) t)) (is_member s.groups h r) (size_or (slice_get s.groups h)))
            (λ q ne. tags_none g r i k Answer h q (filter (λ j. nat_lt 0 (takes_at xs (tag_of Announcement h q j) t)) (members_of s h q)) (λ j. off_round g r i h q j (same_kind Answer k) ne)),
      )

  thirds_none : (k : Kind) (h : ℕ) → ((q j : ℕ) → tag_hit g r i k Answer h q j ≡ 0) → sum_by (hit g r i k) (flat_map (third h) all) ≡ 0
  thirds_none k h none = sum_by-flat_map (hit g r i k) (third h) all ∙ sum_none (λ q. sum_by (hit g r i k) (third h q)) (λ q. tags_none g r i k Answer h q (filter (λ j. nat_lt 0 (takes_at xs (tag_of Announcement h q j) t)) (members_of s h q)) (none q)) all

  due_sum : (k : Kind) (h : ℕ) → sum_by (hit g r i k) (due_of s c xs t h)
      ≡ (sum_by (hit g r i k) (firsts h) + sum_by (hit g r i k) (flat_map (second h) all)) + sum_by (hit g r i k) (flat_map (third h) all)
  due_sum k h =
      sum_by-append (hit g r i k) (firsts h ++ flat_map (second h) all) (flat_map (third h) all)
      ∙ ap (λ z. z + sum_by (hit g r i k) (flat_map (third h) all)) (sum_by-append (hit g r i k) (firsts h) (flat_map (second h) all))

  firsts_none : (k : Kind) (h : ℕ) → ((j : ℕ) → tag_hit g r i k Reading h t j ≡ 0) → sum_by (hit g r i k) (firsts h) ≡ 0
  firsts_none k h none = tags_none g r i k Reading h t (if nat_lt t c.rounds then filter (λ j. s.present h t j) (members_of s h t) else []) none

  due_le : (k : Kind) (h : ℕ) → sum_by (hit g r i k) (due_of s c xs t h) ≤ 1
  due_le Reading h =
      omega (
        arith,
        due_sum Reading h,
        firsts_le Reading h,
        seconds_none Reading h (λ q j. off_kind (h == g) (q == r) (j == i)),
        thirds_none Reading h (λ q j. off_kind (h == g) (q == r) (j == i)),
      )
  due_le Announcement h =
      omega (
        arith,
        due_sum Announcement h,
        seconds_le Announcement h,
        firsts_none Announcement h (λ j. off_kind (h == g) (t == r) (j == i)),
        thirds_none Announcement h (λ q j. off_kind (h == g) (q == r) (j == i)),
      )
  due_le Answer h =
      omega (
        arith,
        due_sum Answer h,
        thirds_le Answer h,
        firsts_none Answer h (λ j. off_kind (h == g) (t == r) (j == i)),
        seconds_none Answer h (λ q j. off_kind (h == g) (q == r) (j == i)),
      )

  due_none : (k : Kind) (h : ℕ) → (h ≡ g → ⊥) → sum_by (hit g r i k) (due_of s c xs t h) ≡ 0
  due_none k h ne =
      omega (
        arith,
        due_sum k h,
        firsts_none k h (λ j. off_group g r i h t j (same_kind Reading k) ne),
        seconds_none k h (λ q j. off_group g r i h q j (same_kind Announcement k) ne),
        thirds_none k h (λ q j. off_group g r i h q j (same_kind Answer k) ne),
      )

  pub all_due_le : (k : Kind) → sum_by (hit g r i k) (flat_map (due_of s c xs t) (range_with_len 0 (length s.groups))) ≤ 1
  all_due_le k =
      omega (
        arith,
        sum_by-flat_map (hit g r i k) (due_of s c xs t) (range_with_len 0 (length s.groups)),
        sum_le_one (λ h. sum_by (hit g r i k) (due_of s c xs t h)) g 0 (length s.groups) (due_le k g) (λ h ne. due_none k h ne),
      )
