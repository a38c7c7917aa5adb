-- Which Takes of a run came by a tick, and what they make of its rounds.
use Rattle.std.proofs.Common.{◌≡◌, ℕ, ◌+◌, ◌<◌, ◌≤◌, Bool, true, false, ◌&&◌, ◌||◌, List, [], ◌∷◌, refl, sym, ap, ◌∙◌, subst, ⊎_elim, arith}
use Rattle.std.specs.Prelude.{◌==◌, nat_lt, nat_le}
use mathlib.Core.List.{reverse}
use mathlib.Core.Path.{fun_ext}
use Rattle.std.specs.List.{list_any}
use Rattle.std.proofs.lemmas.Bool.{or_left, or_right, and_from, and_parts, lt-ltb, le-leb, leb-true}
use Rattle.std.proofs.lemmas.Bool.Decides.{nat_tests}
use Rattle.group_plan.specs.declared.Kind.{Kind}
use Rattle.group_plan.specs.declared.Kind.TheVariants.{Reading, Announcement, Answer}
use Rattle.group_plan.specs.declared.Tag.{Tag}
use Rattle.event_schedule.specs.declared.Entry.{Entry}
use Rattle.event_schedule.specs.Events.{is_take, events_of, event_of}
use Rattle.event_schedule.specs.Schedule.{Shape, is_announced, is_reading_taken}
use Rattle.run_rows.specs.Ticks.{Clock, tag_of}
use Rattle.run_rows.specs.Report.{comes_in_time, is_answered_in_time}
use Rattle.run_rows.proofs.TickLemmas.{Member, Stands, TickFacts, same_from_both, is_reading_taken-ticks}
use Rattle.run_rows.proofs.TickRun.{member_any}
use Rattle.apart_runs.proofs.FrameLemmas.{member_of, stands}

-- a Take of the tag came before tick t, and by tick l
abbrev pub came : List Entry → ℕ → ℕ → Kind → ℕ → ℕ → ℕ → Bool
came xs g r k i t l = list_any (λ e. is_take g r i k (event_of e.line) && (nat_lt e.tick t && nat_le e.tick l)) xs

-- one comes in tick t
abbrev pub comes : List Entry → ℕ → ℕ → Kind → ℕ → ℕ → ℕ → Bool
comes xs g r k i t l = list_any (λ e. is_take g r i k (event_of e.line) && ((e.tick == t) && nat_le e.tick l)) xs

-- ---- from tick to tick

any_or : {X : Type 0} (p q : X → Bool) (xs : List X) → list_any (λ x. p x || q x) xs ≡ (list_any p xs || list_any q xs)
any_or p q [] = refl
any_or p q (x ∷ xs) = ap (λ b. (p x || q x) || b) (any_or p q xs) ∙ mixed (p x) (q x) (list_any p xs) (list_any q xs)
  where
    mixed : (a b c d : Bool) → ((a || b) || (c || d)) ≡ ((a || c) || (b || d))
    mixed true b c d = refl
    mixed false true true d = refl
    mixed false true false d = refl
    mixed false false c d = refl

spread : (a x y z : Bool) → (a && ((x || y) && z)) ≡ ((a && (x && z)) || (a && (y && z)))
spread false x y z = refl
spread true true y true = refl
spread true true true false = refl
spread true true false false = refl
spread true false y z = refl

next : (n t : ℕ) → nat_lt n (t + 1) ≡ (nat_lt n t || (n == t))
next n t = grind (arith, nat_tests)

pub came_next : (xs : List Entry) (g r : ℕ) (k : Kind) (i t l : ℕ) → came xs g r k i (t + 1) l ≡ (came xs g r k i t l || comes xs g r k i t l)
came_next xs g r k i t l =
    ap (λ (f : Entry → Bool). list_any f xs) (fun_ext (λ e. ap (λ b. is_take g r i k (event_of e.line) && (b && nat_le e.tick l)) (next e.tick t) ∙ spread (is_take g r i k (event_of e.line)) (nat_lt e.tick t) (e.tick == t) (nat_le e.tick l)))
    ∙ any_or (λ e. is_take g r i k (event_of e.line) && (nat_lt e.tick t && nat_le e.tick l)) (λ e. is_take g r i k (event_of e.line) && ((e.tick == t) && nat_le e.tick l)) xs

pub came_none : (xs : List Entry) (g r : ℕ) (k : Kind) (i l : ℕ) → came xs g r k i 0 l ≡ false
came_none [] g r k i l = refl
came_none (x ∷ xs) g r k i l = ap (λ b. b || came xs g r k i 0 l) (none (is_take g r i k (event_of x.line)) (nat_le x.tick l) (nat_lt x.tick 0) (never x.tick)) ∙ came_none xs g r k i l
  where
    never : (n : ℕ) → nat_lt n 0 ≡ false
    never n = grind (arith, nat_tests)

    none : (a z b : Bool) → b ≡ false → (a && (b && z)) ≡ false
    none true z b is = ap (λ c. c && z) is
    none false z b is = refl

-- ---- what passes a test

pub holds : {X : Type 0} (p : X → Bool) (e : X) (xs : List X) → Member e xs → p e ≡ true → list_any p xs ≡ true
holds p e [] at h = absurd at
holds p e (x ∷ xs) at h = ⊎_elim (λ here. or_left (p x) (list_any p xs) (ap p here ∙ h)) (λ there. or_right (p x) (list_any p xs) (holds p e xs there h)) at

-- a Take that came
pub record Came (xs : List Entry) (g r : ℕ) (k : Kind) (i t l : ℕ) : Type 0 where
  pub tick : ℕ
  pub in_time : tick ≤ l
  pub take : Stands (is_take g r i k) tick (reverse xs)

pub has_come : (xs : List Entry) (g r : ℕ) (k : Kind) (i t l : ℕ) → came xs g r k i t l ≡ true → Came xs g r k i t l
has_come xs g r k i t l is =
    let found = member_any (λ e. is_take g r i k (event_of e.line) && (nat_lt e.tick t && nat_le e.tick l)) xs is in
    let e = found.0 in
    let parts = and_parts (is_take g r i k (event_of e.line)) (nat_lt e.tick t && nat_le e.tick l) found.2 in
    record {
      tick = e.tick;
      in_time = leb-true e.tick l (and_parts (nat_lt e.tick t) (nat_le e.tick l) parts.1).1;
      take = stands (is_take g r i k) e xs found.1 parts.0;
    }

came_by : (xs : List Entry) (g r : ℕ) (k : Kind) (i t l u : ℕ) → Stands (is_take g r i k) u (reverse xs) → u ≤ l → l < t → came xs g r k i t l ≡ true
came_by xs g r k i t l u st by before =
    let e = st.entry in
    let when : e.tick ≡ u = st.when in
    holds (λ f. is_take g r i k (event_of f.line) && (nat_lt f.tick t && nat_le f.tick l)) e xs (member_of (is_take g r i k) u xs st)
    (and_from (is_take g r i k (event_of e.line)) (nat_lt e.tick t && nat_le e.tick l) st.passes
    (and_from (nat_lt e.tick t) (nat_le e.tick l) (lt-ltb e.tick t (omega (arith, when, by, before))) (le-leb e.tick l (omega (arith, when, by)))))

-- ---- rounds that are closed, and that have ended

module _ (s : Shape) (c : Clock) (fate : ℕ → Tag → List ℕ) (xs : List Entry) (facts : TickFacts s c fate (reverse xs)) where
  pub reading_came : (g r i t : ℕ) → r + c.w1 < t → came xs g r Reading i t (r + c.w1) ≡ is_reading_taken s g r i (events_of (reverse xs))
  reading_came g r i t over = same_from_both (came xs g r Reading i t (r + c.w1)) (s.present g r i && comes_in_time c fate g r i) there back ∙ sym (is_reading_taken-ticks s c fate (reverse xs) facts g r i)
    where
      there : came xs g r Reading i t (r + c.w1) ≡ true → (s.present g r i && comes_in_time c fate g r i) ≡ true
      there is =
          let take = has_come xs g r Reading i t (r + c.w1) is in
          let from = facts.take_from g r i Reading take.tick take.take in
          let began : from.sent ≡ r = facts.reading_tick g r i from.sent from.send in
          let arrives : from.sent + from.delay ≡ take.tick = from.arrives in
          let by : take.tick ≤ r + c.w1 = take.in_time in
          and_from (s.present g r i) (comes_in_time c fate g r i) (facts.reading_present g r i from.sent from.send)
          (holds (λ d. nat_le d c.w1) from.delay (fate r (tag_of Reading g r i)) (subst (λ n. Member from.delay (fate n (tag_of Reading g r i))) began from.member) (le-leb from.delay c.w1 (omega (arith, began, arrives, by))))

      back : (s.present g r i && comes_in_time c fate g r i) ≡ true → came xs g r Reading i t (r + c.w1) ≡ true
      back is =
          let both = and_parts (s.present g r i) (comes_in_time c fate g r i) is in
          let delay = member_any (λ d. nat_le d c.w1) (fate r (tag_of Reading g r i)) both.1 in
          let soon : delay.0 ≤ c.w1 = leb-true delay.0 c.w1 delay.2 in
          came_by xs g r Reading i t (r + c.w1) (r + delay.0) (facts.take_of g r i Reading r delay.0 (facts.reading_of g r i both.0) delay.1) (omega (arith, soon)) over

  pub answer_came : (g r i t : ℕ) → r + c.w1 + c.w2 < t → is_announced s g r (events_of (reverse xs)) ≡ true → is_reading_taken s g r i (events_of (reverse xs)) ≡ true
      → came xs g r Answer i t (r + c.w1 + c.w2) ≡ is_answered_in_time c fate g r i
  answer_came g r i t over announced survives = same_from_both (came xs g r Answer i t (r + c.w1 + c.w2)) (is_answered_in_time c fate g r i) there back
    where
      there : came xs g r Answer i t (r + c.w1 + c.w2) ≡ true → is_answered_in_time c fate g r i ≡ true
      there is =
          let take = has_come xs g r Answer i t (r + c.w1 + c.w2) is in
          let from = facts.take_from g r i Answer take.tick take.take in
          let told = facts.take_from g r i Announcement from.sent (facts.answer_from g r i from.sent from.send) in
          let began : told.sent ≡ r + c.w1 = facts.announcement_tick g r i told.sent told.send in
          let first : told.sent + told.delay ≡ from.sent = told.arrives in
          let second : from.sent + from.delay ≡ take.tick = from.arrives in
          let by : take.tick ≤ r + c.w1 + c.w2 = take.in_time in
          let middle : from.sent ≡ r + c.w1 + told.delay = omega (arith, began, first) in
          holds (λ d1. list_any (λ d2. nat_le (d1 + d2) c.w2) (fate (r + c.w1 + d1) (tag_of Answer g r i))) told.delay (fate (r + c.w1) (tag_of Announcement g r i))
          (subst (λ n. Member told.delay (fate n (tag_of Announcement g r i))) began told.member)
          (holds (λ d2. nat_le (told.delay + d2) c.w2) from.delay (fate (r + c.w1 + told.delay) (tag_of Answer g r i))
          (subst (λ n. Member from.delay (fate n (tag_of Answer g r i))) middle from.member) (le-leb (told.delay + from.delay) c.w2 (omega (arith, began, first, second, by))))

      back : is_answered_in_time c fate g r i ≡ true → came xs g r Answer i t (r + c.w1 + c.w2) ≡ true
      back is =
          let first = member_any (λ d1. list_any (λ d2. nat_le (d1 + d2) c.w2) (fate (r + c.w1 + d1) (tag_of Answer g r i))) (fate (r + c.w1) (tag_of Announcement g r i)) is in
          let second = member_any (λ d2. nat_le (first.0 + d2) c.w2) (fate (r + c.w1 + first.0) (tag_of Answer g r i)) first.2 in
          let soon : first.0 + second.0 ≤ c.w2 = leb-true (first.0 + second.0) c.w2 second.2 in
          let heard = facts.take_of g r i Announcement (r + c.w1) first.0 (facts.announcement_of g r i announced survives) first.1 in
          let reply = facts.answer_of g r i (r + c.w1 + first.0) heard in
          came_by xs g r Answer i t (r + c.w1 + c.w2) (r + c.w1 + first.0 + second.0) (facts.take_of g r i Answer (r + c.w1 + first.0) second.0 reply second.1) (omega (arith, soon)) over
