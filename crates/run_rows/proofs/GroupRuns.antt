-- Runs of all groups are one tick run.
use Rattle.std.proofs.Common.{◌≡◌, ◌⊎◌, ℕ, zero, suc, ◌+◌, ◌<◌, ◌≤◌, Bool, true, false, cond, ◌&&◌, List, [], ◌∷◌, ◌++◌, length, map, refl, sym, ap, ◌∙◌, subst, inl, inr, arith}
use Rattle.std.specs.Prelude.{◌==◌, nat_lt, if◌then◌else◌}
use Rattle.std.specs.List.{filter, sum_by, count_by, flat_map, range_with_len, All}
use mathlib.Core.Path.{fun_ext}
use mathlib.Core.List.{reverse}
use Rattle.std.proofs.lemmas.Bool.{false≢true, cases_Bool, eq-eqb, eqb-true, ltb-true, lt-ltb}
use Rattle.std.proofs.lemmas.List.Sums.{sum_by-cons}
use Rattle.std.proofs.lemmas.List.Elements.{All-head, All-tail, All-nil, All-cons}
use Rattle.group_plan.specs.declared.Kind.TheVariants.{Reading, Announcement, Answer}
use Rattle.group_plan.specs.declared.Tag.{Tag}
use Rattle.link_lanes.specs.Lanes.{Slot}
use Rattle.event_schedule.specs.declared.Event.{Event}
use Rattle.event_schedule.specs.declared.Entry.{Entry}
use Rattle.event_schedule.specs.Events.{event_of, events_of, is_take, is_close, is_end}
use Rattle.event_schedule.specs.Schedule.{Shape, members_of, survivors, is_announced}
use Rattle.event_schedule.specs.ByGroup.{group_of, events_in}
use Rattle.event_schedule.proofs.EventsByGroup.{reverse_aux-filter, send-elsewhere, take-elsewhere, close-elsewhere, end-elsewhere, announced-in, survivors-in}
use Rattle.run_rows.specs.Ticks.{Clock, last_tick, takes_at, copies, StandsOnce, in_plan, tag_of, tags, sent_at, due_of, tags_of, IsTickRun}
use Rattle.run_rows.specs.ByGroup.{entries_in, AreGroupRuns}

-- whether an entry is of a group
abbrev of_group : ℕ → Entry → Bool
of_group g e = group_of (event_of e.line) == g

-- ---- the group's entries among all

sum-in : (g : ℕ) (f : Entry → ℕ) → ((e : Entry) → of_group g e ≡ false → f e ≡ 0) → (xs : List Entry) → sum_by f (entries_in g xs) ≡ sum_by f xs
sum-in g f none [] = refl
sum-in g f none (e ∷ xs) = step (of_group g e) refl (sum-in g f none xs)
  where
    step : (b : Bool) → of_group g e ≡ b → sum_by f (entries_in g xs) ≡ sum_by f xs → sum_by f (cond b (e ∷ entries_in g xs) (entries_in g xs)) ≡ sum_by f (e ∷ xs)
    step true h rest = sum_by-cons f e (entries_in g xs) ∙ ap (λ n. f e + n) rest ∙ sym (sum_by-cons f e xs)
    step false h rest = let off : f e ≡ 0 = none e h in omega (arith, off, rest, sum_by-cons f e xs)

filter-in : (g : ℕ) (test : Entry → Bool) → ((e : Entry) → of_group g e ≡ false → test e ≡ false) → (xs : List Entry) → filter test (entries_in g xs) ≡ filter test xs
filter-in g test none [] = refl
filter-in g test none (e ∷ xs) = step (of_group g e) refl (filter-in g test none xs)
  where
    step : (b : Bool) → of_group g e ≡ b → filter test (entries_in g xs) ≡ filter test xs → filter test (cond b (e ∷ entries_in g xs) (entries_in g xs)) ≡ cond (test e) (e ∷ filter test xs) (filter test xs)
    step true h rest = ap (λ ys. cond (test e) (e ∷ ys) ys) rest
    step false h rest = rest ∙ ap (λ b. cond b (e ∷ filter test xs) (filter test xs)) (sym (none e h))

pub takes-in : (tag : Tag) (t : ℕ) (xs : List Entry) → takes_at (entries_in tag.group xs) tag t ≡ takes_at xs tag t
takes-in tag t xs =
    sum-in tag.group (λ e. cond (is_take tag.group tag.round tag.meter tag.kind (event_of e.line) && (e.tick == t)) 1 0)
    (λ e h. ap (λ b. cond {A = ℕ} (b && (e.tick == t)) 1 0) (take-elsewhere tag.group tag.round tag.meter tag.kind (event_of e.line) h)) xs

pub copies-in : (tag : Tag) (t : ℕ) (xs : List Entry) → sum_by (copies tag t) (entries_in tag.group xs) ≡ sum_by (copies tag t) xs
copies-in tag t xs =
    sum-in tag.group (copies tag t)
    (λ e h. ap (λ b. if b then count_by (λ d. e.tick + d == t) e.fate else 0) (send-elsewhere tag.group tag.round tag.meter tag.kind (event_of e.line) h)) xs

map-filter : (test : Event → Bool) (xs : List Entry) → events_of (filter (λ e. test (event_of e.line)) xs) ≡ filter test (events_of xs)
map-filter test [] = refl
map-filter test (e ∷ xs) = step (test (event_of e.line)) (map-filter test xs)
  where
    step : (b : Bool) → events_of (filter (λ e. test (event_of e.line)) xs) ≡ filter test (events_of xs)
        → events_of (cond b (e ∷ filter (λ e. test (event_of e.line)) xs) (filter (λ e. test (event_of e.line)) xs)) ≡ cond b (event_of e.line ∷ filter test (events_of xs)) (filter test (events_of xs))
    step true rest = ap (λ es. event_of e.line ∷ es) rest
    step false rest = rest

-- the past of the group's entries are the group's events
pub past-in : (g : ℕ) (xs : List Entry) → reverse (events_of (entries_in g xs)) ≡ events_in g (reverse (events_of xs))
past-in g xs = ap reverse (map-filter (λ e. group_of e == g) xs) ∙ sym (reverse_aux-filter (λ e. group_of e == g) (events_of xs) [])

-- what is due of a group depends on its own entries alone
pub due-in : (s : Shape) (c : Clock) (xs : List Entry) (t g : ℕ) → due_of s c (entries_in g xs) t g ≡ due_of s c xs t g
due-in s c xs t g =
    ap (λ p. readings ++ flat_map (announced p) rounds ++ flat_map (answered (entries_in g xs)) rounds) (past-in g xs)
    ∙ ap (λ f. readings ++ flat_map f rounds ++ flat_map (answered (entries_in g xs)) rounds) (fun_ext (λ r.
    ap (λ b. if (r + c.w1 == t) && b then tags Announcement g r (survivors s g r (events_in g past)) else []) (announced-in s g r past)
    ∙ ap (λ set. if (r + c.w1 == t) && is_announced s g r past then tags Announcement g r set else []) (survivors-in s g r past)))
    ∙ ap (λ f. readings ++ flat_map (announced past) rounds ++ flat_map f rounds) (fun_ext (λ r.
    ap (λ test. tags Answer g r (filter test (members_of s g r))) (fun_ext (λ i. ap (nat_lt 0) (takes-in (tag_of Announcement g r i) t xs)))))
  where
    past : List Event
    past = reverse (events_of xs)

    rounds : List ℕ
    rounds = range_with_len 0 c.rounds

    readings : List Tag
    readings = tags Reading g t (if nat_lt t c.rounds then filter (λ i. s.present g t i) (members_of s g t) else [])

    announced : List Event → ℕ → List Tag
    announced p r = if (r + c.w1 == t) && is_announced s g r p then tags Announcement g r (survivors s g r p) else []

    answered : List Entry → ℕ → List Tag
    answered es r = tags Answer g r (filter (λ i. nat_lt 0 (takes_at es (tag_of Announcement g r i) t)) (members_of s g r))

-- ---- all groups

-- no entry is of a group beyond the plan's
none_beyond : (n g : ℕ) (xs : List Entry) → All (λ e. group_of (event_of e.line) < n) xs → nat_lt g n ≡ false → entries_in g xs ≡ []
none_beyond n g [] all beyond = refl
none_beyond n g (e ∷ xs) all beyond =
    ap (λ b. cond b (e ∷ entries_in g xs) (entries_in g xs)) (off (cases_Bool (of_group g e))) ∙ none_beyond n g xs (All-tail (λ e. group_of (event_of e.line) < n) e xs all) beyond
  where
    off : (of_group g e ≡ true) ⊎ (of_group g e ≡ false) → of_group g e ≡ false
    off (inl here) =
        absurd (false≢true (sym beyond ∙ lt-ltb g n (subst (λ k. k < n) (eqb-true (group_of (event_of e.line)) g here) (All-head (λ e. group_of (event_of e.line) < n) e xs all))))
    off (inr other) = other

all_whole : (P : Entry → Type 0) (n : ℕ) (xs : List Entry) → All (λ e. group_of (event_of e.line) < n) xs → ((g : ℕ) → g < n → All P (entries_in g xs)) → All P xs
all_whole P n [] within parts = All-nil P
all_whole P n (e ∷ xs) within parts =
    All-cons P e xs (All-head P e (entries_in k xs) here)
    (all_whole P n xs (All-tail (λ e. group_of (event_of e.line) < n) e xs within) (λ g lt. rest (of_group g e) (entries_in g xs) (parts g lt)))
  where
    k : ℕ
    k = group_of (event_of e.line)

    here : All P (e ∷ entries_in k xs)
    here = subst (λ b. All P (cond b (e ∷ entries_in k xs) (entries_in k xs))) (eq-eqb k k refl) (parts k (All-head (λ e. group_of (event_of e.line) < n) e xs within))

    rest : (b : Bool) (ys : List Entry) → All P (cond b (e ∷ ys) ys) → All P ys
    rest true ys all = All-tail P e ys all
    rest false ys all = all

flat_map-below : (f h : ℕ → List Tag) (a n : ℕ) → ((g : ℕ) → a ≤ g → g < a + n → f g ≡ h g) → flat_map f (range_with_len a n) ≡ flat_map h (range_with_len a n)
flat_map-below f h a zero same = refl
flat_map-below f h a (suc n) same =
    ap (λ x. x ++ flat_map f (range_with_len (a + 1) n)) (same a (omega arith) (omega arith))
    ∙ ap (λ x. h a ++ x) (flat_map-below f h (a + 1) n (λ g from to. same g (omega (arith, from)) (omega (arith, to))))

module _ (s : Shape) (c : Clock) (slots : List Slot) (xs : List Entry) (runs : AreGroupRuns s c slots xs) where
  -- an event of each round of the plan stands once, where it does so in its group
  stands-whole : (test : Event → Bool) (g r tick : ℕ) → ((e : Event) → (group_of e == g) ≡ false → test e ≡ false)
      → (g < length s.groups → StandsOnce test (nat_lt r c.rounds) tick (entries_in g xs)) → StandsOnce test (in_plan s c g r) tick xs
  stands-whole test g r tick elsewhere part = by_group (cases_Bool (nat_lt g (length s.groups)))
    where
      all : map (λ e. e.tick) (filter (λ e. test (event_of e.line)) (entries_in g xs)) ≡ map (λ e. e.tick) (filter (λ e. test (event_of e.line)) xs)
      all = ap (map (λ e. e.tick)) (filter-in g (λ e. test (event_of e.line)) (λ e h. elsewhere (event_of e.line) h) xs)

      by_group : (nat_lt g (length s.groups) ≡ true) ⊎ (nat_lt g (length s.groups) ≡ false) → StandsOnce test (in_plan s c g r) tick xs
      by_group (inl inside) = sym all ∙ part (ltb-true g (length s.groups) inside) ∙ ap (λ b. if b && nat_lt r c.rounds then tick ∷ [] else []) (sym inside)
      by_group (inr beyond) =
          sym all ∙ ap (λ ys. map (λ e. e.tick) (filter (λ e. test (event_of e.line)) ys)) (none_beyond (length s.groups) g xs runs.of_plan beyond)
          ∙ ap (λ b. if b && nat_lt r c.rounds then tick ∷ [] else []) (sym beyond)

  taken-whole : (tag : Tag) (t : ℕ) → takes_at xs tag t ≡ sum_by (copies tag t) xs
  taken-whole tag t = by_group (cases_Bool (nat_lt tag.group (length s.groups)))
    where
      by_group : (nat_lt tag.group (length s.groups) ≡ true) ⊎ (nat_lt tag.group (length s.groups) ≡ false) → takes_at xs tag t ≡ sum_by (copies tag t) xs
      by_group (inl inside) = sym (takes-in tag t xs) ∙ (runs.groups tag.group (ltb-true tag.group (length s.groups) inside)).taken tag t refl ∙ copies-in tag t xs
      by_group (inr beyond) =
          let none = none_beyond (length s.groups) tag.group xs runs.of_plan beyond in
          sym (takes-in tag t xs) ∙ ap (λ ys. takes_at ys tag t) none ∙ sym (ap (sum_by (copies tag t)) none) ∙ copies-in tag t xs

pub tick_run_of_groups : (s : Shape) (c : Clock) (slots : List Slot) (xs : List Entry) → AreGroupRuns s c slots xs → IsTickRun s c slots xs
tick_run_of_groups s c slots xs runs = record {
  ordered = runs.ordered;
  within = all_whole (λ e. e.tick ≤ last_tick c) (length s.groups) xs runs.of_plan (λ g lt. (runs.groups g lt).within);
  taken = taken-whole s c slots xs runs;
  closed = λ g r. stands-whole s c slots xs runs (is_close g r) g r (r + c.w1) (close-elsewhere g r) (λ lt. (runs.groups g lt).closed r);
  ended = λ g r. stands-whole s c slots xs runs (is_end g r) g r (r + c.w1 + c.w2) (end-elsewhere g r) (λ lt. (runs.groups g lt).ended r);
  sent = λ t. runs.turns t
      ∙ flat_map-below (λ g. sent_at (entries_in g xs) t) (due_of s c xs t) 0 (length s.groups) (λ g from to. (runs.groups g (omega (arith, to))).sent t ∙ due-in s c xs t g);
  fates = runs.fates;
  others = all_whole (λ e. tags_of (event_of e.line) ≡ [] → e.fate ≡ []) (length s.groups) xs runs.of_plan (λ g lt. (runs.groups g lt).others);
}
