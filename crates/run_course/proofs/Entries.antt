-- One entry more, whatever it is.
use Rattle.std.proofs.Common.{◌≡◌, ℕ, ◌+◌, ◌<◌, ◌≤◌, Bool, true, false, cond, ◌&&◌, List, [], ◌∷◌, ◌++◌, length, ◌⊎◌, refl, sym, ap, ◌∙◌, subst, ⊎_elim, inl, inr, arith, append-nil}
use Rattle.std.specs.Prelude.{◌==◌, nat_lt, nat_le, if◌then◌else◌, reverse}
use Rattle.std.specs.List.{sum_by, count_by, All}
use Rattle.std.proofs.lemmas.Bool.{both_ways, and_from, and_right, cases_eq, ne_eqb, eq-eqb, lt-ltb, le-leb}
use Rattle.std.proofs.lemmas.Grind.{flat_map-append}
use Rattle.std.proofs.lemmas.List.Sums.{sum_by-append, sum_by-cons}
use Rattle.std.proofs.lemmas.List.Elements.{All-head, All-tail}
use Rattle.group_plan.specs.declared.Tag.{Tag}
use Rattle.group_plan.specs.Plans.{PlanView}
use Rattle.event_schedule.specs.declared.Event.{Event}
use Rattle.event_schedule.specs.declared.Entry.{Entry}
use Rattle.event_schedule.specs.Events.{event_of, events_of, is_take, is_close}
use Rattle.event_schedule.specs.Schedule.{is_closed}
use Rattle.event_schedule.proofs.ScheduleLemmas.{after, once-now, after-reverse, is_closed-more}
use Rattle.run_rows.specs.Ticks.{moment, phase, NoneBefore, IsOrdered, takes_at, copies, sent_at, tags_of}
use Rattle.run_course.specs.declared.waiting.Arrival.{Arrival}
use Rattle.run_course.specs.Lists.{IsIn}
use Rattle.run_course.specs.Sends.{owed}
use Rattle.run_course.specs.Stages.{Stage, is_round_of, AreCalled, Ascends, all_ranks, IsWholeTick}
use Rattle.run_course.proofs.Members.{all_more}
use Rattle.run_course.proofs.Stays.{owed_stays}

-- a stage by its parts
abbrev pub stage : ℕ → ℕ → List Tag → List Arrival → List ℕ → List ℕ → List Tag → ℕ → Stage
stage tick phase due later closing ending left least =
    record { tick = tick; phase = phase; due = due; later = later; closing = closing; ending = ending; left = left; least = least }

-- ---- the order

none_before_more : (m : ℕ) (xs : List Entry) (e : Entry) → NoneBefore m xs → m ≤ moment e → NoneBefore m (xs ++ e ∷ [])
none_before_more m [] e none le = (le, tt)
none_before_more m (x ∷ xs) e none le = (none.0, none_before_more m xs e none.1 le)

pub ordered_more : (xs : List Entry) (e : Entry) → IsOrdered xs → All (λ x. moment x ≤ moment e) xs → IsOrdered (xs ++ e ∷ [])
ordered_more [] e ordered all = (tt, tt)
ordered_more (x ∷ xs) e ordered all =
    (none_before_more (moment x) xs e ordered.0 (All-head (λ y. moment y ≤ moment e) x xs all), ordered_more xs e ordered.1 (All-tail (λ y. moment y ≤ moment e) x xs all))

-- ---- counts

pub count-append : {X : Type 0} (p : X → Bool) (xs ys : List X) → count_by p (xs ++ ys) ≡ count_by p xs + count_by p ys
count-append {X} p xs ys = sum_by-append (λ (x : X). cond (p x) 1 0) xs ys

pub count-one : {X : Type 0} (p : X → Bool) (x : X) → count_by p (x ∷ []) ≡ cond (p x) 1 0
count-one {X} p x = sum_by-cons (λ (y : X). cond (p y) 1 0) x [] ∙ omega arith

pub count-more : {X : Type 0} (p : X → Bool) (xs : List X) (x : X) → count_by p (xs ++ x ∷ []) ≡ count_by p xs + cond (p x) 1 0
count-more p xs x = count-append p xs (x ∷ []) ∙ ap (λ n. count_by p xs + n) (count-one p x)

-- one taken out
pub count-without : {X : Type 0} (p : X → Bool) (xs : List X) (x : X) (ys : List X) → count_by p (xs ++ x ∷ ys) ≡ count_by p (xs ++ ys) + cond (p x) 1 0
count-without {X} p xs x ys = omega (arith, count-append p xs (x ∷ ys), count-append p xs ys, sum_by-cons (λ (y : X). cond (p y) 1 0) x ys)

pub in_count : {X : Type 0} (p : X → Bool) (xs : List X) (x : X) → IsIn x xs → p x ≡ true → 0 < count_by p xs
in_count {X} p [] x at h = absurd at
in_count {X} p (y ∷ xs) x at h =
    ⊎_elim
    (λ here. let e : cond {A = ℕ} (p y) 1 0 ≡ 1 = ap (λ q. cond q 1 0) (ap p here ∙ h) in omega (arith, sum_by-cons (λ (z : X). cond (p z) 1 0) y xs, e))
    (λ there. let k = in_count p xs x there h in omega (arith, sum_by-cons (λ (z : X). cond (p z) 1 0) y xs, k)) at

pub count_in : {X : Type 0} (p : X → Bool) (xs : List X) → 0 < count_by p xs → (x : X) × IsIn x xs × (p x ≡ true)
count_in {X} p [] pos = absurd (omega arith)
count_in {X} p (y ∷ xs) pos = split (p y) refl (count_in p xs)
  where
    split : (q : Bool) → p y ≡ q → (0 < count_by p xs → (x : X) × IsIn x xs × (p x ≡ true)) → (x : X) × IsIn x (y ∷ xs) × (p x ≡ true)
    split true is later = (y, inl refl, is)
    split false is later =
        let e : cond {A = ℕ} (p y) 1 0 ≡ 0 = ap (λ q. cond q 1 0) is in
        let found = later (omega (arith, sum_by-cons (λ (z : X). cond (p z) 1 0) y xs, e)) in (found.0, inr found.1, found.2)

pub count_none : {X : Type 0} (p : X → Bool) (xs : List X) → ((x : X) → IsIn x xs → p x ≡ false) → count_by p xs ≡ 0
count_none {X} p [] none = refl
count_none {X} p (y ∷ xs) none =
    let e : cond {A = ℕ} (p y) 1 0 ≡ 0 = ap (λ q. cond q 1 0) (none y (inl refl)) in
    omega (arith, sum_by-cons (λ (z : X). cond (p z) 1 0) y xs, e, count_none p xs (λ x at. none x (inr at)))

pub sum_none_in : {X : Type 0} (f : X → ℕ) (xs : List X) → ((x : X) → IsIn x xs → f x ≡ 0) → sum_by f xs ≡ 0
sum_none_in f [] none = refl
sum_none_in f (y ∷ xs) none = omega (arith, sum_by-cons f y xs, none y (inl refl), sum_none_in f xs (λ x at. none x (inr at)))

-- ---- the parts of a list of entries

pub sent-append : (xs ys : List Entry) (t : ℕ) → sent_at (xs ++ ys) t ≡ sent_at xs t ++ sent_at ys t
sent-append xs ys t = flat_map-append (λ (e : Entry). if e.tick == t then tags_of (event_of e.line) else []) xs ys

pub sent-none : (xs : List Entry) (t : ℕ) → ((e : Entry) → IsIn e xs → e.tick ≡ t → tags_of (event_of e.line) ≡ []) → sent_at xs t ≡ []
sent-none [] t none = refl
sent-none (x ∷ xs) t none =
    ap (λ l. l ++ sent_at xs t) (⊎_elim
    (λ e. ap (λ q. cond q (tags_of (event_of x.line)) []) (eq-eqb x.tick t e) ∙ none x (inl refl) e)
    (λ ne. ap (λ q. cond q (tags_of (event_of x.line)) []) (ne_eqb x.tick t ne)) (cases_eq x.tick t))
    ∙ sent-none xs t (λ e at. none e (inr at))

pub sent-elsewhere : (xs : List Entry) (t : ℕ) → ((e : Entry) → IsIn e xs → e.tick ≡ t → ⊥) → sent_at xs t ≡ []
sent-elsewhere xs t none = sent-none xs t (λ e at is. absurd (none e at is))

pub takes-elsewhere : (xs : List Entry) (t : ℕ) → ((e : Entry) → IsIn e xs → e.tick ≡ t → ⊥) → (tag : Tag) → takes_at xs tag t ≡ 0
takes-elsewhere xs t none tag =
    count_none (λ e. is_take tag.group tag.round tag.meter tag.kind (event_of e.line) && (e.tick == t)) xs
    (λ e at. and_right (is_take tag.group tag.round tag.meter tag.kind (event_of e.line)) (e.tick == t) (ne_eqb e.tick t (none e at)))

pub copies-append : (xs ys : List Entry) (tag : Tag) (t : ℕ) → sum_by (copies tag t) (xs ++ ys) ≡ sum_by (copies tag t) xs + sum_by (copies tag t) ys
copies-append xs ys tag t = sum_by-append (copies tag t) xs ys

-- ---- the rounds that are closed

closed_after : (g r : ℕ) (p : List Event) (xs : List Entry) → (is_closed g r p ≡ true) ⊎ (0 < count_by (λ e. is_close g r (event_of e.line)) xs)
    → is_closed g r (after p (events_of xs)) ≡ true
unfolding after
closed_after g r p [] h = ⊎_elim (λ is. is) (λ pos. absurd (omega arith)) h
closed_after g r p (x ∷ xs) h =
    closed_after g r (event_of x.line ∷ p) xs
    (⊎_elim (λ is. inl (is_closed-more g r (event_of x.line) p is))
    (λ pos. split (is_close g r (event_of x.line)) refl pos) h)
  where
    split : (q : Bool) → is_close g r (event_of x.line) ≡ q → 0 < count_by (λ e. is_close g r (event_of e.line)) (x ∷ xs)
        → (is_closed g r (event_of x.line ∷ p) ≡ true) ⊎ (0 < count_by (λ e. is_close g r (event_of e.line)) xs)
    split true is pos = inl (once-now (λ e before. is_close g r e) (event_of x.line) p is)
    split false is pos =
        let e : cond {A = ℕ} (is_close g r (event_of x.line)) 1 0 ≡ 0 = ap (λ q. cond q 1 0) is in
        inr (omega (arith, sum_by-cons (λ (y : Entry). cond (is_close g r (event_of y.line)) 1 0) x xs, e))

pub closed_from_count : (g r : ℕ) (xs : List Entry) → 0 < count_by (λ e. is_close g r (event_of e.line)) xs → is_closed g r (reverse (events_of xs)) ≡ true
closed_from_count g r xs pos = subst (λ p. is_closed g r p ≡ true) (after-reverse (events_of xs)) (closed_after g r [] xs (inr pos))

round_is : (plan : PlanView) (g r : ℕ) → g < length plan.groups → r < plan.rounds → is_round_of plan g r ≡ true
round_is plan g r g_in r_in = and_from (nat_lt g (length plan.groups)) (nat_lt r plan.rounds) (lt-ltb g (length plan.groups) g_in) (lt-ltb r plan.rounds r_in)

pub called_once : (plan : PlanView) (test : ℕ → ℕ → Event → Bool) (window : ℕ) (xs : List Entry) (tick : ℕ) (groups : List ℕ) → AreCalled plan test window xs tick groups
    → (g r : ℕ) → g < length plan.groups → r < plan.rounds → (r + window < tick) ⊎ ((r + window ≡ tick) × (groups ≡ []))
    → count_by (λ e. test g r (event_of e.line)) xs ≡ 1
called_once plan test window xs tick groups called g r g_in r_in when =
    let total : cond {A = ℕ} (is_round_of plan g r && nat_le (r + window) tick) 1 0 ≡ 1
    = ap (λ q. cond q 1 0) (and_from (is_round_of plan g r) (nat_le (r + window) tick) (round_is plan g r g_in r_in)
    (le-leb (r + window) tick (⊎_elim (λ before. omega arith) (λ now. let e : r + window ≡ tick = now.0 in omega arith) when))) in
    let rest : cond {A = ℕ} (r + window == tick) (count_by (λ h. h == g) groups) 0 ≡ 0
    = ⊎_elim (λ before. ap (λ q. cond q (count_by (λ h. h == g) groups) 0) (ne_eqb (r + window) tick (λ e. omega arith)))
    (λ now. ap (λ hs. cond (r + window == tick) (count_by (λ h. h == g) hs) 0) now.1 ∙ none (r + window == tick)) when in
    omega (arith, called.counted g r, total, rest)
  where
    none : (q : Bool) → cond {A = ℕ} q 0 0 ≡ 0
    none true = refl
    none false = refl

-- the rounds of earlier ticks are closed, and of this one where none is left
pub closed_by_now : (plan : PlanView) (xs : List Entry) (tick : ℕ) (groups : List ℕ) → AreCalled plan is_close plan.w1 xs tick groups
    → (t : ℕ) → (t < tick) ⊎ ((t ≡ tick) × (groups ≡ [])) → (g r : ℕ) → g < length plan.groups → r < plan.rounds → r + plan.w1 ≡ t → is_closed g r (reverse (events_of xs)) ≡ true
closed_by_now plan xs tick groups called t when g r g_in r_in at =
    closed_from_count g r xs (let one = called_once plan is_close plan.w1 xs tick groups called g r g_in r_in (⊎_elim (λ before. inl (omega arith)) (λ now. let e : t ≡ tick = now.0 in inr (omega arith, now.1)) when) in omega arith)

-- an entry that is no such call
pub called_other : (plan : PlanView) (test : ℕ → ℕ → Event → Bool) (window : ℕ) (xs : List Entry) (tick : ℕ) (groups : List ℕ) (e : Entry)
    → ((g r : ℕ) → test g r (event_of e.line) ≡ false) → AreCalled plan test window xs tick groups → AreCalled plan test window (xs ++ e ∷ []) tick groups
called_other plan test window xs tick groups e other called = record {
  counted = λ g r.
      let none : cond {A = ℕ} (test g r (event_of e.line)) 1 0 ≡ 0 = ap (λ q. cond q 1 0) (other g r) in
      omega (arith, called.counted g r, count-more (λ (x : Entry). test g r (event_of x.line)) xs e, none);
  when = λ g r. all_more (λ x. test g r (event_of x.line) ≡ true → x.tick ≡ r + window) xs e (called.when g r) (λ h. absurd (both_ways (test g r (event_of e.line)) (other g r) h));
  began = called.began;
}

-- ---- whole ticks

pub whole_stays : (plan : PlanView) (xs ys : List Entry) (t : ℕ)
    → ((g r : ℕ) → g < length plan.groups → r < plan.rounds → r + plan.w1 ≡ t → is_closed g r (reverse (events_of xs)) ≡ true)
    → ((e : Entry) → IsIn e ys → e.tick ≡ t → ⊥) → IsWholeTick plan xs t → IsWholeTick plan (xs ++ ys) t
whole_stays plan xs ys t closed none whole =
    let sent : sent_at (xs ++ ys) t ≡ sent_at xs t = sent-append xs ys t ∙ ap (λ l. sent_at xs t ++ l) (sent-elsewhere ys t none) ∙ append-nil (sent_at xs t) in
    let called : owed plan (xs ++ ys) t ≡ owed plan xs t = owed_stays plan xs ys t closed (takes-elsewhere ys t none) in
    record {
      ascends = subst (Ascends 0 (all_ranks plan)) (sym sent) whole.ascends;
      only = λ y at other. subst (IsIn y) (sym called) (whole.only y (subst (IsIn y) sent at) other);
      each = λ y at. subst (IsIn y) (sym sent) (whole.each y (subst (IsIn y) called at));
    }
