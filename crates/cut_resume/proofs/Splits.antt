-- A list of entries cut in two: what the first part says of ticks that the second has no more to say of.
use Rattle.std.proofs.Common.{◌≡◌, ℕ, ◌+◌, ◌*◌, ◌<◌, ◌≤◌, Bool, true, false, cond, ◌&&◌, List, [], ◌∷◌, ◌++◌, length, map, refl, sym, ap, ◌∙◌, subst, ⊎_elim, inl, inr, arith, append-nil, append_assoc}
use Rattle.std.specs.Prelude.{◌==◌, nat_lt, reverse}
use Rattle.std.specs.List.{filter, sum_by, count_by, All}
use Rattle.std.proofs.lemmas.Bool.{and_from, and_left, and_right, cases_eq, cases_Bool, ne_eqb, lt-ltb}
use Rattle.std.proofs.lemmas.List.Elements.{filter-append}
use Rattle.group_plan.specs.declared.Tag.{Tag}
use Rattle.group_plan.specs.Plans.{PlanView}
use Rattle.event_schedule.specs.declared.Event.{Event}
use Rattle.event_schedule.specs.declared.Event.TheVariants.{Send, Take, Close, End}
use Rattle.event_schedule.specs.declared.Entry.{Entry}
use Rattle.event_schedule.specs.Events.{event_of, events_of, is_send, is_take, is_close, is_end}
use Rattle.event_schedule.specs.Schedule.{Shape, is_closed}
use Rattle.event_schedule.proofs.ListLemmas.{flat_map_same}
use Rattle.run_rows.specs.Ticks.{Clock, in_plan, moment, phase, takes_at, copies, sent_at, due_of, StandsOnce}
use Rattle.run_course.specs.Lists.{IsIn}
use Rattle.run_course.proofs.Calls.{readings_by, rest_by}
use Rattle.run_course.proofs.Entries.{in_count, count_none, sum_none_in, count-append, sent-append, sent-none, copies-append, closed_from_count}
use Rattle.run_course.proofs.Members.{all_in, in_append}
use Rattle.run_course.proofs.Refusals.{once_at, once_count}
use Rattle.run_course.proofs.Stays.{rest_stays, takes-append}
use Rattle.cut_resume.specs.OnCourse.{due_at, TakesAreWhole, CallsAreWhole, SendsAreWhole}

-- ---- the three phases of a tick

pub phase_most : (v : Event) → phase v ≤ 2
phase_most (Take tag) = omega arith
phase_most (Close g r) = omega arith
phase_most (End g r) = omega arith
phase_most (Send tag) = omega arith

not_taken : (tag : Tag) (v : Event) → 0 < phase v → is_take tag.group tag.round tag.meter tag.kind v ≡ false
not_taken tag (Take z) h = absurd (omega arith)
not_taken tag (Send z) h = refl
not_taken tag (Close g r) h = refl
not_taken tag (End g r) h = refl

not_closed : (g r : ℕ) (v : Event) → 1 < phase v → is_close g r v ≡ false
not_closed g r (Take z) h = absurd (omega arith)
not_closed g r (Send z) h = refl
not_closed g r (Close a b) h = absurd (omega arith)
not_closed g r (End a b) h = absurd (omega arith)

not_ended : (g r : ℕ) (v : Event) → 1 < phase v → is_end g r v ≡ false
not_ended g r (Take z) h = absurd (omega arith)
not_ended g r (Send z) h = refl
not_ended g r (Close a b) h = absurd (omega arith)
not_ended g r (End a b) h = absurd (omega arith)

-- ---- counts and filters

pub filter_none : {X : Type 0} (p : X → Bool) (xs : List X) → ((x : X) → IsIn x xs → p x ≡ false) → filter p xs ≡ []
filter_none p [] none = refl
filter_none {X} p (x ∷ xs) none = ap (λ q. cond q (x ∷ filter p xs) (filter p xs)) (none x (inl refl)) ∙ filter_none p xs (λ y at. none y (inr at))

-- where the rest has no such call, the call stands once in the first part
pub once_before : (test : Event → Bool) (due : Bool) (t : ℕ) (xs ys : List Entry) → StandsOnce test due t (xs ++ ys)
    → ((y : Entry) → IsIn y ys → test (event_of y.line) ≡ false) → StandsOnce test due t xs
once_before test due t xs ys once none =
    let p : Entry → Bool = λ e. test (event_of e.line) in
    let all : filter p (xs ++ ys) ≡ filter p xs = filter-append p xs ys ∙ ap (λ l. filter p xs ++ l) (filter_none p ys none) ∙ append-nil (filter p xs) in
    sym (ap (map (λ (e : Entry). e.tick)) all) ∙ once

-- a call that stands once and in the first part stands no more in the rest
pub none_after : (test : Event → Bool) (due : Bool) (t : ℕ) (xs ys : List Entry) (e : Entry) → StandsOnce test due t (xs ++ ys)
    → IsIn e xs → test (event_of e.line) ≡ true → (y : Entry) → IsIn y ys → test (event_of y.line) ≡ false
none_after test due t xs ys e once at is y there =
    let p : Entry → Bool = λ e. test (event_of e.line) in
    let one : count_by p (xs ++ ys) ≡ cond due 1 0 = once_count test due t (xs ++ ys) once in
    let few : cond {A = ℕ} due 1 0 ≤ 1 = most due in
    let first = in_count p xs e at is in
    ⊎_elim (λ yes. (let second = in_count p ys y there yes in absurd (omega (arith, one, few, first, second, count-append p xs ys)))) (λ no. no) (cases_Bool (test (event_of y.line)))
  where
    most : (q : Bool) → cond {A = ℕ} q 1 0 ≤ 1
    most true = omega arith
    most false = omega arith

-- ---- copies

some_delay : (ds : List ℕ) → All (λ d. 0 < d) ds → (d : ℕ) → IsIn d ds → 0 < d
some_delay ds all d at = all_in (λ d. 0 < d) ds all d at

-- no frame that is sent from a tick on comes in it
pub none_sent_back : (ys : List Entry) (t : ℕ) → ((y : Entry) → IsIn y ys → All (λ d. 0 < d) y.fate) → ((y : Entry) → IsIn y ys → t ≤ y.tick) → (tag : Tag) → sum_by (copies tag t) ys ≡ 0
none_sent_back ys t delays from tag =
    sum_none_in (copies tag t) ys (λ y at. none y (is_send tag.group tag.round tag.meter tag.kind (event_of y.line)) (from y at) (delays y at))
  where
    none : (y : Entry) (q : Bool) → t ≤ y.tick → All (λ d. 0 < d) y.fate → cond q (count_by (λ d. y.tick + d == t) y.fate) 0 ≡ 0
    none y false from fate = refl
    none y true from fate = count_none (λ d. y.tick + d == t) y.fate (λ d at. let low = some_delay y.fate fate d at in ne_eqb (y.tick + d) t (λ e. omega arith))

-- ---- a run cut in two

module _ (s : Shape) (c : Clock) (xs ys : List Entry)
    (taken : (tag : Tag) (t : ℕ) → takes_at (xs ++ ys) tag t ≡ sum_by (copies tag t) (xs ++ ys))
    (closed : (g r : ℕ) → StandsOnce (is_close g r) (in_plan s c g r) (r + c.w1) (xs ++ ys))
    (ended : (g r : ℕ) → StandsOnce (is_end g r) (in_plan s c g r) (r + c.w1 + c.w2) (xs ++ ys))
    (sent : (t : ℕ) → sent_at (xs ++ ys) t ≡ due_at s c (xs ++ ys) t)
    (delays : (y : Entry) → IsIn y ys → All (λ d. 0 < d) y.fate)
    (t : ℕ) where
  abbrev plan : PlanView
  plan = record { groups = s.groups; rounds = c.rounds; w1 = c.w1; w2 = c.w2 }

  none_taken : ((y : Entry) → IsIn y ys → 3 * t < moment y) → (tag : Tag) → takes_at ys tag t ≡ 0
  none_taken later tag = count_none (λ e. is_take tag.group tag.round tag.meter tag.kind (event_of e.line) && (e.tick == t)) ys (λ y at.
      ⊎_elim (λ now. and_left (is_take tag.group tag.round tag.meter tag.kind (event_of y.line)) (y.tick == t) (not_taken tag (event_of y.line) (let h = later y at in omega arith)))
      (λ other. and_right (is_take tag.group tag.round tag.meter tag.kind (event_of y.line)) (y.tick == t) (ne_eqb y.tick t other)) (cases_eq y.tick t))

  from_tick : ((y : Entry) → IsIn y ys → 3 * t < moment y) → (y : Entry) → IsIn y ys → t ≤ y.tick
  from_tick later y at = let h = later y at in let p = phase_most (event_of y.line) in omega arith

  -- the Takes of the tick are whole
  pub takes_whole : ((y : Entry) → IsIn y ys → 3 * t < moment y) → TakesAreWhole xs t
  takes_whole later tag = omega (arith, taken tag t, takes-append xs ys tag t, copies-append xs ys tag t, none_taken later tag, none_sent_back ys t delays (from_tick later) tag)

  -- the Closes and Ends of the tick are whole
  pub calls_whole : ((y : Entry) → IsIn y ys → 3 * t + 1 < moment y) → CallsAreWhole s c xs t
  calls_whole later = record {
    closed = λ g r at. once_before (is_close g r) (in_plan s c g r) t xs ys (subst (λ u. StandsOnce (is_close g r) (in_plan s c g r) u (xs ++ ys)) at (closed g r))
        (λ y there. ⊎_elim
        (λ yes. (let when = once_at (is_close g r) (in_plan s c g r) (r + c.w1) (xs ++ ys) (closed g r) y (in_append y xs ys (inr there)) yes in
        let now : y.tick ≡ t = when.1 ∙ at in let h = later y there in not_closed g r (event_of y.line) (omega arith)))
        (λ no. no) (cases_Bool (is_close g r (event_of y.line))));
    ended = λ g r at. once_before (is_end g r) (in_plan s c g r) t xs ys (subst (λ u. StandsOnce (is_end g r) (in_plan s c g r) u (xs ++ ys)) at (ended g r))
        (λ y there. ⊎_elim
        (λ yes. (let when = once_at (is_end g r) (in_plan s c g r) (r + c.w1 + c.w2) (xs ++ ys) (ended g r) y (in_append y xs ys (inr there)) yes in
        let now : y.tick ≡ t = when.1 ∙ at in let h = later y there in not_ended g r (event_of y.line) (omega arith)))
        (λ no. no) (cases_Bool (is_end g r (event_of y.line))));
  }

  is_closed_by : CallsAreWhole s c xs t → (g r : ℕ) → g < length s.groups → r < c.rounds → r + c.w1 ≡ t → is_closed g r (reverse (events_of xs)) ≡ true
  is_closed_by calls g r g_in r_in at =
      let there : in_plan s c g r ≡ true = and_from (nat_lt g (length s.groups)) (nat_lt r c.rounds) (lt-ltb g (length s.groups) g_in) (lt-ltb r c.rounds r_in) in
      let one : cond {A = ℕ} (in_plan s c g r) 1 0 ≡ 1 = ap (λ q. cond q 1 0) there in
      closed_from_count g r xs (omega (arith, one, once_count (is_close g r) (in_plan s c g r) t xs (calls.closed g r at)))

  due_parts : (zs : List Entry) (g : ℕ) → due_of s c zs t g ≡ readings_by plan s.present t g ++ rest_by plan s.present zs t g
  due_parts zs g = append_assoc (readings_by plan s.present t g) _ _

  -- the tick calls for the same
  pub due_stays : ((y : Entry) → IsIn y ys → 3 * t + 1 < moment y) → due_at s c (xs ++ ys) t ≡ due_at s c xs t
  due_stays later =
      flat_map_same (length s.groups) 0 (due_of s c (xs ++ ys) t) (due_of s c xs t)
      (λ g above below. due_parts (xs ++ ys) g
      ∙ ap (λ l. readings_by plan s.present t g ++ l) (rest_stays plan s.present xs ys t g
      (λ r r_in at. is_closed_by (calls_whole later) g r (omega arith) r_in at) (none_taken (λ y at. let h = later y at in omega arith)))
      ∙ sym (due_parts xs g))

  -- what the tick is still to send stands in the rest
  pub sends_left : ((y : Entry) → IsIn y ys → 3 * t + 1 < moment y) → due_at s c xs t ≡ sent_at xs t ++ sent_at ys t
  sends_left later = sym (due_stays later) ∙ sym (sent t) ∙ sent-append xs ys t

  -- the Sends of the tick are whole
  pub sends_whole : ((y : Entry) → IsIn y ys → 3 * t + 2 < moment y) → SendsAreWhole s c xs t
  sends_whole later =
      let none : sent_at ys t ≡ [] = sent-none ys t (λ y at now. (let h = later y at in let p = phase_most (event_of y.line) in absurd (omega arith))) in
      sym (append-nil (sent_at xs t)) ∙ sym (ap (λ l. sent_at xs t ++ l) none) ∙ sym (sends_left (λ y at. let h = later y at in omega arith))
