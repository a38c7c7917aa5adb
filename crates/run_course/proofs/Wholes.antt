-- Entries that keep to their times through the last tick are a run, for the readings that they send and a lane with their fates.
use Rattle.std.proofs.Common.{◌≡◌, ℕ, ◌+◌, ◌-◌, ◌<◌, ◌≤◌, Bool, true, false, cond, ◌&&◌, List, [], ◌∷◌, ◌++◌, length, get_or, map, refl, sym, ap, ◌∙◌, subst, ⊎_elim, inl, inr, arith, append_assoc}
use Rattle.std.specs.Prelude.{◌==◌, nat_lt, nat_le, if◌then◌else◌}
use Rattle.std.specs.List.{filter, flat_map, range_with_len, count_by, All}
use Rattle.std.proofs.lemmas.Bool.{false≢true, and_parts, and_from, or_cases, or_left, or_right, cases_lt, cases_Bool, ne_eqb, eq-eqb, eqb-true, ltb-true, le-leb}
use Rattle.std.proofs.lemmas.List.{map-append, length-map}
use Rattle.std.proofs.lemmas.List.Sums.{sum_by-cons}
use Rattle.group_plan.specs.declared.Kind.{Kind}
use Rattle.group_plan.specs.declared.Kind.TheVariants.{Reading, Announcement, Answer}
use Rattle.group_plan.specs.declared.Tag.{Tag}
use Rattle.group_plan.specs.Plans.{PlanView, IsWithinLimits}
use Rattle.link_lanes.specs.declared.Post.{Post}
use Rattle.link_lanes.specs.Lanes.{Slot, hangs_at, fates_after}
use Rattle.event_schedule.specs.declared.Event.{Event}
use Rattle.event_schedule.specs.declared.Event.TheVariants.{Send, Take, Close, End}
use Rattle.event_schedule.specs.declared.Entry.{Entry}
use Rattle.event_schedule.specs.Events.{event_of, is_tag, is_send, is_close, is_end}
use Rattle.event_schedule.proofs.EventLemmas.{is_send-true, is_send-itself}
use Rattle.run_rows.specs.Ticks.{clock_of, last_tick, tag_of, takes_at, sent_at, due_of, posts_of, tags_of, StandsOnce}
use Rattle.run_course.specs.declared.waiting.Arrival.{Arrival}
use Rattle.run_course.specs.Beginnings.{shape_where, IsSomeRun}
use Rattle.run_course.specs.Lists.{IsIn}
use Rattle.run_course.specs.Sends.{is_reading, is_read_in, owed}
use Rattle.run_course.specs.Stages.{Stage, is_round_of, AreCalled, Ascends, all_ranks, IsWholeTick, IsSendInTime, IsInTime, CanCome, last_of, Follows}
use Rattle.run_course.proofs.Members.{all_in, all_from_in, in_from_flat_map, in_from_map, in_append, in_flat_map, in_from_cond, in_cond}
use Rattle.run_course.proofs.Ranks.{same_from_members}
use Rattle.run_course.proofs.Calls.{due_ascends, due_from, due_of_rest, due_of_reading, rest_by, owed_is}
use Rattle.run_course.proofs.Stays.{all_where}
use Rattle.run_course.proofs.Entries.{sent-elsewhere, takes-elsewhere}

-- ---- what is read

pub read_in : (xs : List Entry) (g r i : ℕ) → is_read_in xs g r i ≡ true → (e : Entry) × IsIn e xs × (event_of e.line ≡ Send (tag_of Reading g r i))
read_in [] g r i h = absurd (false≢true h)
read_in (x ∷ xs) g r i h =
    ⊎_elim (λ now. (x, inl refl, is_send-true g r i Reading (event_of x.line) now)) (λ later. let found = read_in xs g r i later in (found.0, inr found.1, found.2))
    (or_cases (is_send g r i Reading (event_of x.line)) (is_read_in xs g r i) h)

pub in_sent : (xs : List Entry) (t : ℕ) (y : Tag) → IsIn y (sent_at xs t) → (e : Entry) × IsIn e xs × (e.tick ≡ t) × (event_of e.line ≡ Send y)
in_sent xs t y at =
    let found = in_from_flat_map (λ (e : Entry). if e.tick == t then tags_of (event_of e.line) else []) y xs at in
    let inner = in_cond y (found.0.tick == t) (tags_of (event_of found.0.line)) found.2 in
    (found.0, found.1, eqb-true found.0.tick t inner.0, by_event (event_of found.0.line) inner.1)
  where
    by_event : (v : Event) → IsIn y (tags_of v) → v ≡ Send y
    by_event (Send z) at = ⊎_elim (λ e. ap Send e) (λ none. absurd none) at
    by_event (Take z) at = absurd at
    by_event (Close g r) at = absurd at
    by_event (End g r) at = absurd at

pub sent_of : (xs : List Entry) (t : ℕ) (y : Tag) (e : Entry) → IsIn e xs → e.tick ≡ t → event_of e.line ≡ Send y → IsIn y (sent_at xs t)
sent_of xs t y e at tick is =
    in_flat_map (λ (x : Entry). if x.tick == t then tags_of (event_of x.line) else []) y e xs at
    (in_from_cond y (e.tick == t) (tags_of (event_of e.line)) (eq-eqb e.tick t tick) (subst (λ v. IsIn y (tags_of v)) (sym is) (inl refl)))

reading_is : (k : Kind) → is_reading k ≡ true → k ≡ Reading
reading_is Reading h = refl
reading_is Announcement h = absurd (false≢true h)
reading_is Answer h = absurd (false≢true h)

read_of : (xs : List Entry) (e : Entry) (y : Tag) → IsIn e xs → event_of e.line ≡ Send y → y.kind ≡ Reading → is_read_in xs y.group y.round y.meter ≡ true
read_of [] e y at is kind = absurd at
read_of (x ∷ xs) e y at is kind =
    ⊎_elim
    (λ here. or_left (is_send y.group y.round y.meter Reading (event_of x.line)) (is_read_in xs y.group y.round y.meter)
    (ap (λ (z : Entry). is_send y.group y.round y.meter Reading (event_of z.line)) here ∙ ap (is_send y.group y.round y.meter Reading) (is ∙ ap Send y_is) ∙ is_send-itself y.group y.round y.meter Reading))
    (λ there. or_right (is_send y.group y.round y.meter Reading (event_of x.line)) (is_read_in xs y.group y.round y.meter) (read_of xs e y there is kind)) at
  where
    y_is : y ≡ tag_of Reading y.group y.round y.meter
    y_is = ap (λ k. record { group = y.group; round = y.round; meter = y.meter; kind = k }) kind

-- ---- whole ticks

sends_are : (plan : PlanView) → IsWithinLimits plan → (xs : List Entry) (t : ℕ) → All (λ e. IsInTime plan e (event_of e.line)) xs → IsWholeTick plan xs t
    → sent_at xs t ≡ flat_map (due_of (shape_where plan (is_read_in xs)) (clock_of plan) xs t) (range_with_len 0 (length plan.groups))
sends_are plan limits xs t in_time whole =
    let due : List Tag = flat_map (due_of (shape_where plan (is_read_in xs)) (clock_of plan) xs t) (range_with_len 0 (length plan.groups)) in
    let rest : flat_map (rest_by plan (is_read_in xs) xs t) (range_with_len 0 (length plan.groups)) ≡ owed plan xs t = all_where plan (is_read_in xs) xs t (λ g r i h. h) in
    same_from_members 0 (all_ranks plan) (sent_at xs t) due whole.ascends (due_ascends plan limits (is_read_in xs) xs t)
    (λ y at. ⊎_elim
    (λ yes.
    let from = in_sent xs t y at in
    let kind : y.kind ≡ Reading = reading_is y.kind yes in
    let fits : IsSendInTime plan from.0 y = subst (IsInTime plan from.0) from.3 (all_in (λ e. IsInTime plan e (event_of e.line)) xs in_time from.0 from.1) in
    let reading = fits.reading kind in
    due_of_reading plan (is_read_in xs) xs t y (record {
      group = fits.group;
      round = fits.round;
      now = sym reading.0 ∙ from.2;
      kind = kind;
      member = reading.1;
      here = read_of xs from.0 y from.1 from.3 kind;
    }))
    (λ no. due_of_rest plan (is_read_in xs) xs t y (subst (IsIn y) (sym rest) (whole.only y at no)))
    (cases_Bool (is_reading y.kind)))
    (λ y at. ⊎_elim
    (λ read.
    let found = read_in xs y.group y.round y.meter read.here in
    let y_is : tag_of Reading y.group y.round y.meter ≡ y = ap (λ k. record { group = y.group; round = y.round; meter = y.meter; kind = k }) (sym read.kind) in
    let is : event_of found.0.line ≡ Send y = found.2 ∙ ap Send y_is in
    let fits : IsSendInTime plan found.0 y = subst (IsInTime plan found.0) is (all_in (λ e. IsInTime plan e (event_of e.line)) xs in_time found.0 found.1) in
    sent_of xs t y found.0 found.1 ((fits.reading read.kind).0 ∙ read.now) is)
    (λ other. whole.each y (subst (IsIn y) rest other))
    (due_from plan (is_read_in xs) xs t y at))

-- no tick after the last has a Send
whole_beyond : (plan : PlanView) → IsWithinLimits plan → (xs : List Entry) (t : ℕ) → All (λ e. e.tick ≤ last_tick (clock_of plan)) xs → last_tick (clock_of plan) < t → IsWholeTick plan xs t
whole_beyond plan limits xs t within late =
    let none : sent_at xs t ≡ [] = sent-elsewhere xs t (λ e at is. let h = all_in (λ e. e.tick ≤ last_tick (clock_of plan)) xs within e at in omega arith) in
    record {
      ascends = subst (Ascends 0 (all_ranks plan)) (sym none) (omega arith);
      only = λ y at other. absurd (subst (IsIn y) none at);
      each = λ y at.
          let from = owed_is plan xs t y at in
          let round : y.round < plan.rounds = from.round in
          absurd (⊎_elim (λ announced. let e : y.round + plan.w1 ≡ t = announced.1 in omega arith)
          (λ answered. let pos : 0 < takes_at xs (tag_of Announcement y.group y.round y.meter) t = answered.1 in
          let zero_takes = takes-elsewhere xs t (λ e at is. let h = all_in (λ e. e.tick ≤ last_tick (clock_of plan)) xs within e at in omega arith) (tag_of Announcement y.group y.round y.meter) in omega arith)
          from.from);
    }

-- ---- rounds that are called once

stand_at : (test : Event → Bool) (tick : ℕ) (xs : List Entry) → ((e : Entry) → IsIn e xs → test (event_of e.line) ≡ true → e.tick ≡ tick) → (q : Bool)
    → count_by (λ e. test (event_of e.line)) xs ≡ cond q 1 0 → StandsOnce test q tick xs
stand_at test tick [] when true h = absurd (omega arith)
stand_at test tick [] when false h = refl
stand_at test tick (x ∷ xs) when q h =
    split (test (event_of x.line)) refl q h (stand_at test tick xs (λ e at. when e (inr at)))
  where
    split : (b : Bool) → test (event_of x.line) ≡ b → (q : Bool) → count_by (λ e. test (event_of e.line)) (x ∷ xs) ≡ cond q 1 0
        → ((q : Bool) → count_by (λ e. test (event_of e.line)) xs ≡ cond q 1 0 → StandsOnce test q tick xs)
        → map (λ e. e.tick) (cond b (x ∷ filter (λ e. test (event_of e.line)) xs) (filter (λ e. test (event_of e.line)) xs)) ≡ cond q (tick ∷ []) []
    split true is true h later =
        let e : cond {A = ℕ} (test (event_of x.line)) 1 0 ≡ 1 = ap (λ b. cond b 1 0) is in
        ap (λ t. t ∷ map (λ (z : Entry). z.tick) (filter (λ (z : Entry). test (event_of z.line)) xs)) (when x (inl refl) is)
        ∙ ap (λ l. tick ∷ l) (later false (omega (arith, h, sum_by-cons (λ (z : Entry). cond (test (event_of z.line)) 1 0) x xs, e)))
    split true is false h later =
        let e : cond {A = ℕ} (test (event_of x.line)) 1 0 ≡ 1 = ap (λ b. cond b 1 0) is in
        absurd (omega (arith, h, sum_by-cons (λ (z : Entry). cond (test (event_of z.line)) 1 0) x xs, e))
    split false is q h later =
        let e : cond {A = ℕ} (test (event_of x.line)) 1 0 ≡ 0 = ap (λ b. cond b 1 0) is in
        later q (omega (arith, h, sum_by-cons (λ (z : Entry). cond (test (event_of z.line)) 1 0) x xs, e))

called_through : (plan : PlanView) → IsWithinLimits plan → (test : ℕ → ℕ → Event → Bool) (window : ℕ) (xs : List Entry) (tick : ℕ) (groups : List ℕ)
    → AreCalled plan test window xs tick groups → (plan.rounds - 1 + window < tick) → (g r : ℕ) → StandsOnce (test g r) (is_round_of plan g r) (r + window) xs
called_through plan limits test window xs tick groups called late g r =
    stand_at (test g r) (r + window) xs (all_in (λ e. test g r (event_of e.line) ≡ true → e.tick ≡ r + window) xs (called.when g r)) (is_round_of plan g r)
    (split (is_round_of plan g r) refl (called.counted g r))
  where
    some : 1 ≤ plan.rounds
    some = limits.some_round

    split : (q : Bool) → is_round_of plan g r ≡ q
        → count_by (λ e. test g r (event_of e.line)) xs + cond (r + window == tick) (count_by (λ h. h == g) groups) 0 ≡ cond (q && nat_le (r + window) tick) 1 0
        → count_by (λ e. test g r (event_of e.line)) xs ≡ cond q 1 0
    split false is total = omega (arith, total)
    split true is total =
        let r_in : r < plan.rounds = ltb-true r plan.rounds (and_parts (nat_lt g (length plan.groups)) (nat_lt r plan.rounds) is).1 in
        let few : 1 ≤ plan.rounds = some in
        let a : cond {A = ℕ} (nat_le (r + window) tick) 1 0 ≡ 1 = ap (λ b. cond b 1 0) (le-leb (r + window) tick (omega arith)) in
        let b : cond {A = ℕ} (r + window == tick) (count_by (λ h. h == g) groups) 0 ≡ 0 = ap (λ b. cond b (count_by (λ h. h == g) groups) 0) (ne_eqb (r + window) tick (λ e. omega arith)) in
        omega (arith, total, a, b)

-- ---- a lane with given fates

-- a lane that answers these fates one after another, through this tick
abbrev pub lane_of : List (List ℕ) → ℕ → Slot
lane_of fates last =
    record { lane = record { called = []; fits = λ arg. true; count = 0; answer = λ k tag coming. get_or fates k []; given = λ arg k tag coming. get_or fates k [] }; from = 0; to = last }

hangs : (fates : List (List ℕ)) (last : ℕ) (before : List Post) → ((p : Post) → IsIn p before → p.tick ≤ last) → count_by (λ p. hangs_at p.tick (lane_of fates last)) before ≡ length before
hangs fates last [] within = refl
hangs fates last (p ∷ before) within =
    let h : hangs_at p.tick (lane_of fates last) ≡ true = and_from (nat_le 0 p.tick) (nat_le p.tick last) (le-leb 0 p.tick (omega arith)) (le-leb p.tick last (within p (inl refl))) in
    let e : cond {A = ℕ} (hangs_at p.tick (lane_of fates last)) 1 0 ≡ 1 = ap (λ b. cond b 1 0) h in
    omega (arith, sum_by-cons (λ (q : Post). cond (hangs_at q.tick (lane_of fates last)) 1 0) p before, e, hangs fates last before (λ q at. within q (inr at)))

nth_after : (before : List (List ℕ)) (fate : List ℕ) (rest : List (List ℕ)) → get_or (before ++ fate ∷ rest) (length before) [] ≡ fate
nth_after [] fate rest = refl
nth_after (b ∷ before) fate rest = nth_after before fate rest

given_fates : (last : ℕ) (before posts : List Post) → ((p : Post) → IsIn p (before ++ posts) → p.tick ≤ last)
    → map (λ p. p.fate) posts ≡ fates_after (lane_of (map (λ p. p.fate) (before ++ posts)) last ∷ []) before posts
given_fates last before [] within = refl
given_fates last before (p ∷ posts) within =
    let fates : List (List ℕ) = map (λ p. p.fate) (before ++ p ∷ posts) in
    let h : hangs_at p.tick (lane_of fates last) ≡ true
    = and_from (nat_le 0 p.tick) (nat_le p.tick last) (le-leb 0 p.tick (omega arith)) (le-leb p.tick last (within p (in_append p before (p ∷ posts) (inr (inl refl))))) in
    let count : count_by (λ q. hangs_at q.tick (lane_of fates last)) before ≡ length before = hangs fates last before (λ q at. within q (in_append q before (p ∷ posts) (inl at))) in
    let is : fates ≡ map (λ (q : Post). q.fate) before ++ p.fate ∷ map (λ (q : Post). q.fate) posts = map-append (λ (q : Post). q.fate) before (p ∷ posts) in
    let nth : get_or fates (length before) [] ≡ p.fate
    = ap (λ fs. get_or fs (length before) []) is ∙ ap (λ n. get_or (map (λ (q : Post). q.fate) before ++ p.fate ∷ map (λ (q : Post). q.fate) posts) n []) (sym (length-map before (λ (q : Post). q.fate)))
    ∙ nth_after (map (λ (q : Post). q.fate) before) p.fate (map (λ (q : Post). q.fate) posts) in
    let here : p.fate ≡ cond (hangs_at p.tick (lane_of fates last)) (get_or fates (0 + count_by (λ q. hangs_at q.tick (lane_of fates last)) before) []) (1 ∷ [])
    = sym (ap (λ b. cond b (get_or fates (0 + count_by (λ q. hangs_at q.tick (lane_of fates last)) before) []) (1 ∷ [])) h
    ∙ ap (λ n. get_or fates n []) (let z : 0 + count_by (λ q. hangs_at q.tick (lane_of fates last)) before ≡ length before = omega (arith, count) in z) ∙ nth) in
    let again : (before ++ p ∷ []) ++ posts ≡ before ++ p ∷ posts = append_assoc before (p ∷ []) posts in
    let more : map (λ (q : Post). q.fate) posts ≡ fates_after (lane_of fates last ∷ []) (before ++ p ∷ []) posts
    = subst (λ (all : List Post). map (λ (q : Post). q.fate) posts ≡ fates_after (lane_of (map (λ (q : Post). q.fate) all) last ∷ []) (before ++ p ∷ []) posts) again
    (given_fates last (before ++ p ∷ []) posts (λ q at. within q (subst (IsIn q) again at))) in
    ap (λ f. f ∷ map (λ (q : Post). q.fate) posts) here
    ∙ ap (λ fs. cond (hangs_at p.tick (lane_of fates last)) (get_or fates (0 + count_by (λ q. hangs_at q.tick (lane_of fates last)) before) []) (1 ∷ []) ∷ fs) more

post_tick : (xs : List Entry) (p : Post) → IsIn p (posts_of xs) → (e : Entry) × IsIn e xs × (e.tick ≡ p.tick)
post_tick xs p at =
    let found = in_from_flat_map (λ (e : Entry). map (λ tag. record { tick = e.tick; tag = tag; fate = e.fate }) (tags_of (event_of e.line))) p xs at in
    let made = in_from_map (λ tag. record { tick = found.0.tick; tag = tag; fate = found.0.fate }) p (tags_of (event_of found.0.line)) found.2 in
    (found.0, found.1, ap (λ (q : Post). q.tick) made.2)

-- ---- a run

nothing_due : (plan : PlanView) → IsWithinLimits plan → (due : List Tag) (t : ℕ) → last_tick (clock_of plan) < t → All (λ tag. CanCome plan tag t) due → due ≡ []
nothing_due plan limits [] t late can = refl
nothing_due plan limits (tag ∷ due) t late can =
    absurd (let h = all_in (λ tag. CanCome plan tag t) (tag ∷ due) can tag (inl refl) in not_after plan limits tag tag.kind t h.round h.before late)
  where
    not_after : (plan : PlanView) → IsWithinLimits plan → (tag : Tag) (k : Kind) (t : ℕ) → tag.round < plan.rounds → t ≤ last_of plan tag k → last_tick (clock_of plan) < t → ⊥
    not_after plan limits tag Reading t round before late = let w1 = limits.w1_from in omega arith
    not_after plan limits tag Announcement t round before late = let w1 = limits.w1_from in omega arith
    not_after plan limits tag Answer t round before late = let w1 = limits.w1_from in omega arith

nothing_later : (plan : PlanView) → IsWithinLimits plan → (later : List Arrival) (t : ℕ) → last_tick (clock_of plan) < t → All (λ a. t < a.tick) later → All (λ a. CanCome plan a.tag a.tick) later → later ≡ []
nothing_later plan limits [] t late ahead can = refl
nothing_later plan limits (a ∷ later) t late ahead can =
    let after = all_in (λ a. t < a.tick) (a ∷ later) ahead a (inl refl) in
    let none = nothing_due plan limits (a.tag ∷ []) a.tick (omega arith)
    (all_from_in (λ tag. CanCome plan tag a.tick) (a.tag ∷ []) (λ z at. ⊎_elim (λ e. subst (λ y. CanCome plan y a.tick) e (all_in (λ a. CanCome plan a.tag a.tick) (a ∷ later) can a (inl refl))) (λ n. absurd n) at)) in
    absurd (cc none)

-- entries that keep to their times through the last tick are a run
pub run_of : (plan : PlanView) → IsWithinLimits plan → (xs : List Entry) (st : Stage) → Follows plan xs st → last_tick (clock_of plan) < st.tick → IsSomeRun plan xs
run_of plan limits xs st f late =
    let due_none : st.due ≡ [] = nothing_due plan limits st.due st.tick late f.due_can in
    let later_none : st.later ≡ [] = nothing_later plan limits st.later st.tick late f.ahead f.later_can in
    let fates : List (List ℕ) = map (λ p. p.fate) (posts_of xs) in
    record {
      present = is_read_in xs;
      slots = lane_of fates (last_tick (clock_of plan)) ∷ [];
      within = record {
        places = λ g r i h.
            let found = read_in xs g r i h in
            let fits : IsSendInTime plan found.0 (tag_of Reading g r i) = subst (IsInTime plan found.0) found.2 (all_in (λ e. IsInTime plan e (event_of e.line)) xs f.in_time found.0 found.1) in
            (fits.group, fits.round, (fits.reading refl).1);
        first_window = let h = limits.w1_from in omega arith;
        open_window = let h = limits.w2_from in omega arith;
      };
      run = record {
        ordered = f.ordered;
        within = f.within;
        taken = λ tag t.
            let a : cond (t == st.tick) (count_by (is_tag tag.group tag.round tag.meter tag.kind) st.due) 0 ≡ 0
            = ap (λ d. cond (t == st.tick) (count_by (is_tag tag.group tag.round tag.meter tag.kind) d) 0) due_none ∙ zero_or (t == st.tick) in
            let b : count_by (λ a. is_tag tag.group tag.round tag.meter tag.kind a.tag && (a.tick == t)) st.later ≡ 0
            = ap (count_by (λ (a : Arrival). is_tag tag.group tag.round tag.meter tag.kind a.tag && (a.tick == t))) later_none in
            omega (arith, f.taken tag t, a, b);
        closed = called_through plan limits is_close plan.w1 xs st.tick st.closing f.closed (omega arith);
        ended = λ g r.
            let e : r + (plan.w1 + plan.w2) ≡ r + plan.w1 + plan.w2 = omega arith in
            subst (λ t. StandsOnce (is_end g r) (is_round_of plan g r) t xs) e (called_through plan limits is_end (plan.w1 + plan.w2) xs st.tick st.ending f.ended (omega arith) g r);
        sent = λ t. sends_are plan limits xs t f.in_time (⊎_elim (λ before. f.whole t before) (λ after. whole_beyond plan limits xs t f.within (omega arith)) (cases_lt t st.tick));
        fates = given_fates (last_tick (clock_of plan)) [] (posts_of xs) (λ p at. let from = post_tick xs p at in let h = all_in (λ e. e.tick ≤ last_tick (clock_of plan)) xs f.within from.0 from.1 in let is = from.2 in omega arith);
        others = f.others;
      };
      fates = f.fates;
      posted = f.posted;
    }
  where
    zero_or : (q : Bool) → cond {A = ℕ} q 0 0 ≡ 0
    zero_or true = refl
    zero_or false = refl
