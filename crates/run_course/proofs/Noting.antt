-- The tables of what came: they say what is owed, and note each Take.
use Rattle.std.proofs.Common.{◌≡◌, ℕ, ◌+◌, ◌*◌, ◌<◌, ◌≤◌, Bool, true, false, cond, not, ◌&&◌, ◌||◌, List, [], ◌∷◌, ◌++◌, length, ◌⊎◌, refl, sym, ap, ◌∙◌, subst, ⊎_elim, inl, inr, arith, Option}
use Rattle.std.specs.Prelude.{◌==◌, nat_lt, nat_le, if◌then◌else◌, reverse, Some}
use mathlib.Core.Path.{fun_ext}
use Rattle.std.specs.List.{filter, flat_map, range_with_len, sum_by, count_by, All}
use Rattle.std.proofs.lemmas.Bool.{false≢true, both_ways, and_parts, and_from, and_right, or_cases, cases_eq, cases_lt, cases_Bool, ne_eqb, eq-eqb, eqb-true, lt-ltb, ltb-true, le-ltb, le-leb, lt-leb, false_from_ne_true}
use Rattle.std.proofs.lemmas.List.Sums.{sum_by-cons}
use Rattle.group_plan.specs.declared.Kind.{Kind}
use Rattle.group_plan.specs.declared.Kind.TheVariants.{Reading, Announcement, Answer}
use Rattle.group_plan.specs.declared.Tag.{Tag}
use Rattle.group_plan.specs.Plans.{PlanView, size, is_member, floor_of}
use Rattle.group_plan.specs.Tables.{Table, ReadingsView, reading, is_same_place}
use Rattle.event_schedule.specs.declared.Event.{Event}
use Rattle.event_schedule.specs.declared.Event.TheVariants.{Send, Take}
use Rattle.event_schedule.specs.declared.Entry.{Entry}
use Rattle.event_schedule.specs.Events.{once, event_of, events_of, is_tag, same_kind, is_send, is_take, is_close}
use Rattle.event_schedule.specs.Schedule.{Shape, members_of, survivors, is_announced, is_closed, is_reading_sent, is_reading_taken}
use Rattle.event_schedule.proofs.EventLemmas.{is_send-true}
use Rattle.event_schedule.proofs.ListLemmas.{flat_map_same}
use Rattle.event_schedule.proofs.ScheduleLemmas.{after, once-cons, once-now, once-more, after-reverse, is_reading_taken-closed}
use Rattle.run_rows.specs.Ticks.{moment, phase, tag_of, tags, takes_at, copies}
use Rattle.run_rows.proofs.TickLemmas.{phase_close}
use Rattle.run_course.specs.Lists.{IsIn}
use Rattle.run_course.specs.Marks.{is_noted, marked, Marks, NotesTake, announced_marks, answered_marks, owed_by_marks, owed_marks, AreNoted}
use Rattle.run_course.specs.Sends.{all_present, owed_by, owed}
use Rattle.run_course.specs.Stages.{Stage, CouldCome, CanCome, Follows}
use Rattle.run_course.proofs.Members.{all_in}
use Rattle.run_course.proofs.Stays.{past-append, takes-append}
use Rattle.run_course.proofs.Entries.{count-one, in_count, closed_by_now, takes-elsewhere}
use Rattle.run_course.proofs.Finishing.{taken_is}

-- ---- what is owed

filter_filter : (p m : ℕ → Bool) (xs : List ℕ) → filter (λ i. m i && p i) xs ≡ filter p (filter m xs)
filter_filter p m [] = refl
filter_filter p m (x ∷ xs) = split (m x) (filter_filter p m xs)
  where
    split : (b : Bool) → filter (λ i. m i && p i) xs ≡ filter p (filter m xs)
        → cond (b && p x) (x ∷ filter (λ i. m i && p i) xs) (filter (λ i. m i && p i) xs) ≡ filter p (cond b (x ∷ filter m xs) (filter m xs))
    split true ih = ap (λ l. cond (p x) (x ∷ l) l) ih
    split false ih = ih

marked_are : (plan : PlanView) (table : Table (Option ℕ)) (from g r : ℕ) (p : ℕ → Bool) → ((i : ℕ) → is_noted from (reading table g r i) ≡ (is_member plan.groups g r i && p i))
    → marked (record { plan = plan; table = table }) from g r ≡ filter p (filter (is_member plan.groups g r) (range_with_len 0 (size plan.groups g)))
marked_are plan table from g r p are = ap (λ f. filter f (range_with_len 0 (size plan.groups g))) (fun_ext are) ∙ filter_filter p (is_member plan.groups g r) (range_with_len 0 (size plan.groups g))

announced_are : (plan : PlanView) (xs : List Entry) (t g r : ℕ) (table : Table (Option ℕ))
    → ((i : ℕ) → is_noted 0 (reading table g r i) ≡ (is_member plan.groups g r i && is_reading_taken (all_present plan) g r i (reverse (events_of xs))))
    → (r + plan.w1 ≡ t → is_closed g r (reverse (events_of xs)) ≡ true)
    → announced_marks (record { plan = plan; table = table }) t g r
    ≡ (if (r + plan.w1 == t) && is_announced (all_present plan) g r (reverse (events_of xs)) then tags Announcement g r (survivors (all_present plan) g r (reverse (events_of xs))) else [])
announced_are plan xs t g r table are closed =
    let past : List Event = reverse (events_of xs) in
    let f : Bool → Bool → List ℕ → List Tag = λ q b ms. if q && (b && nat_le (floor_of plan.groups g) (length ms)) then tags Announcement g r ms else [] in
    let same : marked (record { plan = plan; table = table }) 0 g r ≡ survivors (all_present plan) g r past
    = marked_are plan table 0 g r (λ i. is_reading_taken (all_present plan) g r i past) are in
    ap (f (r + plan.w1 == t) true) same
    ∙ ⊎_elim (λ e. ap (λ b. f (r + plan.w1 == t) b (survivors (all_present plan) g r past)) (sym (closed e)))
    (λ ne. ap (λ q. f q true (survivors (all_present plan) g r past)) (ne_eqb (r + plan.w1) t ne) ∙ sym (ap (λ q. f q (is_closed g r past) (survivors (all_present plan) g r past)) (ne_eqb (r + plan.w1) t ne)))
    (cases_eq (r + plan.w1) t)

none_kept : (p : ℕ → Bool) (xs : List ℕ) → ((i : ℕ) → p i ≡ false) → filter p xs ≡ []
none_kept p [] none = refl
none_kept p (x ∷ xs) none = ap (λ b. cond b (x ∷ filter p xs) (filter p xs)) (none x) ∙ none_kept p xs none

answered_are : (plan : PlanView) (xs : List Entry) (t g r : ℕ) (table : Table (Option ℕ))
    → ((i : ℕ) → is_noted t (reading table g r i) ≡ (is_member plan.groups g r i && nat_lt 0 (takes_at xs (tag_of Announcement g r i) t)))
    → All (λ e. CouldCome plan e.tick (event_of e.line)) xs
    → answered_marks (record { plan = plan; table = table }) t g r
    ≡ tags Answer g r (filter (λ i. nat_lt 0 (takes_at xs (tag_of Announcement g r i) t)) (members_of (all_present plan) g r))
answered_are plan xs t g r table are could =
    let same : marked (record { plan = plan; table = table }) t g r ≡ filter (λ i. nat_lt 0 (takes_at xs (tag_of Announcement g r i) t)) (members_of (all_present plan) g r)
    = marked_are plan table t g r (λ i. nat_lt 0 (takes_at xs (tag_of Announcement g r i) t)) are in
    ap (λ ms. if nat_lt (r + plan.w1) t && nat_le t (r + plan.w1 + 16) then tags Answer g r ms else []) same
    ∙ ⊎_elim (λ yes. ap (λ b. cond b (tags Answer g r (filter (λ i. nat_lt 0 (takes_at xs (tag_of Announcement g r i) t)) (members_of (all_present plan) g r))) []) yes)
    (λ no. ap (λ b. cond b (tags Answer g r (filter (λ i. nat_lt 0 (takes_at xs (tag_of Announcement g r i) t)) (members_of (all_present plan) g r))) []) no
    ∙ sym (ap (tags Answer g r) (none_kept (λ i. nat_lt 0 (takes_at xs (tag_of Announcement g r i) t)) (members_of (all_present plan) g r)
    (λ i. false_from_ne_true (nat_lt 0 (takes_at xs (tag_of Announcement g r i) t)) (λ h.
    let found = taken_is xs (tag_of Announcement g r i) t (ltb-true 0 (takes_at xs (tag_of Announcement g r i) t) h) in
    let can : CanCome plan (tag_of Announcement g r i) found.0.tick = subst (CouldCome plan found.0.tick) found.3 (all_in (λ e. CouldCome plan e.tick (event_of e.line)) xs could found.0 found.1) in
    let low : r + plan.w1 < found.0.tick = can.after in
    let high : found.0.tick ≤ r + plan.w1 + 16 = can.before in
    let now : found.0.tick ≡ t = found.2 in
    both_ways (nat_lt (r + plan.w1) t && nat_le t (r + plan.w1 + 16)) no (and_from (nat_lt (r + plan.w1) t) (nat_le t (r + plan.w1 + 16)) (lt-ltb (r + plan.w1) t (omega arith)) (le-leb t (r + plan.w1 + 16) (omega arith))))))))
    (cases_Bool (nat_lt (r + plan.w1) t && nat_le t (r + plan.w1 + 16)))

-- the tables say what is owed
pub owed_noted : (plan : PlanView) (xs : List Entry) (st : Stage) (came heard : ReadingsView) → Follows plan xs st → st.closing ≡ [] → AreNoted plan xs st.tick came heard → owed_marks came heard st.tick ≡ owed plan xs st.tick
owed_noted plan xs st came heard f closing noted =
    let t : ℕ = st.tick in
    let came_is : came ≡ record { plan = plan; table = came.table } = ap (λ (p : PlanView). record { plan = p; table = came.table }) noted.came_plan in
    let heard_is : heard ≡ record { plan = plan; table = heard.table } = ap (λ (p : PlanView). record { plan = p; table = heard.table }) noted.heard_plan in
    let c : ReadingsView = record { plan = plan; table = came.table } in
    let h : ReadingsView = record { plan = plan; table = heard.table } in
    ap (λ (x : ReadingsView). owed_marks x heard t) came_is ∙ ap (λ (x : ReadingsView). owed_marks c x t) heard_is
    ∙ flat_map_same (length plan.groups) 0 (owed_by_marks c h t) (owed_by plan xs t)
    (λ g above below.
    ap (λ l. l ++ flat_map (answered_marks h t g) (range_with_len 0 plan.rounds))
    (flat_map_same plan.rounds 0 (announced_marks c t g) (λ r. if (r + plan.w1 == t) && is_announced (all_present plan) g r (reverse (events_of xs)) then tags Announcement g r (survivors (all_present plan) g r (reverse (events_of xs))) else [])
    (λ r low high. announced_are plan xs t g r came.table (noted.came_are g r) (closed_by_now plan xs t st.closing f.closed t (inr (refl, closing)) g r (omega arith) (omega arith))))
    ∙ ap (λ l. flat_map (λ r. if (r + plan.w1 == t) && is_announced (all_present plan) g r (reverse (events_of xs)) then tags Announcement g r (survivors (all_present plan) g r (reverse (events_of xs))) else []) (range_with_len 0 plan.rounds) ++ l)
    (flat_map_same plan.rounds 0 (answered_marks h t g) (λ r. tags Answer g r (filter (λ i. nat_lt 0 (takes_at xs (tag_of Announcement g r i) t)) (members_of (all_present plan) g r)))
    (λ r low high. answered_are plan xs t g r heard.table (λ i. noted.heard_are g r i t (omega arith)) f.could)))

-- ---- tags

pub is_tag-itself : (tag : Tag) → is_tag tag.group tag.round tag.meter tag.kind tag ≡ true
is_tag-itself tag = and_from ((tag.group == tag.group) && (tag.round == tag.round) && (tag.meter == tag.meter)) (same_kind tag.kind tag.kind)
    (and_from ((tag.group == tag.group) && (tag.round == tag.round)) (tag.meter == tag.meter)
    (and_from (tag.group == tag.group) (tag.round == tag.round) (eq-eqb tag.group tag.group refl) (eq-eqb tag.round tag.round refl)) (eq-eqb tag.meter tag.meter refl)) (same tag.kind)
  where
    same : (k : Kind) → same_kind k k ≡ true
    same Reading = refl
    same Announcement = refl
    same Answer = refl

-- what is noted at the place of a mark
marked_at : (plan : PlanView) (old : ReadingsView) (tag : Tag) (tick : ℕ) (new : ReadingsView) (from : ℕ) → Marks old tag tick new → old.plan ≡ plan → (was : Bool)
    → is_noted from (reading old.table tag.group tag.round tag.meter) ≡ (is_member plan.groups tag.group tag.round tag.meter && was)
    → is_noted from (reading new.table tag.group tag.round tag.meter) ≡ (is_member plan.groups tag.group tag.round tag.meter && nat_le from tick)
marked_at plan old tag tick new from marks plan_is was before =
    let g : ℕ = tag.group in
    let r : ℕ = tag.round in
    let i : ℕ = tag.meter in
    let same : is_same_place g r i g r i ≡ true = and_from ((g == g) && (r == r)) (i == i) (and_from (g == g) (r == r) (eq-eqb g g refl) (eq-eqb r r refl)) (eq-eqb i i refl) in
    ap (is_noted from) (marks.readings g r i ∙ ap (λ b. if b && is_member old.plan.groups g r i then Some tick else reading old.table g r i) same
    ∙ ap (λ (p : PlanView). if is_member p.groups g r i then Some tick else reading old.table g r i) plan_is)
    ∙ split (is_member plan.groups g r i) (reading old.table g r i) before
  where
    split : (m : Bool) (value : Option ℕ) → is_noted from value ≡ (m && was) → is_noted from (cond m (Some tick) value) ≡ (m && nat_le from tick)
    split true value h = refl
    split false value h = h

marked_here : (plan : PlanView) (old : ReadingsView) (tag : Tag) (tick : ℕ) (new : ReadingsView) → Marks old tag tick new → old.plan ≡ plan → (was : Bool)
    → is_noted 0 (reading old.table tag.group tag.round tag.meter) ≡ (is_member plan.groups tag.group tag.round tag.meter && was)
    → is_noted 0 (reading new.table tag.group tag.round tag.meter) ≡ (is_member plan.groups tag.group tag.round tag.meter && true)
marked_here plan old tag tick new marks plan_is was before =
    marked_at plan old tag tick new 0 marks plan_is was before ∙ ap (λ b. is_member plan.groups tag.group tag.round tag.meter && b) (le-leb 0 tick (omega arith))

-- ---- one entry more

after-one : (v : Event) (p : List Event) → after p (v ∷ []) ≡ v ∷ p
unfolding after
after-one v p = refl

past-one : (xs : List Entry) (e : Entry) → reverse (events_of (xs ++ e ∷ [])) ≡ event_of e.line ∷ reverse (events_of xs)
past-one xs e = past-append xs (e ∷ []) ∙ after-one (event_of e.line) (reverse (events_of xs))

taken_by : (plan : PlanView) (xs : List Entry) (e : Entry) (g r i : ℕ) → is_take g r i Reading (event_of e.line) ≡ false
    → is_reading_taken (all_present plan) g r i (reverse (events_of (xs ++ e ∷ []))) ≡ is_reading_taken (all_present plan) g r i (reverse (events_of xs))
taken_by plan xs e g r i isnt =
    let p : List Event = reverse (events_of xs) in
    let s : Shape = all_present plan in
    ap (is_reading_taken s g r i) (past-one xs e)
    ∙ once-cons (λ e before. is_take g r i Reading e && is_reading_sent s g r i before && not (is_closed g r before)) (event_of e.line) p
    ∙ ap (λ b. (b && is_reading_sent s g r i p && not (is_closed g r p)) || is_reading_taken s g r i p) isnt

takes_by : (xs : List Entry) (e : Entry) (tag : Tag) (t : ℕ) → is_take tag.group tag.round tag.meter tag.kind (event_of e.line) ≡ false → takes_at (xs ++ e ∷ []) tag t ≡ takes_at xs tag t
takes_by xs e tag t isnt =
    let one = count-one (λ (x : Entry). is_take tag.group tag.round tag.meter tag.kind (event_of x.line) && (x.tick == t)) e in
    let none : cond {A = ℕ} (is_take tag.group tag.round tag.meter tag.kind (event_of e.line) && (e.tick == t)) 1 0 ≡ 0 = ap (λ b. cond (b && (e.tick == t)) 1 0) isnt in
    omega (arith, takes-append xs (e ∷ []) tag t, one, none)

-- an entry that takes neither a reading nor an announcement
pub noted_other : (plan : PlanView) (xs : List Entry) (tick : ℕ) (e : Entry) (came heard : ReadingsView)
    → ((g r i : ℕ) → is_take g r i Reading (event_of e.line) ≡ false) → ((g r i : ℕ) → is_take g r i Announcement (event_of e.line) ≡ false)
    → AreNoted plan xs tick came heard → AreNoted plan (xs ++ e ∷ []) tick came heard
noted_other plan xs tick e came heard no_reading no_announcement noted = record {
  came_plan = noted.came_plan;
  heard_plan = noted.heard_plan;
  came_are = λ g r i. noted.came_are g r i ∙ ap (λ b. is_member plan.groups g r i && b) (sym (taken_by plan xs e g r i (no_reading g r i)));
  heard_are = λ g r i t from. noted.heard_are g r i t from ∙ ap (λ n. is_member plan.groups g r i && nat_lt 0 n) (sym (takes_by xs e (tag_of Announcement g r i) t (no_announcement g r i)));
}

-- ---- a reading is taken

sum_in : {X : Type 0} (f : X → ℕ) (xs : List X) → 0 < sum_by f xs → (x : X) × IsIn x xs × (0 < f x)
sum_in f [] pos = absurd (omega arith)
sum_in f (x ∷ xs) pos =
    ⊎_elim (λ now. (x, inl refl, now)) (λ none. let found = sum_in f xs (omega (arith, sum_by-cons f x xs)) in (found.0, inr found.1, found.2)) (cases_lt 0 (f x))

-- a copy that is due was sent
pub sent_before : (plan : PlanView) (xs : List Entry) (st : Stage) (tag : Tag) → Follows plan xs st → IsIn tag st.due → (e : Entry) × IsIn e xs × (event_of e.line ≡ Send tag)
sent_before plan xs st tag f at =
    let p : Tag → Bool = is_tag tag.group tag.round tag.meter tag.kind in
    let itself : p tag ≡ true = is_tag-itself tag in
    let now : cond (st.tick == st.tick) (count_by p st.due) 0 ≡ count_by p st.due = ap (λ q. cond q (count_by p st.due) 0) (eq-eqb st.tick st.tick refl) in
    let some = in_count p st.due tag at itself in
    let found = sum_in (copies tag st.tick) xs (omega (arith, f.taken tag st.tick, now, some)) in
    (found.0, found.1, is_send-true tag.group tag.round tag.meter tag.kind (event_of found.0.line) (passes (is_send tag.group tag.round tag.meter tag.kind (event_of found.0.line)) (count_by (λ d. found.0.tick + d == st.tick) found.0.fate) found.2))
  where
    passes : (q : Bool) (n : ℕ) → 0 < cond q n 0 → q ≡ true
    passes true n pos = refl
    passes false n pos = absurd (omega arith)

sent_past : (plan : PlanView) (g r i : ℕ) (p : List Event) (xs : List Entry) → (is_reading_sent (all_present plan) g r i p ≡ true) ⊎ ((e : Entry) × IsIn e xs × (event_of e.line ≡ Send (tag_of Reading g r i)))
    → is_reading_sent (all_present plan) g r i (after p (events_of xs)) ≡ true
unfolding after
sent_past plan g r i p [] h = ⊎_elim (λ is. is) (λ none. absurd none.1) h
sent_past plan g r i p (x ∷ xs) h =
    sent_past plan g r i (event_of x.line ∷ p) xs (⊎_elim (λ is. inl (once-more (λ e before. is_send g r i Reading e && true) (event_of x.line) p is))
    (λ some. ⊎_elim (λ here. inl (once-now (λ e before. is_send g r i Reading e && true) (event_of x.line) p
    (and_from (is_send g r i Reading (event_of x.line)) true (ap (λ (y : Entry). is_send g r i Reading (event_of y.line)) here ∙ ap (is_send g r i Reading) some.2 ∙ is_tag-itself (tag_of Reading g r i)) refl)))
    (λ there. inr (some.0, there, some.2)) some.1) h)

closed_in : (g r : ℕ) (p : List Event) (xs : List Entry) → is_closed g r (after p (events_of xs)) ≡ true → (is_closed g r p ≡ true) ⊎ ((e : Entry) × IsIn e xs × (is_close g r (event_of e.line) ≡ true))
unfolding after
closed_in g r p [] h = inl h
closed_in g r p (x ∷ xs) h =
    ⊎_elim
    (λ before. ⊎_elim (λ now. inr (x, inl refl, now)) (λ earlier. inl earlier) (or_cases (is_close g r (event_of x.line)) (is_closed g r p) (sym (once-cons (λ e before. is_close g r e) (event_of x.line) p) ∙ before)))
    (λ later. inr (later.0, inr later.1, later.2)) (closed_in g r (event_of x.line ∷ p) xs h)

none_closed : (g r : ℕ) → is_closed g r [] ≡ true → ⊥
unfolding once
none_closed g r h = false≢true h

-- before its Close, and in the first phase of the Close's tick, a round is not closed
not_closed : (plan : PlanView) (xs : List Entry) (st : Stage) (g r : ℕ) → Follows plan xs st → st.phase ≡ 0 → st.tick ≤ r + plan.w1 → is_closed g r (reverse (events_of xs)) ≡ false
not_closed plan xs st g r f first early =
    false_from_ne_true (is_closed g r (reverse (events_of xs))) (λ h.
    ⊎_elim (none_closed g r)
    (λ some.
    let when : some.0.tick ≡ r + plan.w1 = all_in (λ e. is_close g r (event_of e.line) ≡ true → e.tick ≡ r + plan.w1) xs (f.closed.when g r) some.0 some.1 some.2 in
    let below = all_in (λ e. moment e ≤ 3 * st.tick + st.phase) xs f.reached some.0 some.1 in
    let second : phase (event_of some.0.line) ≡ 1 = phase_close g r (event_of some.0.line) some.2 in
    omega arith)
    (closed_in g r [] xs (subst (λ p. is_closed g r p ≡ true) (sym (after-reverse (events_of xs))) h)))

same_place : (tag : Tag) (g r i : ℕ) → is_same_place tag.group tag.round tag.meter g r i ≡ true → (tag.group ≡ g) × (tag.round ≡ r) × (tag.meter ≡ i)
same_place tag g r i h =
    let parts = and_parts ((g == tag.group) && (r == tag.round)) (i == tag.meter) h in
    let first = and_parts (g == tag.group) (r == tag.round) parts.0 in
    (sym (eqb-true g tag.group first.0), sym (eqb-true r tag.round first.1), sym (eqb-true i tag.meter parts.1))

other_place : (tag : Tag) (g r i : ℕ) (k : Kind) → is_same_place tag.group tag.round tag.meter g r i ≡ false → is_tag g r i k tag ≡ false
other_place tag g r i k isnt = false_from_ne_true (is_tag g r i k tag) (λ h.
    let parts = and_parts ((tag.group == g) && (tag.round == r) && (tag.meter == i)) (same_kind tag.kind k) h in
    let second = and_parts ((tag.group == g) && (tag.round == r)) (tag.meter == i) parts.0 in
    let first = and_parts (tag.group == g) (tag.round == r) second.0 in
    both_ways (is_same_place tag.group tag.round tag.meter g r i) isnt
    (and_from ((g == tag.group) && (r == tag.round)) (i == tag.meter)
    (and_from (g == tag.group) (r == tag.round) (eq-eqb g tag.group (sym (eqb-true tag.group g first.0))) (eq-eqb r tag.round (sym (eqb-true tag.round r first.1))))
    (eq-eqb i tag.meter (sym (eqb-true tag.meter i second.1)))))

other_kind : (tag : Tag) (g r i : ℕ) (k : Kind) → same_kind tag.kind k ≡ false → is_tag g r i k tag ≡ false
other_kind tag g r i k isnt = and_right ((tag.group == g) && (tag.round == r) && (tag.meter == i)) (same_kind tag.kind k) isnt

at_place : (P : ℕ → ℕ → ℕ → Type 0) (tag : Tag) (g r i : ℕ) → (tag.group ≡ g) × (tag.round ≡ r) × (tag.meter ≡ i) → P tag.group tag.round tag.meter → P g r i
at_place P tag g r i e h = subst (λ z. P g r z) e.2 (subst (λ y. P g y tag.meter) e.1 (subst (λ x. P x tag.round tag.meter) e.0 h))

-- the tables with a reading that is taken
pub noted_reading : (plan : PlanView) (xs : List Entry) (st : Stage) (e : Entry) (tag : Tag) (came heard came_now heard_now : ReadingsView)
    → Follows plan xs st → st.phase ≡ 0 → IsIn tag st.due → event_of e.line ≡ Take tag → tag.kind ≡ Reading → tag.group < length plan.groups
    → NotesTake Reading tag st.tick came heard came_now heard_now → AreNoted plan xs st.tick came heard → AreNoted plan (xs ++ e ∷ []) st.tick came_now heard_now
noted_reading plan xs st e tag came heard came_now heard_now f first at is kind g_in notes noted =
    ⊎_elim late early (cases_lt (tag.round + came.plan.w1) st.tick)
  where
    past : List Event
    past = reverse (events_of xs)

    s : Shape
    s = all_present plan

    w1_is : came.plan.w1 ≡ plan.w1
    w1_is = ap (λ (p : PlanView). p.w1) noted.came_plan

    no_announcement : (g r i : ℕ) → is_take g r i Announcement (event_of e.line) ≡ false
    no_announcement g r i = ap (is_take g r i Announcement) is ∙ other_kind tag g r i Announcement (ap (λ k. same_kind k Announcement) kind)

    heard_are : (g r i t : ℕ) → st.tick ≤ t → is_noted t (reading heard_now.table g r i) ≡ (is_member plan.groups g r i && nat_lt 0 (takes_at (xs ++ e ∷ []) (tag_of Announcement g r i) t))
    heard_are g r i t from = ap (λ (h : ReadingsView). is_noted t (reading h.table g r i)) notes.2 ∙ noted.heard_are g r i t from
        ∙ ap (λ n. is_member plan.groups g r i && nat_lt 0 n) (sym (takes_by xs e (tag_of Announcement g r i) t (no_announcement g r i)))

    heard_plan : heard_now.plan ≡ plan
    heard_plan = ap (λ (h : ReadingsView). h.plan) notes.2 ∙ noted.heard_plan

    found : (x : Entry) × IsIn x xs × (event_of x.line ≡ Send tag)
    found = sent_before plan xs st tag f at

    late : tag.round + came.plan.w1 < st.tick → AreNoted plan (xs ++ e ∷ []) st.tick came_now heard_now
    late past_close = let windows = w1_is in record {
      came_plan = ap (λ (c : ReadingsView). c.plan) (notes.1 past_close) ∙ noted.came_plan;
      heard_plan = heard_plan;
      came_are = λ g r i. ap (λ (c : ReadingsView). is_noted 0 (reading c.table g r i)) (notes.1 past_close) ∙ noted.came_are g r i
          ∙ ap (λ b. is_member plan.groups g r i && b) (⊎_elim
          (λ same. at_place (λ g r i. is_reading_taken s g r i past ≡ is_reading_taken s g r i (reverse (events_of (xs ++ e ∷ [])))) tag g r i (same_place tag g r i same)
          (sym (ap (is_reading_taken s tag.group tag.round tag.meter) (past-one xs e) ∙ is_reading_taken-closed s tag.group tag.round tag.meter (event_of e.line) past
          (closed_by_now plan xs st.tick st.closing f.closed (tag.round + plan.w1) (inl (omega arith)) tag.group tag.round g_in (all_in (λ z. CanCome plan z st.tick) st.due f.due_can tag at).round refl))))
          (λ other. sym (taken_by plan xs e g r i (ap (is_take g r i Reading) is ∙ other_place tag g r i Reading other)))
          (cases_Bool (is_same_place tag.group tag.round tag.meter g r i)));
      heard_are = heard_are;
    }

    early : st.tick ≤ tag.round + came.plan.w1 → AreNoted plan (xs ++ e ∷ []) st.tick came_now heard_now
    early in_time =
        let windows = w1_is in
        let marks : Marks came tag st.tick came_now = notes.0 in_time in
        let sent : is_reading_sent s tag.group tag.round tag.meter past ≡ true
        = subst (λ p. is_reading_sent s tag.group tag.round tag.meter p ≡ true) (after-reverse (events_of xs))
        (sent_past plan tag.group tag.round tag.meter [] xs (inr (found.0, found.1, found.2 ∙ ap (λ k. Send (record { group = tag.group; round = tag.round; meter = tag.meter; kind = k })) kind))) in
        let open_yet : is_closed tag.group tag.round past ≡ false = not_closed plan xs st tag.group tag.round f first (omega arith) in
        let taken : is_reading_taken s tag.group tag.round tag.meter (reverse (events_of (xs ++ e ∷ []))) ≡ true
        = ap (is_reading_taken s tag.group tag.round tag.meter) (past-one xs e)
        ∙ once-now (λ e before. is_take tag.group tag.round tag.meter Reading e && is_reading_sent s tag.group tag.round tag.meter before && not (is_closed tag.group tag.round before)) (event_of e.line) past
        (and_from (is_take tag.group tag.round tag.meter Reading (event_of e.line) && is_reading_sent s tag.group tag.round tag.meter past) (not (is_closed tag.group tag.round past))
        (and_from (is_take tag.group tag.round tag.meter Reading (event_of e.line)) (is_reading_sent s tag.group tag.round tag.meter past)
        (ap (is_take tag.group tag.round tag.meter Reading) is ∙ ap (λ k. is_tag tag.group tag.round tag.meter k tag) (sym kind) ∙ is_tag-itself tag) sent)
        (ap not open_yet)) in
        record {
          came_plan = marks.plan_stays ∙ noted.came_plan;
          heard_plan = heard_plan;
          came_are = λ g r i. ⊎_elim
              (λ same. at_place (λ g r i. is_noted 0 (reading came_now.table g r i) ≡ (is_member plan.groups g r i && is_reading_taken s g r i (reverse (events_of (xs ++ e ∷ []))))) tag g r i (same_place tag g r i same)
              (marked_here plan came tag st.tick came_now marks noted.came_plan (is_reading_taken s tag.group tag.round tag.meter past) (noted.came_are tag.group tag.round tag.meter)
              ∙ ap (λ b. is_member plan.groups tag.group tag.round tag.meter && b) (sym taken)))
              (λ other. ap (is_noted 0) (marks.readings g r i ∙ ap (λ b. if b && is_member came.plan.groups tag.group tag.round tag.meter then Some st.tick else reading came.table g r i) other) ∙ noted.came_are g r i
              ∙ ap (λ b. is_member plan.groups g r i && b) (sym (taken_by plan xs e g r i (ap (is_take g r i Reading) is ∙ other_place tag g r i Reading other))))
              (cases_Bool (is_same_place tag.group tag.round tag.meter g r i));
          heard_are = heard_are;
        }

-- the tables with an announcement that is taken
pub noted_announcement : (plan : PlanView) (xs : List Entry) (st : Stage) (e : Entry) (tag : Tag) (came heard came_now heard_now : ReadingsView)
    → Follows plan xs st → st.phase ≡ 0 → e.tick ≡ st.tick → event_of e.line ≡ Take tag → tag.kind ≡ Announcement
    → NotesTake Announcement tag st.tick came heard came_now heard_now → AreNoted plan xs st.tick came heard → AreNoted plan (xs ++ e ∷ []) st.tick came_now heard_now
noted_announcement plan xs st e tag came heard came_now heard_now f first tick is kind notes noted =
    let marks : Marks heard tag st.tick heard_now = notes.1 in
    record {
      came_plan = ap (λ (c : ReadingsView). c.plan) notes.0 ∙ noted.came_plan;
      heard_plan = marks.plan_stays ∙ noted.heard_plan;
      came_are = λ g r i. ap (λ (c : ReadingsView). is_noted 0 (reading c.table g r i)) notes.0 ∙ noted.came_are g r i
          ∙ ap (λ b. is_member plan.groups g r i && b) (sym (taken_by plan xs e g r i (ap (is_take g r i Reading) is ∙ other_kind tag g r i Reading (ap (λ k. same_kind k Reading) kind))));
      heard_are = λ g r i t from. ⊎_elim
          (λ same. at_place (λ g r i. is_noted t (reading heard_now.table g r i) ≡ (is_member plan.groups g r i && nat_lt 0 (takes_at (xs ++ e ∷ []) (tag_of Announcement g r i) t))) tag g r i (same_place tag g r i same)
          (here t from marks))
          (λ other. ap (is_noted t) (marks.readings g r i ∙ ap (λ b. if b && is_member heard.plan.groups tag.group tag.round tag.meter then Some st.tick else reading heard.table g r i) other) ∙ noted.heard_are g r i t from
          ∙ ap (λ n. is_member plan.groups g r i && nat_lt 0 n) (sym (takes_by xs e (tag_of Announcement g r i) t (ap (is_take g r i Announcement) is ∙ other_place tag g r i Announcement other))))
          (cases_Bool (is_same_place tag.group tag.round tag.meter g r i));
    }
  where
    me : Tag
    me = tag_of Announcement tag.group tag.round tag.meter

    takes_now : (t : ℕ) → st.tick ≤ t → nat_lt 0 (takes_at (xs ++ e ∷ []) me t) ≡ nat_le t st.tick
    takes_now t from =
        let one = count-one (λ (x : Entry). is_take me.group me.round me.meter me.kind (event_of x.line) && (x.tick == t)) e in
        let this : is_take me.group me.round me.meter me.kind (event_of e.line) ≡ true = ap (is_take me.group me.round me.meter me.kind) is ∙ ap (λ k. is_tag tag.group tag.round tag.meter k tag) (sym kind) ∙ is_tag-itself tag in
        ⊎_elim
        (λ now.
        let a : cond {A = ℕ} (is_take me.group me.round me.meter me.kind (event_of e.line) && (e.tick == t)) 1 0 ≡ 1
        = ap (λ b. cond b 1 0) (and_from (is_take me.group me.round me.meter me.kind (event_of e.line)) (e.tick == t) this (eq-eqb e.tick t (omega arith))) in
        lt-ltb 0 (takes_at (xs ++ e ∷ []) me t) (omega (arith, takes-append xs (e ∷ []) me t, one, a)) ∙ sym (le-leb t st.tick (omega arith)))
        (λ other.
        let a : cond {A = ℕ} (is_take me.group me.round me.meter me.kind (event_of e.line) && (e.tick == t)) 1 0 ≡ 0
        = ap (λ b. cond b 1 0) (and_right (is_take me.group me.round me.meter me.kind (event_of e.line)) (e.tick == t) (ne_eqb e.tick t (λ k. other (omega arith)))) in
        let none = takes-elsewhere xs t (λ x at k. let h = all_in (λ y. moment y ≤ 3 * st.tick + st.phase) xs f.reached x at in other (omega arith)) me in
        le-ltb 0 (takes_at (xs ++ e ∷ []) me t) (omega (arith, takes-append xs (e ∷ []) me t, one, a, none)) ∙ sym (lt-leb t st.tick (let q : t ≡ st.tick → ⊥ = other in omega arith)))
        (cases_eq t st.tick)

    here : (t : ℕ) → st.tick ≤ t → Marks heard tag st.tick heard_now
        → is_noted t (reading heard_now.table tag.group tag.round tag.meter) ≡ (is_member plan.groups tag.group tag.round tag.meter && nat_lt 0 (takes_at (xs ++ e ∷ []) me t))
    here t from marks =
        marked_at plan heard tag st.tick heard_now t marks noted.heard_plan (nat_lt 0 (takes_at xs me t)) (noted.heard_are tag.group tag.round tag.meter t from)
        ∙ ap (λ b. is_member plan.groups tag.group tag.round tag.meter && b) (sym (takes_now t from))

-- the tables with an answer that is taken
pub noted_answer : (plan : PlanView) (xs : List Entry) (tick : ℕ) (e : Entry) (tag : Tag) (came heard came_now heard_now : ReadingsView) → event_of e.line ≡ Take tag → tag.kind ≡ Answer
    → NotesTake Answer tag tick came heard came_now heard_now → AreNoted plan xs tick came heard → AreNoted plan (xs ++ e ∷ []) tick came_now heard_now
noted_answer plan xs tick e tag came heard came_now heard_now is kind notes noted =
    subst (λ (c : ReadingsView). AreNoted plan (xs ++ e ∷ []) tick c heard_now) (sym notes.0) (subst (λ (h : ReadingsView). AreNoted plan (xs ++ e ∷ []) tick came h) (sym notes.1)
    (noted_other plan xs tick e came heard (λ g r i. ap (is_take g r i Reading) is ∙ other_kind tag g r i Reading (ap (λ k. same_kind k Reading) kind))
    (λ g r i. ap (is_take g r i Announcement) is ∙ other_kind tag g r i Announcement (ap (λ k. same_kind k Announcement) kind)) noted))
