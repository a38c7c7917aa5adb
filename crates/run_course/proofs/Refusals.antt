-- What every run does next: an entry that cannot come after those before it stands in no run.
use Rattle.std.proofs.Common.{◌≡◌, ℕ, ◌+◌, ◌-◌, ◌<◌, ◌≤◌, Bool, true, false, cond, ◌&&◌, List, [], ◌∷◌, ◌++◌, length, map, ◌⊎◌, refl, sym, ap, ◌∙◌, subst, ⊎_elim, inl, inr, arith}
use Rattle.std.specs.Prelude.{◌==◌, nat_le}
use Rattle.std.specs.List.{filter, flat_map, range_with_len, sum_by, count_by, All}
use Rattle.std.proofs.lemmas.Bool.{both_ways, and_from, and_left, and_right, cases_eq, cases_Bool, ne_eqb, eq-eqb, eqb-true, le-leb}
use Rattle.std.proofs.lemmas.List.{length-map}
use Rattle.std.proofs.lemmas.List.Sums.{sum_by-cons}
use Rattle.group_plan.specs.declared.Kind.{Kind}
use Rattle.group_plan.specs.declared.Kind.TheVariants.{Reading, Announcement, Answer}
use Rattle.group_plan.specs.declared.Tag.{Tag}
use Rattle.group_plan.specs.Plans.{PlanView, IsWithinLimits, is_member}
use Rattle.event_schedule.specs.declared.Event.{Event}
use Rattle.event_schedule.specs.declared.Event.TheVariants.{Send, Take, Close, End}
use Rattle.event_schedule.specs.declared.Entry.{Entry}
use Rattle.event_schedule.specs.Events.{event_of, is_tag, same_kind, is_send, is_take}
use Rattle.link_lanes.specs.Fates.{IsFate}
use Rattle.run_rows.specs.Ticks.{clock_of, moment, phase, tag_of, takes_at, copies, sent_at, tags_of, due_of, NoneBefore, IsOrdered, StandsOnce}
use Rattle.run_course.specs.Beginnings.{shape_where, IsSomeRun}
use Rattle.run_course.specs.Lists.{IsIn}
use Rattle.run_course.specs.Sends.{rank, is_reading, is_read_in, owed}
use Rattle.run_course.specs.Stages.{Stage, is_round_of, AreCalled, Ascends, all_ranks, Follows, IsSending}
use Rattle.run_course.proofs.Members.{all_in, all_from_in, in_append, in_from_append, in_from_flat_map, in_from_range, in_map, in_filter, in_cond}
use Rattle.run_course.proofs.Ranks.{ascends_bounds, ascends_around, stands_once}
use Rattle.run_course.proofs.Calls.{due_ascends, due_from, due_of_rest, rest_by, rest_is, owed_is, owed_ascends}
use Rattle.run_course.proofs.Stays.{all_where, owed_stays, takes-append}
use Rattle.run_course.proofs.Entries.{in_count, count_in, count_none, sum_none_in, count-append, sent-append, sent-none, copies-append, closed_by_now, takes-elsewhere}
use Rattle.run_course.proofs.Steps.{delays_of}
use Rattle.run_course.proofs.Wholes.{read_in, sent_of}

-- ---- the order

none_before_in : (m : ℕ) (xs : List Entry) → NoneBefore m xs → (x : Entry) → IsIn x xs → m ≤ moment x
none_before_in m [] none x at = absurd at
none_before_in m (y ∷ xs) none x at = ⊎_elim (λ e. subst (λ z. m ≤ moment z) e none.0) (λ there. none_before_in m xs none.1 x there) at

pub later_than : (xs ys : List Entry) → IsOrdered (xs ++ ys) → (x y : Entry) → IsIn x xs → IsIn y ys → moment x ≤ moment y
later_than [] ys ordered x y at there = absurd at
later_than (z ∷ xs) ys ordered x y at there =
    ⊎_elim (λ e. subst (λ w. moment w ≤ moment y) e (none_before_in (moment z) (xs ++ ys) ordered.0 y (in_append y xs ys (inr there)))) (λ at. later_than xs ys ordered.1 x y at there) at

pub first_of : (xs : List Entry) (e : Entry) (more : List Entry) → IsOrdered (xs ++ e ∷ more) → (y : Entry) → IsIn y (e ∷ more) → moment e ≤ moment y
first_of [] e more ordered y at = ⊎_elim (λ is. let h : moment e ≡ moment y = ap moment is in omega arith) (λ there. none_before_in (moment e) more ordered.0 y there) at
first_of (x ∷ xs) e more ordered y at = first_of xs e more ordered.1 y at

-- ---- the copies

-- no frame that is sent from a tick on comes in it
none_sent_back : (ys : List Entry) (t : ℕ) → All (λ e. IsFate e.fate) ys → ((y : Entry) → IsIn y ys → t ≤ y.tick) → (tag : Tag) → sum_by (copies tag t) ys ≡ 0
none_sent_back ys t fates from tag =
    sum_none_in (copies tag t) ys (λ y at. none y (is_send tag.group tag.round tag.meter tag.kind (event_of y.line)) (from y at) (all_in (λ e. IsFate e.fate) ys fates y at))
  where
    none : (y : Entry) (q : Bool) → t ≤ y.tick → IsFate y.fate → cond q (count_by (λ d. y.tick + d == t) y.fate) 0 ≡ 0
    none y false from fate = refl
    none y true from fate = count_none (λ d. y.tick + d == t) y.fate (λ d at. let low = (delays_of y.fate fate d at).0 in ne_eqb (y.tick + d) t (λ e. omega arith))

-- the copies of this tick that are still to come are those that are taken further on
pub due_taken : (plan : PlanView) (xs ys : List Entry) (st : Stage) → Follows plan xs st → IsSomeRun plan (xs ++ ys) → ((y : Entry) → IsIn y ys → st.tick ≤ y.tick)
    → (tag : Tag) → count_by (is_tag tag.group tag.round tag.meter tag.kind) st.due ≡ takes_at ys tag st.tick
due_taken plan xs ys st f run from tag =
    let p : Tag → Bool = is_tag tag.group tag.round tag.meter tag.kind in
    let now : cond (st.tick == st.tick) (count_by p st.due) 0 ≡ count_by p st.due = ap (λ q. cond q (count_by p st.due) 0) (eq-eqb st.tick st.tick refl) in
    let none : count_by (λ a. p a.tag && (a.tick == st.tick)) st.later ≡ 0
    = count_none (λ a. p a.tag && (a.tick == st.tick)) st.later (λ a at. let h = all_in (λ a. st.tick < a.tick) st.later f.ahead a at in and_right (p a.tag) (a.tick == st.tick) (ne_eqb a.tick st.tick (λ e. omega arith))) in
    let fates : All (λ e. IsFate e.fate) ys = all_from_in (λ e. IsFate e.fate) ys (λ y at. all_in (λ e. IsFate e.fate) (xs ++ ys) run.fates y (in_append y xs ys (inr at))) in
    omega (arith, f.taken tag st.tick, run.run.taken tag st.tick, takes-append xs ys tag st.tick, copies-append xs ys tag st.tick, now, none, none_sent_back ys st.tick fates from tag)

itself : (tag : Tag) → is_tag tag.group tag.round tag.meter tag.kind tag ≡ true
itself tag = and_from ((tag.group == tag.group) && (tag.round == tag.round) && (tag.meter == tag.meter)) _
    (and_from ((tag.group == tag.group) && (tag.round == tag.round)) (tag.meter == tag.meter)
    (and_from (tag.group == tag.group) (tag.round == tag.round) (eq-eqb tag.group tag.group refl) (eq-eqb tag.round tag.round refl)) (eq-eqb tag.meter tag.meter refl)) (same tag.kind)
  where
    same : (k : Kind) → same_kind k k ≡ true
    same Reading = refl
    same Announcement = refl
    same Answer = refl

-- where nothing more is taken in this tick, no copy is due
pub none_due : (plan : PlanView) (xs ys : List Entry) (st : Stage) → Follows plan xs st → IsSomeRun plan (xs ++ ys) → ((y : Entry) → IsIn y ys → st.tick ≤ y.tick)
    → ((y : Entry) → IsIn y ys → y.tick ≡ st.tick → 1 ≤ phase (event_of y.line)) → st.due ≡ []
none_due plan xs ys st f run from later = by_list st.due refl
  where
    not_taken : (tag : Tag) (v : Event) → 1 ≤ phase v → is_take tag.group tag.round tag.meter tag.kind v ≡ false
    not_taken tag (Take z) h = absurd (omega arith)
    not_taken tag (Send z) h = refl
    not_taken tag (Close g r) h = refl
    not_taken tag (End g r) h = refl

    none : (tag : Tag) → takes_at ys tag st.tick ≡ 0
    none tag = count_none (λ e. is_take tag.group tag.round tag.meter tag.kind (event_of e.line) && (e.tick == st.tick)) ys (λ y at.
        ⊎_elim (λ now. and_left (is_take tag.group tag.round tag.meter tag.kind (event_of y.line)) (y.tick == st.tick) (not_taken tag (event_of y.line) (later y at now)))
        (λ other. and_right (is_take tag.group tag.round tag.meter tag.kind (event_of y.line)) (y.tick == st.tick) (ne_eqb y.tick st.tick other)) (cases_eq y.tick st.tick))

    by_list : (due : List Tag) → st.due ≡ due → st.due ≡ []
    by_list [] is = is
    by_list (tag ∷ due) is =
        let some = in_count (is_tag tag.group tag.round tag.meter tag.kind) st.due tag (subst (IsIn tag) (sym is) (inl refl)) (itself tag) in
        absurd (omega (arith, some, due_taken plan xs ys st f run from tag, none tag))

-- ---- the rounds

count_is : {X : Type 0} (p : X → Bool) (xs : List X) → count_by p xs ≡ length (filter p xs)
count_is {X} p [] = refl
count_is {X} p (x ∷ xs) = split (p x) (sum_by-cons (λ (y : X). cond (p y) 1 0) x xs) (count_is p xs)
  where
    split : (q : Bool) → count_by p (x ∷ xs) ≡ cond q 1 0 + count_by p xs → count_by p xs ≡ length (filter p xs) → count_by p (x ∷ xs) ≡ length (cond q (x ∷ filter p xs) (filter p xs))
    split true one ih = omega (arith, one, ih)
    split false one ih = omega (arith, one, ih)

pub once_count : (test : Event → Bool) (due : Bool) (tick : ℕ) (xs : List Entry) → StandsOnce test due tick xs → count_by (λ e. test (event_of e.line)) xs ≡ cond due 1 0
once_count test due tick xs once =
    count_is (λ (e : Entry). test (event_of e.line)) xs ∙ sym (length-map (filter (λ (e : Entry). test (event_of e.line)) xs) (λ (e : Entry). e.tick)) ∙ ap length once ∙ one due
  where
    one : (q : Bool) → length (cond q (tick ∷ []) []) ≡ cond q 1 0
    one true = refl
    one false = refl

pub once_at : (test : Event → Bool) (due : Bool) (tick : ℕ) (xs : List Entry) → StandsOnce test due tick xs → (e : Entry) → IsIn e xs → test (event_of e.line) ≡ true → (due ≡ true) × (e.tick ≡ tick)
once_at test due tick xs once e at h =
    let there : IsIn e.tick (map (λ (x : Entry). x.tick) (filter (λ x. test (event_of x.line)) xs)) = in_map (λ (x : Entry). x.tick) e (filter (λ x. test (event_of x.line)) xs) (in_filter (λ x. test (event_of x.line)) e xs at h) in
    let inner = in_cond e.tick due (tick ∷ []) (subst (IsIn e.tick) once there) in
    (inner.0, ⊎_elim (λ is. sym is) (λ none. absurd none) inner.1)

-- where no more is called in this tick, none is left
pub none_called : (plan : PlanView) (test : ℕ → ℕ → Event → Bool) (window : ℕ) (xs ys : List Entry) (tick : ℕ) (groups : List ℕ) → AreCalled plan test window xs tick groups
    → ((g r : ℕ) → StandsOnce (test g r) (is_round_of plan g r) (r + window) (xs ++ ys))
    → ((g r : ℕ) (y : Entry) → IsIn y ys → y.tick ≡ tick → test g r (event_of y.line) ≡ false) → groups ≡ []
none_called plan test window xs ys tick groups called once none = by_list groups refl
  where
    by_list : (gs : List ℕ) → groups ≡ gs → groups ≡ []
    by_list [] is = is
    by_list (g ∷ gs) is =
        let began = all_in (λ g. window ≤ tick) groups called.began g (subst (IsIn g) (sym is) (inl refl)) in
        let r : ℕ = tick - window in
        let at : r + window ≡ tick = omega arith in
        let some = in_count (λ h. h == g) groups g (subst (IsIn g) (sym is) (inl refl)) (eq-eqb g g refl) in
        let here : cond (r + window == tick) (count_by (λ h. h == g) groups) 0 ≡ count_by (λ h. h == g) groups = ap (λ q. cond q (count_by (λ h. h == g) groups) 0) (eq-eqb (r + window) tick at) in
        let further : count_by (λ e. test g r (event_of e.line)) ys ≡ 0 = count_none (λ e. test g r (event_of e.line)) ys (λ y there.
        ⊎_elim (λ yes. let when = once_at (test g r) (is_round_of plan g r) (r + window) (xs ++ ys) (once g r) y (in_append y xs ys (inr there)) yes in
        absurd (both_ways (test g r (event_of y.line)) (none g r y there (when.1 ∙ at)) yes)) (λ no. no) (cases_Bool (test g r (event_of y.line)))) in
        absurd (split (is_round_of plan g r) (nat_le (r + window) tick) (count_by (λ e. test g r (event_of e.line)) xs) (count_by (λ h. h == g) groups)
        (omega (arith, called.counted g r, here)) some (omega (arith, once_count (test g r) (is_round_of plan g r) (r + window) (xs ++ ys) (once g r), count-append (λ e. test g r (event_of e.line)) xs ys, further)))
      where
        split : (a b : Bool) (n m : ℕ) → n + m ≡ cond (a && b) 1 0 → 0 < m → n ≡ cond a 1 0 → ⊥
        split true true n m e some one = omega arith
        split true false n m e some one = omega arith
        split false b n m e some one = omega arith

-- a call of this tick is one that is left
pub call_left : (plan : PlanView) (test : ℕ → ℕ → Event → Bool) (window : ℕ) (xs : List Entry) (e : Entry) (more : List Entry) (tick : ℕ) (groups : List ℕ) (g r : ℕ) → AreCalled plan test window xs tick groups
    → ((g r : ℕ) → StandsOnce (test g r) (is_round_of plan g r) (r + window) (xs ++ e ∷ more)) → e.tick ≡ tick → test g r (event_of e.line) ≡ true → (r + window ≡ tick) × IsIn g groups
call_left plan test window xs e more tick groups g r called once now passes =
    let when = once_at (test g r) (is_round_of plan g r) (r + window) (xs ++ e ∷ more) (once g r) e (in_append e xs (e ∷ more) (inr (inl refl))) passes in
    let at : r + window ≡ tick = sym when.1 ∙ now in
    let all = once_count (test g r) (is_round_of plan g r) (r + window) (xs ++ e ∷ more) (once g r) in
    let this = in_count (λ x. test g r (event_of x.line)) (e ∷ more) e (inl refl) passes in
    let here : cond (r + window == tick) (count_by (λ h. h == g) groups) 0 ≡ count_by (λ h. h == g) groups = ap (λ q. cond q (count_by (λ h. h == g) groups) 0) (eq-eqb (r + window) tick at) in
    let due : cond {A = ℕ} (is_round_of plan g r && nat_le (r + window) tick) 1 0 ≡ 1 = ap (λ q. cond q 1 0) (and_from (is_round_of plan g r) (nat_le (r + window) tick) when.0 (le-leb (r + window) tick (omega arith))) in
    let one : cond {A = ℕ} (is_round_of plan g r) 1 0 ≡ 1 = ap (λ q. cond q 1 0) when.0 in
    let found = count_in (λ h. h == g) groups (omega (arith, called.counted g r, here, due, one, all, this, count-append (λ x. test g r (event_of x.line)) xs (e ∷ more))) in
    (at, subst (λ z. IsIn z groups) (eqb-true found.0 g found.2) found.1)

-- ---- the Sends

-- what is sent in a tick, in these entries and further on
pub record TickSends (plan : PlanView) (xs ys : List Entry) (t : ℕ) : Type 0 where
  pub ascends : Ascends 0 (all_ranks plan) (sent_at xs t ++ sent_at ys t)
  pub each : (y : Tag) → IsIn y (owed plan xs t) → IsIn y (sent_at xs t ++ sent_at ys t)
  pub only : (y : Tag) → IsIn y (sent_at xs t ++ sent_at ys t) → ((y.kind ≡ Reading) × (y.round ≡ t) × (is_member plan.groups y.group y.round y.meter ≡ true)) ⊎ IsIn y (owed plan xs t)

run_reads : (plan : PlanView) (zs : List Entry) (run : IsSomeRun plan zs) (g r i : ℕ) → is_read_in zs g r i ≡ true → run.present g r i ≡ true
run_reads plan zs run g r i h =
    let found = read_in zs g r i h in
    let y : Tag = tag_of Reading g r i in
    let due : IsIn y (flat_map (due_of (shape_where plan run.present) (clock_of plan) zs found.0.tick) (range_with_len 0 (length plan.groups)))
    = subst (IsIn y) (run.run.sent found.0.tick) (sent_of zs found.0.tick y found.0 found.1 refl found.2) in
    ⊎_elim (λ read. read.here)
    (λ other.
    let at = in_from_flat_map (rest_by plan run.present zs found.0.tick) y (range_with_len 0 (length plan.groups)) other in
    let g_in = in_from_range 0 (length plan.groups) at.0 at.1 in
    let no = rest_is plan run.present zs found.0.tick at.0 y (omega arith) at.2 in
    absurd (both_ways true no.other refl))
    (due_from plan run.present zs found.0.tick y due)

tick_sends : (plan : PlanView) → IsWithinLimits plan → (xs ys : List Entry) (st : Stage) → Follows plan xs st → st.closing ≡ [] → IsSomeRun plan (xs ++ ys) → ((tag : Tag) → takes_at ys tag st.tick ≡ 0)
    → TickSends plan xs ys st.tick
tick_sends plan limits xs ys st f closing run none =
    let zs : List Entry = xs ++ ys in
    let t : ℕ = st.tick in
    let all : List Tag = flat_map (due_of (shape_where plan run.present) (clock_of plan) zs t) (range_with_len 0 (length plan.groups)) in
    let is : sent_at xs t ++ sent_at ys t ≡ all = sym (sent-append xs ys t) ∙ run.run.sent t in
    let rest : flat_map (rest_by plan run.present zs t) (range_with_len 0 (length plan.groups)) ≡ owed plan xs t
    = all_where plan run.present zs t (run_reads plan zs run) ∙ owed_stays plan xs ys t (closed_by_now plan xs t st.closing f.closed t (inr (refl, closing))) none in
    record {
      ascends = subst (Ascends 0 (all_ranks plan)) (sym is) (due_ascends plan limits run.present zs t);
      each = λ y at. subst (IsIn y) (sym is) (due_of_rest plan run.present zs t y (subst (IsIn y) (sym rest) at));
      only = λ y at. ⊎_elim (λ read. inl (read.kind, read.now, read.member)) (λ other. inr (subst (IsIn y) rest other)) (due_from plan run.present zs t y (subst (IsIn y) is at));
    }

-- the first that is left was not sent before
left_unsent : (plan : PlanView) → IsWithinLimits plan → (xs : List Entry) (st : Stage) → (sending : IsSending plan xs st) → (h : Tag) (left : List Tag) → st.left ≡ h ∷ left → IsIn h (sent_at xs st.tick) → ⊥
left_unsent plan limits xs st sending h left is at =
    let owed_are : owed plan xs st.tick ≡ sending.gone ++ h ∷ left = sending.owed_are ∙ ap (λ l. sending.gone ++ l) is in
    let other = (owed_is plan xs st.tick h (subst (IsIn h) (sym owed_are) (in_append h sending.gone (h ∷ left) (inr (inl refl))))).other in
    stands_once 0 (all_ranks plan) sending.gone h left (subst (Ascends 0 (all_ranks plan)) owed_are (owed_ascends plan limits xs st.tick)) (sending.only h at other)

-- where nothing more is sent in this tick, nothing is left
pub none_left : (plan : PlanView) → IsWithinLimits plan → (xs ys : List Entry) (st : Stage) → Follows plan xs st → IsSending plan xs st → IsSomeRun plan (xs ++ ys)
    → ((y : Entry) → IsIn y ys → y.tick ≡ st.tick → ⊥) → st.left ≡ []
none_left plan limits xs ys st f sending run none = by_list st.left refl
  where
    by_list : (left : List Tag) → st.left ≡ left → st.left ≡ []
    by_list [] is = is
    by_list (h ∷ left) is =
        let sends = tick_sends plan limits xs ys st f sending.closed run (takes-elsewhere ys st.tick none) in
        let owed_at : IsIn h (owed plan xs st.tick) = subst (IsIn h) (sym (sending.owed_are ∙ ap (λ l. sending.gone ++ l) is)) (in_append h sending.gone (h ∷ left) (inr (inl refl))) in
        absurd (⊎_elim (λ sent. left_unsent plan limits xs st sending h left is sent)
        (λ further. subst (IsIn h) (sent-none ys st.tick (λ e at now. absurd (none e at now))) further)
        (in_from_append h (sent_at xs st.tick) (sent_at ys st.tick) (sends.each h owed_at)))

-- what a Send of this tick is
pub record IsNextSend (plan : PlanView) (st : Stage) (tag : Tag) : Type 0 where
  pub onwards : st.least ≤ rank tag
  pub is : ((tag.kind ≡ Reading) × (tag.round ≡ st.tick) × (is_member plan.groups tag.group tag.round tag.meter ≡ true) × ((h : Tag) (left : List Tag) → st.left ≡ h ∷ left → rank tag < rank h))
      ⊎ ((is_reading tag.kind ≡ false) × ((left : List Tag) × (st.left ≡ tag ∷ left)))

pub next_send : (plan : PlanView) → IsWithinLimits plan → (xs : List Entry) (e : Entry) (more : List Entry) (st : Stage) (tag : Tag) → Follows plan xs st → IsSending plan xs st → IsSomeRun plan (xs ++ e ∷ more)
    → e.tick ≡ st.tick → event_of e.line ≡ Send tag → ((tag : Tag) → takes_at (e ∷ more) tag st.tick ≡ 0) → IsNextSend plan st tag
next_send plan limits xs e more st tag f sending run now is none =
    let sends = tick_sends plan limits xs (e ∷ more) st f sending.closed run none in
    let a : List Tag = sent_at xs st.tick in
    let b : List Tag = sent_at more st.tick in
    let one : sent_at (e ∷ more) st.tick ≡ tag ∷ b = ap (λ q. cond q (tags_of (event_of e.line)) [] ++ b) (eq-eqb e.tick st.tick now) ∙ ap (λ v. tags_of v ++ b) is in
    let ascends : Ascends 0 (all_ranks plan) (a ++ tag ∷ b) = subst (λ l. Ascends 0 (all_ranks plan) (a ++ l)) one sends.ascends in
    let around = ascends_around 0 (all_ranks plan) a tag b ascends in
    let at : IsIn tag (a ++ sent_at (e ∷ more) st.tick) = subst (λ l. IsIn tag (a ++ l)) (sym one) (in_append tag a (tag ∷ b) (inr (inl refl))) in
    let first : (h : Tag) (left : List Tag) → st.left ≡ h ∷ left → (tag ≡ h) ⊎ (rank tag < rank h) = λ (h : Tag) (left : List Tag) (is : st.left ≡ h ∷ left).
    let owed_at : IsIn h (owed plan xs st.tick) = subst (IsIn h) (sym (sending.owed_are ∙ ap (λ l. sending.gone ++ l) is)) (in_append h sending.gone (h ∷ left) (inr (inl refl))) in
    ⊎_elim (λ sent. absurd (left_unsent plan limits xs st sending h left is sent))
    (λ further. ⊎_elim (λ here. inl here) (λ there. let l = (ascends_bounds (rank tag + 1) (all_ranks plan) b h around.1 there).0 in inr (omega arith)) further)
    (in_from_append h a (tag ∷ b) (subst (λ l. IsIn h (a ++ l)) one (sends.each h owed_at))) in
    record {
      onwards = ⊎_elim (λ z. omega arith) (λ y. let l = (ascends_bounds 0 (rank tag) a y.0 around.0 y.1).1 in let k : rank y.0 + 1 ≡ st.least = y.2 in omega arith) sending.last;
      is = ⊎_elim
          (λ read. inl (
            read.0,
            read.1,
            read.2,
            λ h left left_is. ⊎_elim
                (λ same.
                let other = (owed_is plan xs st.tick h (subst (IsIn h) (sym (sending.owed_are ∙ ap (λ l. sending.gone ++ l) left_is)) (in_append h sending.gone (h ∷ left) (inr (inl refl))))).other in
                absurd (both_ways (is_reading h.kind) other (ap (λ (z : Tag). is_reading z.kind) (sym same) ∙ ap is_reading read.0)))
                (λ below. below) (first h left left_is),
          ))
          (λ other. inr (
            (owed_is plan xs st.tick tag other).other,
            ⊎_elim
                (λ gone. let l = (ascends_bounds 0 (rank tag) a tag around.0 (sending.each tag gone)).1 in absurd (omega arith))
                (λ left_at. by_list first sending.onwards st.left refl left_at)
                (in_from_append tag sending.gone st.left (subst (IsIn tag) sending.owed_are other)),
          ))
          (sends.only tag at);
    }
  where
    by_list : ((h : Tag) (left : List Tag) → st.left ≡ h ∷ left → (tag ≡ h) ⊎ (rank tag < rank h)) → Ascends st.least (all_ranks plan) st.left → (ls : List Tag) → st.left ≡ ls → IsIn tag st.left → (left : List Tag) × (st.left ≡ tag ∷ left)
    by_list first up [] is at = absurd (subst (IsIn tag) is at)
    by_list first up (h ∷ ls) is at =
        ⊎_elim (λ same. (ls, is ∙ ap (λ z. z ∷ ls) (sym same)))
        (λ below. absurd (⊎_elim (λ here. let k : rank h ≡ rank tag = ap rank here in omega arith)
        (λ there. let up' : Ascends st.least (all_ranks plan) (h ∷ ls) = subst (Ascends st.least (all_ranks plan)) is up in
        let l = (ascends_bounds (rank h + 1) (all_ranks plan) ls tag up'.1 there).0 in omega arith) (subst (IsIn tag) is at)))
        (first h ls is)
