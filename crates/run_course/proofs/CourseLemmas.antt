-- What the judge does with an entry, and why it refuses one.
use Rattle.std.proofs.Common.{◌≡◌, ℕ, zero, suc, ◌+◌, ◌*◌, ◌<◌, ◌≤◌, Bool, true, false, cond, not, ◌&&◌, List, [], ◌∷◌, ◌++◌, length, take, drop, get_or, map, drop-cons, ◌⊎◌, refl, sym, ap, ◌∙◌, subst, ⊎_elim, inl, inr, arith, append_assoc, append-nil, Result, Ok, Err}
use mathlib.Core.List.{reverse_aux}
use Rattle.std.specs.Prelude.{◌==◌, nat_lt, nat_le, reverse, Vec, slice_get, None, IsPermutation}
use Rattle.std.specs.List.{filter, count_by, list_all}
use Rattle.std.specs.declared.alloc.Global.{Global}
use Rattle.std.proofs.lemmas.Bool.{false≢true, and_from, and_parts, and_right, ltb-true, eq-eqb, ne_eqb, le-leb, lt-leb, cases_eq}
use Rattle.std.proofs.lemmas.List.Sorted.{All-permutation, sum_by-IsPermutation}
use Rattle.std.proofs.lemmas.List.Sums.{sum_by-cons}
use Rattle.group_plan.specs.declared.Kind.{Kind}
use Rattle.group_plan.specs.declared.Kind.TheVariants.{Reading, Announcement, Answer}
use Rattle.group_plan.specs.declared.Tag.{Tag}
use Rattle.group_plan.specs.Plans.{PlanView, Group, IsWithinLimits, is_place, size, size_or, is_member}
use Rattle.group_plan.specs.Tables.{ReadingsView, reading, absent}
use Rattle.group_plan.proofs.TableLemmas.{entry-table_of, entry_outside, is_table-table_of}
use Rattle.std.proofs.lemmas.List.Elements.{All-nil}
use Rattle.link_lanes.specs.Fates.{is_delay, never_falls, IsFate}
use Rattle.event_schedule.specs.declared.Event.{Event}
use Rattle.event_schedule.specs.declared.Event.TheVariants.{Send, Take, Close, End}
use Rattle.event_schedule.specs.declared.Line.{Line}
use Rattle.event_schedule.specs.declared.Line.TheVariants.{Send as SendLine, Take as TakeLine, Close as CloseLine, End as EndLine}
use Rattle.event_schedule.specs.declared.Entry.{Entry}
use Rattle.event_schedule.specs.Events.{once, event_of, is_tag, is_take, is_close, is_end}
use Rattle.event_schedule.specs.Schedule.{is_closed, is_reading_sent, is_reading_taken}
use Rattle.event_schedule.proofs.EventLemmas.{is_send-true}
use Rattle.run_rows.specs.Ticks.{clock_of, last_tick, moment, phase, takes_at, tags_of, NoneBefore, StandsOnce}
use Rattle.run_course.specs.declared.waiting.Arrival.{Arrival}
use Rattle.run_course.specs.declared.course.Phase.{Phase}
use Rattle.run_course.specs.declared.course.Phase.TheVariants.{Takes, Rounds, Sends}
use Rattle.run_course.specs.declared.course.Course.{Course}
use Rattle.run_course.specs.Beginnings.{is_void_send, IsSomeRun, BeginsRun}
use Rattle.run_course.specs.Courses.{phase_number, stage_of, Keeps, IsEntered, IsReached, IsStuck, Advances, Judges, MayCall, IsReadingNow, IsBelowFirst, Decides, WholeEnds}
use Rattle.run_course.specs.Lists.{IsIn}
use Rattle.run_course.specs.Marks.{is_noted, NotesTake, owed_marks, AreNoted}
use Rattle.run_course.specs.Sends.{rank, kind_rank, is_reading, all_present, owed}
use Rattle.run_course.specs.Stages.{Stage, is_round_of, AreCalled, Ascends, all_ranks, IsInTime, CouldCome, CanCome, start_of, last_of, Follows, HoldsIn, IsSending, AreDueCopies, due_groups, arrivals}
use Rattle.run_course.proofs.Members.{all_in, all_from_in, in_append}
use Rattle.run_course.proofs.Entries.{stage, in_count, count_in}
use Rattle.run_course.proofs.Steps.{take_step, close_step, end_step, send_step, sending_more, begin_sends}
use Rattle.run_course.proofs.Ticks.{next_tick}
use Rattle.run_course.proofs.Wholes.{run_of}
use Rattle.run_course.proofs.Finishing.{owed_step, due_copies, due_rounds, begins}
use Rattle.run_course.proofs.Refusals.{later_than, first_of, due_taken, none_due, none_called, call_left, none_left, IsNextSend, next_send}
use Rattle.run_course.proofs.Noting.{is_tag-itself, owed_noted, noted_other, noted_reading, noted_announcement, noted_answer}

-- ---- going on

pub goes_on : (plan : PlanView) (xs : List Entry) (e : Entry) → BeginsRun plan (xs ++ e ∷ []) → (more : List Entry) × IsSomeRun plan (xs ++ e ∷ more)
goes_on plan xs e run = (run.0, subst (IsSomeRun plan) (append_assoc xs (e ∷ []) run.0) run.1)

none_before_all : (m : ℕ) (ys : List Entry) → ((y : Entry) → IsIn y ys → m ≤ moment y) → NoneBefore m ys
none_before_all m [] each = tt
none_before_all m (y ∷ ys) each = (each y (inl refl), none_before_all m ys (λ z at. each z (inr at)))

none_before_in : (m : ℕ) (ys : List Entry) → NoneBefore m ys → (y : Entry) → IsIn y ys → m ≤ moment y
none_before_in m [] none y at = absurd at
none_before_in m (z ∷ ys) none y at = ⊎_elim (λ e. subst (λ w. m ≤ moment w) e none.0) (λ there. none_before_in m ys none.1 y there) at

pub after_stuck : (plan : PlanView) (xs : List Entry) (e : Entry) (m : ℕ) → IsStuck plan xs m → m ≤ moment e → BeginsRun plan (xs ++ e ∷ []) → ⊥
after_stuck plan xs e m stuck from run =
    let g = goes_on plan xs e run in
    stuck (e ∷ g.0) g.1 (none_before_all m (e ∷ g.0) (λ y at. let h = first_of xs e g.0 g.1.run.ordered y at in omega arith))

pub stuck_later : (plan : PlanView) (xs : List Entry) (m n : ℕ) → m ≤ n → IsStuck plan xs m → IsStuck plan xs n
stuck_later plan xs m n le stuck more run none = stuck more run (none_before_all m more (λ y at. let h = none_before_in n more none y at in omega arith))

phase_low : (v : Event) → phase v ≤ 2
phase_low (Take tag) = omega arith
phase_low (Close g r) = omega arith
phase_low (End g r) = omega arith
phase_low (Send tag) = omega arith

from_here : (xs : List Entry) (e : Entry) (more : List Entry) (t : ℕ) → ((y : Entry) → IsIn y (e ∷ more) → moment e ≤ moment y) → e.tick ≡ t → (y : Entry) → IsIn y (e ∷ more) → t ≤ y.tick
from_here xs e more t order now y at = let h = order y at in let low = phase_low (event_of y.line) in omega arith

entered_late : (plan : PlanView) (xs : List Entry) (e : Entry) (more : List Entry) (c : Course) → IsEntered xs c → IsSomeRun plan (xs ++ e ∷ more) → e.tick ≡ c.tick → phase_number c.phase ≤ phase (event_of e.line)
entered_late plan xs e more c entered run now =
    ⊎_elim (λ first. omega arith) (λ some. let h = later_than xs (e ∷ more) run.run.ordered some.0 e some.1 (inl refl) in let m : moment some.0 ≡ 3 * c.tick + phase_number c.phase = some.2 in omega arith) entered

not_void : (l : Line) → tags_of (event_of l) ≡ [] → is_void_send l ≡ false
not_void (SendLine tag frame) h = absurd (cc h)
not_void (TakeLine tag verdict) h = refl
not_void (CloseLine g r closing) h = refl
not_void (EndLine g r ending) h = refl

in_last : (xs : List Entry) (e : Entry) → IsIn e (xs ++ e ∷ [])
in_last xs e = in_append e xs (e ∷ []) (inr (inl refl))

-- ---- a copy is taken

same_tag : (tag z : Tag) → is_tag tag.group tag.round tag.meter tag.kind z ≡ true → z ≡ tag
same_tag tag z h = let e : Send z ≡ Send tag = is_send-true tag.group tag.round tag.meter tag.kind (Send z) h in cc e

pub take_must : (plan : PlanView) (xs : List Entry) (c : Course) (e : Entry) (tag : Tag) → Keeps plan xs c → IsEntered xs c → e.tick ≡ c.tick → event_of e.line ≡ Take tag → BeginsRun plan (xs ++ e ∷ [])
    → (phase_number c.phase ≡ 0) × IsIn tag c.due.items
take_must plan xs c e tag keeps entered now is run =
    let g = goes_on plan xs e run in
    let order = first_of xs e g.0 g.1.run.ordered in
    let early = entered_late plan xs e g.0 c entered g.1 now in
    let zero_phase : phase (event_of e.line) ≡ 0 = ap phase is in
    let p : Tag → Bool = is_tag tag.group tag.round tag.meter tag.kind in
    let all = due_taken plan xs (e ∷ g.0) (stage_of c) keeps.follows g.1 (from_here xs e g.0 c.tick order now) tag in
    let some : 0 < takes_at (e ∷ g.0) tag c.tick = in_count (λ (x : Entry). is_take tag.group tag.round tag.meter tag.kind (event_of x.line) && (x.tick == c.tick)) (e ∷ g.0) e (inl refl)
    (and_from (is_take tag.group tag.round tag.meter tag.kind (event_of e.line)) (e.tick == c.tick) (ap (is_take tag.group tag.round tag.meter tag.kind) is ∙ is_tag-itself tag) (eq-eqb e.tick c.tick now)) in
    let found = count_in p c.due.items (omega (arith, all, some)) in
    (omega arith, subst (λ z. IsIn z c.due.items) (same_tag tag found.0 found.2) found.1)

noted_taken : (plan : PlanView) (xs : List Entry) (st : Stage) (e : Entry) (tag : Tag) (came heard came_now heard_now : ReadingsView) (k : Kind)
    → Follows plan xs st → st.phase ≡ 0 → IsIn tag st.due → e.tick ≡ st.tick → event_of e.line ≡ Take tag → tag.kind ≡ k → tag.group < length plan.groups
    → NotesTake k tag st.tick came heard came_now heard_now → AreNoted plan xs st.tick came heard → AreNoted plan (xs ++ e ∷ []) st.tick came_now heard_now
noted_taken plan xs st e tag came heard came_now heard_now Reading f first at now is kind g_in notes noted = noted_reading plan xs st e tag came heard came_now heard_now f first at is kind g_in notes noted
noted_taken plan xs st e tag came heard came_now heard_now Announcement f first at now is kind g_in notes noted = noted_announcement plan xs st e tag came heard came_now heard_now f first now is kind notes noted
noted_taken plan xs st e tag came heard came_now heard_now Answer f first at now is kind g_in notes noted = noted_answer plan xs st.tick e tag came heard came_now heard_now is kind notes noted

size_in : (groups : List Group) (g : ℕ) → 0 < size_or (slice_get groups g) → g < length groups
size_in [] g pos = absurd (omega arith)
size_in (x ∷ xs) zero pos = omega arith
size_in (x ∷ xs) (suc g) pos = let h = size_in xs g pos in omega arith

pub group_in : (plan : PlanView) (g r i : ℕ) → is_place plan g r i ≡ true → (g < length plan.groups) × (r < plan.rounds) × (i < size plan.groups g)
group_in plan g r i h =
    let parts = and_parts (nat_lt r plan.rounds) (nat_lt i (size plan.groups g)) h in
    let low = ltb-true i (size plan.groups g) parts.1 in
    (size_in plan.groups g (omega arith), ltb-true r plan.rounds parts.0, low)

pub take_done : (plan : PlanView) (xs : List Entry) (c : Course) (e : Entry) (tag : Tag) (due : Vec Tag Global) (came heard : ReadingsView) (before after : List Tag)
    → Keeps plan xs c → c.tick ≤ last_tick (clock_of plan) → phase_number c.phase ≡ 0 → e.tick ≡ c.tick → event_of e.line ≡ Take tag → e.fate ≡ [] → tag.group < length plan.groups
    → c.due.items ≡ before ++ tag ∷ after → due.items ≡ before ++ after → NotesTake tag.kind tag c.tick c.came c.heard came heard
    → Judges plan xs e true (record c { due = due; came = came; heard = heard })
take_done plan xs c e tag due came heard before after keeps last first now is fate g_in due_is rest notes = (
  record {
    follows = subst (λ d. Follows plan (xs ++ e ∷ []) (record (stage_of c) { due = d })) (sym rest)
        (take_step plan xs (stage_of c) e tag before after keeps.follows first due_is last now is fate (not_void e.line (ap tags_of is)));
    holds = subst (λ p. HoldsIn p plan (xs ++ e ∷ []) (stage_of (record c { due = due; came = came; heard = heard }))) (sym first) tt;
    noted = noted_taken plan xs (stage_of c) e tag c.came c.heard came heard tag.kind keeps.follows first (subst (IsIn tag) (sym due_is) (in_append tag before (tag ∷ after) (inr (inl refl)))) now is refl g_in notes keeps.noted;
  },
  inl first,
  sym now,
)

-- ---- a round is closed or ended

late_calls : (plan : PlanView) (xs : List Entry) (e : Entry) (more : List Entry) (c : Course) → Keeps plan xs c → IsSomeRun plan (xs ++ e ∷ more) → e.tick ≡ c.tick → 1 ≤ phase (event_of e.line) → c.due.items ≡ []
late_calls plan xs e more c keeps run now late =
    let order = first_of xs e more run.run.ordered in
    none_due plan xs (e ∷ more) (stage_of c) keeps.follows run (from_here xs e more c.tick order now) (λ y at at_tick. let h = order y at in omega arith)

pub close_must : (plan : PlanView) (xs : List Entry) (c : Course) (e : Entry) (g r : ℕ) → Keeps plan xs c → IsEntered xs c → e.tick ≡ c.tick → event_of e.line ≡ Close g r → BeginsRun plan (xs ++ e ∷ [])
    → MayCall c × (r + plan.w1 ≡ c.tick) × IsIn g c.closing.items
close_must plan xs c e g r keeps entered now is run =
    let go = goes_on plan xs e run in
    let early = entered_late plan xs e go.0 c entered go.1 now in
    let one : phase (event_of e.line) ≡ 1 = ap phase is in
    let left = call_left plan is_close plan.w1 xs e go.0 c.tick c.closing.items g r keeps.follows.closed go.1.run.closed now
    (ap (is_close g r) is ∙ and_from (g == g) (r == r) (eq-eqb g g refl) (eq-eqb r r refl)) in
    ((late_calls plan xs e go.0 c keeps go.1 now (omega arith), omega arith), left.0, left.1)

ends_once : (plan : PlanView) (zs : List Entry) → IsSomeRun plan zs → (g r : ℕ) → StandsOnce (is_end g r) (is_round_of plan g r) (r + (plan.w1 + plan.w2)) zs
ends_once plan zs run g r = let e : r + plan.w1 + plan.w2 ≡ r + (plan.w1 + plan.w2) = omega arith in subst (λ t. StandsOnce (is_end g r) (is_round_of plan g r) t zs) e (run.run.ended g r)

pub end_must : (plan : PlanView) (xs : List Entry) (c : Course) (e : Entry) (g r : ℕ) → Keeps plan xs c → IsEntered xs c → e.tick ≡ c.tick → event_of e.line ≡ End g r → BeginsRun plan (xs ++ e ∷ [])
    → MayCall c × (r + (plan.w1 + plan.w2) ≡ c.tick) × IsIn g c.ending.items
end_must plan xs c e g r keeps entered now is run =
    let go = goes_on plan xs e run in
    let early = entered_late plan xs e go.0 c entered go.1 now in
    let one : phase (event_of e.line) ≡ 1 = ap phase is in
    let left = call_left plan is_end (plan.w1 + plan.w2) xs e go.0 c.tick c.ending.items g r keeps.follows.ended (ends_once plan (xs ++ e ∷ go.0) go.1) now
    (ap (is_end g r) is ∙ and_from (g == g) (r == r) (eq-eqb g g refl) (eq-eqb r r refl)) in
    ((late_calls plan xs e go.0 c keeps go.1 now (omega arith), omega arith), left.0, left.1)

pub close_done : (plan : PlanView) (xs : List Entry) (c : Course) (e : Entry) (g r : ℕ) (closing : Vec ℕ Global) (before after : List ℕ)
    → Keeps plan xs c → c.tick ≤ last_tick (clock_of plan) → MayCall c → e.tick ≡ c.tick → event_of e.line ≡ Close g r → e.fate ≡ [] → r + plan.w1 ≡ c.tick
    → c.closing.items ≡ before ++ g ∷ after → closing.items ≡ before ++ after → Judges plan xs e true (record c { phase = Rounds; closing = closing })
close_done plan xs c e g r closing before after keeps last may now is fate at closing_is rest = (
  record {
    follows = subst (λ d. Follows plan (xs ++ e ∷ []) (record (stage_of c) { phase = 1; closing = d })) (sym rest)
        (close_step plan xs (stage_of c) e g r before after keeps.follows may.1 closing_is at last now is fate (not_void e.line (ap tags_of is)));
    holds = may.0;
    noted = noted_other plan xs c.tick e c.came c.heard (λ g r i. ap (is_take g r i Reading) is) (λ g r i. ap (is_take g r i Announcement) is) keeps.noted;
  },
  inr (e, in_last xs e, (let p : phase (event_of e.line) ≡ 1 = ap phase is in omega arith)),
  sym now,
)

pub end_done : (plan : PlanView) (xs : List Entry) (c : Course) (e : Entry) (g r : ℕ) (ending : Vec ℕ Global) (before after : List ℕ)
    → Keeps plan xs c → c.tick ≤ last_tick (clock_of plan) → MayCall c → e.tick ≡ c.tick → event_of e.line ≡ End g r → e.fate ≡ [] → r + (plan.w1 + plan.w2) ≡ c.tick
    → c.ending.items ≡ before ++ g ∷ after → ending.items ≡ before ++ after → Judges plan xs e true (record c { phase = Rounds; ending = ending })
end_done plan xs c e g r ending before after keeps last may now is fate at ending_is rest = (
  record {
    follows = subst (λ d. Follows plan (xs ++ e ∷ []) (record (stage_of c) { phase = 1; ending = d })) (sym rest)
        (end_step plan xs (stage_of c) e g r before after keeps.follows may.1 ending_is at last now is fate (not_void e.line (ap tags_of is)));
    holds = may.0;
    noted = noted_other plan xs c.tick e c.came c.heard (λ g r i. ap (is_take g r i Reading) is) (λ g r i. ap (is_take g r i Announcement) is) keeps.noted;
  },
  inr (e, in_last xs e, (let p : phase (event_of e.line) ≡ 1 = ap phase is in omega arith)),
  sym now,
)

-- ---- plans

pub placed : (other plan : PlanView) (g r i : ℕ) → other ≡ plan → is_place other g r i ≡ true → (g < length plan.groups) × (r < plan.rounds) × (i < size plan.groups g)
placed other plan g r i same h = group_in plan g r i (subst (λ p. is_place p g r i ≡ true) same h)

-- ---- the Sends begin

-- nothing is still to come before the Sends of a run
pub sends_must : (plan : PlanView) (xs : List Entry) (c : Course) → Keeps plan xs c → (more : List Entry) → IsSomeRun plan (xs ++ more) → NoneBefore (3 * c.tick + 2) more
    → (c.due.items ≡ []) × (c.closing.items ≡ []) × (c.ending.items ≡ [])
sends_must plan xs c keeps more run none = (
  none_due plan xs more (stage_of c) keeps.follows run from (λ y at now. let h = none_before_in (3 * c.tick + 2) more none y at in omega arith),
  none_called plan is_close plan.w1 xs more c.tick c.closing.items keeps.follows.closed run.run.closed (λ g r y at now. not_call (event_of y.line) (sends y at now) (λ v. is_close g r v) (λ tag. refl)),
  none_called plan is_end (plan.w1 + plan.w2) xs more c.tick c.ending.items keeps.follows.ended (ends_once plan (xs ++ more) run) (λ g r y at now. not_call (event_of y.line) (sends y at now) (λ v. is_end g r v) (λ tag. refl)),
)
  where
    from : (y : Entry) → IsIn y more → c.tick ≤ y.tick
    from y at = let h = none_before_in (3 * c.tick + 2) more none y at in let p = phase_low (event_of y.line) in omega arith

    sends : (y : Entry) → IsIn y more → y.tick ≡ c.tick → 2 ≤ phase (event_of y.line)
    sends y at now = let h = none_before_in (3 * c.tick + 2) more none y at in omega arith

    not_call : (v : Event) → 2 ≤ phase v → (test : Event → Bool) → ((tag : Tag) → test (Send tag) ≡ false) → test v ≡ false
    not_call (Send tag) h test none = none tag
    not_call (Take tag) h test none = absurd (omega arith)
    not_call (Close g r) h test none = absurd (omega arith)
    not_call (End g r) h test none = absurd (omega arith)

pub sends_begun : (plan : PlanView) → IsWithinLimits plan → (xs : List Entry) (c : Course) (owed_now : Vec Tag Global) → Keeps plan xs c → phase_number c.phase ≤ 1
    → c.due.items ≡ [] → c.closing.items ≡ [] → c.ending.items ≡ [] → owed_now.items ≡ owed_marks c.came c.heard c.tick
    → Keeps plan xs (record c { owed = owed_now; sent = 0; least = 0; phase = Sends })
sends_begun plan limits xs c owed_now keeps low due closing ending is =
    let begun = begin_sends plan limits xs (stage_of c) keeps.follows low due closing ending in
    let same : owed plan xs c.tick ≡ owed_now.items = sym (is ∙ owed_noted plan xs (stage_of c) c.came c.heard keeps.follows closing keeps.noted) in
    record {
      follows = subst (λ l. Follows plan xs (stage c.tick 2 c.due.items c.later.items c.closing.items c.ending.items l 0)) same begun.0;
      holds = (refl, subst (λ l. IsSending plan xs (stage c.tick 2 c.due.items c.later.items c.closing.items c.ending.items l 0)) same begun.1);
      noted = keeps.noted;
    }

sending_of : (plan : PlanView) (xs : List Entry) (c : Course) → Keeps plan xs c → c.phase ≡ Sends → IsSending plan xs (stage_of c)
sending_of plan xs c keeps now =
    let h : HoldsIn 2 plan xs (stage_of c) = subst (λ p. HoldsIn p plan xs (stage_of c)) (ap phase_number now) keeps.holds in h.1

-- ---- the next tick begins

pub next_must : (plan : PlanView) → IsWithinLimits plan → (xs : List Entry) (c : Course) → Keeps plan xs c → c.phase ≡ Sends → (more : List Entry) → IsSomeRun plan (xs ++ more) → NoneBefore (3 * (c.tick + 1)) more → drop c.sent c.owed.items ≡ []
next_must plan limits xs c keeps now more run none =
    none_left plan limits xs more (stage_of c) keeps.follows (sending_of plan xs c keeps now) run (λ y at tick. let h = none_before_in (3 * (c.tick + 1)) more none y at in let p = phase_low (event_of y.line) in omega arith)

in_reverse_aux : {X : Type 0} (x : X) (xs ys : List X) → IsIn x (reverse_aux xs ys) → IsIn x xs ⊎ IsIn x ys
in_reverse_aux x [] ys at = inr at
in_reverse_aux x (z ∷ xs) ys at =
    ⊎_elim (λ first. inl (inr first)) (λ second. ⊎_elim (λ here. inl (inl here)) (λ there. inr there) second) (in_reverse_aux x xs (z ∷ ys) at)

count_reverse_aux : {X : Type 0} (p : X → Bool) (xs ys : List X) → count_by p (reverse_aux xs ys) ≡ count_by p xs + count_by p ys
count_reverse_aux p [] ys = omega arith
count_reverse_aux {X} p (z ∷ xs) ys = omega (arith, count_reverse_aux p xs (z ∷ ys), sum_by-cons (λ (y : X). cond (p y) 1 0) z ys, sum_by-cons (λ (y : X). cond (p y) 1 0) z xs)

due_reversed : (t : ℕ) (later : List Arrival) → AreDueCopies t later (map (λ a. a.tag) (filter (λ a. a.tick == t) (reverse later))) (filter (λ a. not (a.tick == t)) later)
due_reversed t later =
    let back = due_copies t (reverse later) in
    record {
      counted = λ p. back.counted p ∙ count_reverse_aux (λ (a : Arrival). p a.tag && (a.tick == t)) later [] ∙ omega arith;
      from = λ tag at. let found = back.from tag at in (found.0, ⊎_elim (λ first. first) (λ none. absurd none) (in_reverse_aux found.0 later [] found.1), found.2, found.3);
      others = refl;
    }

in_permutation : {X : Type 0} (x : X) (xs ys : List X) → IsPermutation xs ys → IsIn x ys → IsIn x xs
in_permutation {X} x xs ys moved at = all_in (λ y. IsIn y xs) ys (All-permutation (λ (y : X). IsIn y xs) xs ys moved (all_from_in (λ (y : X). IsIn y xs) xs (λ y here. here))) x at

due_sorted : (t : ℕ) (later : List Arrival) (due : List Tag) → IsPermutation (map (λ a. a.tag) (filter (λ a. a.tick == t) (reverse later))) due → AreDueCopies t later due (filter (λ a. not (a.tick == t)) later)
due_sorted t later due moved =
    let back = due_reversed t later in
    record {
      counted = λ p. sum_by-IsPermutation (λ (tag : Tag). cond (p tag) 1 0) _ due moved ∙ back.counted p;
      from = λ tag at. back.from tag (in_permutation tag _ due moved at);
      others = refl;
    }

pub next_begun : (plan : PlanView) (xs : List Entry) (c : Course) (due : Vec Tag Global) (later : Vec Arrival Global) (closing ending : Vec ℕ Global) → Keeps plan xs c → c.phase ≡ Sends → drop c.sent c.owed.items ≡ []
    → IsPermutation (map (λ a. a.tag) (filter (λ a. a.tick == c.tick + 1) (reverse c.later.items))) due.items → later.items ≡ filter (λ a. not (a.tick == c.tick + 1)) c.later.items
    → closing.items ≡ due_groups plan plan.w1 (c.tick + 1) → ending.items ≡ due_groups plan (plan.w1 + plan.w2) (c.tick + 1)
    → Keeps plan xs (record c { due = due; later = later; closing = closing; ending = ending; tick = c.tick + 1; phase = Takes })
next_begun plan xs c due later closing ending keeps now left due_is later_is closing_is ending_is =
    let low : phase_number c.phase ≤ 2 = (let e : phase_number c.phase ≡ 2 = ap phase_number now in omega arith) in
    let next = next_tick plan xs (stage_of c) due.items (filter (λ a. not (a.tick == c.tick + 1)) c.later.items)
    (due_groups plan plan.w1 (c.tick + 1)) (due_groups plan (plan.w1 + plan.w2) (c.tick + 1)) (drop c.sent c.owed.items) c.least keeps.follows (sending_of plan xs c keeps now) low left
    (due_sorted (c.tick + 1) c.later.items due.items due_is) (due_rounds plan plan.w1 (c.tick + 1)) (due_rounds plan (plan.w1 + plan.w2) (c.tick + 1)) in
    record {
      follows =
          subst (λ l. Follows plan xs (stage (c.tick + 1) 0 due.items l closing.items ending.items (drop c.sent c.owed.items) c.least)) (sym later_is)
          (subst (λ g. Follows plan xs (stage (c.tick + 1) 0 due.items (filter (λ a. not (a.tick == c.tick + 1)) c.later.items) g ending.items (drop c.sent c.owed.items) c.least)) (sym closing_is)
          (subst (λ g. Follows plan xs (stage (c.tick + 1) 0 due.items (filter (λ a. not (a.tick == c.tick + 1)) c.later.items) (due_groups plan plan.w1 (c.tick + 1)) g (drop c.sent c.owed.items) c.least)) (sym ending_is) next));
      holds = tt;
      noted = record {
        came_plan = keeps.noted.came_plan;
        heard_plan = keeps.noted.heard_plan;
        came_are = keeps.noted.came_are;
        heard_are = λ g r i t from. keeps.noted.heard_are g r i t (omega arith);
      };
    }

pub low_phase : (p : Phase) → (p ≡ Sends → ⊥) → phase_number p ≤ 1
low_phase Takes h = omega arith
low_phase Rounds h = omega arith
low_phase Sends h = absurd (h refl)

pub drop_past : {X : Type 0} (xs : List X) (n : ℕ) → length xs ≤ n → drop n xs ≡ []
drop_past [] zero h = refl
drop_past [] (suc n) h = refl
drop_past (x ∷ xs) zero h = absurd (omega arith)
drop_past (x ∷ xs) (suc n) h = drop_past xs n (omega arith)

pub drop_some : {X : Type 0} (xs : List X) (n : ℕ) → n < length xs → drop n xs ≡ [] → ⊥
drop_some [] n h e = omega arith
drop_some (x ∷ xs) zero h e = cc e
drop_some (x ∷ xs) (suc n) h e = drop_some xs n (omega arith) e

-- ---- a frame is sent

-- a Send of a run is the next one
pub send_must : (plan : PlanView) → IsWithinLimits plan → (xs : List Entry) (c : Course) (e : Entry) (tag : Tag) → Keeps plan xs c → c.phase ≡ Sends → e.tick ≡ c.tick → event_of e.line ≡ Send tag → BeginsRun plan (xs ++ e ∷ [])
    → IsNextSend plan (stage_of c) tag
send_must plan limits xs c e tag keeps now tick is run =
    let go = goes_on plan xs e run in
    let order = first_of xs e go.0 go.1.run.ordered in
    let two : phase (event_of e.line) ≡ 2 = ap phase is in
    next_send plan limits xs e go.0 (stage_of c) tag keeps.follows (sending_of plan xs c keeps now) go.1 tick is
    (λ z. let all = due_taken plan xs (e ∷ go.0) (stage_of c) keeps.follows go.1 (from_here xs e go.0 c.tick order tick) z in
    let none : count_by (is_tag z.group z.round z.meter z.kind) c.due.items ≡ 0 = ap (count_by (is_tag z.group z.round z.meter z.kind)) (sending_of plan xs c keeps now).taken in omega (arith, all, none))

pub reading_must : (plan : PlanView) (st : Stage) (tag : Tag) → IsNextSend plan st tag → tag.kind ≡ Reading → IsReadingNow plan st tag
reading_must plan st tag next kind =
    ⊎_elim
    (λ read. record { now = read.1; member = read.2; onwards = next.onwards; before = below st.left refl (λ h left is. read.3 h left is) })
    (λ other. absurd (false≢true (sym other.0 ∙ ap is_reading kind)))
    next.is
  where
    below : (ls : List Tag) → st.left ≡ ls → ((h : Tag) (left : List Tag) → st.left ≡ h ∷ left → rank tag < rank h) → IsBelowFirst (rank tag) ls
    below [] is first = tt
    below (h ∷ ls) is first = first h ls is

pub owed_must : (plan : PlanView) (st : Stage) (tag : Tag) → IsNextSend plan st tag → (tag.kind ≡ Reading → ⊥) → (rest : List Tag) × (st.left ≡ tag ∷ rest)
owed_must plan st tag next other = ⊎_elim (λ read. absurd (other read.0)) (λ owed. owed.1) next.is

no_take : (e : Entry) (tag : Tag) → event_of e.line ≡ Send tag → (k : Kind) (g r i : ℕ) → is_take g r i k (event_of e.line) ≡ false
no_take e tag is k g r i = ap (is_take g r i k) is

-- the judge after a reading
pub reading_sent : (plan : PlanView) → IsWithinLimits plan → (xs : List Entry) (c : Course) (e : Entry) (tag : Tag) (later : Vec Arrival Global) → Keeps plan xs c → c.phase ≡ Sends → c.tick ≤ last_tick (clock_of plan)
    → e.tick ≡ c.tick → event_of e.line ≡ Send tag → IsFate e.fate → is_void_send e.line ≡ false → (tag.group < length plan.groups) × (tag.round < plan.rounds) × (tag.meter < size plan.groups tag.group)
    → tag.kind ≡ Reading → IsReadingNow plan (stage_of c) tag → later.items ≡ c.later.items ++ arrivals c.tick tag e.fate
    → Judges plan xs e true (record c { least = rank tag + 1; later = later })
reading_sent plan limits xs c e tag later keeps phase_is last now is fate posted place kind may later_is =
    let sending : IsSending plan xs (stage_of c) = sending_of plan xs c keeps phase_is in
    let low : phase_number c.phase ≡ 2 = ap phase_number phase_is in
    let at : tag.round ≡ c.tick = may.now in
    let left : List Tag = drop c.sent c.owed.items in
    let more : Follows plan (xs ++ e ∷ []) (stage c.tick 2 c.due.items (c.later.items ++ arrivals c.tick tag e.fate) c.closing.items c.ending.items left (rank tag + 1))
    = send_step plan xs (stage_of c) e tag left (rank tag + 1) keeps.follows (omega arith) last now is fate posted
    (record { group = place.0; round = place.1; reading = λ k. (now ∙ sym at, may.member) })
    (record { round = place.1; after = subst (λ k. start_of plan tag k ≤ c.tick) (sym kind) (omega arith); before = subst (λ k. c.tick + 16 ≤ last_of plan tag k) (sym kind) (omega arith) }) in
    let going : IsSending plan (xs ++ e ∷ []) (stage c.tick 2 c.due.items later.items c.closing.items c.ending.items left (rank tag + 1))
    = sending_more plan xs (stage_of c) e tag later.items sending.gone left keeps.follows sending now is may.onwards sending.owed_are (upwards left sending.onwards may.before)
    (λ y at. at) (λ other. absurd (false≢true (sym other ∙ ap is_reading kind))) (λ y at. inl at) in
    let follows : Follows plan (xs ++ e ∷ []) (stage c.tick 2 c.due.items later.items c.closing.items c.ending.items left (rank tag + 1))
    = subst (λ l. Follows plan (xs ++ e ∷ []) (stage c.tick 2 c.due.items l c.closing.items c.ending.items left (rank tag + 1))) (sym later_is) more in (
      record {
        follows = subst (λ p. Follows plan (xs ++ e ∷ []) (stage c.tick p c.due.items later.items c.closing.items c.ending.items left (rank tag + 1))) (sym low) follows;
        holds = subst (λ p. HoldsIn p plan (xs ++ e ∷ []) (stage c.tick p c.due.items later.items c.closing.items c.ending.items left (rank tag + 1))) (sym low) (refl, going);
        noted = noted_other plan xs c.tick e c.came c.heard (no_take e tag is Reading) (no_take e tag is Announcement) keeps.noted;
      },
      inr (e, in_last xs e, (let p : phase (event_of e.line) ≡ 2 = ap phase is in omega arith)),
      sym now,
    )
  where
    bound : rank tag + 1 ≤ all_ranks plan
    bound =
        let g_in = place.0 in
        let r_in = place.1 in
        let i_in = place.2 in
        let few = limits.meters tag.group in
        let rounds = limits.rounds in
        let k : kind_rank tag.kind ≡ 0 = ap kind_rank kind in
        omega arith

    upwards : (left : List Tag) → Ascends c.least (all_ranks plan) left → IsBelowFirst (rank tag) left → Ascends (rank tag + 1) (all_ranks plan) left
    upwards [] up before = bound
    upwards (y ∷ ys) up before = let h : rank tag < rank y = before in (omega arith, up.1)

drop_next : (ys : List Tag) (n : ℕ) (y : Tag) (rest : List Tag) → drop n ys ≡ y ∷ rest → drop (suc n) ys ≡ rest
drop_next [] zero y rest h = cc h
drop_next [] (suc n) y rest h = cc h
drop_next (z ∷ ys) zero y rest h = cc h
drop_next (z ∷ ys) (suc n) y rest h = drop_next ys n y rest h

-- the judge after another frame
pub owed_sent : (plan : PlanView) (xs : List Entry) (c : Course) (e : Entry) (tag : Tag) (later : Vec Arrival Global) (rest : List Tag) → Keeps plan xs c → c.phase ≡ Sends → c.tick ≤ last_tick (clock_of plan)
    → e.tick ≡ c.tick → event_of e.line ≡ Send tag → IsFate e.fate → is_void_send e.line ≡ false → drop c.sent c.owed.items ≡ tag ∷ rest → later.items ≡ c.later.items ++ arrivals c.tick tag e.fate
    → Judges plan xs e true (record c { sent = c.sent + 1; least = rank tag + 1; later = later })
owed_sent plan xs c e tag later rest keeps phase_is last now is fate posted left_is later_is =
    let sending : IsSending plan xs (stage_of c) = sending_of plan xs c keeps phase_is in
    let low : phase_number c.phase ≡ 2 = ap phase_number phase_is in
    let next : drop (c.sent + 1) c.owed.items ≡ rest = ap (λ n. drop n c.owed.items) (let e : c.sent + 1 ≡ suc c.sent = omega arith in e) ∙ drop_next c.owed.items c.sent tag rest left_is in
    let step = owed_step plan xs (stage_of c) e tag rest keeps.follows sending (omega arith) last left_is now is fate posted in
    let follows : Follows plan (xs ++ e ∷ []) (stage c.tick 2 c.due.items later.items c.closing.items c.ending.items (drop (c.sent + 1) c.owed.items) (rank tag + 1))
    = subst (λ l. Follows plan (xs ++ e ∷ []) (stage c.tick 2 c.due.items l c.closing.items c.ending.items (drop (c.sent + 1) c.owed.items) (rank tag + 1))) (sym later_is)
    (subst (λ l. Follows plan (xs ++ e ∷ []) (stage c.tick 2 c.due.items (c.later.items ++ arrivals c.tick tag e.fate) c.closing.items c.ending.items l (rank tag + 1))) (sym next) step.0) in
    let going : IsSending plan (xs ++ e ∷ []) (stage c.tick 2 c.due.items later.items c.closing.items c.ending.items (drop (c.sent + 1) c.owed.items) (rank tag + 1))
    = subst (λ l. IsSending plan (xs ++ e ∷ []) (stage c.tick 2 c.due.items l c.closing.items c.ending.items (drop (c.sent + 1) c.owed.items) (rank tag + 1))) (sym later_is)
    (subst (λ l. IsSending plan (xs ++ e ∷ []) (stage c.tick 2 c.due.items (c.later.items ++ arrivals c.tick tag e.fate) c.closing.items c.ending.items l (rank tag + 1))) (sym next) step.1) in (
      record {
        follows = subst (λ p. Follows plan (xs ++ e ∷ []) (stage c.tick p c.due.items later.items c.closing.items c.ending.items (drop (c.sent + 1) c.owed.items) (rank tag + 1))) (sym low) follows;
        holds = subst (λ p. HoldsIn p plan (xs ++ e ∷ []) (stage c.tick p c.due.items later.items c.closing.items c.ending.items (drop (c.sent + 1) c.owed.items) (rank tag + 1))) (sym low) (refl, going);
        noted = noted_other plan xs c.tick e c.came c.heard (no_take e tag is Reading) (no_take e tag is Announcement) keeps.noted;
      },
      inr (e, in_last xs e, (let p : phase (event_of e.line) ≡ 2 = ap phase is in omega arith)),
      sym now,
    )

-- ---- before the first entry

first_called : (plan : PlanView) (test : ℕ → ℕ → Event → Bool) (window : ℕ) → AreCalled plan test window [] 0 (due_groups plan window 0)
first_called plan test window =
    let due = due_rounds plan window 0 in
    record {
      counted = λ g r. ⊎_elim
          (λ now.
          let a : cond {A = ℕ} (r + window == 0) (count_by (λ h. h == g) (due_groups plan window 0)) 0 ≡ count_by (λ h. h == g) (due_groups plan window 0)
          = ap (λ q. cond q (count_by (λ h. h == g) (due_groups plan window 0)) 0) (eq-eqb (r + window) 0 now) in
          let b : cond {A = ℕ} (is_round_of plan g r && nat_le (r + window) 0) 1 0 ≡ cond (is_round_of plan g r) 1 0
          = ap (λ q. cond {A = ℕ} (is_round_of plan g r && q) 1 0) (le-leb (r + window) 0 (omega arith)) ∙ and_true (is_round_of plan g r) in
          omega (arith, a, b, due.each g r now))
          (λ other.
          let a : cond {A = ℕ} (r + window == 0) (count_by (λ h. h == g) (due_groups plan window 0)) 0 ≡ 0
          = ap (λ q. cond q (count_by (λ h. h == g) (due_groups plan window 0)) 0) (ne_eqb (r + window) 0 other) in
          let b : cond {A = ℕ} (is_round_of plan g r && nat_le (r + window) 0) 1 0 ≡ 0
          = ap (λ q. cond q 1 0) (and_right (is_round_of plan g r) (nat_le (r + window) 0) (lt-leb (r + window) 0 (omega arith))) in
          omega (arith, a, b))
          (cases_eq (r + window) 0);
      when = λ g r. All-nil (λ e. test g r (event_of e.line) ≡ true → e.tick ≡ r + window);
      began = due.began;
    }
  where
    and_true : (p : Bool) → cond {A = ℕ} (p && true) 1 0 ≡ cond p 1 0
    and_true true = refl
    and_true false = refl

first_stage : (plan : PlanView) → Follows plan [] (stage 0 0 [] [] (due_groups plan plan.w1 0) (due_groups plan (plan.w1 + plan.w2) 0) [] 0)
first_stage plan = record {
  ordered = tt;
  reached = All-nil (λ e. moment e ≤ 3 * 0 + 0);
  within = All-nil (λ e. e.tick ≤ last_tick (clock_of plan));
  taken = λ tag t. none (t == 0);
  ahead = All-nil (λ a. 0 < a.tick);
  closed = first_called plan is_close plan.w1;
  ended = first_called plan is_end (plan.w1 + plan.w2);
  whole = λ t before. absurd (omega arith);
  in_time = All-nil (λ e. IsInTime plan e (event_of e.line));
  fates = All-nil (λ e. IsFate e.fate);
  others = All-nil (λ e. tags_of (event_of e.line) ≡ [] → e.fate ≡ []);
  posted = All-nil (λ e. is_void_send e.line ≡ false);
  could = All-nil (λ e. CouldCome plan e.tick (event_of e.line));
  due_can = All-nil (λ tag. CanCome plan tag 0);
  later_can = All-nil (λ a. CanCome plan a.tag a.tick);
}
  where
    none : (q : Bool) → 0 + (cond {A = ℕ} q 0 0 + 0) ≡ 0
    none true = omega arith
    none false = omega arith

absent_place : (plan : PlanView) (g r i : ℕ) → reading (absent plan).table g r i ≡ None
absent_place plan g r i = by_place (is_place plan g r i) refl
  where
    by_place : (q : Bool) → is_place plan g r i ≡ q → reading (absent plan).table g r i ≡ None
    by_place true is = entry-table_of plan (λ g r i. None) None g r i is
    by_place false is = entry_outside plan (absent plan).table (is_table-table_of plan (λ g r i. None)) None g r i is

once-nil : (test : Event → List Event → Bool) → once test [] ≡ false
unfolding once
once-nil test = refl

first_noted : (plan : PlanView) → AreNoted plan [] 0 (absent plan) (absent plan)
first_noted plan = record {
  came_plan = refl;
  heard_plan = refl;
  came_are = λ g r i. ap (is_noted 0) (absent_place plan g r i) ∙ sym (and_right (is_member plan.groups g r i) (is_reading_taken (all_present plan) g r i []) (none_taken g r i));
  heard_are = λ g r i t from. ap (is_noted t) (absent_place plan g r i) ∙ sym (and_right (is_member plan.groups g r i) (nat_lt 0 0) refl);
}
  where
    none_taken : (g r i : ℕ) → is_reading_taken (all_present plan) g r i [] ≡ false
    none_taken g r i = once-nil (λ e before. is_take g r i Reading e && is_reading_sent (all_present plan) g r i before && not (is_closed g r before))

-- what the judge keeps before the first entry
pub first_keeps : (plan : PlanView) (c : Course) → c.tick ≡ 0 → c.phase ≡ Takes → c.due.items ≡ [] → c.later.items ≡ [] → c.closing.items ≡ due_groups plan plan.w1 0 → c.ending.items ≡ due_groups plan (plan.w1 + plan.w2) 0
    → c.owed.items ≡ [] → c.sent ≡ 0 → c.least ≡ 0 → c.came ≡ absent plan → c.heard ≡ absent plan → Keeps plan [] c
first_keeps plan c tick phase_is due later closing ending owed_is sent least came heard = record {
  follows = subst (Follows plan []) (sym stage_is) (first_stage plan);
  holds = subst (λ p. HoldsIn (phase_number p) plan [] (stage_of c)) (sym phase_is) tt;
  noted = subst (λ t. AreNoted plan [] t c.came c.heard) (sym tick) (subst (λ (x : ReadingsView). AreNoted plan [] 0 x c.heard) (sym came) (subst (λ (x : ReadingsView). AreNoted plan [] 0 (absent plan) x) (sym heard) (first_noted plan)));
}
  where
    left_is : drop c.sent c.owed.items ≡ []
    left_is = drop_past c.owed.items c.sent (let e : length c.owed.items ≡ 0 = ap length owed_is in omega arith)

    stage_is : stage_of c ≡ stage 0 0 [] [] (due_groups plan plan.w1 0) (due_groups plan (plan.w1 + plan.w2) 0) [] 0
    stage_is =
        ap (λ t. stage t (phase_number c.phase) c.due.items c.later.items c.closing.items c.ending.items (drop c.sent c.owed.items) c.least) tick
        ∙ ap (λ p. stage 0 (phase_number p) c.due.items c.later.items c.closing.items c.ending.items (drop c.sent c.owed.items) c.least) phase_is
        ∙ ap (λ d. stage 0 0 d c.later.items c.closing.items c.ending.items (drop c.sent c.owed.items) c.least) due
        ∙ ap (λ l. stage 0 0 [] l c.closing.items c.ending.items (drop c.sent c.owed.items) c.least) later
        ∙ ap (λ g. stage 0 0 [] [] g c.ending.items (drop c.sent c.owed.items) c.least) closing
        ∙ ap (λ g. stage 0 0 [] [] (due_groups plan plan.w1 0) g (drop c.sent c.owed.items) c.least) ending
        ∙ ap (λ l. stage 0 0 [] [] (due_groups plan plan.w1 0) (due_groups plan (plan.w1 + plan.w2) 0) l c.least) left_is
        ∙ ap (λ n. stage 0 0 [] [] (due_groups plan plan.w1 0) (due_groups plan (plan.w1 + plan.w2) 0) [] n) least

-- ---- from tick to tick

-- an entry of an earlier tick stands in no run
pub not_back : (plan : PlanView) (xs : List Entry) (c : Course) (e : Entry) → IsReached xs c → e.tick < c.tick → BeginsRun plan (xs ++ e ∷ []) → ⊥
not_back plan xs c e reached before run =
    let go = goes_on plan xs e run in
    ⊎_elim (λ first. omega arith)
    (λ some. let h = later_than xs (e ∷ go.0) go.1.run.ordered some.0 e some.1 (inl refl) in let now : some.0.tick ≡ c.tick = some.2 in let p = phase_low (event_of e.line) in omega arith) reached

pub reached_now : (xs : List Entry) (e : Entry) (c : Course) → c.tick ≡ e.tick → IsReached (xs ++ e ∷ []) c
reached_now xs e c now = inr (e, in_last xs e, sym now)

-- at the end of the last tick
pub whole_run : (plan : PlanView) → IsWithinLimits plan → (xs : List Entry) (c : Course) → Keeps plan xs c → c.tick ≡ last_tick (clock_of plan) + 1 → IsSomeRun plan xs
whole_run plan limits xs c keeps at = run_of plan limits xs (stage_of c) keeps.follows (omega arith)

pub not_whole : (plan : PlanView) (xs : List Entry) (m : ℕ) → IsStuck plan xs m → IsSomeRun plan xs → ⊥
not_whole plan xs m stuck run = stuck [] (subst (IsSomeRun plan) (sym (append-nil xs)) run) tt

-- entries that the judge has let pass are the beginning of a run
pub begins_so_far : (plan : PlanView) → IsWithinLimits plan → (xs : List Entry) (c : Course) → Keeps plan xs c → IsReached xs c → BeginsRun plan xs
begins_so_far plan limits xs c keeps reached =
    begins plan limits xs (stage_of c) keeps.follows keeps.holds
    (⊎_elim (λ first. omega arith) (λ some. let h = all_in (λ x. x.tick ≤ last_tick (clock_of plan)) xs keeps.follows.within some.0 some.1 in let now : some.0.tick ≡ c.tick = some.2 in omega arith) reached)

pub owed_first : (xs : List Tag) (n : ℕ) (next tag : Tag) (b : Bool) → n < length xs → ((d : Tag) → next ≡ get_or xs n d) → (b ≡ true → next ≡ tag) → (next ≡ tag → b ≡ true)
    → Decides ((rest : List Tag) × (drop n xs ≡ tag ∷ rest)) b
owed_first xs n next tag true below read there back =
    (drop (suc n) xs, drop-cons xs n tag below ∙ ap (λ z. z ∷ drop (suc n) xs) (sym (read tag) ∙ there refl))
owed_first xs n next tag false below read there back =
    λ some. let e : next ∷ drop (suc n) xs ≡ tag ∷ some.0 = ap (λ z. z ∷ drop (suc n) xs) (read tag) ∙ sym (drop-cons xs n tag below) ∙ some.1 in
    let same : next ≡ tag = cc e in false≢true (back same)

pub fate_of : (fate : List ℕ) → length fate ≤ 3 → list_all is_delay fate ≡ true → never_falls fate ≡ true → (e : Entry) → e.fate ≡ fate → IsFate e.fate
fate_of fate few delays order e is = subst IsFate (sym is) (record { few = few; delays = delays; order = order })

pub whole_ends : {E : Type 0} (plan : PlanView) → IsWithinLimits plan → (xs : List Entry) (tick : ℕ) (answer : Result Bool E) (c : Course) → tick ≡ last_tick (clock_of plan) + 1 → Advances plan xs tick answer c → WholeEnds plan xs answer
whole_ends plan limits xs tick (Ok true) c at went = whole_run plan limits xs c went.0 (went.2 ∙ at)
whole_ends plan limits xs tick (Ok false) c at stuck = not_whole plan xs (3 * tick) stuck
whole_ends plan limits xs tick (Err lack) c at went = tt

pub take_next : {X : Type 0} (xs : List X) (k : ℕ) (x : X) → k < length xs → x ≡ get_or xs k x → take (k + 1) xs ≡ take k xs ++ x ∷ []
take_next xs k x below is = ap (λ n. take n xs) (let e : k + 1 ≡ suc k = omega arith in e) ∙ by_list xs k below is
  where
    by_list : {X : Type 0} {x : X} (xs : List X) (k : ℕ) → k < length xs → x ≡ get_or xs k x → take (suc k) xs ≡ take k xs ++ x ∷ []
    by_list [] k below is = absurd (omega arith)
    by_list (y ∷ ys) zero below is = ap (λ z. z ∷ []) (sym is)
    by_list (y ∷ ys) (suc k) below is = ap (λ l. y ∷ l) (by_list ys k (omega arith) is)

pub take_whole : {X : Type 0} (xs : List X) (k : ℕ) → length xs ≤ k → take k xs ≡ xs
take_whole [] zero h = refl
take_whole [] (suc k) h = refl
take_whole (x ∷ xs) zero h = absurd (omega arith)
take_whole (x ∷ xs) (suc k) h = ap (λ l. x ∷ l) (take_whole xs k (omega arith))
