-- Entries that keep to their times can be gone on with: all that is due, with every further frame lost, makes them a run.
use Rattle.std.proofs.Common.{◌≡◌, ℕ, zero, suc, ◌+◌, ◌-◌, ◌<◌, ◌≤◌, Bool, true, false, cond, not, ◌&&◌, List, [], ◌∷◌, ◌++◌, length, map, refl, sym, ap, ◌∙◌, subst, ⊎_elim, inl, inr, arith, append-nil, append_assoc}
use Rattle.std.specs.Prelude.{◌==◌, nat_lt, nat_le, Some}
use Rattle.std.specs.List.{filter, range_with_len, count_by, All}
use Rattle.std.proofs.lemmas.Bool.{false≢true, both_ways, and_parts, and_from, and_left, and_right, cases_eq, cases_lt, ne_eqb, eq-eqb, eqb-true, lt-ltb, le-ltb, le-leb, lt-leb, leb-true}
use Rattle.std.proofs.lemmas.List.Sums.{sum_by-cons}
use Rattle.group_plan.specs.declared.Kind.TheVariants.{Announcement}
use Rattle.group_plan.specs.declared.Tag.{Tag}
use Rattle.group_plan.specs.Plans.{PlanView, IsWithinLimits}
use Rattle.round_machine.specs.declared.Verdict.TheVariants.{Fresh}
use Rattle.round_machine.specs.declared.Closing.TheVariants.{Already as AlreadyClosed}
use Rattle.round_machine.specs.declared.Ending.TheVariants.{Already as AlreadyEnded}
use Rattle.event_schedule.specs.declared.Event.{Event}
use Rattle.event_schedule.specs.declared.Event.TheVariants.{Send, Take, Close, End}
use Rattle.event_schedule.specs.declared.Line.TheVariants.{Send as SendLine, Take as TakeLine, Close as CloseLine, End as EndLine}
use Rattle.event_schedule.specs.declared.Entry.{Entry}
use Rattle.event_schedule.specs.Events.{event_of, is_take}
use Rattle.event_schedule.proofs.EventLemmas.{is_send-true}
use Rattle.link_lanes.specs.Fates.{IsFate}
use Rattle.run_rows.specs.Ticks.{clock_of, last_tick, tag_of, takes_at}
use Rattle.run_course.specs.declared.waiting.Arrival.{Arrival}
use Rattle.run_course.specs.Beginnings.{is_void_send, IsSomeRun, BeginsRun}
use Rattle.run_course.specs.Lists.{IsIn}
use Rattle.run_course.specs.Sends.{rank, is_reading, owed}
use Rattle.run_course.specs.Stages.{Stage, Ascends, all_ranks, CouldCome, CanCome, start_of, last_of, Follows, IsSending, HoldsIn, AreDueCopies, AreDueRounds, due_groups, arrivals}
use Rattle.run_course.proofs.Members.{all_in, all_from_in, in_append, in_from_append, in_from_map, in_from_filter}
use Rattle.run_course.proofs.Calls.{IsOwed, owed_is}
use Rattle.run_course.proofs.Entries.{stage, count_in}
use Rattle.run_course.proofs.Steps.{CanSend, take_step, close_step, end_step, send_step, sending_more, begin_sends}
use Rattle.run_course.proofs.Ticks.{next_tick}
use Rattle.run_course.proofs.Wholes.{run_of}

pub begins_before : (plan : PlanView) (xs ys : List Entry) → BeginsRun plan (xs ++ ys) → BeginsRun plan xs
begins_before plan xs ys run = (ys ++ run.0, subst (IsSomeRun plan) (append_assoc xs ys run.0) run.1)

-- ---- what is due in the next tick

copies_counted : (p : Tag → Bool) (t : ℕ) (later : List Arrival) → count_by p (map (λ a. a.tag) (filter (λ a. a.tick == t) later)) ≡ count_by (λ a. p a.tag && (a.tick == t)) later
copies_counted p t [] = refl
copies_counted p t (a ∷ later) = split (a.tick == t) refl (copies_counted p t later)
  where
    split : (q : Bool) → (a.tick == t) ≡ q → count_by p (map (λ (a : Arrival). a.tag) (filter (λ a. a.tick == t) later)) ≡ count_by (λ (a : Arrival). p a.tag && (a.tick == t)) later
        → count_by p (map (λ (a : Arrival). a.tag) (cond q (a ∷ filter (λ a. a.tick == t) later) (filter (λ a. a.tick == t) later))) ≡ count_by (λ (a : Arrival). p a.tag && (a.tick == t)) (a ∷ later)
    split true is ih =
        let e : cond {A = ℕ} (p a.tag && (a.tick == t)) 1 0 ≡ cond (p a.tag) 1 0 = ap (λ q. cond (p a.tag && q) 1 0) is ∙ and_true (p a.tag) in
        omega (arith, ih, sum_by-cons (λ (y : Tag). cond (p y) 1 0) a.tag (map (λ (a : Arrival). a.tag) (filter (λ a. a.tick == t) later)), sum_by-cons (λ (b : Arrival). cond (p b.tag && (b.tick == t)) 1 0) a later, e)
      where
        and_true : (x : Bool) → cond {A = ℕ} (x && true) 1 0 ≡ cond x 1 0
        and_true true = refl
        and_true false = refl
    split false is ih =
        let e : cond {A = ℕ} (p a.tag && (a.tick == t)) 1 0 ≡ 0 = ap (λ q. cond q 1 0) (and_right (p a.tag) (a.tick == t) is) in
        omega (arith, ih, sum_by-cons (λ (b : Arrival). cond (p b.tag && (b.tick == t)) 1 0) a later, e)

pub due_copies : (t : ℕ) (later : List Arrival) → AreDueCopies t later (map (λ a. a.tag) (filter (λ a. a.tick == t) later)) (filter (λ a. not (a.tick == t)) later)
due_copies t later = record {
  counted = λ p. copies_counted p t later;
  from = λ tag at.
      let made = in_from_map (λ (a : Arrival). a.tag) tag (filter (λ a. a.tick == t) later) at in
      let kept = in_from_filter (λ (a : Arrival). a.tick == t) made.0 later made.1 in
      (made.0, kept.0, eqb-true made.0.tick t kept.1, made.2);
  others = refl;
}

count_range : (g a n : ℕ) → count_by (λ h. h == g) (range_with_len a n) ≡ cond (nat_le a g && nat_lt g (a + n)) 1 0
count_range g a zero =
    sym (⊎_elim (λ below. ap (λ q. cond q 1 0) (and_left (nat_le a g) (nat_lt g (a + 0)) (lt-leb a g below)))
    (λ above. ap (λ q. cond q 1 0) (and_right (nat_le a g) (nat_lt g (a + 0)) (le-ltb g (a + 0) (omega arith)))) (cases_lt g a))
count_range g a (suc n) =
    let ih = count_range g (a + 1) n in
    ⊎_elim
    (λ here.
    let e : cond {A = ℕ} (a == g) 1 0 ≡ 1 = ap (λ q. cond q 1 0) (eq-eqb a g here) in
    let no : cond {A = ℕ} (nat_le (a + 1) g && nat_lt g (a + 1 + n)) 1 0 ≡ 0 = ap (λ q. cond q 1 0) (and_left (nat_le (a + 1) g) (nat_lt g (a + 1 + n)) (lt-leb (a + 1) g (omega arith))) in
    let yes : cond {A = ℕ} (nat_le a g && nat_lt g (a + suc n)) 1 0 ≡ 1 = ap (λ q. cond q 1 0) (and_from (nat_le a g) (nat_lt g (a + suc n)) (le-leb a g (omega arith)) (lt-ltb g (a + suc n) (omega arith))) in
    omega (arith, ih, e, no, yes, sum_by-cons (λ (h : ℕ). cond (h == g) 1 0) a (range_with_len (a + 1) n)))
    (λ other.
    let e : cond {A = ℕ} (a == g) 1 0 ≡ 0 = ap (λ q. cond q 1 0) (ne_eqb a g other) in
    let low : nat_le (a + 1) g ≡ nat_le a g = ⊎_elim (λ below. lt-leb (a + 1) g (omega arith) ∙ sym (lt-leb a g below)) (λ above. le-leb (a + 1) g (omega arith) ∙ sym (le-leb a g above)) (cases_lt g a) in
    let high : a + 1 + n ≡ a + suc n = omega arith in
    let same : cond {A = ℕ} (nat_le (a + 1) g && nat_lt g (a + 1 + n)) 1 0 ≡ cond (nat_le a g && nat_lt g (a + suc n)) 1 0
    = ap (λ q. cond {A = ℕ} (q && nat_lt g (a + 1 + n)) 1 0) low ∙ ap (λ m. cond {A = ℕ} (nat_le a g && nat_lt g m) 1 0) high in
    omega (arith, ih, e, same, sum_by-cons (λ (h : ℕ). cond (h == g) 1 0) a (range_with_len (a + 1) n)))
    (cases_eq a g)

pub due_rounds : (plan : PlanView) (window tick : ℕ) → AreDueRounds plan window tick (due_groups plan window tick)
due_rounds plan window tick = record {
  each = λ g r at.
      let since : tick - window ≡ r = omega arith in
      let low : nat_le window tick ≡ true = le-leb window tick (omega arith) in
      let is : (nat_le window tick && nat_lt (tick - window) plan.rounds) ≡ nat_lt r plan.rounds
      = ap (λ q. q && nat_lt (tick - window) plan.rounds) low ∙ ap (λ q. nat_lt q plan.rounds) since in
      ap (λ q. count_by (λ h. h == g) (cond q (range_with_len 0 (length plan.groups)) [])) is ∙ by_round g (nat_lt r plan.rounds);
  began = began (nat_le window tick) refl;
}
  where
    by_round : (g : ℕ) (q : Bool) → count_by (λ h. h == g) (cond q (range_with_len 0 (length plan.groups)) []) ≡ cond (nat_lt g (length plan.groups) && q) 1 0
    by_round g true =
        count_range g 0 (length plan.groups)
        ∙ ⊎_elim
        (λ below. ap (λ q. cond q 1 0) (and_from (nat_le 0 g) (nat_lt g (0 + length plan.groups)) (le-leb 0 g (omega arith)) (lt-ltb g (0 + length plan.groups) (omega arith)))
        ∙ sym (ap (λ q. cond q 1 0) (and_from (nat_lt g (length plan.groups)) true (lt-ltb g (length plan.groups) below) refl)))
        (λ above. ap (λ q. cond q 1 0) (and_right (nat_le 0 g) (nat_lt g (0 + length plan.groups)) (le-ltb g (0 + length plan.groups) (omega arith)))
        ∙ sym (ap (λ q. cond q 1 0) (and_left (nat_lt g (length plan.groups)) true (le-ltb g (length plan.groups) above))))
        (cases_lt g (length plan.groups))
    by_round g false = sym (ap (λ q. cond q 1 0) (and_right (nat_lt g (length plan.groups)) false refl))

    began : (q : Bool) → nat_le window tick ≡ q → All (λ g. window ≤ tick) (cond (q && nat_lt (tick - window) plan.rounds) (range_with_len 0 (length plan.groups)) [])
    began true is = all_from_in (λ g. window ≤ tick) _ (λ g at. leb-true window tick is)
    began false is = all_from_in (λ g. window ≤ tick) [] (λ g at. absurd at)

-- ---- what may be sent

pub taken_is : (xs : List Entry) (tag : Tag) (t : ℕ) → 0 < takes_at xs tag t → (e : Entry) × IsIn e xs × (e.tick ≡ t) × (event_of e.line ≡ Take tag)
taken_is xs tag t pos =
    let found = count_in (λ (e : Entry). is_take tag.group tag.round tag.meter tag.kind (event_of e.line) && (e.tick == t)) xs pos in
    let parts = and_parts (is_take tag.group tag.round tag.meter tag.kind (event_of found.0.line)) (found.0.tick == t) found.2 in
    (found.0, found.1, eqb-true found.0.tick t parts.1, by_event (event_of found.0.line) parts.0)
  where
    by_event : (v : Event) → is_take tag.group tag.round tag.meter tag.kind v ≡ true → v ≡ Take tag
    by_event (Take z) h = let e : Send z ≡ Send tag = is_send-true tag.group tag.round tag.meter tag.kind (Send z) h in cc e
    by_event (Send z) h = absurd (false≢true h)
    by_event (Close g r) h = absurd (false≢true h)
    by_event (End g r) h = absurd (false≢true h)

owed_can : (plan : PlanView) (xs : List Entry) (st : Stage) (tag : Tag) → Follows plan xs st → IsOwed plan xs st.tick tag → CanSend plan tag st.tick
owed_can plan xs st tag f from =
    ⊎_elim
    (λ announced.
    let when : tag.round + plan.w1 ≡ st.tick = announced.1 in
    record {
      round = from.round;
      after = subst (λ k. start_of plan tag k ≤ st.tick) (sym announced.0) (omega arith);
      before = subst (λ k. st.tick + 16 ≤ last_of plan tag k) (sym announced.0) (omega arith);
    })
    (λ answered.
    let heard : Tag = tag_of Announcement tag.group tag.round tag.meter in
    let found = taken_is xs heard st.tick answered.1 in
    let can : CanCome plan heard found.0.tick = subst (CouldCome plan found.0.tick) found.3 (all_in (λ e. CouldCome plan e.tick (event_of e.line)) xs f.could found.0 found.1) in
    let low : tag.round + plan.w1 < found.0.tick = can.after in
    let high : found.0.tick ≤ tag.round + plan.w1 + 16 = can.before in
    let now : found.0.tick ≡ st.tick = found.2 in
    record {
      round = from.round;
      after = subst (λ k. start_of plan tag k ≤ st.tick) (sym answered.0) (omega arith);
      before = subst (λ k. st.tick + 16 ≤ last_of plan tag k) (sym answered.0) (omega arith);
    })
    from.from

-- a Send besides readings, the next one that is owed
pub owed_step : (plan : PlanView) (xs : List Entry) (st : Stage) (e : Entry) (tag : Tag) (left : List Tag)
    → Follows plan xs st → (sending : IsSending plan xs st) → st.phase ≤ 2 → st.tick ≤ last_tick (clock_of plan) → st.left ≡ tag ∷ left → e.tick ≡ st.tick → event_of e.line ≡ Send tag → IsFate e.fate → is_void_send e.line ≡ false
    → Follows plan (xs ++ e ∷ []) (stage st.tick 2 st.due (st.later ++ arrivals st.tick tag e.fate) st.closing st.ending left (rank tag + 1))
    × IsSending plan (xs ++ e ∷ []) (stage st.tick 2 st.due (st.later ++ arrivals st.tick tag e.fate) st.closing st.ending left (rank tag + 1))
owed_step plan xs st e tag left f sending low last left_is tick is fate posted =
    let owed_are : owed plan xs st.tick ≡ sending.gone ++ tag ∷ left = sending.owed_are ∙ ap (λ l. sending.gone ++ l) left_is in
    let from : IsOwed plan xs st.tick tag = owed_is plan xs st.tick tag (subst (IsIn tag) (sym owed_are) (in_append tag sending.gone (tag ∷ left) (inr (inl refl)))) in
    let onwards : Ascends st.least (all_ranks plan) (tag ∷ left) = subst (Ascends st.least (all_ranks plan)) left_is sending.onwards in (
      send_step plan xs st e tag left (rank tag + 1) f low last tick is fate posted
          (record { group = from.group; round = from.round; reading = λ k. absurd (both_ways (is_reading tag.kind) from.other (ap is_reading k)) }) (owed_can plan xs st tag f from),
      sending_more plan xs st e tag (st.later ++ arrivals st.tick tag e.fate) (sending.gone ++ tag ∷ []) left f sending tick is onwards.0
          (owed_are ∙ sym (append_assoc sending.gone (tag ∷ []) left)) onwards.1
          (λ y at. in_append y sending.gone (tag ∷ []) (inl at)) (λ no. in_append tag sending.gone (tag ∷ []) (inr (inl refl)))
          (λ y at. ⊎_elim (λ first. inl first) (λ second. ⊎_elim (λ here. inr (sym here)) (λ none. absurd none) second) (in_from_append y sending.gone (tag ∷ []) at)),
    )

-- ---- to the end of a tick, and then to the next

takes_end : (plan : PlanView) (tick : ℕ) → tick ≤ last_tick (clock_of plan)
    → ((ys : List Entry) (st : Stage) → Follows plan ys st → st.phase ≡ 0 → st.tick ≡ tick → st.due ≡ [] → BeginsRun plan ys)
    → (due : List Tag) (xs : List Entry) (st : Stage) → Follows plan xs st → st.phase ≡ 0 → st.tick ≡ tick → st.due ≡ due → BeginsRun plan xs
takes_end plan tick last then_on [] xs st f now at is = then_on xs st f now at is
takes_end plan tick last then_on (tag ∷ due) xs st f now at is =
    let e : Entry = record { tick = st.tick; fate = []; line = TakeLine tag Fresh } in
    begins_before plan xs (e ∷ []) (takes_end plan tick last then_on due (xs ++ e ∷ []) (record st { due = due })
    (take_step plan xs st e tag [] due f now is (omega arith) refl refl refl refl) now at refl)

closes_end : (plan : PlanView) (tick : ℕ) → tick ≤ last_tick (clock_of plan)
    → ((ys : List Entry) (st : Stage) → Follows plan ys st → st.phase ≤ 1 → st.tick ≡ tick → st.due ≡ [] → st.closing ≡ [] → BeginsRun plan ys)
    → (closing : List ℕ) (xs : List Entry) (st : Stage) → Follows plan xs st → st.phase ≤ 1 → st.tick ≡ tick → st.due ≡ [] → st.closing ≡ closing → BeginsRun plan xs
closes_end plan tick last then_on [] xs st f low at due is = then_on xs st f low at due is
closes_end plan tick last then_on (g ∷ closing) xs st f low at due is =
    let began = all_in (λ g. plan.w1 ≤ st.tick) st.closing f.closed.began g (subst (IsIn g) (sym is) (inl refl)) in
    let e : Entry = record { tick = st.tick; fate = []; line = CloseLine g (st.tick - plan.w1) AlreadyClosed } in
    begins_before plan xs (e ∷ []) (closes_end plan tick last then_on closing (xs ++ e ∷ []) (record st { phase = 1; closing = closing })
    (close_step plan xs st e g (st.tick - plan.w1) [] closing f low is (omega arith) (omega arith) refl refl refl refl) (omega arith) at due refl)

ends_end : (plan : PlanView) (tick : ℕ) → tick ≤ last_tick (clock_of plan)
    → ((ys : List Entry) (st : Stage) → Follows plan ys st → st.phase ≤ 1 → st.tick ≡ tick → st.due ≡ [] → st.closing ≡ [] → st.ending ≡ [] → BeginsRun plan ys)
    → (ending : List ℕ) (xs : List Entry) (st : Stage) → Follows plan xs st → st.phase ≤ 1 → st.tick ≡ tick → st.due ≡ [] → st.closing ≡ [] → st.ending ≡ ending → BeginsRun plan xs
ends_end plan tick last then_on [] xs st f low at due closing is = then_on xs st f low at due closing is
ends_end plan tick last then_on (g ∷ ending) xs st f low at due closing is =
    let began = all_in (λ g. plan.w1 + plan.w2 ≤ st.tick) st.ending f.ended.began g (subst (IsIn g) (sym is) (inl refl)) in
    let e : Entry = record { tick = st.tick; fate = []; line = EndLine g (st.tick - (plan.w1 + plan.w2)) AlreadyEnded } in
    begins_before plan xs (e ∷ []) (ends_end plan tick last then_on ending (xs ++ e ∷ []) (record st { phase = 1; ending = ending })
    (end_step plan xs st e g (st.tick - (plan.w1 + plan.w2)) [] ending f low is (omega arith) (omega arith) refl refl refl refl) (omega arith) at due closing refl)

sends_end : (plan : PlanView) (tick : ℕ) → tick ≤ last_tick (clock_of plan)
    → ((ys : List Entry) (st : Stage) → Follows plan ys st → IsSending plan ys st → st.phase ≤ 2 → st.tick ≡ tick → st.left ≡ [] → BeginsRun plan ys)
    → (left : List Tag) (xs : List Entry) (st : Stage) → Follows plan xs st → IsSending plan xs st → st.phase ≤ 2 → st.tick ≡ tick → st.left ≡ left → BeginsRun plan xs
sends_end plan tick last then_on [] xs st f sending low at is = then_on xs st f sending low at is
sends_end plan tick last then_on (tag ∷ left) xs st f sending low at is =
    let e : Entry = record { tick = st.tick; fate = []; line = SendLine tag (Some (record { tag = tag; missing = []; word = 0 })) } in
    let more = owed_step plan xs st e tag left f sending low (omega arith) is refl refl (record { few = omega arith; delays = refl; order = refl }) refl in
    begins_before plan xs (e ∷ []) (sends_end plan tick last then_on left (xs ++ e ∷ []) (stage st.tick 2 st.due (st.later ++ []) st.closing st.ending left (rank tag + 1)) more.0 more.1 (omega arith) at refl)

-- from the Sends of a tick
sends_on : (plan : PlanView) → IsWithinLimits plan → (tick : ℕ) → tick ≤ last_tick (clock_of plan)
    → ((ys : List Entry) (st : Stage) → Follows plan ys st → st.phase ≡ 0 → st.tick ≡ tick + 1 → BeginsRun plan ys)
    → (xs : List Entry) (st : Stage) → Follows plan xs st → IsSending plan xs st → st.phase ≤ 2 → st.tick ≡ tick → BeginsRun plan xs
sends_on plan limits tick last then_on xs st f sending low at =
    sends_end plan tick last
    (λ ys st f sending low at none. then_on ys
    (stage (st.tick + 1) 0 (map (λ a. a.tag) (filter (λ a. a.tick == st.tick + 1) st.later)) (filter (λ a. not (a.tick == st.tick + 1)) st.later)
    (due_groups plan plan.w1 (st.tick + 1)) (due_groups plan (plan.w1 + plan.w2) (st.tick + 1)) [] 0)
    (next_tick plan ys st _ _ _ _ [] 0 f sending low none (due_copies (st.tick + 1) st.later) (due_rounds plan plan.w1 (st.tick + 1)) (due_rounds plan (plan.w1 + plan.w2) (st.tick + 1)))
    refl (omega arith))
    st.left xs st f sending low at refl

-- from the rounds of a tick
rounds_on : (plan : PlanView) → IsWithinLimits plan → (tick : ℕ) → tick ≤ last_tick (clock_of plan)
    → ((ys : List Entry) (st : Stage) → Follows plan ys st → st.phase ≡ 0 → st.tick ≡ tick + 1 → BeginsRun plan ys)
    → (xs : List Entry) (st : Stage) → Follows plan xs st → st.phase ≤ 1 → st.tick ≡ tick → st.due ≡ [] → BeginsRun plan xs
rounds_on plan limits tick last then_on xs st f low at due =
    closes_end plan tick last
    (λ ys st f low at due closing. ends_end plan tick last
    (λ zs st f low at due closing ending.
    let begun = begin_sends plan limits zs st f low due closing ending in
    sends_on plan limits tick last then_on zs (stage st.tick 2 st.due st.later st.closing st.ending (owed plan zs st.tick) 0) begun.0 begun.1 (omega arith) at)
    st.ending ys st f low at due closing refl)
    st.closing xs st f low at due refl

-- from the beginning of a tick
ticks_on : (plan : PlanView) → IsWithinLimits plan → (n : ℕ) (xs : List Entry) (st : Stage) → Follows plan xs st → st.phase ≡ 0 → st.tick + n ≡ last_tick (clock_of plan) + 1 → BeginsRun plan xs
ticks_on plan limits zero xs st f now at = ([], subst (IsSomeRun plan) (sym (append-nil xs)) (run_of plan limits xs st f (omega arith)))
ticks_on plan limits (suc n) xs st f now at =
    takes_end plan st.tick (omega arith)
    (λ ys zs f now at_tick due. rounds_on plan limits st.tick (omega arith)
    (λ ws us f now next. ticks_on plan limits n ws us f now (omega arith))
    ys zs f (omega arith) at_tick due)
    st.due xs st f now refl refl

-- entries that keep to their times are the beginning of a run
pub begins : (plan : PlanView) → IsWithinLimits plan → (xs : List Entry) (st : Stage) → Follows plan xs st → HoldsIn st.phase plan xs st → st.tick ≤ last_tick (clock_of plan) → BeginsRun plan xs
begins plan limits xs st f holds last =
    by_phase st.phase refl holds
  where
    next : (ys : List Entry) (us : Stage) → Follows plan ys us → us.phase ≡ 0 → us.tick ≡ st.tick + 1 → BeginsRun plan ys
    next ys us g now at = ticks_on plan limits (last_tick (clock_of plan) - st.tick) ys us g now (omega arith)

    by_phase : (p : ℕ) → st.phase ≡ p → HoldsIn p plan xs st → BeginsRun plan xs
    by_phase zero is h = ticks_on plan limits (last_tick (clock_of plan) + 1 - st.tick) xs st f is (omega arith)
    by_phase (suc zero) is h = rounds_on plan limits st.tick last next xs st f (omega arith) refl h
    by_phase (suc (suc p)) is h = let none : p ≡ 0 = h.0 in sends_on plan limits st.tick last next xs st f h.1 (omega arith) refl
