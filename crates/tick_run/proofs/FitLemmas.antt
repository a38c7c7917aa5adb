-- Lines that fit the plan.
use Rattle.std.proofs.Common.{◌≡◌, ℕ, ◌+◌, ◌-◌, ◌<◌, Bool, true, false, cond, not, List, [], ◌∷◌, ◌++◌, map, length, refl, sym, ap, ◌∙◌, subst, append_assoc, append-nil}
use Rattle.std.specs.Prelude.{nat_lt, nat_le, if◌then◌else◌}
use Rattle.std.specs.List.{filter, All}
use Rattle.std.proofs.lemmas.Bool.{false≢true, and_from, and_parts, lt-ltb, ltb-true}
use Rattle.std.proofs.lemmas.List.Elements.{All-head, All-tail, All-nil, All-cons, All-append}
use Rattle.group_plan.specs.Plans.{PlanView, is_place, size}
use Rattle.round_machine.specs.declared.Closing.TheVariants as closings
use Rattle.round_machine.specs.declared.Ending.TheVariants as endings
use Rattle.meter_frames.specs.declared.Frame.{Frame}
use Rattle.event_schedule.specs.declared.Event.{Event}
use Rattle.event_schedule.specs.declared.Event.TheVariants.{Send, Take, Close, End}
use Rattle.event_schedule.specs.declared.Line.{Line}
use Rattle.event_schedule.specs.declared.Line.TheVariants.{Send as SendLine, Take as TakeLine, Close as CloseLine, End as EndLine}
use Rattle.event_schedule.specs.Events.{event_of, frame_of}
use Rattle.event_schedule.specs.Schedule.{Shape, is_closed, is_ended, is_announced, reaches_floor, is_answer_taken, all_taken, survivors, missing, lacking, closing}
use Rattle.event_schedule.specs.Transcript.{Contents, ending}
use Rattle.event_schedule.specs.Frames.{contents_of_lines}
use Rattle.event_schedule.specs.Journal.{past_of, core_line, IsJournalAfter}
use Rattle.event_schedule.specs.Transcripts.{HasRound, FitsClosing, FitsEnding, FitsLine}
use Rattle.group_book.specs.Places.{is_round}
use Rattle.run_rows.specs.Ticks.{Clock}
use Rattle.tick_run.specs.GroupRuns.{takes_of}
use Rattle.tick_run.specs.Running.{is_due, calls_of}
use Rattle.tick_run.proofs.DueLemmas.{missing-within, survivors-within}

-- whether a plan has the place or the round of an event that is no Send
abbrev pub fits_plan : PlanView → Event → Bool
fits_plan plan (Send z) = false
fits_plan plan (Take z) = is_place plan z.group z.round z.meter
fits_plan plan (Close g r) = is_round plan g r
fits_plan plan (End g r) = is_round plan g r

-- ---- lines that fit

closing_fits : (s : Shape) (g r : ℕ) (past : List Event) → FitsClosing (size s.groups g) (closing s g r past)
closing_fits s g r past = step (is_closed g r past) (reaches_floor s g r past)
  where
    step : (a b : Bool) → FitsClosing (size s.groups g) (if a then closings.Already else if b then closings.Announced (missing s g r past) else closings.Thin (missing s g r past))
    step true b = tt
    step false true = missing-within s g r past
    step false false = missing-within s g r past

lacking_within : (p : ℕ → Bool) (xs : List ℕ) (n : ℕ) → All (λ i. i < n) xs → All (λ i. i < n) (filter p xs)
lacking_within p [] n all = All-nil (λ i. i < n)
lacking_within p (x ∷ xs) n all = step (p x) (lacking_within p xs n (All-tail (λ i. i < n) x xs all))
  where
    step : (b : Bool) → All (λ i. i < n) (filter p xs) → All (λ i. i < n) (cond b (x ∷ filter p xs) (filter p xs))
    step true later = All-cons (λ i. i < n) x (filter p xs) (All-head (λ i. i < n) x xs all) later
    step false later = later

ending_fits : (s : Shape) (c : Contents) (g r : ℕ) (past : List Event) → FitsEnding (size s.groups g) (ending s c g r past)
ending_fits s c g r past = step (not (is_closed g r past)) (is_ended g r past) (not (is_announced s g r past)) (all_taken s g r past)
  where
    set : All (λ i. i < size s.groups g) (lacking s g r past)
    set = lacking_within (λ i. not (is_answer_taken s g r i past)) (survivors s g r past) (size s.groups g) (survivors-within s g r past)

    step : (a b d e : Bool) → FitsEnding (size s.groups g) (if a then endings.NotClosed else if b then endings.Already else if d then endings.Thin else if e then endings.Total (c.total g r (survivors s g r past)) else endings.Lacking (lacking s g r past))
    step true b d e = tt
    step false true d e = tt
    step false false true e = tt
    step false false false true = tt
    step false false false false = set

has_round : (plan : PlanView) (g r : ℕ) → is_round plan g r ≡ true → HasRound plan g r
has_round plan g r is =
    let both = and_parts (nat_lt g (length plan.groups)) (nat_lt r plan.rounds) is in
    record { group = ltb-true g (length plan.groups) both.0; round = ltb-true r plan.rounds both.1 }

one_fits : (plan : PlanView) (s : Shape) (journal : List Line) (l : Line) → s.groups ≡ plan.groups → l ≡ core_line s journal (event_of l) (frame_of l) → not (fits_plan plan (event_of l)) ≡ false → FitsLine plan [] l
one_fits plan s journal (SendLine z f) groups is fits = absurd (false≢true (sym fits))
one_fits plan s journal (TakeLine z v) groups is fits = (not_false (is_place plan z.group z.round z.meter) fits, refl)
  where
    not_false : (b : Bool) → not b ≡ false → b ≡ true
    not_false true h = refl
    not_false false h = absurd (false≢true (sym h))
one_fits plan s journal (CloseLine g r v) groups is fits =
    let same : v ≡ closing s g r (past_of journal) = cc is in (
      has_round plan g r (not_false (is_round plan g r) fits),
      subst (λ n. FitsClosing n v) (ap (λ q. size q g) groups) (subst (FitsClosing (size s.groups g)) (sym same) (closing_fits s g r (past_of journal))),
      refl,
    )
  where
    not_false : (b : Bool) → not b ≡ false → b ≡ true
    not_false true h = refl
    not_false false h = absurd (false≢true (sym h))
one_fits plan s journal (EndLine g r v) groups is fits =
    let same : v ≡ ending s (contents_of_lines journal) g r (past_of journal) = cc is in (
      has_round plan g r (not_false (is_round plan g r) fits),
      subst (λ n. FitsEnding n v) (ap (λ q. size q g) groups) (subst (FitsEnding (size s.groups g)) (sym same) (ending_fits s (contents_of_lines journal) g r (past_of journal))),
      refl,
    )
  where
    not_false : (b : Bool) → not b ≡ false → b ≡ true
    not_false true h = refl
    not_false false h = absurd (false≢true (sym h))

-- lines of these events that are the core's fit
pub lines_fit : (plan : PlanView) (s : Shape) (journal added : List Line) → s.groups ≡ plan.groups → IsJournalAfter s journal added → All (λ l. not (fits_plan plan (event_of l)) ≡ false) added → All (FitsLine plan []) added
lines_fit plan s journal [] groups legal fits = All-nil (FitsLine plan [])
lines_fit plan s journal (l ∷ added) groups legal fits =
    All-cons (FitsLine plan []) l added (one_fits plan s journal l groups legal.0 (All-head (λ l. not (fits_plan plan (event_of l)) ≡ false) l added fits))
    (lines_fit plan s (journal ++ l ∷ []) added groups legal.1 (All-tail (λ l. not (fits_plan plan (event_of l)) ≡ false) l added fits))

-- ---- the lines of calls

-- the lines behind others are the core's
pub journal_after : (s : Shape) (j xs ys : List Line) → IsJournalAfter s j (xs ++ ys) → IsJournalAfter s (j ++ xs) ys
journal_after s j [] ys is = subst (λ k. IsJournalAfter s k ys) (sym (append-nil j)) is
journal_after s j (x ∷ xs) ys is = subst (λ k. IsJournalAfter s k ys) (append_assoc j (x ∷ []) xs) (journal_after s (j ++ x ∷ []) xs ys is.1)

abbrev Fit : PlanView → Event → Type 0
Fit plan e = not (fits_plan plan e) ≡ false

-- lines with events of the plan
pub events_fit : (plan : PlanView) (events : List Event) (added : List Line) → map event_of added ≡ events → All (Fit plan) events → All (λ l. not (fits_plan plan (event_of l)) ≡ false) added
events_fit plan events [] are fit = All-nil (λ l. not (fits_plan plan (event_of l)) ≡ false)
events_fit plan [] (l ∷ added) are fit = absurd (cc are)
events_fit plan (e ∷ events) (l ∷ added) are fit =
    let same : event_of l ≡ e = cc are in
    let rest : map event_of added ≡ events = cc are in
    All-cons (λ l. not (fits_plan plan (event_of l)) ≡ false) l added (ap (λ v. not (fits_plan plan v)) same ∙ All-head (Fit plan) e events fit) (events_fit plan events added rest (All-tail (Fit plan) e events fit))

-- Takes of frames of the plan
pub takes_fit : (plan : PlanView) (frames : List Frame) → All (λ f. is_place plan f.tag.group f.tag.round f.tag.meter ≡ true) frames → All (Fit plan) (takes_of frames)
takes_fit plan [] all = All-nil (Fit plan)
takes_fit plan (f ∷ frames) all =
    All-cons (Fit plan) (Take f.tag) (takes_of frames) (ap not (All-head (λ f. is_place plan f.tag.group f.tag.round f.tag.meter ≡ true) f frames all))
    (takes_fit plan frames (All-tail (λ f. is_place plan f.tag.group f.tag.round f.tag.meter ≡ true) f frames all))

-- the Closes and Ends of a tick
pub calls_fit : (plan : PlanView) (c : Clock) (t g : ℕ) → c.rounds ≡ plan.rounds → g < length plan.groups → All (Fit plan) (calls_of c t g)
calls_fit plan c t g rounds inside =
    All-append (Fit plan) (if is_due c.rounds c.w1 t then Close g (t - c.w1) ∷ [] else []) (if is_due c.rounds (c.w1 + c.w2) t then End g (t - (c.w1 + c.w2)) ∷ [] else [])
    (one (is_due c.rounds c.w1 t) (Close g (t - c.w1)) (λ due. ap not (within c.w1 due))) (one (is_due c.rounds (c.w1 + c.w2) t) (End g (t - (c.w1 + c.w2))) (λ due. ap not (within (c.w1 + c.w2) due)))
  where
    within : (w : ℕ) → is_due c.rounds w t ≡ true → is_round plan g (t - w) ≡ true
    within w due =
        let both = and_parts (nat_le w t) (nat_lt (t - w) c.rounds) due in
        and_from (nat_lt g (length plan.groups)) (nat_lt (t - w) plan.rounds) (lt-ltb g (length plan.groups) inside) (ap (nat_lt (t - w)) (sym rounds) ∙ both.1)

    one : (b : Bool) (e : Event) → (b ≡ true → Fit plan e) → All (Fit plan) (if b then e ∷ [] else [])
    one true e fit = All-cons (Fit plan) e [] (fit refl) (All-nil (Fit plan))
    one false e fit = All-nil (Fit plan)
