-- A head end's journal has the Takes of a run that came in time.
use Rattle.std.proofs.Common.{◌≡◌, ℕ, zero, suc, ◌+◌, ◌<◌, ◌≤◌, Bool, true, false, not, ◌&&◌, ◌||◌, List, [], ◌∷◌, ◌++◌, length, refl, sym, ap, ◌∙◌, subst, ⊎_elim, inl, inr, arith}
use Rattle.std.specs.Prelude.{◌⊎◌, ◌==◌, nat_lt, nat_le, if◌then◌else◌, filter, Some, None, All, bytes_eq}
use mathlib.Core.List.{reverse}
use mathlib.Core.Path.{fun_ext}
use Rattle.std.specs.List.{flat_map}
use Rattle.std.proofs.Math.Bool.{and-false}
use Rattle.std.proofs.lemmas.Bool.{false≢true, and_from, and_parts, lt-ltb, le-ltb, eqb-true, cases_lt}
use Rattle.std.proofs.lemmas.Bool.Decides.{nat_tests}
use Rattle.std.proofs.lemmas.Slice.Eq.{bytes_eq-Decides}
use Rattle.std.proofs.lemmas.List.Elements.{All-nil, All-cons, All-append}
use Rattle.group_plan.specs.declared.Kind.{Kind}
use Rattle.group_plan.specs.declared.Kind.TheVariants.{Reading, Announcement, Answer}
use Rattle.group_plan.specs.declared.Tag.{Tag}
use Rattle.group_plan.specs.Plans.{PlanView, size, is_member, members, floor_of}
use Rattle.meter_frames.specs.declared.Frame.{Frame}
use Rattle.event_schedule.specs.declared.Event.{Event}
use Rattle.event_schedule.specs.declared.Event.TheVariants.{Send, Take, Close, End}
use Rattle.event_schedule.specs.declared.Entry.{Entry}
use Rattle.event_schedule.specs.Events.{is_tag, is_take, is_close, events_of, lines_of, event_of}
use Rattle.event_schedule.specs.Tables.{Readings, Masks}
use Rattle.event_schedule.specs.Schedule.{Shape, is_reading_taken}
use Rattle.event_schedule.specs.Schedule.{is_closed as is_closed_there, is_announced as is_announced_there, missing as missing_there}
use Rattle.event_schedule.specs.Transcript.{Contents, shape_of_readings, contents_of_tables, lines_after}
use Rattle.event_schedule.proofs.EventLemmas.{is_send-true, is_send-itself}
use Rattle.event_schedule.proofs.MemberLemmas.{is_member-below}
use Rattle.run_rows.specs.Ticks.{clock_of, IsRunPlan, in_plan, tag_of}
use Rattle.run_rows.specs.Report.{comes_in_time}
use Rattle.run_rows.proofs.TickLemmas.{Member, Stands, TickFacts, once-from, is_reading_taken-ticks}
use Rattle.run_rows.proofs.TickRun.{IsRunBy, run_facts, once_stands}
use Rattle.head_end.specs.declared.answers.Logged.{Logged}
use Rattle.head_end.specs.declared.answers.Logged.TheVariants.{Took, Passed}
use Rattle.head_end.specs.declared.answers.Refusal.TheVariants as refusals
use Rattle.head_end.specs.declared.answers.Reply.{Reply}
use Rattle.head_end.specs.declared.answers.Reply.TheVariants.{Fresh, Late, Void}
use Rattle.head_end.specs.Journal.{passed, all_ticks, is_taken, word_taken, is_closed, is_ended, is_announced, missing}
use Rattle.head_end.specs.Replies.{is_known, has_other_set, is_asked, repeated_by, verdict_by, reply_by, reply, replied}
use Rattle.head_end.proofs.JournalLemmas.{is_taken-more, is_taken-same, passed-took, passed-passed}
use Rattle.head_end.proofs.ReplyLemmas.{nothing_appended}
use Rattle.apart_runs.specs.Carried.{is_from_head, frames_in, frames_sent, brought_by, brought_at}
use Rattle.apart_runs.specs.HeadRuns.{after_frames, after_tick, journal_after}
use Rattle.apart_runs.proofs.FrameLemmas.{whole_frame, stands, taken_frame}
use Rattle.apart_runs.proofs.CameLemmas.{came, comes, came_next, came_none, reading_came}
use Rattle.apart_runs.proofs.TakeLemmas.{last_by}

or_false : (b : Bool) → (b || false) ≡ b
or_false true = refl
or_false false = refl

abbrev tag_in : Event → Tag
tag_in (Send tag) = tag
tag_in (Take tag) = tag
tag_in (Close g r) = tag_of Reading g r 0
tag_in (End g r) = tag_of Reading g r 0

pub tag_is : (g r i : ℕ) (k : Kind) (tag : Tag) → is_tag g r i k tag ≡ true → tag ≡ tag_of k g r i
tag_is g r i k tag is = ap tag_in (is_send-true g r i k (Send tag) is)

le_not : (t n : ℕ) → nat_le t n ≡ not (nat_lt n t)
le_not t n = grind (arith, nat_tests)

after_both : (plan : PlanView) (j : List Logged) (fs more : List Frame) → after_frames plan j (fs ++ more) ≡ after_frames plan (after_frames plan j fs) more
unfolding after_frames
after_both plan j [] more = refl
after_both plan j (f ∷ fs) more = after_both plan (replied (reply plan j f) f j) fs more

-- ---- in time

-- the last tick in which a frame of this kind is fresh
abbrev pub last_for : PlanView → Kind → ℕ → ℕ
last_for plan k r = last_by (clock_of plan) k r

module _ (plan : PlanView) (x : Readings) (m : Masks) (fate : ℕ → Tag → List ℕ) (xs : List Entry)
    (can : IsRunPlan (shape_of_readings plan.groups x) (clock_of plan)) (run : IsRunBy (shape_of_readings plan.groups x) (clock_of plan) fate xs)
    (same : lines_of xs ≡ lines_after (shape_of_readings plan.groups x) (contents_of_tables plan.groups x m) [] (events_of xs)) where
  abbrev pub s : Shape
  s = shape_of_readings plan.groups x

  abbrev pub w : Contents
  w = contents_of_tables plan.groups x m

  abbrev pub past : List Event
  past = events_of (reverse xs)

  abbrev pub whole : Tag → Frame
  whole tag = whole_frame s w past tag

  pub facts : TickFacts s (clock_of plan) fate (reverse xs)
  facts = run_facts s (clock_of plan) fate xs can run

  -- ---- what is taken in a run

  -- a place of the plan, of a member of the round
  pub record IsKnown (k : Kind) (g r i : ℕ) : Type 0 where
    pub known : is_known plan (tag_of k g r i) ≡ true
    pub group : g < length plan.groups
    pub round : r < plan.rounds

  pub known_by : (k : Kind) (g r i : ℕ) → s.present g r i ≡ true → IsKnown k g r i
  known_by k g r i present =
      let at = can.places g r i present in
      record {
        known = and_from (nat_lt r plan.rounds && nat_lt i (size plan.groups g)) (is_member plan.groups g r i)
            (and_from (nat_lt r plan.rounds) (nat_lt i (size plan.groups g)) (lt-ltb r plan.rounds at.1) (lt-ltb i (size plan.groups g) (is_member-below plan.groups g r i at.2))) at.2;
        group = at.0;
        round = at.1;
      }

  pub present_by : (g r i : ℕ) → is_reading_taken s g r i past ≡ true → s.present g r i ≡ true
  present_by g r i taken = (and_parts (s.present g r i) (comes_in_time (clock_of plan) fate g r i) (sym (is_reading_taken-ticks s (clock_of plan) fate (reverse xs) facts g r i) ∙ taken)).0

  -- a reading that is taken is of a place of the plan
  pub reading_known : (g r i t : ℕ) → Stands (is_take g r i Reading) t (reverse xs) → IsKnown Reading g r i
  reading_known g r i t st =
      let from = facts.take_from g r i Reading t st in
      known_by Reading g r i (facts.reading_present g r i from.sent from.send)

  -- an answer that is taken is one that was asked for
  pub record IsAsked (g r i t : ℕ) : Type 0 where
    pub is_known : IsKnown Answer g r i
    pub over : r + plan.w1 < t
    pub announced : is_announced_there s g r past ≡ true
    pub survives : is_reading_taken s g r i past ≡ true

  pub answer_asked : (g r i t : ℕ) → Stands (is_take g r i Answer) t (reverse xs) → IsAsked g r i t
  answer_asked g r i t st =
      let from = facts.take_from g r i Answer t st in
      let told = facts.take_from g r i Announcement from.sent (facts.answer_from g r i from.sent from.send) in
      let made = facts.announcement_from g r i told.sent told.send in
      let began : told.sent ≡ r + plan.w1 = facts.announcement_tick g r i told.sent told.send in
      let first : told.sent + told.delay ≡ from.sent = told.arrives in
      let second : from.sent + from.delay ≡ t = from.arrives in
      let some : 0 < told.delay = facts.positive told.sent told.delay (tag_of Announcement g r i) told.member in
      record {
        is_known = known_by Answer g r i (present_by g r i made.2);
        over = omega (arith, began, first, second, some);
        announced = made.1;
        survives = made.2;
      }

  -- a round of the plan is closed in the run
  pub closed_there : (g r : ℕ) → g < length plan.groups → r < plan.rounds → is_closed_there g r past ≡ true
  closed_there g r group round =
      let st = once_stands (is_close g r) (in_plan s (clock_of plan) g r) (r + plan.w1) xs (run.closed g r)
      (and_from (nat_lt g (length plan.groups)) (nat_lt r plan.rounds) (lt-ltb g (length plan.groups) group) (lt-ltb r plan.rounds round)) in
      once-from (λ e before. is_close g r e) st.entry st.older (reverse xs) st.at st.passes

  -- ---- the journal in a tick

  -- a line of the journal has the run's frame
  abbrev pub IsOwn : Logged → Type 0
  IsOwn (Took f) = (f ≡ whole f.tag) × (f.tag.round < plan.rounds)
  IsOwn Passed = Unit {0}

  pub record IsIn (t : ℕ) (j : List Logged) : Type 0 where
    pub counts : t ≤ all_ticks plan → passed j ≡ t
    pub stops : all_ticks plan ≤ t → passed j ≡ all_ticks plan
    pub closed : (g r i : ℕ) → r + plan.w1 < t → is_taken g r Reading j i ≡ is_reading_taken s g r i past
    pub frames : All IsOwn j

  ticks_by : (t p n : ℕ) → (t ≤ all_ticks plan → p ≡ t) → (all_ticks plan ≤ t → p ≡ all_ticks plan) → n < all_ticks plan → nat_lt n p ≡ nat_lt n t
  ticks_by t p n counts stops lt = ⊎_elim
      (λ (early : t < all_ticks plan). ap (nat_lt n) (counts (omega (arith, early))))
      (λ (late : all_ticks plan ≤ t). ap (nat_lt n) (stops late) ∙ lt-ltb n (all_ticks plan) lt ∙ sym (lt-ltb n t (omega (arith, lt, late))))
      (cases_lt t (all_ticks plan))

  closed_in : (t r : ℕ) (j : List Logged) → IsIn t j → r < plan.rounds → is_closed plan j r ≡ nat_lt (r + plan.w1) t
  closed_in t r j is lt = let some : 0 < plan.w2 = can.open_window in ticks_by t (passed j) (r + plan.w1) is.counts is.stops (omega (arith, lt, some))

  ended_in : (t r : ℕ) (j : List Logged) → IsIn t j → r < plan.rounds → is_ended plan j r ≡ nat_lt (r + plan.w1 + plan.w2) t
  ended_in t r j is lt = ticks_by t (passed j) (r + plan.w1 + plan.w2) is.counts is.stops (omega (arith, lt))

  -- a round that is closed has the run's survivors
  pub takers_in : (t g r : ℕ) (j : List Logged) → IsIn t j → r + plan.w1 < t → is_taken g r Reading j ≡ (λ i. is_reading_taken s g r i past)
  takers_in t g r j is over = fun_ext (λ i. is.closed g r i over)

  pub missing_in : (t g r : ℕ) (j : List Logged) → IsIn t j → r + plan.w1 < t → missing plan j g r ≡ missing_there s g r past
  missing_in t g r j is over = ap (λ (q : ℕ → Bool). filter (λ i. not (q i)) (members plan.groups g r)) (takers_in t g r j is over)

  pub announced_in : (t g r : ℕ) (j : List Logged) → IsIn t j → r + plan.w1 < t → g < length plan.groups → r < plan.rounds → is_announced plan j g r ≡ is_announced_there s g r past
  announced_in t g r j is over group round =
      ap (λ b. b && nat_le (floor_of plan.groups g) (length (filter (is_taken g r Reading j) (members plan.groups g r)))) (closed_in t r j is round ∙ lt-ltb (r + plan.w1) t over ∙ sym (closed_there g r group round))
      ∙ ap (λ (q : ℕ → Bool). is_closed_there g r past && nat_le (floor_of plan.groups g) (length (filter q (members plan.groups g r)))) (takers_in t g r j is over)

  -- ---- one frame

  -- what is said of a frame that is asked for
  abbrev pub said_of : Bool → Bool → ℕ → ℕ → Reply
  said_of taken late a b = if taken then repeated_by a b else if late then Late else Fresh

  pub reading_reply : (g r i t : ℕ) (j : List Logged) → IsIn t j → Stands (is_take g r i Reading) t (reverse xs)
      → reply plan j (whole (tag_of Reading g r i)) ≡ said_of (is_taken g r Reading j i) (nat_lt (r + plan.w1) t) (word_taken g r Reading j i) (whole (tag_of Reading g r i)).word
  reading_reply g r i t j is st =
      let k = reading_known g r i t st in
      let f = whole (tag_of Reading g r i) in
      ap (λ b. reply_by (if b then None else Some refusals.Plan) (verdict_by Reading plan j f)) k.known
      ∙ ap (λ b. said_of (is_taken g r Reading j i) b (word_taken g r Reading j i) f.word) (closed_in t r j is k.round)

  pub answer_reply : (g r i t : ℕ) (j : List Logged) → IsIn t j → Stands (is_take g r i Answer) t (reverse xs)
      → reply plan j (whole (tag_of Answer g r i)) ≡ said_of (is_taken g r Answer j i) (nat_lt (r + plan.w1 + plan.w2) t) (word_taken g r Answer j i) (whole (tag_of Answer g r i)).word
  answer_reply g r i t j is st =
      let k = answer_asked g r i t st in
      let f = whole (tag_of Answer g r i) in
      let announced : is_announced plan j g r ≡ true = announced_in t g r j is k.over k.is_known.group k.is_known.round ∙ k.announced in
      let same_set : bytes_eq (missing plan j g r) f.missing ≡ true = (bytes_eq-Decides (missing plan j g r) f.missing).1 (missing_in t g r j is k.over) in
      let right : has_other_set plan j f ≡ false = ap (λ b. is_announced plan j g r && not b) same_set ∙ and-false (is_announced plan j g r) in
      let asked : is_asked plan j f.tag ≡ true = and_from (is_announced plan j g r) (is_taken g r Reading j i) announced (is.closed g r i k.over ∙ k.survives) in
      ap (λ b. reply_by (if b then (if has_other_set plan j f then Some refusals.Set else None) else Some refusals.Plan) (verdict_by Answer plan j f)) k.is_known.known
      ∙ ap (λ b. reply_by (if b then Some refusals.Set else None) (verdict_by Answer plan j f)) right
      ∙ ap (λ b. if not b then Void else said_of (is_taken g r Answer j i) (is_ended plan j r) (word_taken g r Answer j i) f.word) asked
      ∙ ap (λ b. said_of (is_taken g r Answer j i) b (word_taken g r Answer j i) f.word) (ended_in t r j is k.is_known.round)

  -- what a frame of this tag adds in tick t
  pub record Adds (t : ℕ) (j : List Logged) (tag : Tag) (new : List Logged) : Type 0 where
    pub taken : (h q n : ℕ) (l : Kind) → is_taken h q l new n ≡ (is_taken h q l j n || (is_tag h q n l tag && nat_le t (last_for plan l q)))
    pub is_in : IsIn t new

  module _ (k : Kind) (g r i t : ℕ) (j : List Logged) (is : IsIn t j) where
    -- whether it is in time, at its own tag
    at_tag : (h q n : ℕ) (l : Kind) (late b : Bool) → nat_lt (last_for plan k r) t ≡ late → is_tag h q n l (tag_of k g r i) ≡ b
        → (is_tag h q n l (tag_of k g r i) && nat_le t (last_for plan l q)) ≡ (b && not late)
    at_tag h q n l late true is_late here =
        let at = tag_is h q n l (tag_of k g r i) here in
        ap (λ c. c && nat_le t (last_for plan l q)) here
        ∙ ap (λ (z : Tag). nat_le t (last_for plan z.kind z.round)) (sym at)
        ∙ le_not t (last_for plan k r) ∙ ap not is_late
    at_tag h q n l late false is_late other = ap (λ c. c && nat_le t (last_for plan l q)) other

    nothing : (late : Bool) → nat_lt (last_for plan k r) t ≡ late → ((is_taken g r k j i ≡ true) ⊎ (late ≡ true)) → Adds t j (tag_of k g r i) j
    nothing late is_late why = record {
      taken = λ h q n l. by h q n l (is_tag h q n l (tag_of k g r i)) refl;
      is_in = is;
    }
      where
        old : (h q n : ℕ) (l : Kind) → is_tag h q n l (tag_of k g r i) ≡ true → is_taken g r k j i ≡ true → is_taken h q l j n ≡ true
        old h q n l here was = ap (λ (z : Tag). is_taken z.group z.round z.kind j z.meter) (sym (tag_is h q n l (tag_of k g r i) here)) ∙ was

        by : (h q n : ℕ) (l : Kind) (b : Bool) → is_tag h q n l (tag_of k g r i) ≡ b → is_taken h q l j n ≡ (is_taken h q l j n || (is_tag h q n l (tag_of k g r i) && nat_le t (last_for plan l q)))
        by h q n l true here = ⊎_elim
            (λ was. old h q n l here was ∙ ap (λ c. c || (is_tag h q n l (tag_of k g r i) && nat_le t (last_for plan l q))) (sym (old h q n l here was)))
            (λ over. sym (ap (λ c. is_taken h q l j n || c) (at_tag h q n l late true is_late here ∙ ap not over) ∙ or_false (is_taken h q l j n)))
            why
        by h q n l false other = sym (ap (λ c. is_taken h q l j n || c) (at_tag h q n l late false is_late other) ∙ or_false (is_taken h q l j n))

    one_more : nat_lt (last_for plan k r) t ≡ false → r < plan.rounds → Adds t j (tag_of k g r i) (j ++ Took (whole (tag_of k g r i)) ∷ [])
    one_more early round = record {
      taken = taken;
      is_in = record {
        counts = λ le. passed-took j (whole (tag_of k g r i)) ∙ is.counts le;
        stops = λ le. passed-took j (whole (tag_of k g r i)) ∙ is.stops le;
        closed = λ h q n over.
            taken h q n Reading
            ∙ ap (λ c. is_taken h q Reading j n || (is_tag h q n Reading (tag_of k g r i) && c)) (le_not t (q + plan.w1) ∙ ap not (lt-ltb (q + plan.w1) t over))
            ∙ ap (λ c. is_taken h q Reading j n || c) (and-false (is_tag h q n Reading (tag_of k g r i)))
            ∙ or_false (is_taken h q Reading j n)
            ∙ is.closed h q n over;
        frames = All-append IsOwn j (Took (whole (tag_of k g r i)) ∷ []) is.frames (All-cons IsOwn (Took (whole (tag_of k g r i))) [] (refl, round) (All-nil IsOwn));
      };
    }
      where
        at : (h q n : ℕ) (l : Kind) (b : Bool) → is_tag h q n l (tag_of k g r i) ≡ b → is_tag h q n l (tag_of k g r i) ≡ (is_tag h q n l (tag_of k g r i) && nat_le t (last_for plan l q))
        at h q n l true here = here ∙ sym (at_tag h q n l false true early here)
        at h q n l false other = other ∙ sym (at_tag h q n l false false early other)

        taken : (h q n : ℕ) (l : Kind) → is_taken h q l (j ++ Took (whole (tag_of k g r i)) ∷ []) n ≡ (is_taken h q l j n || (is_tag h q n l (tag_of k g r i) && nat_le t (last_for plan l q)))
        taken h q n l = is_taken-more h q l j (Took (whole (tag_of k g r i))) n ∙ ap (λ c. is_taken h q l j n || c) (at h q n l (is_tag h q n l (tag_of k g r i)) refl)

    adds_by : (taken late : Bool) (a b : ℕ) → is_taken g r k j i ≡ taken → nat_lt (last_for plan k r) t ≡ late → r < plan.rounds → reply plan j (whole (tag_of k g r i)) ≡ said_of taken late a b
        → Adds t j (tag_of k g r i) (replied (reply plan j (whole (tag_of k g r i))) (whole (tag_of k g r i)) j)
    adds_by true late a b was is_late round says =
        subst (Adds t j (tag_of k g r i)) (sym (ap (λ o. replied o (whole (tag_of k g r i)) j) says ∙ nothing_appended a b (whole (tag_of k g r i)) j)) (nothing late is_late (inl was))
    adds_by false true a b was is_late round says = subst (Adds t j (tag_of k g r i)) (sym (ap (λ o. replied o (whole (tag_of k g r i)) j) says)) (nothing true is_late (inr refl))
    adds_by false false a b was is_late round says = subst (Adds t j (tag_of k g r i)) (sym (ap (λ o. replied o (whole (tag_of k g r i)) j) says)) (one_more is_late round)

  adds : (k : Kind) (g r i t : ℕ) (j : List Logged) → IsIn t j → is_from_head k ≡ false → Stands (is_take g r i k) t (reverse xs)
      → Adds t j (tag_of k g r i) (replied (reply plan j (whole (tag_of k g r i))) (whole (tag_of k g r i)) j)
  adds Reading g r i t j is to_head st =
      adds_by Reading g r i t j is (is_taken g r Reading j i) (nat_lt (r + plan.w1) t) (word_taken g r Reading j i) (whole (tag_of Reading g r i)).word refl refl (reading_known g r i t st).round (reading_reply g r i t j is st)
  adds Announcement g r i t j is to_head st = absurd (false≢true (sym to_head))
  adds Answer g r i t j is to_head st =
      adds_by Answer g r i t j is (is_taken g r Answer j i) (nat_lt (r + plan.w1 + plan.w2) t) (word_taken g r Answer j i) (whole (tag_of Answer g r i)).word refl refl (answer_asked g r i t st).is_known.round (answer_reply g r i t j is st)

  -- ---- one entry

  -- what an event brings in this tick, where it comes in it
  abbrev pub brought : Event → Bool → List Frame
  brought v b = if b then brought_by (lines_of xs) v else []

  pub record Brings (t u : ℕ) (j : List Logged) (v : Event) (b : Bool) : Type 0 where
    pub taken : (h q n : ℕ) (l : Kind) → is_from_head l ≡ false → is_taken h q l (after_frames plan j (brought v b)) n ≡ (is_taken h q l j n || (is_take h q n l v && (b && nat_le u (last_for plan l q))))
    pub is_in : IsIn t (after_frames plan j (brought v b))

  -- no frame
  brings_none : (t u : ℕ) (j : List Logged) (v : Event) (b : Bool) → IsIn t j → brought v b ≡ [] → ((h q n : ℕ) (l : Kind) → is_from_head l ≡ false → (is_take h q n l v && (b && nat_le u (last_for plan l q))) ≡ false) → Brings t u j v b
  unfolding after_frames
  brings_none t u j v b is none untaken = record {
    taken = λ h q n l to_head. ap (λ fs. is_taken h q l (after_frames plan j fs) n) none ∙ sym (ap (λ c. is_taken h q l j n || c) (untaken h q n l to_head) ∙ or_false (is_taken h q l j n));
    is_in = subst (λ fs. IsIn t (after_frames plan j fs)) (sym none) is;
  }

  -- the frame of a Take
  brings_one : (t : ℕ) (j : List Logged) (e : Entry) (tag : Tag) → Member e xs → event_of e.line ≡ Take tag → e.tick ≡ t → is_from_head tag.kind ≡ false → IsIn t j → Brings t e.tick j (Take tag) true
  unfolding after_frames
  brings_one t j e tag member event at to_head is =
      let takes : is_take tag.group tag.round tag.meter tag.kind (event_of e.line) ≡ true
      = ap (is_take tag.group tag.round tag.meter tag.kind) event ∙ is_send-itself tag.group tag.round tag.meter tag.kind in
      let st = subst (λ u. Stands (is_take tag.group tag.round tag.meter tag.kind) u (reverse xs)) at (stands (is_take tag.group tag.round tag.meter tag.kind) e xs member takes) in
      let a = adds tag.kind tag.group tag.round tag.meter t j is to_head st in
      let one : brought (Take tag) true ≡ whole tag ∷ []
      = ap (λ b. if b then [] else frames_sent (lines_of xs) tag) to_head ∙ ap frames_in (taken_frame s (clock_of plan) fate w xs facts same tag.group tag.round tag.meter tag.kind e member takes) in
      record {
        taken = λ h q n l other.
            ap (λ fs. is_taken h q l (after_frames plan j fs) n) one ∙ a.taken h q n l
            ∙ ap (λ u. is_taken h q l j n || (is_tag h q n l tag && nat_le u (last_for plan l q))) (sym at);
        is_in = subst (λ fs. IsIn t (after_frames plan j fs)) (sym one) a.is_in;
      }

  pub brings : (t : ℕ) (j : List Logged) (e : Entry) → Member e xs → IsIn t j → Brings t e.tick j (event_of e.line) (e.tick == t)
  brings t j e member is = by (event_of e.line) (e.tick == t) refl refl
    where
      late : (h q n : ℕ) (l : Kind) (v : Event) → (is_take h q n l v && (false && nat_le e.tick (last_for plan l q))) ≡ false
      late h q n l v = and-false (is_take h q n l v)

      other : (h q n : ℕ) (l : Kind) (tag : Tag) (b : Bool) → is_from_head tag.kind ≡ true → is_from_head l ≡ false → is_tag h q n l tag ≡ b → is_tag h q n l tag ≡ false
      other h q n l tag true from to here = absurd (false≢true (sym to ∙ ap (λ (z : Tag). is_from_head z.kind) (sym (tag_is h q n l tag here)) ∙ from))
      other h q n l tag false from to not_here = not_here

      by_kind : (tag : Tag) (b : Bool) → is_from_head tag.kind ≡ b → event_of e.line ≡ Take tag → (e.tick == t) ≡ true → Brings t e.tick j (Take tag) true
      by_kind tag true from event now =
          brings_none t e.tick j (Take tag) true is (ap (λ b. if b then [] else frames_sent (lines_of xs) tag) from)
          (λ h q n l to. ap (λ c. c && nat_le e.tick (last_for plan l q)) (other h q n l tag (is_tag h q n l tag) from to refl))
      by_kind tag false to event now = brings_one t j e tag member event (eqb-true e.tick t now) to is

      by : (v : Event) (b : Bool) → event_of e.line ≡ v → (e.tick == t) ≡ b → Brings t e.tick j v b
      by v false event now = brings_none t e.tick j v false is refl (λ h q n l to. late h q n l v)
      by (Take tag) true event now = by_kind tag (is_from_head tag.kind) refl event now
      by (Send tag) true event now = brings_none t e.tick j (Send tag) true is refl (λ h q n l to. refl)
      by (Close g r) true event now = brings_none t e.tick j (Close g r) true is refl (λ h q n l to. refl)
      by (End g r) true event now = brings_none t e.tick j (End g r) true is refl (λ h q n l to. refl)

  -- ---- all entries of a tick

  record BringAll (t : ℕ) (j : List Logged) (ys : List Entry) (new : List Logged) : Type 0 where
    taken : (h q n : ℕ) (l : Kind) → is_from_head l ≡ false → is_taken h q l new n ≡ (is_taken h q l j n || comes ys h q l n t (last_for plan l q))
    is_in : IsIn t new

  abbrev pub all_brought : ℕ → List Entry → List Frame
  all_brought t ys = flat_map (λ e. if e.tick == t then brought_by (lines_of xs) (event_of e.line) else []) ys

  or_or : (a b c : Bool) → ((a || b) || c) ≡ (a || (b || c))
  or_or true b c = refl
  or_or false b c = refl

  bring_all : (t : ℕ) (ys : List Entry) (j : List Logged) → ((e : Entry) → Member e ys → Member e xs) → IsIn t j → BringAll t j ys (after_frames plan j (all_brought t ys))
  unfolding after_frames
  bring_all t [] j within is = record { taken = λ h q n l to. sym (or_false (is_taken h q l j n)); is_in = is }
  bring_all t (e ∷ ys) j within is =
      let first = brings t j e (within e (inl refl)) is in
      let middle = after_frames plan j (brought (event_of e.line) (e.tick == t)) in
      let rest = bring_all t ys middle (λ z at. within z (inr at)) first.is_in in
      let joined = after_both plan j (brought (event_of e.line) (e.tick == t)) (all_brought t ys) in
      record {
        taken = λ h q n l to.
            ap (λ o. is_taken h q l o n) joined ∙ rest.taken h q n l to
            ∙ ap (λ c. c || comes ys h q l n t (last_for plan l q)) (first.taken h q n l to)
            ∙ or_or (is_taken h q l j n) (is_take h q n l (event_of e.line) && ((e.tick == t) && nat_le e.tick (last_for plan l q))) (comes ys h q l n t (last_for plan l q));
        is_in = subst (IsIn t) (sym joined) rest.is_in;
      }

  -- ---- from tick to tick

  -- the journal after so many ticks
  pub record IsAt (t : ℕ) (j : List Logged) : Type 0 where
    pub counts : t ≤ all_ticks plan → passed j ≡ t
    pub stops : all_ticks plan ≤ t → passed j ≡ all_ticks plan
    pub taken : (h q n : ℕ) (l : Kind) → is_from_head l ≡ false → is_taken h q l j n ≡ came xs h q l n t (last_for plan l q)
    pub frames : All IsOwn j

  pub is_in_at : (t : ℕ) (j : List Logged) → IsAt t j → IsIn t j
  is_in_at t j is = record {
    counts = is.counts;
    stops = is.stops;
    closed = λ g r i over. is.taken g r i Reading refl ∙ reading_came s (clock_of plan) fate xs facts g r i t over;
    frames = is.frames;
  }

  at_first : IsAt 0 []
  unfolding passed is_taken
  at_first = record {
    counts = λ le. refl;
    stops = λ le. omega (arith, le);
    taken = λ h q n l to. sym (came_none xs h q l n (last_for plan l q));
    frames = All-nil IsOwn;
  }

  tick_passes : (t : ℕ) (j : List Logged) → IsIn t j → ((h q n : ℕ) (l : Kind) → is_from_head l ≡ false → is_taken h q l j n ≡ came xs h q l n (suc t) (last_for plan l q)) → IsAt (suc t) (after_tick plan j)
  tick_passes t j is taken = ⊎_elim
      (λ (early : t < all_ticks plan).
      let p : passed j ≡ t = is.counts (omega (arith, early)) in
      subst (IsAt (suc t)) (sym (ap (λ b. if b then j ++ Passed ∷ [] else j) (lt-ltb (passed j) (all_ticks plan) (omega (arith, p, early)))))
      (record {
        counts = λ le. let more = passed-passed j in omega (arith, more, p);
        stops = λ le. let more = passed-passed j in omega (arith, more, p, le, early);
        taken = λ h q n l to. ap (λ (f : ℕ → Bool). f n) (is_taken-same h q l j Passed (λ o. refl)) ∙ taken h q n l to;
        frames = All-append IsOwn j (Passed ∷ []) is.frames (All-cons IsOwn Passed [] tt (All-nil IsOwn));
      }))
      (λ (late : all_ticks plan ≤ t).
      let p : passed j ≡ all_ticks plan = is.stops late in
      subst (IsAt (suc t)) (sym (ap (λ b. if b then j ++ Passed ∷ [] else j) (le-ltb (passed j) (all_ticks plan) (omega (arith, p)))))
      (record {
        counts = λ le. absurd (omega (arith, le, late));
        stops = λ le. p;
        taken = taken;
        frames = is.frames;
      }))
      (cases_lt t (all_ticks plan))

  one_tick : (t : ℕ) (j : List Logged) → IsAt t j → IsAt (suc t) (after_tick plan (after_frames plan j (brought_at xs t)))
  one_tick t j is =
      let all = bring_all t xs j (λ e at. at) (is_in_at t j is) in
      let next : t + 1 ≡ suc t = omega arith in
      tick_passes t (after_frames plan j (brought_at xs t)) all.is_in
      (λ h q n l to.
      all.taken h q n l to ∙ ap (λ b. b || comes xs h q l n t (last_for plan l q)) (is.taken h q n l to)
      ∙ sym (came_next xs h q l n t (last_for plan l q)) ∙ ap (λ u. came xs h q l n u (last_for plan l q)) next)

  pub at_tick : (t : ℕ) → IsAt t (journal_after plan xs t)
  at_tick zero = at_first
  at_tick (suc t) = one_tick t (journal_after plan xs t) (at_tick t)
