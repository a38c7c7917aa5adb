-- What the head end says to a frame is the verdict of its Take.
use Rattle.std.proofs.Common.{◌≡◌, ℕ, Bool, true, false, not, ◌&&◌, ◌||◌, List, [], ◌∷◌, ◌++◌, refl, sym, ap, ◌∙◌, subst, inl, inr}
use Rattle.std.specs.Prelude.{◌==◌, nat_lt, nat_le, if◌then◌else◌}
use mathlib.Core.List.{reverse_aux, reverse}
use Rattle.std.specs.List.{flat_map}
use Rattle.std.proofs.lemmas.Bool.{false≢true, eqb-true, eq-eqb}
use Rattle.group_plan.specs.declared.Kind.{Kind}
use Rattle.group_plan.specs.declared.Kind.TheVariants.{Reading, Announcement, Answer}
use Rattle.group_plan.specs.declared.Tag.{Tag}
use Rattle.group_plan.specs.Plans.{PlanView}
use Rattle.meter_frames.specs.declared.Frame.{Frame}
use Rattle.round_machine.specs.declared.Verdict.{Verdict}
use Rattle.round_machine.specs.declared.Verdict.TheVariants as verdicts
use Rattle.event_schedule.specs.declared.Line.{Line}
use Rattle.event_schedule.specs.declared.Line.TheVariants as lines
use Rattle.event_schedule.specs.declared.Entry.{Entry}
use Rattle.event_schedule.specs.Events.{is_take, events_of, lines_of, event_of}
use Rattle.event_schedule.specs.Tables.{Readings, Masks}
use Rattle.event_schedule.specs.Schedule.{is_late, verdict}
use Rattle.event_schedule.specs.Schedule.{is_taken as is_taken_there}
use Rattle.event_schedule.specs.Transcript.{shape_of_readings, contents_of_tables, line, lines_after}
use Rattle.event_schedule.proofs.EventLemmas.{is_send-itself}
use Rattle.event_schedule.proofs.VerdictLemmas.{verdict-table}
use Rattle.run_rows.specs.Ticks.{clock_of, IsRunPlan, tag_of}
use Rattle.run_rows.proofs.TickLemmas.{In, Member, Stands}
use Rattle.run_rows.proofs.TickRun.{IsRunBy}
use Rattle.head_end.specs.declared.answers.Logged.{Logged}
use Rattle.head_end.specs.declared.answers.Reply.TheVariants.{Fresh, Again, Differs, Late}
use Rattle.head_end.specs.Journal.{is_taken, word_taken}
use Rattle.head_end.specs.Replies.{reply, replied}
use Rattle.apart_runs.specs.Carried.{is_from_head, frames_in, frames_sent, brought_by}
use Rattle.apart_runs.specs.HeadRuns.{after_frames, journal_after, replies_to, replies_at, reply_of, verdict_by, verdicts_at}
use Rattle.apart_runs.proofs.FrameLemmas.{line_at, taken_frame}
use Rattle.apart_runs.proofs.CameLemmas.{came, comes}
use Rattle.apart_runs.proofs.TakeLemmas.{IsTake, late_before, sent_before, taken_by}
use Rattle.apart_runs.proofs.HeadLemmas.{s, w, whole, facts, IsIn, is_in_at, at_tick, last_for, said_of, reading_reply, answer_reply, brings, all_brought}
use Rattle.apart_runs.proofs.ReportLemmas.{own_word}

-- what came before is still there
in_more : (e : Entry) (older ys acc : List Entry) → In e older acc → In e older (reverse_aux ys acc)
in_more e older [] acc at = at
in_more e older (y ∷ ys) acc at = in_more e older ys (y ∷ acc) (inr at)

both_replies : (plan : PlanView) (j : List Logged) (fs more : List Frame) → replies_to plan j (fs ++ more) ≡ replies_to plan j fs ++ replies_to plan (after_frames plan j fs) more
unfolding replies_to after_frames
both_replies plan j [] more = refl
both_replies plan j (f ∷ fs) more = ap (λ l. reply plan j f ∷ l) (both_replies plan (replied (reply plan j f) f j) fs more)

after_all : (plan : PlanView) (j : List Logged) (fs more : List Frame) → after_frames plan j (fs ++ more) ≡ after_frames plan (after_frames plan j fs) more
unfolding after_frames
after_all plan j [] more = refl
after_all plan j (f ∷ fs) more = after_all plan (replied (reply plan j f) f j) fs more

verdict_in : Verdict → Line → Verdict
verdict_in v (lines.Take tag u) = u
verdict_in v l = v

shifted : (a b c : Bool) → ((a || b) || c) ≡ (a || (c || b))
shifted true b c = refl
shifted false true true = refl
shifted false true false = refl
shifted false false true = refl
shifted false false false = refl

or_false : (b : Bool) → (b || false) ≡ b
or_false true = refl
or_false false = refl

-- the reply by whether the tag was taken, and whether it is too late
by_table : (taken late : Bool) (a b : ℕ) → (taken ≡ true → a ≡ b)
    → (if taken then (if a == b then Again else Differs) else if late then Late else Fresh) ≡ reply_of (if taken then verdicts.Again else if late then verdicts.Late else verdicts.Fresh)
by_table true late a b same = ap (λ c. if c then Again else Differs) (eq-eqb a b (same refl))
by_table false true a b same = refl
by_table false false a b same = refl

module _ (plan : PlanView) (x : Readings) (m : Masks) (fate : ℕ → Tag → List ℕ) (xs : List Entry)
    (can : IsRunPlan (shape_of_readings plan.groups x) (clock_of plan)) (run : IsRunBy (shape_of_readings plan.groups x) (clock_of plan) fate xs)
    (same : lines_of xs ≡ lines_after (shape_of_readings plan.groups x) (contents_of_tables plan.groups x m) [] (events_of xs)) where
  abbrev Takes : ℕ → ℕ → ℕ → Kind → Entry → List Entry → Type 0
  Takes g r i k e older = IsTake (s plan x m fate xs can run same) (clock_of plan) fate xs (facts plan x m fate xs can run same) g r i k e older

  -- the journal has what came before an entry of this tick
  record IsBefore (t : ℕ) (older : List Entry) (j : List Logged) : Type 0 where
    taken : (h q n : ℕ) (l : Kind) → is_from_head l ≡ false → is_taken h q l j n ≡ (came xs h q l n t (last_for plan l q) || comes older h q l n t (last_for plan l q))
    is_in : IsIn plan x m fate xs can run same t j

  said_by : (g r i t : ℕ) (k : Kind) (j : List Logged) → is_from_head k ≡ false → IsIn plan x m fate xs can run same t j → Stands (is_take g r i k) t (reverse xs)
      → reply plan j (whole plan x m fate xs can run same (tag_of k g r i)) ≡ said_of plan x m fate xs can run same (is_taken g r k j i) (nat_lt (last_for plan k r) t) (word_taken g r k j i) (whole plan x m fate xs can run same (tag_of k g r i)).word
  said_by g r i t Reading j to is st = reading_reply plan x m fate xs can run same g r i t j is st
  said_by g r i t Announcement j to is st = absurd (false≢true (sym to))
  said_by g r i t Answer j to is st = answer_reply plan x m fate xs can run same g r i t j is st

  verdict_so : (g r i t : ℕ) (k : Kind) (e : Entry) (older : List Entry) (j : List Logged) → is_from_head k ≡ false → Takes g r i k e older → e.tick ≡ t → IsBefore t older j
      → verdict (s plan x m fate xs can run same) k g r i (events_of older) ≡ (if is_taken g r k j i then verdicts.Again else if nat_lt (last_for plan k r) t then verdicts.Late else verdicts.Fresh)
  verdict_so g r i t k e older j to is now before =
      let f = facts plan x m fate xs can run same in
      let sh = s plan x m fate xs can run same in
      verdict-table sh k g r i (events_of older)
      ∙ ap (λ b. if not b then verdicts.Void else if is_taken_there sh k g r i (events_of older) then verdicts.Again else if is_late k g r (events_of older) then verdicts.Late else verdicts.Fresh)
      (sent_before sh (clock_of plan) fate xs f g r i k e older to is)
      ∙ ap (λ b. if b then verdicts.Again else if is_late k g r (events_of older) then verdicts.Late else verdicts.Fresh)
      (taken_by sh (clock_of plan) fate xs f g r i k e older to is
      ∙ ap (λ u. came xs g r k i u (last_for plan k r) || comes older g r k i u (last_for plan k r)) now
      ∙ sym (before.taken g r i k to))
      ∙ ap (λ b. if is_taken g r k j i then verdicts.Again else if b then verdicts.Late else verdicts.Fresh)
      (late_before sh (clock_of plan) fate xs f g r i k e older to is ∙ ap (nat_lt (last_for plan k r)) now)

  reply_so : (t : ℕ) (e : Entry) (tag : Tag) (v : Verdict) (older : List Entry) (j : List Logged) → is_from_head tag.kind ≡ false → In e older (reverse xs) → e.line ≡ lines.Take tag v → e.tick ≡ t → IsBefore t older j
      → reply plan j (whole plan x m fate xs can run same tag) ≡ reply_of v
  unfolding verdict_in
  reply_so t e tag v older j to at is now before =
      let takes : is_take tag.group tag.round tag.meter tag.kind (event_of e.line) ≡ true
      = ap (λ z. is_take tag.group tag.round tag.meter tag.kind (event_of z)) is ∙ is_send-itself tag.group tag.round tag.meter tag.kind in
      let t_is : Takes tag.group tag.round tag.meter tag.kind e older = record { at = at; takes = takes } in
      let st : Stands (is_take tag.group tag.round tag.meter tag.kind) t (reverse xs) = record { entry = e; older = older; at = at; passes = takes; when = now } in
      let says : v ≡ verdict (s plan x m fate xs can run same) tag.kind tag.group tag.round tag.meter (events_of older)
      = ap (verdict_in v) (sym is ∙ line_at (s plan x m fate xs can run same) (w plan x m fate xs can run same) xs same e older at
      ∙ ap (λ z. line (s plan x m fate xs can run same) (w plan x m fate xs can run same) (events_of older) (event_of z)) is) in
      said_by tag.group tag.round tag.meter t tag.kind j to before.is_in st
      ∙ by_table (is_taken tag.group tag.round tag.kind j tag.meter) (nat_lt (last_for plan tag.kind tag.round) t) (word_taken tag.group tag.round tag.kind j tag.meter) (whole plan x m fate xs can run same tag).word
      (λ was. (own_word plan x m fate xs can run same tag.group tag.round tag.kind tag.meter j before.is_in.frames was).word_is)
      ∙ ap reply_of (sym (says ∙ verdict_so tag.group tag.round tag.meter t tag.kind e older j to t_is now before))

  -- ---- one entry, and all of a tick

  entry_so : (t : ℕ) (e : Entry) (older : List Entry) (j : List Logged) → Member e xs → In e older (reverse xs) → IsBefore t older j
      → replies_to plan j (if e.tick == t then brought_by (lines_of xs) (event_of e.line) else []) ≡ (if e.tick == t then verdict_by e.line else [])
  unfolding replies_to
  entry_so t e older j member at before = by e.line (e.tick == t) refl refl
    where
      by_kind : (tag : Tag) (v : Verdict) (b : Bool) → is_from_head tag.kind ≡ b → e.line ≡ lines.Take tag v → e.tick ≡ t
          → replies_to plan j (if is_from_head tag.kind then [] else frames_sent (lines_of xs) tag) ≡ (if is_from_head tag.kind then [] else reply_of v ∷ [])
      by_kind tag v true from is now =
          ap (λ b. replies_to plan j (if b then [] else frames_sent (lines_of xs) tag)) from ∙ sym (ap (λ b. if b then [] else reply_of v ∷ []) from)
      by_kind tag v false to is now =
          let takes : is_take tag.group tag.round tag.meter tag.kind (event_of e.line) ≡ true
          = ap (λ z. is_take tag.group tag.round tag.meter tag.kind (event_of z)) is ∙ is_send-itself tag.group tag.round tag.meter tag.kind in
          ap (λ b. replies_to plan j (if b then [] else frames_sent (lines_of xs) tag)) to
          ∙ ap (λ o. replies_to plan j (frames_in o))
          (taken_frame (s plan x m fate xs can run same) (clock_of plan) fate (w plan x m fate xs can run same) xs (facts plan x m fate xs can run same) same tag.group tag.round tag.meter tag.kind e member takes)
          ∙ ap (λ q. q ∷ []) (reply_so t e tag v older j to at is now before)
          ∙ sym (ap (λ b. if b then [] else reply_of v ∷ []) to)

      by : (l : Line) (b : Bool) → e.line ≡ l → (e.tick == t) ≡ b → replies_to plan j (if b then brought_by (lines_of xs) (event_of l) else []) ≡ (if b then verdict_by l else [])
      by l false is now = refl
      by (lines.Take tag v) true is now = by_kind tag v (is_from_head tag.kind) refl is (eqb-true e.tick t now)
      by (lines.Send tag f) true is now = refl
      by (lines.Close g r v) true is now = refl
      by (lines.End g r v) true is now = refl

  entries_so : (t : ℕ) (ys older : List Entry) (j : List Logged) → reverse_aux ys older ≡ reverse xs → ((e : Entry) → Member e ys → Member e xs) → IsBefore t older j
      → replies_to plan j (all_brought plan x m fate xs can run same t ys) ≡ flat_map (λ e. if e.tick == t then verdict_by e.line else []) ys
  unfolding replies_to
  entries_so t [] older j split within before = refl
  entries_so t (e ∷ ys) older j split within before =
      let at : In e older (reverse xs) = subst (In e older) split (in_more e older ys (e ∷ older) (inl (refl, refl))) in
      let fs = if e.tick == t then brought_by (lines_of xs) (event_of e.line) else [] in
      let more = brings plan x m fate xs can run same t j e (within e (inl refl)) before.is_in in
      both_replies plan j fs (all_brought plan x m fate xs can run same t ys)
      ∙ ap (λ l. l ++ replies_to plan (after_frames plan j fs) (all_brought plan x m fate xs can run same t ys)) (entry_so t e older j (within e (inl refl)) at before)
      ∙ ap (λ l. (if e.tick == t then verdict_by e.line else []) ++ l)
      (entries_so t ys (e ∷ older) (after_frames plan j fs) split (λ z in_ys. within z (inr in_ys))
      (record {
        taken = λ h q n l to.
            more.taken h q n l to
            ∙ ap (λ b. b || (is_take h q n l (event_of e.line) && ((e.tick == t) && nat_le e.tick (last_for plan l q)))) (before.taken h q n l to)
            ∙ shifted (came xs h q l n t (last_for plan l q)) (comes older h q l n t (last_for plan l q)) (is_take h q n l (event_of e.line) && ((e.tick == t) && nat_le e.tick (last_for plan l q)));
        is_in = more.is_in;
      }))

  pub replies_so : (t : ℕ) → replies_at plan xs t ≡ verdicts_at xs t
  replies_so t =
      let up = at_tick plan x m fate xs can run same t in
      entries_so t xs [] (journal_after plan xs t) refl (λ e at. at)
      (record {
        taken = λ h q n l to. up.taken h q n l to ∙ sym (or_false (came xs h q l n t (last_for plan l q)));
        is_in = is_in_at plan x m fate xs can run same t (journal_after plan xs t) up;
      })
