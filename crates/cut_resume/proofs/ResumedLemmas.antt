-- A run whose entries follow those of a cut is that run; and where they do not, the cut is not on course.
use Rattle.std.proofs.Common.{◌≡◌, ℕ, ◌*◌, ◌<◌, ◌≤◌, List, [], ◌∷◌, ◌++◌, length, take, drop, get_or, sym, ap, ◌∙◌, subst, arith, Ok, Err}
use Rattle.std.specs.Prelude.{Result}
use Rattle.std.specs.List.{All}
use Rattle.std.proofs.lemmas.List.{take_more}
use Rattle.missing_round.specs.Masks.{Masks}
use Rattle.group_plan.specs.Tables.{IsPresenceTable, PresenceView, ReadingsView, presence_of, reading}
use Rattle.group_book.specs.Groups.{GroupView}
use Rattle.group_book.specs.Replay.{AreReplayed}
use Rattle.link_lanes.specs.Lanes.{Slot}
use Rattle.pair_keys.specs.Keys.{Keys}
use Rattle.mask_stream.specs.KeyStreams.{streams}
use Rattle.event_schedule.specs.declared.Entry.{Entry}
use Rattle.event_schedule.specs.Events.{event_of, lines_of}
use Rattle.event_schedule.specs.Schedule.{Shape}
use Rattle.event_schedule.specs.Transcript.{Contents, contents_of_tables, shape_of_readings}
use Rattle.event_schedule.specs.Transcripts.{NeverFalls, TranscriptView}
use Rattle.run_rows.specs.Runs.{IsRun}
use Rattle.run_rows.specs.Ticks.{Clock, IsOrdered, IsRunPlan, IsTickRun, NoneBefore, clock_of, moment}
use Rattle.run_rows.proofs.PlanLemmas.{can_run}
use Rattle.tick_run.specs.declared.finished.Finished.{Finished}
use Rattle.tick_run.specs.Finished.{HasRowsOf, IsFinished, IsFinishedUnder}
use Rattle.tick_run.proofs.RowsOf.{rows-are}
use Rattle.tick_run.proofs.ShapeLemmas.{shapes-same}
use Rattle.cut_resume.specs.declared.errors.ResumeError.{ResumeError}
use Rattle.cut_resume.specs.declared.errors.ResumeError.TheVariants.{NotThis, Memory}
use Rattle.cut_resume.specs.Heard.{AreFirst}
use Rattle.cut_resume.specs.Left.{IsNoneOf, Leaves}
use Rattle.cut_resume.specs.OnCourse.{IsFirstOff, OnCourse}
use Rattle.cut_resume.specs.Resumed.{Follows, FollowEnds, IsResumed, ResumeEnds}
use Rattle.cut_resume.proofs.HeardLemmas.{begins}
use Rattle.cut_resume.proofs.Moves.{all-two, leaves_keep, ordered_moved, run_moved}
use Rattle.cut_resume.proofs.OnCourse.{beginnings_are_on_course}
use Rattle.cut_resume.proofs.Picks.{picks}
use Rattle.cut_resume.proofs.Replayed.{replayed_moved}
use Rattle.cut_resume.proofs.Runs.{by_one}
use Rattle.cut_resume.proofs.Splits.{phase_most}

-- ---- what stays where entries are picked

pub ordered_kept : (cut run left : List Entry) → Leaves cut run left → IsOrdered run → IsOrdered (cut ++ left)
ordered_kept cut run left leaves is = leaves_keep IsOrdered ordered_moved cut [] run left leaves is

pub all_kept : (P : Entry → Type 0) (cut run left : List Entry) → Leaves cut run left → All P run → All P (cut ++ left)
all_kept P cut run left leaves is = leaves_keep (All P) (λ xs ys x e may all. all-two P xs ys x e all) cut [] run left leaves is

pub replayed_kept : (p : PresenceView) (groups : List GroupView) (cut run left : List Entry) → Leaves cut run left → AreReplayed p (lines_of run) groups → AreReplayed p (lines_of (cut ++ left)) groups
replayed_kept p groups cut run left leaves is = leaves_keep (λ es. AreReplayed p (lines_of es) groups) (replayed_moved p groups) cut [] run left leaves is

-- ticks never fall where moments don't
below_first : (last : ℕ) (xs : List Entry) → IsOrdered xs → ((m : ℕ) → m ≤ 3 * last → NoneBefore m xs) → NeverFalls last xs
below_first last [] ordered low = tt
below_first last (x ∷ xs) ordered low =
    let here = (low (3 * last) (omega arith)).0 in
    let p = phase_most (event_of x.line) in
    (omega (arith, here, p), below_first x.tick xs ordered.1 (λ m le. none_below m (moment x) xs (omega (arith, le)) ordered.0))
  where
    none_below : (m n : ℕ) (ys : List Entry) → m ≤ n → NoneBefore n ys → NoneBefore m ys
    none_below m n [] le none = tt
    none_below m n (y ∷ ys) le none = (let h = none.0 in omega (arith, le, h), none_below m n ys le none.1)

pub ticks_kept : (xs : List Entry) → IsOrdered xs → NeverFalls 0 xs
ticks_kept xs ordered = below_first 0 xs ordered (λ m le. none m xs (omega (arith, le)))
  where
    none : (m : ℕ) (ys : List Entry) → m ≡ 0 → NoneBefore m ys
    none m [] zero = tt
    none m (y ∷ ys) zero = (omega (arith, zero), none m ys zero)

-- ---- the run

module _ (readings : ReadingsView) (m : Masks) (slots : List Slot) where
  abbrev s : Shape
  s = shape_of_readings readings.plan.groups (reading readings.table)

  abbrev c : Clock
  c = clock_of readings.plan

  abbrev words : Contents
  words = contents_of_tables readings.plan.groups (reading readings.table) m

  pub run_of : (f : Finished) → IsFinishedUnder readings m slots f.book f.transcript → IsRun s c slots words f.transcript.entries
  run_of f is = record {
    run = subst (λ (x : Shape). IsTickRun x c slots f.transcript.entries) (shapes-same readings) is.ticks;
    delays = is.delays;
    lines = is.lines;
  }

  pub run_kept : (cut run left : List Entry) → Leaves cut run left → IsRun s c slots words run → IsRun s c slots words (cut ++ left)
  run_kept cut run left leaves is = leaves_keep (IsRun s c slots words) (λ xs ys x e may now. run_moved s c xs ys x e may slots words now) cut [] run left leaves is

  pub finished_kept : (run f : Finished) (cut : TranscriptView) → cut.plan ≡ readings.plan → IsFinishedUnder readings m slots run.book run.transcript → Follows run cut f → IsFinishedUnder readings m slots f.book f.transcript
  finished_kept run f cut plan is follows =
      let kept = run_kept cut.entries run.transcript.entries follows.left follows.leaves (run_of run is) in
      let told : TranscriptView = record { plan = cut.plan; entries = cut.entries ++ follows.left } in
      subst (IsFinishedUnder readings m slots f.book) (sym follows.transcript) (record {
        limits = is.limits;
        table = is.table;
        ticks = subst (λ (x : Shape). IsTickRun x c slots told.entries) (sym (shapes-same readings)) kept.run;
        delays = kept.delays;
        lines = kept.lines;
        plan = plan;
        presence = follows.presence ∙ is.presence;
        journal = follows.journal ∙ ap (λ (t : TranscriptView). lines_of t.entries) follows.transcript;
      })

  table_of : (run : Finished) → IsFinishedUnder readings m slots run.book run.transcript → IsPresenceTable run.book.presence.plan run.book.presence.table → IsPresenceTable readings.plan (presence_of readings).table
  table_of run is members = subst (λ (p : PresenceView). IsPresenceTable p.plan p.table) is.presence members

  some_entry : (xs : List Entry) (k : ℕ) → k < length xs → Entry
  some_entry [] k lt = absurd (omega (arith, lt))
  some_entry (x ∷ xs) k lt = x

  first_off : (run : Finished) (cut : List Entry) (k : ℕ) → IsFinishedUnder readings m slots run.book run.transcript → IsPresenceTable run.book.presence.plan run.book.presence.table
      → IsNoneOf cut run.transcript.entries k → IsFirstOff readings m slots cut k
  first_off run cut k is members none =
      let kept = run_kept (take k cut) run.transcript.entries none.left none.before (run_of run is) in
      let plan : IsRunPlan s c = subst (λ (x : Shape). IsRunPlan x c) (shapes-same readings) (can_run (presence_of readings) is.limits (table_of run is members)) in
      let d = some_entry cut k none.there in
      let e = get_or cut k d in
      record {
        there = none.there;
        before = beginnings_are_on_course s c slots words (take k cut) (none.left, kept);
        here = λ on.
            let next = (by_one s c slots words (take k cut) e).back (subst (OnCourse readings m slots) (take_more cut k d none.there) on) in
            let picked = picks s c slots words plan (take k cut) e next.1 none.left kept in
            none.here d picked.0 picked.1;
      }

-- how a run goes on from a cut
pub resume_ends : (readings : ReadingsView) (keys : Keys) (slots : List Slot) (run : Finished) (cut : TranscriptView) (r : Result Finished ResumeError) → cut.plan ≡ readings.plan
    → IsFinished readings keys slots run.book run.transcript → IsPresenceTable run.book.presence.plan run.book.presence.table → FollowEnds run cut r → ResumeEnds readings keys slots cut r
resume_ends readings keys slots run cut (Ok f) plan is members follows =
    let finished = finished_kept readings (streams keys) slots run f cut plan is follows in
    record {
      finished = finished;
      report = rows-are readings (streams keys) slots f.book f.transcript (table_of readings (streams keys) slots run is members) finished;
      more = follows.left;
      begins = ap (λ (t : TranscriptView). t.entries) follows.transcript;
    }
resume_ends readings keys slots run cut (Err (NotThis n)) plan is members follows = (follows.0, follows.1, first_off readings (streams keys) slots run cut.entries follows.0 is members follows.2)
resume_ends readings keys slots run cut (Err Memory) plan is members follows = tt

-- a run that begins with the entries of the cut in their order
pub resumed_itself : (readings : ReadingsView) (keys : Keys) (slots : List Slot) (run : Finished) (cut : TranscriptView) → IsFinished readings keys slots run.book run.transcript → HasRowsOf run.transcript.entries run.book
    → AreFirst cut.entries run.transcript.entries (length cut.entries) → IsResumed readings keys slots cut run
resumed_itself readings keys slots run cut finished report first = record {
  finished = finished;
  report = report;
  more = drop (length cut.entries) run.transcript.entries;
  begins = begins cut.entries run.transcript.entries first;
}
