-- A run that goes on from a cut is in time, and so is the cut.
use Rattle.std.proofs.Common.{◌≡◌, ℕ, ◌+◌, ◌<◌, List, [], ◌∷◌, ◌++◌, take, drop, Option, Some, None, is_some, inl, inr, sym, ap, ◌∙◌, subst, arith, append-nil, append_assoc, Ok, Err}
use Rattle.std.specs.Prelude.{Result}
use Rattle.std.specs.List.{All}
use Rattle.std.proofs.lemmas.Bool.{cases_Bool, false≢true}
use Rattle.std.proofs.lemmas.List.{take-append-drop}
use Rattle.std.proofs.lemmas.List.Elements.{All-nil, All-cons, All-head, All-tail}
use Rattle.group_plan.specs.Plans.{IsWithinLimits, PlanView, is_place}
use Rattle.group_plan.specs.Tables.{IsReadingTable, ReadingsView, Table, reading}
use Rattle.group_plan.proofs.MeterNumbers.{group-lt, in_place}
use Rattle.group_plan.proofs.TableLemmas.{entry_outside}
use Rattle.link_lanes.specs.Lanes.{Slot}
use Rattle.pair_keys.specs.Keys.{Keys}
use Rattle.mask_stream.specs.KeyStreams.{streams}
use Rattle.event_schedule.specs.declared.Entry.{Entry}
use Rattle.event_schedule.specs.Transcript.{Contents, contents_of_tables, shape_of_readings}
use Rattle.link_lanes.specs.Fates.{IsFate}
use Rattle.event_schedule.specs.Transcripts.{IsEntry, IsTranscript, TranscriptView}
use Rattle.run_rows.specs.Ticks.{IsRunPlan, clock_of}
use Rattle.run_course.specs.declared.errors.CourseError.{CourseError}
use Rattle.run_course.specs.declared.errors.CourseError.TheVariants as course
use Rattle.run_course.specs.Beginnings.{BeginsRun, IsSomeRun}
use Rattle.run_course.specs.Ends.{CourseEnds}
use Rattle.run_course.proofs.SomeRuns.{runs_are_in_time}
use Rattle.tick_run.specs.declared.finished.Finished.{Finished}
use Rattle.tick_run.specs.Finished.{IsFinished}
use Rattle.cut_resume.specs.Statements.{LetsPass, RefusesNone, ResumedRunsAreInTime}
use Rattle.cut_resume.proofs.ResumedLemmas.{run_of}

-- a plan within the limits and its readings can run
pub can_run : (plan : PlanView) (t : Table (Option ℕ)) → IsWithinLimits plan → IsReadingTable plan t → IsRunPlan (shape_of_readings plan.groups (reading t)) (clock_of plan)
can_run plan t limits fits = record {
  places = λ g r i here. elim (cases_Bool (is_place plan g r i)) [
    | inl inside ↦
        let both = in_place plan g r i inside in
        (group-lt plan.groups g i both.1, both.0, fits.of_members g r i here)
    | inr outside ↦ absurd (false≢true (sym (ap is_some (entry_outside plan t fits.shape None g r i outside)) ∙ here))
  ];
  first_window = let h = limits.w1_from in omega arith;
  open_window = let h = limits.w2_from in omega arith;
}

all_fates : (entries : List Entry) → All IsEntry entries → All (λ e. IsFate e.fate) entries
all_fates [] are = All-nil (λ (e : Entry). IsFate e.fate)
all_fates (e ∷ rest) are = All-cons (λ (x : Entry). IsFate x.fate) e rest (All-head IsEntry e rest are).fate (all_fates rest (All-tail IsEntry e rest are))

-- a run that is over is one whoever has a reading
some_run : (readings : ReadingsView) (keys : Keys) (slots : List Slot) (f : Finished) → IsFinished readings keys slots f.book f.transcript → IsTranscript f.transcript → IsSomeRun readings.plan f.transcript.entries
some_run readings keys slots f is sound =
    let plan = readings.plan in
    let words : Contents = contents_of_tables plan.groups (reading readings.table) (streams keys) in
    runs_are_in_time plan (λ g r i. is_some (reading readings.table g r i)) slots words f.transcript.entries (can_run plan readings.table is.limits is.table) (all_fates f.transcript.entries sound.entries)
    (run_of readings (streams keys) slots f is)

-- the first of entries with which a run begins are such
first_begin : (plan : PlanView) (entries : List Entry) (n : ℕ) → BeginsRun plan entries → BeginsRun plan (take n entries)
first_begin plan entries n begins = (
  drop n entries ++ begins.0,
  subst (IsSomeRun plan) (ap (λ l. l ++ begins.0) (sym (take-append-drop n entries)) ∙ append_assoc (take n entries) (drop n entries) begins.0) begins.1,
)

refuses_none : (t : TranscriptView) (answer : Result (Unit {0}) CourseError) → BeginsRun t.plan t.entries → CourseEnds t answer → RefusesNone answer
refuses_none t (Ok x) begins ends = tt
refuses_none t (Err (course.Entry k)) begins ends = ends.here (first_begin t.plan t.entries (k + 1) begins)
refuses_none t (Err course.Unfinished) begins ends = tt
refuses_none t (Err course.Memory) begins ends = tt

lets_pass : (t : TranscriptView) (answer : Result (Unit {0}) CourseError) → IsSomeRun t.plan t.entries → CourseEnds t answer → LetsPass answer
lets_pass t (Ok x) run ends = tt
lets_pass t (Err (course.Entry k)) run ends = ends.here (first_begin t.plan t.entries (k + 1) ([], subst (IsSomeRun t.plan) (sym (append-nil t.entries)) run))
lets_pass t (Err course.Unfinished) run ends = ends.unfinished run
lets_pass t (Err course.Memory) run ends = tt

pub resumed_runs_are_in_time : ResumedRunsAreInTime
resumed_runs_are_in_time readings keys slots cut f plan sound resumed =
    let run = some_run readings keys slots f resumed.finished sound in
    let begins : BeginsRun cut.plan cut.entries = (resumed.more, subst (λ p. IsSomeRun p (cut.entries ++ resumed.more)) (sym plan) (subst (IsSomeRun readings.plan) resumed.begins run)) in
    record {
      of_cut = λ answer ends. refuses_none cut answer begins ends;
      of_run = λ answer ends. lets_pass f.transcript answer (subst (λ p. IsSomeRun p f.transcript.entries) (sym resumed.finished.plan) run) ends;
    }
