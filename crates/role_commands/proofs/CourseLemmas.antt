-- The turns of a head end, one after another.
use Rattle.std.proofs.Common.{◌≡◌, ℕ, List, [], ◌∷◌, zero, suc, refl, inl, inr, subst, sym, ap, ◌∙◌, Bool}
use Rattle.std.specs.Prelude.{Result, Ok, Err}
use Rattle.group_plan.specs.Plans.{PlanView}
use Rattle.head_end.specs.declared.answers.Logged.{Logged}
use Rattle.head_end.specs.declared.head.HeadEnd.{HeadEnd}
use Rattle.head_end.specs.Lines.{rows}
use Rattle.totals_report.specs.Texts.{rows_text}
use Rattle.desk_outside.specs.Desk.{View, Stored, after_step}
use Rattle.desk_outside.specs.Wire.{WireView, after_steps}
use Rattle.apart_roles.specs.declared.head_end_run.Pause.{Pause}
use Rattle.apart_roles.specs.declared.head_end_run.Pause.TheVariants as pauses
use Rattle.apart_roles.specs.declared.outcome.RoleError.{RoleError}
use Rattle.apart_roles.specs.HeadEndRuns.{IsRun, Runs, run_journal}
use Rattle.apart_roles.specs.HeadEndTurns.{IsHeadEnd}
use Rattle.apart_roles.specs.Steps.{Stops}
use Rattle.command_files.specs.Calls.{Committed, Unwritable}
use Rattle.command_words.specs.Words.{CollectNames}
use Rattle.command_words.specs.declared.outcome.Outcome.{Outcome}
use Rattle.command_words.specs.declared.outcome.Outcome.TheVariants.{Done}
use Rattle.role_commands.specs.CollectEnds.{IsCourse, IsTurn, LastTurn, Place, Reports, RunsTo, StopsInLines, StopsInTurn, due_steps, place}
use Rattle.role_commands.specs.Parts.{Puts, TakesTurn}
use Rattle.role_commands.proofs.ToldLemmas.{TellsOf, told_stopped}

-- ---- the report

-- a file that is committed is put
pub committed_puts : (has : List ℕ → Type 0) (failed : Bool) (name given bytes : List ℕ) (v u w : View) (result : Result (Unit {0}) Outcome) → u ≡ v → given ≡ name → has bytes
    → Committed has failed given u w result → Puts name bytes v w result
committed_puts has failed name given bytes v u w (Ok done) same named known ends =
    ends.1 bytes known ∙ ap (λ (x : View). after_step x (Stored given bytes)) same ∙ ap (λ n. after_step v (Stored n bytes)) named
committed_puts has failed name given bytes v u w (Err outcome) same named known ends =
    subst (λ n. Unwritable (n ∷ []) v w outcome) named (subst (λ (x : View). Unwritable (given ∷ []) x w outcome) same ends)

-- ---- a turn

-- the journal behind a run
abbrev pub journal_behind : (plan : PlanView) (before : List Logged) (x y : WireView) (pause : Pause) (head : HeadEnd) → IsRun plan before x y pause head → List Logged
journal_behind plan before x y pause head run = run_journal plan before run.heard.lines

runs_to : (plan : PlanView) (before : List Logged) (x y : WireView) (pause : Pause) (head : HeadEnd) (run : IsRun plan before x y pause head)
    → RunsTo plan pause before (journal_behind plan before x y pause head run) x y
runs_to plan before x y pause head run = record { head = head; run = run; after_is = refl }

-- a line is not answered
pub lines_stopped : (plan : PlanView) (names : CollectNames) (before : List Logged) (v w : View) (x y : WireView) (cause : RoleError) (outcome : Outcome) (head : HeadEnd) → w ≡ v
    → TellsOf names.journal cause outcome → Runs plan before x y (Err cause) head → StopsInTurn plan names (place before v x) w y outcome
lines_stopped plan names before v w x y cause outcome head same told stops = inl (told_stopped names.journal (StopsInLines plan before x y) cause outcome told stops, same)

-- the report isn't put
pub report_stopped : (plan : PlanView) (names : CollectNames) (before : List Logged) (v w : View) (x y : WireView) (pause : Pause) (outcome : Outcome) (head : HeadEnd) → IsRun plan before x y pause head
    → Unwritable (names.report ∷ []) v w outcome → StopsInTurn plan names (place before v x) w y outcome
report_stopped plan names before v w x y pause outcome head run unput = inr (inl (record {
  pause = pause;
  journal = journal_behind plan before x y pause head run;
  runs = runs_to plan before x y pause head run;
  unput = unput;
}))

-- what is due isn't said
pub due_stopped : (plan : PlanView) (names : CollectNames) (before : List Logged) (v w : View) (x m y : WireView) (pause : Pause) (cause : RoleError) (outcome : Outcome) (head : HeadEnd)
    → (run : IsRun plan before x m pause head) → w ≡ after_step v (Stored names.report (rows_text (rows plan (journal_behind plan before x m pause head run)))) → TellsOf names.journal cause outcome
    → Stops cause (due_steps plan (journal_behind plan before x m pause head run) pause) m y → StopsInTurn plan names (place before v x) w y outcome
due_stopped plan names before v w x m y pause cause outcome head run put told stops =
    let journal = journal_behind plan before x m pause head run in
    inr (inr (record {
      pause = pause;
      journal = journal;
      heard = m;
      runs = runs_to plan before x m pause head run;
      put = put;
      unsaid = told_stopped names.journal (λ error. Stops error (due_steps plan journal pause) m y) cause outcome told stops;
    }))

-- all of it is done
pub turn_taken : (plan : PlanView) (names : CollectNames) (before : List Logged) (v w : View) (x m y : WireView) (pause : Pause) (head : HeadEnd) (run : IsRun plan before x m pause head)
    → w ≡ after_step v (Stored names.report (rows_text (rows plan (journal_behind plan before x m pause head run)))) → y ≡ after_steps m (due_steps plan (journal_behind plan before x m pause head run) pause)
    → TakesTurn plan names (place before v x) w y (Ok pause) head
turn_taken plan names before v w x m y pause head run put said = (
  journal_behind plan before x m pause head run,
  record { heard = m; runs = runs_to plan before x m pause head run; put = put; said = said },
  run.heard.after,
)

-- ---- turns

-- the report was put some times, and these lines give the state
pub record HasReported (plan : PlanView) (names : CollectNames) (journal : List Logged) (v w : View) (x y : WireView) (head : HeadEnd) : Type 0 where
  pub times : ℕ
  pub last : List Logged
  pub reports : Reports plan names.report times (place journal v x) (place last w y)
  pub after : IsHeadEnd plan last head

pub not_yet : (plan : PlanView) (names : CollectNames) (journal : List Logged) (v : View) (x : WireView) (head : HeadEnd) → IsHeadEnd plan journal head → HasReported plan names journal v v x x head
not_yet plan names journal v x head after = record { times = 0; last = journal; reports = refl; after = after }

pub once_more : (plan : PlanView) (names : CollectNames) (journal : List Logged) (v u w : View) (x m y : WireView) (old new : HeadEnd) (has : HasReported plan names journal v u x m old) (pause : Pause)
    → pause ≡ pauses.Report → TakesTurn plan names (place has.last u m) w y (Ok pause) new → HasReported plan names journal v w x y new
once_more plan names journal v u w x m y old new has pause is turn = record {
  times = suc has.times;
  last = turn.0;
  reports = (place has.last u m, has.reports, subst (λ p. IsTurn plan names.report p (place has.last u m) (place turn.0 w y)) is turn.1);
  after = turn.2;
}

pub course_over : (plan : PlanView) (names : CollectNames) (journal : List Logged) (v u w : View) (x m y : WireView) (old new : HeadEnd) (has : HasReported plan names journal v u x m old) (pause : Pause)
    → pause ≡ pauses.Over → TakesTurn plan names (place has.last u m) w y (Ok pause) new → IsCourse plan names (place journal v x) w y Done
course_over plan names journal v u w x m y old new has pause is turn = record {
  times = has.times;
  last = place has.last u m;
  reports = has.reports;
  ends = (place turn.0 w y, subst (λ p. IsTurn plan names.report p (place has.last u m) (place turn.0 w y)) is turn.1, refl, refl);
}

-- a turn that stops ends the course
last_stopped : (plan : PlanView) (names : CollectNames) (a : Place) (w : View) (y : WireView) (outcome : Outcome) → StopsInTurn plan names a w y outcome → LastTurn plan names a w y outcome
last_stopped plan names a w y Done stops = absurd (no_stop plan names a w y stops)
  where
    no_stop : (plan : PlanView) (names : CollectNames) (a : Place) (w : View) (y : WireView) → StopsInTurn plan names a w y Done → ⊥
    no_stop plan names a w y stops = elim stops [ inl h ↦ h.0 | inr h ↦ elim h [ inl report ↦ report.unput | inr due ↦ due.unsaid ] ]
last_stopped plan names a w y _ stops = stops

pub course_stopped : (plan : PlanView) (names : CollectNames) (journal : List Logged) (v u w : View) (x m y : WireView) (old new : HeadEnd) (outcome : Outcome) (has : HasReported plan names journal v u x m old)
    → TakesTurn plan names (place has.last u m) w y (Err outcome) new → IsCourse plan names (place journal v x) w y outcome
course_stopped plan names journal v u w x m y old new outcome has stops = record {
  times = has.times;
  last = place has.last u m;
  reports = has.reports;
  ends = last_stopped plan names (place has.last u m) w y outcome stops;
}
