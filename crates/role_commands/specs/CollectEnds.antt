-- How `collect PUBLIC JOURNAL REPORT` ends, and what it leaves of the desk and of the wire.
use Rattle.std.specs.Prelude.{◌≡◌, ◌⊎◌, ℕ, zero, suc, List, [], ◌∷◌, Result, Ok, Err}
use Rattle.group_plan.specs.Plans.{PlanView}
use Rattle.plan_files.specs.PlanFiles.{public_of}
use Rattle.totals_report.specs.Texts.{rows_text}
use Rattle.head_end.specs.declared.answers.Logged.{Logged}
use Rattle.head_end.specs.declared.head.HeadEnd.{HeadEnd}
use Rattle.head_end.specs.Lines.{rows}
use Rattle.apart_lines.specs.declared.said.HeadEndSays.TheVariants as says
use Rattle.apart_lines.specs.Said.{head_end_text}
use Rattle.desk_outside.specs.Desk.{View, Stored, after_step}
use Rattle.desk_outside.specs.Wire.{WireView, after_steps}
use Rattle.desk_outside.specs.declared.wire.WireStep.{WireStep}
use Rattle.apart_roles.specs.declared.head_end_run.Pause.{Pause}
use Rattle.apart_roles.specs.declared.head_end_run.Pause.TheVariants as pauses
use Rattle.apart_roles.specs.declared.outcome.RoleError.{RoleError}
use Rattle.apart_roles.specs.declared.outcome.Start.{Start}
use Rattle.apart_roles.specs.declared.outcome.Start.TheVariants.{Ready}
use Rattle.apart_roles.specs.HeadEndRuns.{IsRun, StopsAtFlush, StopsInRun, run_journal, summary_steps}
use Rattle.apart_roles.specs.HeadEndStarts.{HeadEndStarts}
use Rattle.apart_roles.specs.HeadEndTurns.{IsHeadEnd}
use Rattle.apart_roles.specs.Steps.{Stops, said_steps}
use Rattle.command_words.specs.Words.{CollectNames}
use Rattle.command_words.specs.declared.outcome.Outcome.{Outcome}
use Rattle.command_words.specs.declared.outcome.Outcome.TheVariants.{Done}
use Rattle.command_files.specs.Calls.{IsRead, Unread, Unwritable, after_fetches}
use Rattle.command_texts.specs.Inspecting.{PublicTextRefuses}
use Rattle.role_commands.specs.Told.{NotStarted, Stopped}

-- ---- where a head end is

-- the lines of its journal, the desk and the wire
pub record Place : Type 0 where
  pub journal : List Logged
  pub desk : View
  pub wire : WireView

abbrev pub place : List Logged → View → WireView → Place
place journal desk wire = record { journal = journal; desk = desk; wire = wire }

-- ---- a turn

-- what is said behind a pause, once the report is put: that it is; or at the end of the input the summary
abbrev pub due_steps : PlanView → List Logged → Pause → List WireStep
due_steps plan journal pauses.Report = said_steps (head_end_text plan says.Reported)
due_steps plan journal pauses.Over = summary_steps plan journal

-- lines are heard and answered up to a pause; the journal has this behind it, and it is on the disk
pub record RunsTo (plan : PlanView) (pause : Pause) (before after : List Logged) (x y : WireView) : Type 0 where
  pub head : HeadEnd
  pub run : IsRun plan before x y pause head
  pub after_is : after ≡ run_journal plan before run.heard.lines

-- and then the report of that journal is put, and what is due is said
pub record IsTurn (plan : PlanView) (report : List ℕ) (pause : Pause) (a b : Place) : Type 0 where
  pub heard : WireView
  pub runs : RunsTo plan pause a.journal b.journal a.wire heard
  pub put : b.desk ≡ after_step a.desk (Stored report (rows_text (rows plan b.journal)))
  pub said : b.wire ≡ after_steps heard (due_steps plan b.journal pause)

-- the report is asked for and put so many times
abbrev pub Reports : PlanView → (report : List ℕ) → (times : ℕ) → Place → Place → Type 0
Reports plan report zero a b = b ≡ a
Reports plan report (suc times) a b = (c : Place) × Reports plan report times a c × IsTurn plan report pauses.Report c b

-- ---- where a turn stops

-- a line is not heard, or not answered, for this cause, or the journal isn't on the disk
abbrev pub StopsInLines : PlanView → List Logged → WireView → WireView → RoleError → Type 0
StopsInLines plan journal x y error = StopsInRun plan journal error x y ⊎ StopsAtFlush plan journal error x y

-- lines were answered up to a pause, and the report isn't put
pub record StopsAtReport (plan : PlanView) (report : List ℕ) (a : Place) (w : View) (y : WireView) (outcome : Outcome) : Type 0 where
  pub pause : Pause
  pub journal : List Logged
  pub runs : RunsTo plan pause a.journal journal a.wire y
  pub unput : Unwritable (report ∷ []) a.desk w outcome

-- the report was put, and what is due isn't said
pub record StopsAtDue (plan : PlanView) (names : CollectNames) (a : Place) (w : View) (y : WireView) (outcome : Outcome) : Type 0 where
  pub pause : Pause
  pub journal : List Logged
  pub heard : WireView
  pub runs : RunsTo plan pause a.journal journal a.wire heard
  pub put : w ≡ after_step a.desk (Stored names.report (rows_text (rows plan journal)))
  pub unsaid : Stopped names.journal (λ error. Stops error (due_steps plan journal pause) heard y) outcome

abbrev pub StopsInTurn : PlanView → CollectNames → Place → View → WireView → Outcome → Type 0
StopsInTurn plan names a w y outcome =
    (Stopped names.journal (StopsInLines plan a.journal a.wire y) outcome × (w ≡ a.desk))
    ⊎ (StopsAtReport plan names.report a w y outcome
    ⊎ StopsAtDue plan names a w y outcome)

-- ---- the course

-- from a place to the end: the input ends, or a turn stops
abbrev pub LastTurn : PlanView → CollectNames → Place → View → WireView → Outcome → Type 0
LastTurn plan names a w y Done = (b : Place) × IsTurn plan names.report pauses.Over a b × (w ≡ b.desk) × (y ≡ b.wire)
LastTurn plan names a w y outcome = StopsInTurn plan names a w y outcome

-- the report is asked for some times, and then comes the last turn
pub record IsCourse (plan : PlanView) (names : CollectNames) (a : Place) (w : View) (y : WireView) (outcome : Outcome) : Type 0 where
  pub times : ℕ
  pub last : Place
  pub reports : Reports plan names.report times a last
  pub ends : LastTurn plan names last w y outcome

-- a head end starts over its journal; and whichever lines give its state, its course is that from these lines
pub record Collects (plan : PlanView) (names : CollectNames) (v w : View) (x y : WireView) (outcome : Outcome) : Type 0 where
  pub head : HeadEnd
  pub started : WireView
  pub starts : HeadEndStarts plan names.journal x started (Ok (Ready head))
  pub course : (journal : List Logged) → IsHeadEnd plan journal head → IsCourse plan names (place journal v started) w y outcome

-- ---- the command

-- the public plan is read: the head end starts and takes its course, or it does not start
abbrev pub CollectsBy : PlanView → CollectNames → (v w : View) → (x y : WireView) → Outcome → Type 0
CollectsBy plan names v w x y outcome =
    (NotStarted names.journal (HeadEndStarts plan names.journal x y) outcome × (w ≡ v))
    ⊎ Collects plan names v w x y outcome

-- how it ends: PUBLIC is not read, or it is refused, and the wire is as before; or its plan is collected by
abbrev pub CollectEnds : CollectNames → (v w : View) → (x y : WireView) → Outcome → Type 0
CollectEnds names v w x y outcome =
    (Unread (names.public ∷ []) v w outcome × (y ≡ x))
    ⊎ ((bytes : List ℕ) × IsRead (v.held names.public) bytes
    × ((PublicTextRefuses names.public bytes outcome × (w ≡ after_fetches (names.public ∷ []) v) × (y ≡ x))
    ⊎ ((plan : PlanView) × (public_of bytes ≡ Ok plan) × CollectsBy plan names (after_fetches (names.public ∷ []) v) w x y outcome)))
