-- What a head end brings outside in answer to the lines of its input, one after another.
use Rattle.std.specs.Prelude.{◌≡◌, ◌⊎◌, ℕ, Bool, true, false, List, [], ◌∷◌, length, Option, Some, None, Result, Ok, Err, ⊤}
use Rattle.std.specs.List.{list_all}
use Rattle.group_plan.specs.Plans.{PlanView}
use Rattle.totals_report.specs.Texts.{counts_text}
use Rattle.head_end.specs.declared.answers.Logged.{Logged}
use Rattle.head_end.specs.declared.head.HeadEnd.{HeadEnd}
use Rattle.head_end.specs.Lines.{rows}
use Rattle.apart_lines.specs.declared.heard.ToHeadEnd.{ToHeadEnd}
use Rattle.apart_lines.specs.declared.heard.ToHeadEnd.TheVariants as hears
use Rattle.apart_lines.specs.Heard.{to_head_end}
use Rattle.desk_outside.specs.Wire.{IsNext, WireView, after_steps}
use Rattle.desk_outside.specs.declared.wire.Coming.{Coming}
use Rattle.desk_outside.specs.declared.wire.Coming.TheVariants.{Line, TooLong, Rest, End}
use Rattle.desk_outside.specs.declared.wire.WireStep.{WireStep}
use Rattle.desk_outside.specs.declared.wire.WireStep.TheVariants.{Flushed, Heard, Said}
use Rattle.apart_roles.specs.declared.head_end_run.Pause.{Pause}
use Rattle.apart_roles.specs.declared.head_end_run.Pause.TheVariants as pauses
use Rattle.apart_roles.specs.declared.head_end_run.Turn.{Turn}
use Rattle.apart_roles.specs.declared.head_end_run.Turn.TheVariants as turns
use Rattle.apart_roles.specs.declared.outcome.RoleError.{RoleError}
use Rattle.apart_roles.specs.Inputs.{AreNext, Came, journal_of_all, most_lines, steps_of_all, with_last}
use Rattle.apart_roles.specs.HeadEndTurns.{IsAnswered, IsHeadEnd, IsSomewhere, logged_to, turn_steps, with_logged}
use Rattle.apart_roles.specs.Steps.{Stops}

-- what a line says to a head end; of a line that is too long nothing is known
abbrev pub said_by : Coming → List ℕ → ToHeadEnd
said_by Line text = to_head_end text
said_by TooLong text = hears.Unknown
said_by Rest text = hears.Nothing
said_by End text = hears.Nothing

abbrev pub said_in : Came → ToHeadEnd
said_in came = said_by came.what came.text

-- ---- one after another

-- the steps by which it is heard and answered
abbrev pub came_steps : PlanView → List Logged → Came → List WireStep
came_steps plan journal came = Heard came.what came.text ∷ turn_steps plan journal (said_in came)

-- the journal with what is logged of it
abbrev pub with_came : PlanView → List Logged → Came → List Logged
with_came plan journal came = with_logged journal (logged_to plan journal (said_in came))

-- the steps by which all that came is heard and answered
abbrev pub run_steps : PlanView → List Logged → List Came → List WireStep
run_steps plan journal lines = steps_of_all (came_steps plan) (with_came plan) journal lines

-- the journal with all that is logged of it
abbrev pub run_journal : PlanView → List Logged → List Came → List Logged
run_journal plan journal lines = journal_of_all (with_came plan) journal lines

-- ---- a turn

-- whether more is heard behind a line that says this: not behind one that asks for the report
abbrev pub turn_of_line : ToHeadEnd → Turn
turn_of_line (hears.Frame frame) = turns.More
turn_of_line (hears.Tick t) = turns.More
turn_of_line hears.Again = turns.More
turn_of_line hears.Report = turns.Report
turn_of_line hears.Nothing = turns.More
turn_of_line hears.Unknown = turns.More

-- nor behind the end of the input
abbrev pub turn_by : Coming → List ℕ → Turn
turn_by Line text = turn_of_line (to_head_end text)
turn_by TooLong text = turns.More
turn_by Rest text = turns.Over
turn_by End text = turns.Over

abbrev pub turn_of : Came → Turn
turn_of came = turn_by came.what came.text

abbrev pub is_more : Turn → Bool
is_more turns.More = true
is_more turns.Report = false
is_more turns.Over = false

-- more is heard behind each
abbrev pub all_more : List Came → Bool
all_more lines = list_all (λ came. is_more (turn_of came)) lines

-- a line was answered, and more is heard behind it or not
pub record IsLineAnswered (plan : PlanView) (journal : List Logged) (heard : ToHeadEnd) (v w : WireView) (turn : Turn) (new : HeadEnd) : Type 0 where
  pub turn_is : turn ≡ turn_of_line heard
  pub answered : IsAnswered plan journal heard v w new

abbrev pub AnswersLine : PlanView → List Logged → ToHeadEnd → WireView → WireView → Result Turn RoleError → HeadEnd → Type 0
AnswersLine plan journal heard v w (Ok turn) new = IsLineAnswered plan journal heard v w turn new
AnswersLine plan journal heard v w (Err error) new = Stops error (turn_steps plan journal heard) v w

-- what came next was heard and answered
pub record IsTurn (plan : PlanView) (journal : List Logged) (v w : WireView) (turn : Turn) (new : HeadEnd) : Type 0 where
  pub came : Came
  pub turn_is : turn ≡ turn_of came
  pub next : IsNext v.input came.what came.text
  pub steps : w ≡ after_steps v (came_steps plan journal came)
  pub after : IsHeadEnd plan (with_came plan journal came) new

-- it was not, or not to the end
pub record StopsInTurn (plan : PlanView) (error : RoleError) (journal : List Logged) (v w : WireView) : Type 0 where
  pub came : Came
  pub next : IsNext v.input came.what came.text
  pub stops : Stops error (came_steps plan journal came) v w

abbrev pub TakesTurn : PlanView → List Logged → WireView → WireView → Result Turn RoleError → HeadEnd → Type 0
TakesTurn plan journal v w (Ok turn) new = IsTurn plan journal v w turn new
TakesTurn plan journal v w (Err error) new = StopsInTurn plan error journal v w

-- ---- a run

-- the last that came asks for the report; or it ends the input, or nothing more was heard behind so many lines
abbrev pub PausesAt : Pause → List Came → Option Came → Type 0
PausesAt pauses.Report lines (Some came) = turn_of came ≡ turns.Report
PausesAt pauses.Report lines None = ⊥
PausesAt pauses.Over lines (Some came) = turn_of came ≡ turns.Over
PausesAt pauses.Over lines None = length lines ≡ most_lines

-- these lines were heard and answered, and then one that pauses the run
pub record HasHeard (plan : PlanView) (journal : List Logged) (v w : WireView) (pause : Pause) (new : HeadEnd) : Type 0 where
  pub lines : List Came
  pub last : Option Came
  pub more : all_more lines ≡ true
  pub pauses : PausesAt pause lines last
  pub next : AreNext v.input (with_last lines last)
  pub steps : w ≡ after_steps v (run_steps plan journal (with_last lines last))
  pub after : IsHeadEnd plan (run_journal plan journal lines) new

-- they were, and then a turn stopped
pub record StopsInRun (plan : PlanView) (journal : List Logged) (error : RoleError) (v w : WireView) : Type 0 where
  pub lines : List Came
  pub view : WireView
  pub more : all_more lines ≡ true
  pub next : AreNext v.input lines
  pub steps : view ≡ after_steps v (run_steps plan journal lines)
  pub stops : StopsInTurn plan error (run_journal plan journal lines) view w

abbrev pub Hears : PlanView → List Logged → WireView → WireView → Result Pause RoleError → HeadEnd → Type 0
Hears plan journal v w (Ok pause) new = HasHeard plan journal v w pause new
Hears plan journal v w (Err error) new = StopsInRun plan journal error v w

-- and the journal is on the disk
pub record IsRun (plan : PlanView) (journal : List Logged) (v w : WireView) (pause : Pause) (new : HeadEnd) : Type 0 where
  pub view : WireView
  pub heard : HasHeard plan journal v view pause new
  pub steps : w ≡ after_steps view (Flushed false ∷ [])

-- it is not
pub record StopsAtFlush (plan : PlanView) (journal : List Logged) (error : RoleError) (v w : WireView) : Type 0 where
  pub pause : Pause
  pub head : HeadEnd
  pub view : WireView
  pub heard : HasHeard plan journal v view pause head
  pub stops : Stops error (Flushed false ∷ []) view w

abbrev pub Runs : PlanView → List Logged → WireView → WireView → Result Pause RoleError → HeadEnd → Type 0
Runs plan journal v w (Ok pause) new = IsRun plan journal v w pause new
Runs plan journal v w (Err error) new = StopsInRun plan journal error v w ⊎ StopsAtFlush plan journal error v w

-- a head end that goes on is in the state that some journal gives
abbrev pub IfOnward : Result Pause RoleError → HeadEnd → Type 0
IfOnward (Ok pause) new = IsSomewhere new
IfOnward (Err error) new = ⊤

-- ---- at the end

-- how many rounds there are, and how many of each outcome
abbrev pub summary_steps : PlanView → List Logged → List WireStep
summary_steps plan journal = Said (counts_text (rows plan journal)) false ∷ []
