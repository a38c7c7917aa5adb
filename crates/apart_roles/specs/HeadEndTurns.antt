-- What a head end brings outside in answer to a line, after a journal: a frame that it takes is in the journal before it says so, and all of
-- the journal is on the disk before it says the lines of a tick.
use Rattle.std.specs.Prelude.{◌≡◌, ℕ, ◌==◌, ◌&&◌, nat_le, Bool, true, false, if◌then◌else◌, List, [], ◌∷◌, ◌++◌, Option, Some, None, Result, Ok, Err}
use Rattle.std.specs.List.{flat_map}
use Rattle.group_plan.specs.Plans.{PlanView}
use Rattle.meter_frames.specs.declared.Frame.{Frame}
use Rattle.transcript_text.specs.Spelling.{ended}
use Rattle.head_end.specs.declared.answers.Logged.{Logged}
use Rattle.head_end.specs.declared.answers.Logged.TheVariants.{Took, Passed}
use Rattle.head_end.specs.declared.answers.Reply.{Reply}
use Rattle.head_end.specs.declared.answers.TickLine.{TickLine}
use Rattle.head_end.specs.declared.head.HeadEnd.{HeadEnd}
use Rattle.head_end.specs.Head.{IsAfter}
use Rattle.head_end.specs.Journal.{passed}
use Rattle.head_end.specs.Lines.{again_lines, tick_lines}
use Rattle.head_end.specs.Replies.{can_pass, is_fresh, reply}
use Rattle.apart_lines.specs.declared.heard.ToHeadEnd.{ToHeadEnd}
use Rattle.apart_lines.specs.declared.heard.ToHeadEnd.TheVariants as hears
use Rattle.apart_lines.specs.declared.said.HeadEndSays.{HeadEndSays}
use Rattle.apart_lines.specs.declared.said.HeadEndSays.TheVariants as says
use Rattle.apart_lines.specs.Journals.{logged_text}
use Rattle.apart_lines.specs.Said.{head_end_text}
use Rattle.desk_outside.specs.Wire.{WireView, after_steps}
use Rattle.desk_outside.specs.declared.wire.WireStep.{WireStep}
use Rattle.desk_outside.specs.declared.wire.WireStep.TheVariants.{Appended, Flushed, Said}
use Rattle.apart_roles.specs.declared.outcome.RoleError.{RoleError}
use Rattle.apart_roles.specs.Steps.{Stops}

-- ---- the head end

-- the head end of this plan is in the state that a journal gives
pub record IsHeadEnd (plan : PlanView) (journal : List Logged) (head : HeadEnd) : Type 0 where
  pub plan_is : head.plan ≡ plan
  pub after : IsAfter journal head

-- it is in the state that some journal gives
pub record IsSomewhere (head : HeadEnd) : Type 0 where
  pub journal : List Logged
  pub after : IsAfter journal head

-- ---- what is logged, and what is said

-- a frame is logged that is fresh by its reply
abbrev pub logged_frame : Reply → Frame → Option Logged
logged_frame said f = if is_fresh said then Some (Took f) else None

-- a tick is logged that passes: the next one, where the plan has one more
abbrev pub logged_tick : PlanView → List Logged → ℕ → Option Logged
logged_tick plan journal t = if (t == passed journal) && can_pass plan journal then Some Passed else None

-- the line that a head end logs of a line that says this to it
abbrev pub logged_to : PlanView → List Logged → ToHeadEnd → Option Logged
logged_to plan journal (hears.Frame (Ok f)) = logged_frame (reply plan journal f) f
logged_to plan journal (hears.Frame (Err rule)) = None
logged_to plan journal (hears.Tick t) = logged_tick plan journal t
logged_to plan journal hears.Again = None
logged_to plan journal hears.Report = None
logged_to plan journal hears.Nothing = None
logged_to plan journal hears.Unknown = None

-- the journal with it
abbrev pub with_logged : List Logged → Option Logged → List Logged
with_logged journal None = journal
with_logged journal (Some line) = journal ++ line ∷ []

-- whether it brings the journal to the disk: for the next tick, and for one that has passed
abbrev pub is_flushed_to : List Logged → ToHeadEnd → Bool
is_flushed_to journal (hears.Frame frame) = false
is_flushed_to journal (hears.Tick t) = nat_le t (passed journal)
is_flushed_to journal hears.Again = false
is_flushed_to journal hears.Report = false
is_flushed_to journal hears.Nothing = false
is_flushed_to journal hears.Unknown = false

-- lines of ticks, and a last line behind them
pub record Answer : Type 0 where
  pub lines : List TickLine
  pub last : HeadEndSays

abbrev pub only : HeadEndSays → Answer
only last = record { lines = []; last = last }

-- the lines of a tick, for whoever gives the ticks
abbrev pub tick_answer : PlanView → List Logged → ℕ → Answer
tick_answer plan journal t = record { lines = tick_lines plan journal t; last = says.Ticked t }

-- what is asked for again
abbrev pub again_answer : PlanView → List Logged → Answer
again_answer plan journal = record { lines = again_lines plan journal; last = says.Ready (passed journal) }

-- what a head end says to a line that says this to it; to a report it says nothing before the report is put
abbrev pub said_to : PlanView → List Logged → ToHeadEnd → Option Answer
said_to plan journal (hears.Frame (Ok f)) = Some (only (says.Reply (reply plan journal f)))
said_to plan journal (hears.Frame (Err rule)) = Some (only (says.Broken rule))
said_to plan journal (hears.Tick t) =
    Some (if nat_le t (passed journal) then tick_answer plan (with_logged journal (logged_tick plan journal t)) t else only says.WrongTick)
said_to plan journal hears.Again = Some (again_answer plan journal)
said_to plan journal hears.Report = None
said_to plan journal hears.Nothing = None
said_to plan journal hears.Unknown = Some (only says.UnknownLine)

-- ---- the steps

-- lines of ticks, each with its newline
abbrev pub lines_text : PlanView → List TickLine → List ℕ
lines_text plan lines = flat_map (λ line. ended (head_end_text plan (says.Line line))) lines

-- an answer is said at once
abbrev pub answer_steps : PlanView → Answer → List WireStep
answer_steps plan answer = Said (lines_text plan answer.lines ++ ended (head_end_text plan answer.last)) false ∷ []

abbrev pub steps_said : PlanView → Option Answer → List WireStep
steps_said plan None = []
steps_said plan (Some answer) = answer_steps plan answer

abbrev pub steps_logged : Option Logged → List WireStep
steps_logged None = []
steps_logged (Some line) = Appended (ended (logged_text line)) false ∷ []

abbrev pub steps_flushed : Bool → List WireStep
steps_flushed true = Flushed false ∷ []
steps_flushed false = []

-- the steps by which a head end answers
abbrev pub turn_steps : PlanView → List Logged → ToHeadEnd → List WireStep
turn_steps plan journal heard = steps_logged (logged_to plan journal heard) ++ steps_flushed (is_flushed_to journal heard) ++ steps_said plan (said_to plan journal heard)

-- ---- a turn

-- what is logged is in the journal
pub record IsLogged (plan : PlanView) (journal : List Logged) (logged : Option Logged) (v w : WireView) (new : HeadEnd) : Type 0 where
  pub steps : w ≡ after_steps v (steps_logged logged)
  pub after : IsHeadEnd plan (with_logged journal logged) new

abbrev pub Logs : {A : Type 0} → PlanView → List Logged → Option Logged → WireView → WireView → Result A RoleError → HeadEnd → Type 0
Logs plan journal logged v w (Ok done) new = IsLogged plan journal logged v w new
Logs plan journal logged v w (Err error) new = Stops error (steps_logged logged) v w

-- and all of the journal is on the disk
pub record IsOnDisk (plan : PlanView) (journal : List Logged) (logged : Option Logged) (v w : WireView) (new : HeadEnd) : Type 0 where
  pub steps : w ≡ after_steps v (steps_logged logged ++ Flushed false ∷ [])
  pub after : IsHeadEnd plan (with_logged journal logged) new

abbrev pub Flushes : PlanView → List Logged → Option Logged → WireView → WireView → Result (Unit {0}) RoleError → HeadEnd → Type 0
Flushes plan journal logged v w (Ok done) new = IsOnDisk plan journal logged v w new
Flushes plan journal logged v w (Err error) new = Stops error (steps_logged logged ++ Flushed false ∷ []) v w

-- what a line says to a head end was answered
pub record IsAnswered (plan : PlanView) (journal : List Logged) (heard : ToHeadEnd) (v w : WireView) (new : HeadEnd) : Type 0 where
  pub steps : w ≡ after_steps v (turn_steps plan journal heard)
  pub after : IsHeadEnd plan (with_logged journal (logged_to plan journal heard)) new

-- it is answered, or the answer stops
abbrev pub Answers : PlanView → List Logged → ToHeadEnd → WireView → WireView → Result (Unit {0}) RoleError → HeadEnd → Type 0
Answers plan journal heard v w (Ok done) new = IsAnswered plan journal heard v w new
Answers plan journal heard v w (Err error) new = Stops error (turn_steps plan journal heard) v w
