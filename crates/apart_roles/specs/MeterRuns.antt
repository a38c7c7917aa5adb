-- What a meter brings outside in answer to the lines of its input, one after another.
use Rattle.std.specs.Prelude.{◌≡◌, ℕ, Bool, true, List, ◌∷◌, Option, Result, Ok, Err}
use Rattle.missing_round.specs.Masks.{Masks}
use Rattle.meter_apart.specs.declared.answers.Noted.{Noted}
use Rattle.meter_apart.specs.declared.meter.MeterApart.{MeterApart}
use Rattle.meter_apart.specs.declared.part.Part.{Part}
use Rattle.meter_apart.specs.Meter.{IsAfter, meter_masks, meter_part}
use Rattle.apart_lines.specs.declared.heard.ToMeter.{ToMeter}
use Rattle.apart_lines.specs.declared.heard.ToMeter.TheVariants.{Nothing, Unknown}
use Rattle.apart_lines.specs.Heard.{to_meter}
use Rattle.desk_outside.specs.Wire.{IsNext, WireView, after_steps}
use Rattle.desk_outside.specs.declared.wire.Coming.{Coming}
use Rattle.desk_outside.specs.declared.wire.Coming.TheVariants.{Line, TooLong, Rest, End}
use Rattle.desk_outside.specs.declared.wire.WireStep.{WireStep}
use Rattle.desk_outside.specs.declared.wire.WireStep.TheVariants.{Heard}
use Rattle.apart_roles.specs.declared.outcome.RoleError.{RoleError}
use Rattle.apart_roles.specs.Inputs.{AreNext, Came, IsEnd, are_lines, is_line, journal_of_all, steps_of_all, with_last}
use Rattle.apart_roles.specs.Steps.{Stops}
use Rattle.apart_roles.specs.MeterTurns.{noted_to, turn_steps, with_noted}

-- what a line says to a meter; of a line that is too long nothing is known
abbrev pub said_by : Coming → List ℕ → ToMeter
said_by Line text = to_meter text
said_by TooLong text = Unknown
said_by Rest text = Nothing
said_by End text = Nothing

abbrev pub said_in : Came → ToMeter
said_in came = said_by came.what came.text

-- ---- one after another

-- the steps by which it is heard and answered
abbrev pub came_steps : Part → Masks → List Noted → Came → List WireStep
came_steps part m journal came = Heard came.what came.text ∷ turn_steps part m journal (said_in came)

-- the journal with what is noted of it
abbrev pub with_came : Part → List Noted → Came → List Noted
with_came part journal came = with_noted journal (noted_to part journal (said_in came))

-- the steps by which all that came is heard and answered
abbrev pub run_steps : Part → Masks → List Noted → List Came → List WireStep
run_steps part m journal lines = steps_of_all (came_steps part m) (with_came part) journal lines

-- the journal with all that is noted of it
abbrev pub run_journal : Part → List Noted → List Came → List Noted
run_journal part journal lines = journal_of_all (with_came part) journal lines

-- ---- a turn

-- what came next was heard and answered
pub record IsTurn (old : MeterApart) (journal : List Noted) (v w : WireView) (more : Bool) (new : MeterApart) : Type 0 where
  pub came : Came
  pub more_is : more ≡ is_line came.what
  pub next : IsNext v.input came.what came.text
  pub steps : w ≡ after_steps v (came_steps (meter_part old) (meter_masks old) journal came)
  pub after : IsAfter (with_came (meter_part old) journal came) new

-- it was not, or not to the end
pub record StopsInTurn (part : Part) (m : Masks) (error : RoleError) (journal : List Noted) (v w : WireView) : Type 0 where
  pub came : Came
  pub next : IsNext v.input came.what came.text
  pub stops : Stops error (came_steps part m journal came) v w

abbrev pub TakesTurn : MeterApart → List Noted → WireView → WireView → Result Bool RoleError → MeterApart → Type 0
TakesTurn old journal v w (Ok more) new = IsTurn old journal v w more new
TakesTurn old journal v w (Err error) new = StopsInTurn (meter_part old) (meter_masks old) error journal v w

-- ---- a run

-- all lines were, and then the input ended: by a rest, by its end, or after as many lines as a run hears
pub record IsRun (old : MeterApart) (journal : List Noted) (v w : WireView) (new : MeterApart) : Type 0 where
  pub lines : List Came
  pub last : Option Came
  pub lines_are : are_lines lines ≡ true
  pub ends : IsEnd lines last
  pub next : AreNext v.input (with_last lines last)
  pub steps : w ≡ after_steps v (run_steps (meter_part old) (meter_masks old) journal (with_last lines last))
  pub after : IsAfter (run_journal (meter_part old) journal lines) new

-- these lines were, and then a turn stopped
pub record StopsInRun (old : MeterApart) (journal : List Noted) (error : RoleError) (v w : WireView) : Type 0 where
  pub lines : List Came
  pub view : WireView
  pub lines_are : are_lines lines ≡ true
  pub next : AreNext v.input lines
  pub steps : view ≡ after_steps v (run_steps (meter_part old) (meter_masks old) journal lines)
  pub stops : StopsInTurn (meter_part old) (meter_masks old) error (run_journal (meter_part old) journal lines) view w

abbrev pub Runs : MeterApart → List Noted → WireView → WireView → Result (Unit {0}) RoleError → MeterApart → Type 0
Runs old journal v w (Ok done) new = IsRun old journal v w new
Runs old journal v w (Err error) new = StopsInRun old journal error v w
