-- A meter whose run stops: how its command ends, and which faults have risen.
use Rattle.std.proofs.Common.{◌≡◌, ℕ, List}
use Rattle.desk_outside.specs.Desk.{Rose}
use Rattle.desk_outside.specs.Wire.{WireView}
use Rattle.meter_apart.specs.declared.answers.Noted.{Noted}
use Rattle.meter_apart.specs.declared.meter.MeterApart.{MeterApart}
use Rattle.meter_apart.specs.Meter.{IsAfter}
use Rattle.apart_roles.specs.declared.outcome.RoleError.{RoleError}
use Rattle.apart_roles.specs.MeterRuns.{StopsInRun}
use Rattle.apart_roles.specs.MeterTurns.{HasJournal}
use Rattle.command_words.specs.Outcomes.{IsFault}
use Rattle.command_words.specs.declared.outcome.Outcome.{Outcome}
use Rattle.command_words.specs.declared.outcome.Outcome.TheVariants.{NoMemory, Unread, Unwritten}
use Rattle.role_commands.specs.MeterEnds.{RunEnds}
use Rattle.role_commands.specs.Told.{Stopped}
use Rattle.role_commands.proofs.FaultLemmas.{FaultsBy, from_same, meter_run_fault}
use Rattle.role_commands.proofs.ToldLemmas.{TellsOf, told_rose}

-- a run that stops is told, and that is how it ends
pub run_stopped : (role : MeterApart) (lines : List Noted) (journal : List ℕ) (v w : WireView) (outcome : Outcome) → Stopped journal (λ error. StopsInRun role lines error v w) outcome → RunEnds role lines journal v w outcome
run_stopped role lines journal v w NoMemory stopped = stopped
run_stopped role lines journal v w (Unread unread) stopped = stopped
run_stopped role lines journal v w (Unwritten unwritten) stopped = stopped
run_stopped role lines journal v w _ stopped = absurd stopped

-- the faults that a run which stopped has raised since before the start
pub run_rose : (role : MeterApart) (journal : List ℕ) (error : RoleError) (outcome : Outcome) (v m w : WireView) → HasJournal role → m.faults ≡ v.faults
    → ((lines : List Noted) → IsAfter lines role → StopsInRun role lines error m w) → TellsOf journal error outcome → IsFault outcome → Rose v.faults w.faults
run_rose role journal error outcome v m w has calm stops told fault =
    told_rose journal error outcome v w told (from_same error v m w calm (meter_run_fault role has.journal error m w (stops has.journal has.after))) fault
