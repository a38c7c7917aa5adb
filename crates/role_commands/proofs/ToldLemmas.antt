-- What a command tells of a role that stopped or did not start.
use Rattle.std.proofs.Common.{◌≡◌, ℕ, List, sym, subst}
use Rattle.std.specs.Prelude.{Result, Ok, Err}
use Rattle.desk_outside.specs.Desk.{Rose}
use Rattle.desk_outside.specs.Wire.{WireView}
use Rattle.apart_roles.specs.declared.outcome.RoleError.{RoleError}
use Rattle.apart_roles.specs.declared.outcome.RoleError.TheVariants.{Input, Journal, Output, Memory}
use Rattle.apart_roles.specs.declared.outcome.Start.{Start}
use Rattle.command_words.specs.Outcomes.{IsFault}
use Rattle.command_words.specs.declared.outcome.Outcome.{Outcome}
use Rattle.command_words.specs.declared.outcome.Outcome.TheVariants.{NoMemory, Unread, Unwritten}
use Rattle.command_words.specs.declared.unread.Unread.TheVariants as of_unread
use Rattle.command_words.specs.declared.unwritten.Unwritten.TheVariants as of_unwritten
use Rattle.role_commands.specs.Told.{NotStarted, Stopped}
use Rattle.role_commands.proofs.FaultLemmas.{FaultsBy}

-- the outcome tells this cause
abbrev pub TellsOf : (journal : List ℕ) → RoleError → Outcome → Type 0
TellsOf journal cause outcome = Stopped journal (λ error. error ≡ cause) outcome

-- a cause of which something holds is told
pub told_stopped : (journal : List ℕ) (stops : RoleError → Type 0) (cause : RoleError) (outcome : Outcome) → TellsOf journal cause outcome → stops cause → Stopped journal stops outcome
told_stopped journal stops cause NoMemory told holds = subst stops (sym told) holds
told_stopped journal stops cause (Unread of_unread.Input) told holds = subst stops (sym told) holds
told_stopped journal stops cause (Unwritten (of_unwritten.File name)) told holds = (told.0, subst stops (sym told.1) holds)
told_stopped journal stops cause (Unwritten of_unwritten.Output) told holds = subst stops (sym told) holds
told_stopped journal stops cause _ told holds = absurd told

pub told_not_started : {R : Type 0} (journal : List ℕ) (gives : Result (Start R) RoleError → Type 0) (cause : RoleError) (outcome : Outcome) → TellsOf journal cause outcome → gives (Err cause)
    → NotStarted journal gives outcome
told_not_started journal gives cause NoMemory told holds = subst (λ e. gives (Err e)) (sym told) holds
told_not_started journal gives cause (Unread of_unread.Input) told holds = subst (λ e. gives (Err e)) (sym told) holds
told_not_started journal gives cause (Unwritten (of_unwritten.File name)) told holds = (told.0, subst (λ e. gives (Err e)) (sym told.1) holds)
told_not_started journal gives cause (Unwritten of_unwritten.Output) told holds = subst (λ e. gives (Err e)) (sym told) holds
told_not_started journal gives cause _ told holds = absurd told

-- a cause that is a fault of the wire
pub told_rose : (journal : List ℕ) (cause : RoleError) (outcome : Outcome) (v w : WireView) → TellsOf journal cause outcome → FaultsBy cause v w → IsFault outcome → Rose v.faults w.faults
told_rose journal cause NoMemory v w told faults fault = absurd fault
told_rose journal cause (Unread of_unread.Input) v w told faults fault = subst (λ e. FaultsBy e v w) (sym told) faults
told_rose journal cause (Unwritten (of_unwritten.File name)) v w told faults fault = subst (λ e. FaultsBy e v w) (sym told.1) faults
told_rose journal cause (Unwritten of_unwritten.Output) v w told faults fault = subst (λ e. FaultsBy e v w) (sym told) faults
told_rose journal cause _ v w told faults fault = absurd told
