-- What a command tells of a role that stopped, or did not start, over the journal of a name.
use Rattle.std.specs.Prelude.{◌≡◌, ℕ, List, Result, Ok, Err}
use Rattle.apart_roles.specs.declared.outcome.RoleError.{RoleError}
use Rattle.apart_roles.specs.declared.outcome.RoleError.TheVariants.{Input, Journal, Output, Memory}
use Rattle.apart_roles.specs.declared.outcome.Start.{Start}
use Rattle.apart_roles.specs.declared.outcome.Start.TheVariants as starts
use Rattle.command_words.specs.declared.outcome.Outcome.{Outcome}
use Rattle.command_words.specs.declared.outcome.Outcome.TheVariants.{NoMemory, Unread, Unwritten, BadText}
use Rattle.command_words.specs.declared.unread.Unread.TheVariants as of_unread
use Rattle.command_words.specs.declared.unwritten.Unwritten.TheVariants as of_unwritten
use Rattle.command_words.specs.declared.text_fault.TextFault.TheVariants as of_text

-- the role stopped for a cause of which this holds, and the command tells it
abbrev pub Stopped : (journal : List ℕ) → (RoleError → Type 0) → Outcome → Type 0
Stopped journal stops NoMemory = stops Memory
Stopped journal stops (Unread of_unread.Input) = stops Input
Stopped journal stops (Unwritten (of_unwritten.File name)) = (name.now ≡ journal) × stops Journal
Stopped journal stops (Unwritten of_unwritten.Output) = stops Output
Stopped journal stops _ = ⊥

-- the start gave no role, and this holds of what it gave, which the command tells
abbrev pub NotStarted : {R : Type 0} → (journal : List ℕ) → (Result (Start R) RoleError → Type 0) → Outcome → Type 0
NotStarted journal gives (Unread (of_unread.File name)) = (name.now ≡ journal) × gives (Ok starts.Unreadable)
NotStarted journal gives (BadText name (of_text.JournalHead line)) = (name.now ≡ journal) × gives (Ok (starts.Head line))
NotStarted journal gives (BadText name (of_text.JournalLine line)) = (name.now ≡ journal) × gives (Ok (starts.Line line))
NotStarted journal gives outcome = Stopped journal (λ error. gives (Err error)) outcome
