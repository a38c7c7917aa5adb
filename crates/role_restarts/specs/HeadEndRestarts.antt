-- How a head end starts over what is left of its journal.
use Rattle.std.specs.Prelude.{◌≡◌, ◌≤◌, ℕ, List, [], ◌++◌, length, Result, Ok, Err, ⊤}
use Rattle.group_plan.specs.Plans.{PlanView}
use Rattle.head_end.specs.declared.answers.Logged.{Logged}
use Rattle.head_end.specs.declared.head.HeadEnd.{HeadEnd}
use Rattle.head_end.specs.Journal.{passed}
use Rattle.head_end.specs.Replies.{can_follow}
use Rattle.apart_lines.specs.Heads.{journal_head}
use Rattle.apart_lines.specs.Journals.{logged_of, logged_text}
use Rattle.desk_outside.specs.Desk.{IsPrefixOf}
use Rattle.desk_outside.specs.Wire.{WireView, after_steps}
use Rattle.apart_roles.specs.declared.outcome.RoleError.{RoleError}
use Rattle.apart_roles.specs.declared.outcome.Start.{Start}
use Rattle.apart_roles.specs.declared.outcome.Start.TheVariants as starts
use Rattle.apart_roles.specs.Inputs.{lines_in, number_behind}
use Rattle.apart_roles.specs.HeadEndStarts.{welcome_steps}
use Rattle.apart_roles.specs.HeadEndTurns.{IsHeadEnd}
use Rattle.journal_cuts.specs.Cuts.{bytes_by}
use Rattle.role_restarts.specs.Restarts.{AreLines, IsRestored}

-- the bytes of lines of a journal, each with its newline
abbrev pub logged_bytes : List Logged → List ℕ
logged_bytes lines = bytes_by logged_text lines

-- these are lines of a journal, and each can follow those before it
abbrev pub AreLogged : PlanView → List Logged → Type 0
AreLogged plan lines = AreLines logged_of logged_text (can_follow plan) [] lines

-- the journal is these lines, and gives the head end its state
abbrev pub IsRestoredHead : PlanView → List Logged → WireView → HeadEnd → Type 0
IsRestoredHead plan lines w head = IsRestored logged_text (IsHeadEnd plan) (journal_head plan) lines w head

-- the head end started in the state that these lines give, and its journal is them: it is brought to the disk, and then their ticks are told
pub record IsRestarted (plan : PlanView) (lines : List Logged) (w : WireView) (new : HeadEnd) : Type 0 where
  pub restored : IsRestoredHead plan lines w new
  pub view : WireView
  pub says : w ≡ after_steps view (welcome_steps plan (passed lines))

-- it starts so, unless memory runs out or the outside fails
abbrev pub RestartsWith : PlanView → List Logged → WireView → Result (Start HeadEnd) RoleError → Type 0
RestartsWith plan lines w (Ok (starts.Ready new)) = IsRestarted plan lines w new
RestartsWith plan lines w (Ok (starts.Line number)) = ⊥
RestartsWith plan lines w (Ok starts.Unreadable) = ⊤
RestartsWith plan lines w (Ok (starts.Head number)) = ⊥
RestartsWith plan lines w (Err error) = ⊤

-- the head end went on by these lines, and by others that stand behind them
pub record IsRestartedFrom (plan : PlanView) (bytes : List ℕ) (lines : List Logged) (w : WireView) (new : HeadEnd) : Type 0 where
  pub others : List Logged
  pub are : AreLines logged_of logged_text (can_follow plan) lines others
  pub stand : IsPrefixOf (journal_head plan ++ logged_bytes (lines ++ others)) bytes
  pub restarted : IsRestarted plan (lines ++ others) w new

-- it does so, or a line behind these is wrong, unless memory runs out or the outside fails
abbrev pub RestartsFrom : PlanView → List ℕ → List Logged → WireView → Result (Start HeadEnd) RoleError → Type 0
RestartsFrom plan bytes lines w (Ok (starts.Ready new)) = IsRestartedFrom plan bytes lines w new
RestartsFrom plan bytes lines w (Ok (starts.Line number)) = number_behind (number_behind (lines_in (journal_head plan)) 1) (length lines) ≤ number
RestartsFrom plan bytes lines w (Ok starts.Unreadable) = ⊤
RestartsFrom plan bytes lines w (Ok (starts.Head number)) = ⊥
RestartsFrom plan bytes lines w (Err error) = ⊤

-- the journal is such lines, and gives the head end its state
pub record HasLines (plan : PlanView) (w : WireView) (head : HeadEnd) : Type 0 where
  pub lines : List Logged
  pub are : AreLogged plan lines
  pub restored : IsRestoredHead plan lines w head
