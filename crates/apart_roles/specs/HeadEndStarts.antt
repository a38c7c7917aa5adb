-- How a head end goes on by its journal, and starts.
use Rattle.std.specs.Prelude.{◌≡◌, ◌⊎◌, ℕ, false, List, [], ◌∷◌, Option, Result, Ok, Err, ⊤}
use Rattle.group_plan.specs.Plans.{PlanView}
use Rattle.head_end.specs.declared.answers.Logged.{Logged}
use Rattle.head_end.specs.declared.head.HeadEnd.{HeadEnd}
use Rattle.head_end.specs.Head.{IsAfter}
use Rattle.head_end.specs.Journal.{passed}
use Rattle.head_end.specs.Replies.{can_follow}
use Rattle.apart_lines.specs.declared.said.HeadEndSays.TheVariants as says
use Rattle.apart_lines.specs.Heads.{journal_head}
use Rattle.apart_lines.specs.Journals.{logged_of}
use Rattle.apart_lines.specs.Said.{head_end_text}
use Rattle.desk_outside.specs.Wire.{WireView, after_steps}
use Rattle.desk_outside.specs.declared.wire.WireStep.{WireStep}
use Rattle.desk_outside.specs.declared.wire.WireStep.TheVariants.{Flushed, Said}
use Rattle.apart_roles.specs.declared.outcome.RoleError.{RoleError}
use Rattle.apart_roles.specs.declared.outcome.Start.{Start}
use Rattle.apart_roles.specs.declared.outcome.Start.TheVariants as starts
use Rattle.apart_roles.specs.Inputs.{Came, follow_came}
use Rattle.apart_roles.specs.HeadEndTurns.{IsHeadEnd, IsSomewhere}
use Rattle.apart_roles.specs.Starts.{Opens}
use Rattle.apart_roles.specs.Steps.{Stops, said_steps}

-- the journal of a head end with the line that came
abbrev pub follow_logged : PlanView → List Logged → Came → Option (List Logged)
follow_logged plan = follow_came logged_of (can_follow plan)

-- a head end opens its journal
abbrev pub HeadEndOpens : PlanView → List ℕ → WireView → WireView → Result (Start HeadEnd) RoleError → Type 0
HeadEndOpens plan name v w result = Opens (follow_logged plan) (IsHeadEnd plan) name (journal_head plan) v w result

-- ---- what is said at the start

-- a line that a killed program may have begun is ended, and then it is said how many ticks have passed
abbrev pub greeting : PlanView → ℕ → List WireStep
greeting plan ticks = Said (10 ∷ []) false ∷ said_steps (head_end_text plan (says.Ready ticks))

-- the journal is on the disk before anything is said
abbrev pub welcome_steps : PlanView → ℕ → List WireStep
welcome_steps plan ticks = Flushed false ∷ greeting plan ticks

pub record IsStarted (plan : PlanView) (name : List ℕ) (v w : WireView) (new : HeadEnd) : Type 0 where
  pub view : WireView
  pub opens : HeadEndOpens plan name v view (Ok (starts.Ready new))
  pub steps : (journal : List Logged) → IsAfter journal new → w ≡ after_steps view (welcome_steps plan (passed journal))

pub record StopsAtStart (plan : PlanView) (name : List ℕ) (error : RoleError) (v w : WireView) : Type 0 where
  pub head : HeadEnd
  pub view : WireView
  pub opens : HeadEndOpens plan name v view (Ok (starts.Ready head))
  pub stops : (journal : List Logged) → IsAfter journal head → Stops error (welcome_steps plan (passed journal)) view w

abbrev pub HeadEndStarts : PlanView → List ℕ → WireView → WireView → Result (Start HeadEnd) RoleError → Type 0
HeadEndStarts plan name v w (Ok (starts.Ready new)) = IsStarted plan name v w new
HeadEndStarts plan name v w (Ok (starts.Line number)) = HeadEndOpens plan name v w (Ok (starts.Line number))
HeadEndStarts plan name v w (Ok starts.Unreadable) = HeadEndOpens plan name v w (Ok starts.Unreadable)
HeadEndStarts plan name v w (Ok (starts.Head number)) = HeadEndOpens plan name v w (Ok (starts.Head number))
HeadEndStarts plan name v w (Err error) = HeadEndOpens plan name v w (Err error) ⊎ StopsAtStart plan name error v w

-- a head end that is ready is in the state that some journal gives
abbrev pub IfHeadEndReady : Result (Start HeadEnd) RoleError → Type 0
IfHeadEndReady (Ok (starts.Ready new)) = IsSomewhere new
IfHeadEndReady (Ok (starts.Line number)) = ⊤
IfHeadEndReady (Ok starts.Unreadable) = ⊤
IfHeadEndReady (Ok (starts.Head number)) = ⊤
IfHeadEndReady (Err error) = ⊤
