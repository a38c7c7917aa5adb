-- The head end that a journal gives.
use Rattle.std.specs.Prelude.{◌≡◌, List, [], Some, Result, Ok, Err}
use Rattle.group_plan.specs.Plans.{PlanView}
use Rattle.head_end.specs.declared.answers.Logged.{Logged}
use Rattle.head_end.specs.declared.head.HeadEnd.{HeadEnd}
use Rattle.head_end.specs.declared.replaying.ReplayError.{ReplayError}
use Rattle.head_end.specs.declared.replaying.ReplayError.TheVariants.{Line, Memory}
use Rattle.head_end.specs.Replies.{first_wrong, IsJournal}
use Rattle.head_end.specs.Head.{IsAfter}

-- a head end of this plan, in the state that the lines give it
pub record IsReplayed (plan : PlanView) (lines : List Logged) (h : HeadEnd) : Type 0 where
  pub plan_is : h.plan ≡ plan
  pub journal : IsJournal plan lines
  pub after : IsAfter lines h

-- the lines are a journal and give this head end, or one can't follow those before it; want of memory is free
abbrev pub Replays : PlanView → List Logged → Result HeadEnd ReplayError → Type 0
Replays plan lines (Ok h) = IsReplayed plan lines h
Replays plan lines (Err (Line at)) = first_wrong plan [] lines ≡ Some at
Replays plan lines (Err Memory) = Unit {0}
