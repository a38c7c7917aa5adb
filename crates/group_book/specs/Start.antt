-- What a round begins with.
use Rattle.std.specs.Prelude.{ℕ, []}
use Rattle.round_machine.specs.Rounds.{new_round}
use Rattle.group_plan.specs.Plans.{PlanView, members, floor_of}
use Rattle.group_book.specs.Pages.{PageView}

-- a round of which nothing was taken yet
abbrev pub first_page : PlanView → ℕ → ℕ → PageView
first_page plan g r = record { round = new_round (members plan.groups g r) (floor_of plan.groups g); told = [] }
