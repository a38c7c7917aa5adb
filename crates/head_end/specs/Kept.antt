-- What a head end keeps of a plan's rounds, whatever came.
use Rattle.std.specs.Prelude.{◌≡◌, ℕ, ◌+◌, ◌/◌, ◌%◌, ◌<◌, nat_lt, Bool, true, false, ◌||◌, List, length, slice_index_or}
use Rattle.group_plan.specs.Plans.{PlanView, members, floor_of}
use Rattle.group_plan.specs.Places.{places}
use Rattle.round_machine.specs.Rounds.{RoundView, new_round}
use Rattle.group_book.specs.Places.{all_rounds, page_at}

-- a round for each group and round, over its members, and a word for each place
pub record KeepsRounds (plan : PlanView) (rounds : List RoundView) (readings answers : List ℕ) : Type 0 where
  pub rounds_long : length rounds ≡ all_rounds plan
  pub readings_long : length readings ≡ places plan
  pub answers_long : length answers ≡ places plan
  pub members_are : (g r : ℕ) (d : RoundView) → g < length plan.groups → r < plan.rounds →
      (slice_index_or rounds (page_at plan g r) d).members ≡ members plan.groups g r

-- a round before anything was taken in it
abbrev pub first_round : PlanView → ℕ → ℕ → RoundView
first_round plan g r = new_round (members plan.groups g r) (floor_of plan.groups g)

-- the same by the number of the round
abbrev pub first_round_at : PlanView → ℕ → RoundView
first_round_at plan n = first_round plan (n / plan.rounds) (n % plan.rounds)

-- whether round r is closed after so many ticks, and whether it has ended
abbrev pub has_closed : PlanView → ℕ → ℕ → Bool
has_closed plan ticks r = nat_lt (r + plan.w1) ticks

abbrev pub has_ended : PlanView → ℕ → ℕ → Bool
has_ended plan ticks r = nat_lt (r + plan.w1 + plan.w2) ticks

-- a round once it is closed, where it is to be
abbrev pub closed_where : Bool → RoundView → RoundView
closed_where true s = record s { closed = true }
closed_where false s = s

-- a round once it has ended, where it is to and is closed
abbrev pub ended_where : Bool → RoundView → RoundView
ended_where true s = record s { ended = s.closed || s.ended }
ended_where false s = s
