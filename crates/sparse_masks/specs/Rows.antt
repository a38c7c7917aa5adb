-- Worked rows: one round of a ring of four meters with floor 2, of which the last or each second one has no reading. Width 1.
use Rattle.std.specs.Prelude.{ℕ, zero, suc, List, [], ◌∷◌, ◌++◌, Some, None, codes, reverse}
use Rattle.group_plan.specs.declared.Kind.TheVariants.{Reading, Announcement, Answer}
use Rattle.group_plan.specs.Plans.{Rounds, Group, PlanView}
use Rattle.event_schedule.specs.declared.Event.{Event}
use Rattle.event_schedule.specs.declared.Event.TheVariants.{Close, End}
use Rattle.event_schedule.specs.Rows.{sends, takes, all}
use Rattle.event_schedule.specs.Tables.{Readings}
use Rattle.event_schedule.specs.Transcript.{shape_of_readings}
use Rattle.mask_graphs.specs.Graphs.{Graph}
use Rattle.sparse_masks.specs.Offsets.{ring_graph}

-- a member of round 0
abbrev pub member : Rounds
member = record { from = 0; until = 1 }

abbrev pub four : List Group
four = record { name = codes "north"; floor = 2; spans = member ∷ member ∷ member ∷ member ∷ [] } ∷ []

abbrev pub four_plan : PlanView
four_plan = record { groups = four; rounds = 1; w1 = 1; w2 = 2 }

-- three readings, and none of the last meter
abbrev pub three_of : ℕ → ℕ → ℕ → Readings
three_of a b c g r zero = Some a
three_of a b c g r (suc zero) = Some b
three_of a b c g r (suc (suc zero)) = Some c
three_of a b c g r (suc (suc (suc i))) = None

-- two readings, and none of each second meter
abbrev pub two_of : ℕ → ℕ → Readings
two_of a b g r zero = Some a
two_of a b g r (suc zero) = None
two_of a b g r (suc (suc zero)) = Some b
two_of a b g r (suc (suc (suc i))) = None

-- a round in which each of these meters reads, is told, and answers, as a past
abbrev pub whole : List ℕ → List Event
whole meters = reverse (
    sends 0 Reading meters ++ takes 0 Reading meters ++ Close 0 0 ∷ [] ++ sends 0 Announcement meters ++ takes 0 Announcement meters
    ++ sends 0 Answer meters ++ takes 0 Answer meters ++ End 0 0 ∷ []
    )

abbrev pub first_and_third : List ℕ
first_and_third = 0 ∷ 2 ∷ []

-- the graphs of the two rounds
abbrev pub three_round : Graph
three_round = ring_graph 1 (shape_of_readings four (three_of 10 20 30)) 0 0 (whole all)

abbrev pub two_round : Graph
two_round = ring_graph 1 (shape_of_readings four (two_of 10 30)) 0 0 (whole first_and_third)
