-- Worked rows: one round of eight meters with floor 4, and one of three meters with floor 2. Each list of acts is a past, the newest first.
use Rattle.std.specs.Prelude.{ℕ, List, [], ◌∷◌, ◌++◌, map, Some, codes}
use Rattle.group_plan.specs.Plans.{Rounds, Group}
use Rattle.event_schedule.specs.Schedule.{Shape}
use Rattle.event_schedule.specs.Tables.{Readings}
use Rattle.event_schedule.specs.Transcript.{shape_of_readings}
use Rattle.ideal_masks.specs.Pools.{nobody}
use Rattle.mask_graphs.specs.Graphs.{Graph}
use Rattle.lying_head_end.specs.Acts.{Act, Read, Tell}
use Rattle.lying_head_end.specs.Graphs.{graph_for}

-- a member of round 0
abbrev pub member : Rounds
member = record { from = 0; until = 1 }

abbrev pub eight : List Group
eight =
    record {
      name = codes "north";
      floor = 4;
      spans = member ∷ member ∷ member ∷ member ∷ member ∷ member ∷ member ∷ member ∷ [];
    } ∷ []

abbrev pub three : List Group
three = record { name = codes "north"; floor = 2; spans = member ∷ member ∷ member ∷ [] } ∷ []

-- each meter has a reading
abbrev pub readings : Readings
readings g r i = Some i

abbrev pub eight_shape : Shape
eight_shape = shape_of_readings eight readings

-- ---- meters, and what they do in round 0

abbrev pub first_four : List ℕ
first_four = 0 ∷ 1 ∷ 2 ∷ 3 ∷ []

abbrev pub last_four : List ℕ
last_four = 4 ∷ 5 ∷ 6 ∷ 7 ∷ []

abbrev pub first_three : List ℕ
first_three = 0 ∷ 1 ∷ 2 ∷ []

abbrev pub last_five : List ℕ
last_five = 3 ∷ 4 ∷ 5 ∷ 6 ∷ 7 ∷ []

abbrev pub reads : List ℕ → List Act
reads meters = map (Read 0 0) meters

abbrev pub tells : List ℕ → List ℕ → List Act
tells meters set = map (λ i. Tell 0 0 i set) meters

-- ---- the rows

-- each four are told that the four others are missing
abbrev pub split : List Act
split = tells last_four first_four ++ tells first_four last_four ++ reads first_four ++ reads last_four

-- three are told so of five, and the five of the three
abbrev pub uneven : List Act
uneven = tells last_five first_three ++ tells first_three last_five ++ reads first_four ++ reads last_four

-- meter 0 is told that meter 7 is missing, and the seven others that none is
abbrev pub one_other : List Act
one_other = tells (1 ∷ 2 ∷ 3 ∷ last_four) [] ++ tells (0 ∷ []) (7 ∷ []) ++ reads first_four ++ reads last_four

-- the first four are told that the last four are missing, and these that none is
abbrev pub one_way : List Act
one_way = tells last_four [] ++ tells first_four last_four ++ reads first_four ++ reads last_four

-- all are told that none is missing
abbrev pub honest : List Act
honest = tells last_four [] ++ tells first_four [] ++ reads first_four ++ reads last_four

-- meter 1 is told that meter 0 is missing, and the two others that none is
abbrev pub three_others : List Act
three_others = tells (0 ∷ 2 ∷ []) [] ++ tells (1 ∷ []) (0 ∷ []) ++ reads first_three

-- the graph of round 0, where no meter shares what it knows
abbrev pub eight_round : List Act → Graph
eight_round past = graph_for nobody eight_shape past 0 0

abbrev pub three_round : List Act → Graph
three_round past = graph_for nobody (shape_of_readings three readings) past 0 0
