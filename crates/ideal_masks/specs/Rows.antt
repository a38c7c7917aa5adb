-- Worked rows: the moved words of the two masks files of the plain case, and what pools of its meters learn.
use Rattle.std.specs.Prelude.{ℕ, List, [], ◌∷◌, ◌++◌}
use Rattle.group_plan.specs.Plans.{PlanView}
use Rattle.pair_keys.specs.declared.KeyId.TheVariants.{Own, Pair}
use Rattle.event_schedule.specs.Tables.{Readings, Masks}
use Rattle.group_plan.specs.declared.Kind.TheVariants.{Reading, Announcement, Answer}
use Rattle.event_schedule.specs.declared.Event.{Event}
use Rattle.event_schedule.specs.declared.Event.TheVariants.{Close, End}
use Rattle.event_schedule.specs.Rows.{three, readings_of, sends, takes, all, first_two}
use Rattle.ideal_masks.specs.declared.Offset.{Offset}
use Rattle.ideal_masks.specs.Pools.{Pool, pool_of}

-- the plan of the plain case: one round, closed after 1 tick and ended 2 ticks later
abbrev pub plain_plan : PlanView
plain_plan = record { groups = three; rounds = 1; w1 = 1; w2 = 2 }

-- late_reading_left_out: the second table
abbrev pub second : Readings
second = readings_of 15 15 0

-- lost_announcement_gives_none and lost_answer_gives_none: the second table
abbrev pub third : Readings
third = readings_of 1 2 3

-- the words of round 0: own words by meter, then the pair words of 0 and 1, 0 and 2, 1 and 2
abbrev pub words_of : Masks → List ℕ
words_of m = m.own 0 0 0 ∷ m.own 0 0 1 ∷ m.own 0 0 2 ∷ m.pair 0 0 0 1 ∷ m.pair 0 0 0 2 ∷ m.pair 0 0 1 2 ∷ []

-- where every key is zero, each word of round 0 is this one
abbrev pub zero_key_word : ℕ
zero_key_word = 0x903df1a0ade0b876

abbrev pub zero_key_masks : Masks
zero_key_masks = record { own = λ g r i. zero_key_word; pair = λ g r i j. zero_key_word }

-- an offset of round 0
abbrev pub own_by : ℕ → ℕ → Offset
own_by i by = record { id = Own 0 i; round = 0; by = by }

abbrev pub pair_by : ℕ → ℕ → ℕ → Offset
pair_by i j by = record { id = Pair 0 i j; round = 0; by = by }

-- ---- pools

-- the announcement to meter 2 is lost, so it sends no answer, and the round has no total
abbrev pub meter_2_deaf : List Event
meter_2_deaf =
    sends 0 Reading all ++ takes 0 Reading all ++ Close 0 0 ∷ [] ++ sends 0 Announcement all ++ takes 0 Announcement first_two
    ++ sends 0 Answer all ++ takes 0 Answer first_two ++ End 0 0 ∷ []

-- meter 2 alone, and the two others
abbrev pub meter_2 : Pool
meter_2 = pool_of ((2 ∷ []) ∷ [])

abbrev pub meters_0_and_1 : Pool
meters_0_and_1 = pool_of (first_two ∷ [])

-- the two others exchanged 5 watt-hours; and meter 2 alone has another reading
abbrev pub exchanged : Readings
exchanged = readings_of 15 15 30

abbrev pub last_alone : Readings
last_alone = readings_of 10 20 5
