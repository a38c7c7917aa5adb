-- A worked row: two of three meters in round 0, of whom one loses a reading that isn't on its disk, and a head end that loses a line.
use Rattle.std.specs.Prelude.{ℕ, List, [], ◌∷◌}
use Rattle.group_plan.specs.declared.Kind.TheVariants.{Reading}
use Rattle.group_plan.specs.declared.Tag.{Tag}
use Rattle.group_plan.specs.Plans.{PlanView}
use Rattle.meter_frames.specs.declared.Frame.{Frame}
use Rattle.event_schedule.specs.declared.Event.{Event}
use Rattle.event_schedule.specs.declared.Event.TheVariants.{Send, Take, Close}
use Rattle.event_schedule.specs.Rows.{three}
use Rattle.head_end.specs.declared.answers.Logged.{Logged}
use Rattle.head_end.specs.declared.answers.Logged.TheVariants.{Took, Passed}
use Rattle.meter_apart.specs.declared.answers.Noted.{Noted}
use Rattle.meter_apart.specs.declared.answers.Noted.TheVariants.{Read}
use Rattle.apart_courses.specs.Courses.{Headed, Noticed, Said}
use Rattle.apart_courses.specs.Losses.{Step, Happens, HeadFlushes, MeterFlushes, HeadLoses, MeterLoses}

-- three meters in two rounds, each of which closes one tick after it began and ends two ticks later
abbrev pub north : PlanView
north = record { groups = three; rounds = 2; w1 = 1; w2 = 2 }

-- the reading of a meter in round 0, with this word
abbrev pub tag_of_meter : ℕ → Tag
tag_of_meter i = record { group = 0; round = 0; meter = i; kind = Reading }

abbrev pub hidden : ℕ → ℕ → Frame
hidden i word = record { tag = tag_of_meter i; missing = []; word = word }

-- the steps, the newest first
abbrev pub steps : List Step
steps =
    HeadFlushes 4 ∷ Happens (Headed Passed)
    -- the head end has lost the reading of meter 1, and takes it again
    ∷ Happens (Headed (Took (hidden 1 21))) ∷ HeadLoses 2 ∷ Happens (Headed (Took (hidden 1 21)))
    ∷ Happens (Said (hidden 1 21)) ∷ MeterFlushes 0 1 1 ∷ Happens (Noticed 0 1 (Read 0 21))
    -- meter 1 has lost a reading that it had not said
    ∷ MeterLoses 0 1 0 ∷ Happens (Noticed 0 1 (Read 0 20))
    ∷ HeadFlushes 2 ∷ Happens (Headed (Took (hidden 0 10))) ∷ Happens (Said (hidden 0 10)) ∷ MeterFlushes 0 0 1 ∷ Happens (Noticed 0 0 (Read 0 10))
    ∷ Happens (Headed Passed) ∷ []

-- what is left of the journals
abbrev pub head_lines : List Logged
head_lines = Passed ∷ Took (hidden 0 10) ∷ Took (hidden 1 21) ∷ Passed ∷ []

abbrev pub meter_lines : List Noted
meter_lines = Read 0 21 ∷ []

-- the schedule, the newest first: the round closes in the second tick
abbrev pub schedule : List Event
schedule = Close 0 0 ∷ Take (tag_of_meter 1) ∷ Send (tag_of_meter 1) ∷ Take (tag_of_meter 0) ∷ Send (tag_of_meter 0) ∷ []
