-- The frames that the meters send: all that the head end learns from them.
use Rattle.std.specs.Prelude.{List, [], ◌∷◌, Option, Some, None, All, if◌then◌else◌}
use Rattle.missing_round.specs.Sets.{IsSet}
use Rattle.group_plan.specs.declared.Kind.TheVariants.{Reading, Answer}
use Rattle.group_plan.specs.Plans.{Group}
use Rattle.meter_frames.specs.declared.Frame.{Frame}
use Rattle.event_schedule.specs.Schedule.{Shape}
use Rattle.event_schedule.specs.Tables.{Readings, Masks}
use Rattle.event_schedule.specs.Transcript.{Contents, shape_of_readings, contents_of_tables}
use Rattle.lying_head_end.specs.Acts.{Act, Read, Tell, does_answer}

-- the frame that a meter sends at an act, where it sends one: its reading word, or its answer word to the set
abbrev pub frame_sent : Shape → Contents → List Act → Act → Option Frame
frame_sent s c before (Read g r i) =
    if s.present g r i
    then Some (record { tag = record { group = g; round = r; meter = i; kind = Reading }; missing = []; word = c.reading g r i })
    else None
frame_sent s c before (Tell g r i set) =
    if does_answer s g r i set before
    then Some (record { tag = record { group = g; round = r; meter = i; kind = Answer }; missing = set; word = c.answer g r i set })
    else None

-- what is sent at each of the acts that follow this past
abbrev pub frames_after : Shape → Contents → List Act → List Act → List (Option Frame)
frames_after s c before [] = []
frames_after s c before (act ∷ rest) = frame_sent s c before act ∷ frames_after s c (act ∷ before) rest

-- what the meters send under a reading table x and a mask table m
abbrev pub frames : List Group → Readings → Masks → List Act → List (Option Frame)
frames groups x m acts = frames_after (shape_of_readings groups x) (contents_of_tables groups x m) [] acts

-- each set that is told is a set, as every frame has it
abbrev pub TellsSet : Act → Type 0
TellsSet (Read g r i) = Unit {0}
TellsSet (Tell g r i set) = IsSet set

abbrev pub TellSets : List Act → Type 0
TellSets acts = All TellsSet acts
