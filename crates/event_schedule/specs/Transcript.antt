-- The transcript of a schedule: one line for each event, by the events before it.
use Rattle.std.specs.Prelude.{ℕ, not, List, [], ◌∷◌, Option, Some, None, is_some, if◌then◌else◌}
use Rattle.missing_round.specs.Words.{reading_word, answer_word}
use Rattle.group_plan.specs.declared.Kind.{Kind}
use Rattle.group_plan.specs.declared.Kind.TheVariants.{Reading, Announcement, Answer}
use Rattle.group_plan.specs.declared.Tag.{Tag}
use Rattle.group_plan.specs.Plans.{Group, members}
use Rattle.meter_frames.specs.declared.Frame.{Frame}
use Rattle.round_machine.specs.declared.Ending.{Ending}
use Rattle.round_machine.specs.declared.Ending.TheVariants.{Total, Lacking, Thin, Already, NotClosed}
use Rattle.event_schedule.specs.declared.Event.{Event}
use Rattle.event_schedule.specs.declared.Event.TheVariants.{Send, Take, Close, End}
use Rattle.event_schedule.specs.declared.Line.{Line}
use Rattle.event_schedule.specs.declared.Line.TheVariants.{Send as SendLine, Take as TakeLine, Close as CloseLine, End as EndLine}
use Rattle.event_schedule.specs.Tables.{Readings, Masks, reading_at, plain_sum}
use Rattle.event_schedule.specs.Schedule.{Shape, may_send, verdict, closing, is_closed, is_ended, is_announced, all_taken, lacking, survivors, missing}

-- all that lines say besides the shape: the word of each reading, the word of each answer to a missing set, the total of a set of meters
pub record Contents : Type 0 where
  pub reading : ℕ → ℕ → ℕ → ℕ
  pub answer : ℕ → ℕ → ℕ → List ℕ → ℕ
  pub total : ℕ → ℕ → List ℕ → ℕ

-- the missing set that a frame carries: none in a reading
abbrev pub set_sent : Shape → Kind → ℕ → ℕ → List Event → List ℕ
set_sent s Reading g r past = []
set_sent s _ g r past = missing s g r past

-- the word that a frame carries: 0 in an announcement
abbrev pub word_sent : Shape → Contents → Kind → ℕ → ℕ → ℕ → List Event → ℕ
word_sent s c Reading g r i past = c.reading g r i
word_sent s c Announcement g r i past = 0
word_sent s c Answer g r i past = c.answer g r i (missing s g r past)

-- the frame of a Send, where it is effective
abbrev pub frame : Shape → Contents → Tag → List Event → Option Frame
frame s c tag past =
    if may_send s tag.kind tag.group tag.round tag.meter past
    then Some (record {
      tag = tag;
      missing = set_sent s tag.kind tag.group tag.round past;
      word = word_sent s c tag.kind tag.group tag.round tag.meter past;
    })
    else None

-- what an End says now
abbrev pub ending : Shape → Contents → ℕ → ℕ → List Event → Ending
ending s c g r past =
    if not (is_closed g r past) then NotClosed else
    if is_ended g r past then Already else
    if not (is_announced s g r past) then Thin else
    if all_taken s g r past then Total (c.total g r (survivors s g r past)) else Lacking (lacking s g r past)

-- the line of an event that comes after this past
abbrev pub line : Shape → Contents → List Event → Event → Line
line s c past (Send tag) = SendLine tag (frame s c tag past)
line s c past (Take tag) = TakeLine tag (verdict s tag.kind tag.group tag.round tag.meter past)
line s c past (Close g r) = CloseLine g r (closing s g r past)
line s c past (End g r) = EndLine g r (ending s c g r past)

-- the lines of a schedule that follows this past
unfoldable pub lines_after : Shape → Contents → List Event → List Event → List Line
lines_after s c past [] = []
lines_after s c past (e ∷ rest) = line s c past e ∷ lines_after s c (e ∷ past) rest

-- ---- under a reading table x and a mask table m

abbrev pub shape_of_readings : List Group → Readings → Shape
shape_of_readings groups x = record { groups = groups; present = λ g r i. is_some (x g r i) }

abbrev pub contents_of_tables : List Group → Readings → Masks → Contents
contents_of_tables groups x m = record {
  reading = λ g r i. reading_word (m.own g r) (m.pair g r) (members groups g r) i (reading_at x g r i);
  answer = λ g r i set. answer_word (m.own g r) (m.pair g r) i set;
  total = λ g r set. plain_sum x g r set;
}

-- the transcript of a schedule
abbrev pub transcript : List Group → Readings → Masks → List Event → List Line
transcript groups x m events = lines_after (shape_of_readings groups x) (contents_of_tables groups x m) [] events
