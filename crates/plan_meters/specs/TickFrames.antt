-- The frames that the meters send at a tick, and what came to them.
use Rattle.std.specs.Prelude.{◌≡◌, ℕ, ◌+◌, ◌<◌, ◌≤◌, ◌==◌, Bool, true, false, ◌&&◌, List, [], ◌∷◌, map, filter, length, slice_index, slice_index_or, Option, None, if◌then◌else◌}
use Rattle.std.specs.List.{list_any}
use Rattle.missing_round.specs.Masks.{Masks}
use Rattle.missing_round.specs.Sets.{is_member as is_in}
use Rattle.missing_round.specs.Words.{reading_word, answer_word}
use Rattle.blind_core.specs.Blind.{are_places}
use Rattle.group_plan.specs.Plans.{PlanView, Group, members, size, is_place}
use Rattle.group_plan.specs.Tables.{ReadingsView, reading, presence_of}
use Rattle.group_plan.specs.declared.Kind.TheVariants.{Reading, Announcement, Answer}
use Rattle.group_plan.specs.declared.Tag.{Tag}
use Rattle.meter_frames.specs.declared.Frame.{Frame}
use Rattle.event_schedule.specs.declared.Event.{Event}
use Rattle.event_schedule.specs.Events.{same_kind}
use Rattle.event_schedule.specs.Tables.{Readings, reading_at}
use Rattle.event_schedule.specs.Schedule.{Shape, is_announcement_taken, shape_of_presence}
use Rattle.run_rows.specs.Ticks.{Clock, tag_of}
use Rattle.plan_meters.specs.Came.{same_tag, tags_of}

-- the shape of these readings
abbrev pub run_shape : ReadingsView → Shape
run_shape readings = shape_of_presence (presence_of readings)

-- a copy of the tag is among these
abbrev pub was_taken : List Tag → Tag → Bool
was_taken taken z = list_any (same_tag z) taken

abbrev pub reading_frame : List Group → Readings → Masks → ℕ → ℕ → ℕ → Frame
reading_frame groups x m g r i = record {
  tag = tag_of Reading g r i;
  missing = [];
  word = reading_word (m.own g r) (m.pair g r) (members groups g r) i (reading_at x g r i);
}

abbrev pub answer_frame : Masks → ℕ → ℕ → List ℕ → ℕ → Frame
answer_frame m g r set i = record { tag = tag_of Answer g r i; missing = set; word = answer_word (m.own g r) (m.pair g r) i set }

-- the readings of group g in round r, meter by meter
pub record IsRow (readings : ReadingsView) (g r : ℕ) (row : List (Option ℕ)) : Type 0 where
  pub long : length row ≡ size readings.plan.groups g
  pub each : (i : ℕ) → i < length row → slice_index_or row i None ≡ reading readings.table g r i

-- the frame of a reading whose word is the meter's among these
abbrev pub word_frame : ℕ → ℕ → List ℕ → ℕ → Frame
word_frame g r words i = record { tag = tag_of Reading g r i; missing = []; word = slice_index words i }

-- ---- what came to the meters

-- the set of the first of these frames that is under the tag
abbrev pub announced_set : List Frame → Tag → List ℕ
announced_set [] z = []
announced_set (f ∷ came) z = if same_tag z f.tag then f.missing else announced_set came z

-- a meter's answer to the announcement that came to it, for its set
abbrev pub answer_to : Masks → List Frame → ℕ → ℕ → ℕ → Frame
answer_to m came g r i = answer_frame m g r (announced_set came (tag_of Announcement g r i)) i

-- the answers of a round to the announcements that came
abbrev pub answers_to : List Group → Masks → List Frame → ℕ → ℕ → List Frame
answers_to groups m came g r = map (answer_to m came g r) (filter (λ i. was_taken (tags_of came) (tag_of Announcement g r i)) (members groups g r))

-- a meter of the plan can answer the set: its meters have places, and the meter is none of them
pub record CanAnswer (plan : PlanView) (g r i : ℕ) (set : List ℕ) : Type 0 where
  pub place : is_place plan g r i ≡ true
  pub places : are_places plan g r set ≡ true
  pub other : is_in i set ≡ false

-- each announcement that came can be answered, and is of a round that closed not more than the longest delay ago
pub record AreAnswerable (plan : PlanView) (t : ℕ) (came : List Frame) : Type 0 where
  pub can : (g r i : ℕ) → was_taken (tags_of came) (tag_of Announcement g r i) ≡ true → CanAnswer plan g r i (announced_set came (tag_of Announcement g r i))
  pub round : (g r i : ℕ) → was_taken (tags_of came) (tag_of Announcement g r i) ≡ true → r < plan.rounds
  pub early : (g r i : ℕ) → was_taken (tags_of came) (tag_of Announcement g r i) ≡ true → r + plan.w1 < t
  pub late : (g r i : ℕ) → was_taken (tags_of came) (tag_of Announcement g r i) ≡ true → t ≤ r + plan.w1 + 16

-- an announcement of this round
abbrev pub is_announcement_in : ℕ → ℕ → Tag → Bool
is_announcement_in g r tag = (tag.group == g) && (tag.round == r) && same_kind tag.kind Announcement

-- the set has the meters of a round whose announcement was taken
abbrev pub IsHeardIn : List Tag → ℕ → ℕ → List ℕ → Type 0
IsHeardIn taken g r heard = (i : ℕ) → is_in i heard ≡ was_taken taken (tag_of Announcement g r i)

-- the announcements that were taken had effect, and are of rounds closed not more than the longest delay ago
pub record AreHeard (s : Shape) (c : Clock) (past : List Event) (t : ℕ) (taken : List Tag) : Type 0 where
  pub effect : (g r i : ℕ) → was_taken taken (tag_of Announcement g r i) ≡ true → is_announcement_taken s g r i past ≡ true
  pub round : (g r i : ℕ) → was_taken taken (tag_of Announcement g r i) ≡ true → r < c.rounds
  pub early : (g r i : ℕ) → was_taken taken (tag_of Announcement g r i) ≡ true → r + c.w1 < t
  pub late : (g r i : ℕ) → was_taken taken (tag_of Announcement g r i) ≡ true → t ≤ r + c.w1 + 16
