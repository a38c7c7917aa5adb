-- Events, the lines they write, and tests on them.
use Rattle.std.specs.Prelude.{ℕ, ◌==◌, Bool, true, false, ◌&&◌, ◌||◌, List, [], ◌∷◌, map, Option, None}
use Rattle.group_plan.specs.declared.Kind.{Kind}
use Rattle.group_plan.specs.declared.Kind.TheVariants.{Reading, Announcement, Answer}
use Rattle.group_plan.specs.declared.Tag.{Tag}
use Rattle.meter_frames.specs.declared.Frame.{Frame}
use Rattle.event_schedule.specs.declared.Event.{Event}
use Rattle.event_schedule.specs.declared.Event.TheVariants.{Send, Take, Close, End}
use Rattle.event_schedule.specs.declared.Line.{Line}
use Rattle.event_schedule.specs.declared.Line.TheVariants.{Send as SendLine, Take as TakeLine, Close as CloseLine, End as EndLine}
use Rattle.event_schedule.specs.declared.Entry.{Entry}

-- the event that wrote a line
abbrev pub event_of : Line → Event
event_of (SendLine tag frame) = Send tag
event_of (TakeLine tag verdict) = Take tag
event_of (CloseLine g r closing) = Close g r
event_of (EndLine g r ending) = End g r

-- the frame of a line, where it has one
abbrev pub frame_of : Line → Option Frame
frame_of (SendLine tag frame) = frame
frame_of _ = None

-- the lines of a list of entries, and its schedule: their events in order
abbrev pub lines_of : List Entry → List Line
lines_of entries = map (λ e. e.line) entries

abbrev pub events_of : List Entry → List Event
events_of entries = map (λ e. event_of e.line) entries

-- ---- which event it is: g is a group, r a round and i a meter

abbrev pub same_kind : Kind → Kind → Bool
same_kind Reading Reading = true
same_kind Announcement Announcement = true
same_kind Answer Answer = true
same_kind _ _ = false

-- the tag is that of this place and kind
abbrev pub is_tag : ℕ → ℕ → ℕ → Kind → Tag → Bool
is_tag g r i kind tag = (tag.group == g) && (tag.round == r) && (tag.meter == i) && same_kind tag.kind kind

abbrev pub is_send : ℕ → ℕ → ℕ → Kind → Event → Bool
is_send g r i kind (Send tag) = is_tag g r i kind tag
is_send g r i kind _ = false

abbrev pub is_take : ℕ → ℕ → ℕ → Kind → Event → Bool
is_take g r i kind (Take tag) = is_tag g r i kind tag
is_take g r i kind _ = false

abbrev pub is_close : ℕ → ℕ → Event → Bool
is_close g r (Close group round) = (group == g) && (round == r)
is_close g r _ = false

abbrev pub is_end : ℕ → ℕ → Event → Bool
is_end g r (End group round) = (group == g) && (round == r)
is_end g r _ = false

-- ---- the past: the events before a moment, as a list with the newest first

-- some event of the past passes the test, which is given the event and the events before it
unfoldable pub once : (Event → List Event → Bool) → List Event → Bool
once test [] = false
once test (e ∷ before) = test e before || once test before
