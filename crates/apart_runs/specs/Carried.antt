-- What is carried in a run, tick by tick: the frames of its Takes, and those of its Sends.
use Rattle.std.specs.Prelude.{ℕ, ◌==◌, Bool, true, false, not, ◌&&◌, if◌then◌else◌, List, [], ◌∷◌, Option, Some, None}
use Rattle.std.specs.List.{flat_map}
use Rattle.group_plan.specs.declared.Kind.{Kind}
use Rattle.group_plan.specs.declared.Kind.TheVariants.{Announcement}
use Rattle.group_plan.specs.declared.Tag.{Tag}
use Rattle.meter_frames.specs.declared.Frame.{Frame}
use Rattle.event_schedule.specs.declared.Event.{Event}
use Rattle.event_schedule.specs.declared.Event.TheVariants.{Take}
use Rattle.event_schedule.specs.declared.Line.{Line}
use Rattle.event_schedule.specs.declared.Line.TheVariants.{Send as SendLine}
use Rattle.event_schedule.specs.declared.Entry.{Entry}
use Rattle.event_schedule.specs.Events.{event_of, lines_of}
use Rattle.group_book.specs.Books.{posted_in}

-- an announcement goes from the head end to a meter; all other frames go to the head end
abbrev pub is_from_head : Kind → Bool
is_from_head Announcement = true
is_from_head kind = false

-- the frame that was sent under a tag, where there is one
abbrev pub frames_in : Option Frame → List Frame
frames_in None = []
frames_in (Some f) = f ∷ []

abbrev pub frames_sent : List Line → Tag → List Frame
frames_sent lines tag = frames_in (posted_in tag lines)

-- ---- at the head end

-- the frame that an event brings to the head end: that of a Take of a reading or of an answer
abbrev pub brought_by : List Line → Event → List Frame
brought_by lines (Take tag) = if is_from_head tag.kind then [] else frames_sent lines tag
brought_by lines _ = []

-- the frames that reach the head end in tick t, in their order
abbrev pub brought_at : List Entry → ℕ → List Frame
brought_at entries t = flat_map (λ e. if e.tick == t then brought_by (lines_of entries) (event_of e.line) else []) entries

-- the announcement that a line sends
abbrev pub announced_by : Line → List Frame
announced_by (SendLine tag (Some f)) = if is_from_head tag.kind then f ∷ [] else []
announced_by _ = []

-- the announcements that are sent in tick t, in their order
abbrev pub announced_at : List Entry → ℕ → List Frame
announced_at entries t = flat_map (λ e. if e.tick == t then announced_by e.line else []) entries

-- ---- at a meter

-- whether a tag names meter i of group g
abbrev pub is_of_meter : ℕ → ℕ → Tag → Bool
is_of_meter g i tag = (tag.group == g) && (tag.meter == i)

-- the frame that an event brings to the meter: that of a Take of an announcement to it
abbrev pub told_by : ℕ → ℕ → List Line → Event → List Frame
told_by g i lines (Take tag) = if is_from_head tag.kind && is_of_meter g i tag then frames_sent lines tag else []
told_by g i lines _ = []

-- the announcements that reach the meter in tick t, in their order
abbrev pub told_at : ℕ → ℕ → List Entry → ℕ → List Frame
told_at g i entries t = flat_map (λ e. if e.tick == t then told_by g i (lines_of entries) (event_of e.line) else []) entries

-- the meter's own frame that a line sends
abbrev pub own_by : ℕ → ℕ → Line → List Frame
own_by g i (SendLine tag (Some f)) = if not (is_from_head tag.kind) && is_of_meter g i tag then f ∷ [] else []
own_by g i _ = []

-- the meter's frames that are sent in tick t
abbrev pub own_at : ℕ → ℕ → List Entry → ℕ → List Frame
own_at g i entries t = flat_map (λ e. if e.tick == t then own_by g i e.line else []) entries
