-- The journal of a book: its lines so far, each the core's for its event after the lines before it.
use Rattle.std.specs.Prelude.{◌≡◌, List, [], ◌∷◌, ◌++◌, map, reverse, Option, None, if◌then◌else◌}
use Rattle.meter_frames.specs.declared.Frame.{Frame}
use Rattle.event_schedule.specs.declared.Event.{Event}
use Rattle.event_schedule.specs.declared.Event.TheVariants.{Send}
use Rattle.event_schedule.specs.declared.Line.{Line}
use Rattle.event_schedule.specs.declared.Line.TheVariants.{Send as SendLine}
use Rattle.event_schedule.specs.Events.{event_of, frame_of}
use Rattle.event_schedule.specs.Schedule.{Shape, may_send}
use Rattle.event_schedule.specs.Transcript.{Contents, frame, line}
use Rattle.event_schedule.specs.Frames.{contents_of_lines}

-- the past of a journal: its events, the newest first
abbrev pub past_of : List Line → List Event
past_of journal = reverse (map event_of journal)

-- the core's line of an event after a journal: an effective Send posts the frame that it is given, and an End publishes the frame total
abbrev pub core_line : Shape → List Line → Event → Option Frame → Line
core_line s journal (Send tag) given =
    SendLine tag (if may_send s tag.kind tag.group tag.round tag.meter (past_of journal) then given else None)
core_line s journal e given = line s (contents_of_lines journal) (past_of journal) e

-- these lines are the core's, one after another, after this journal
abbrev pub IsJournalAfter : Shape → List Line → List Line → Type 0
IsJournalAfter s journal [] = Unit {0}
IsJournalAfter s journal (l ∷ rest) =
    (l ≡ core_line s journal (event_of l) (frame_of l)) × IsJournalAfter s (journal ++ l ∷ []) rest

-- each Send of these lines has the frame of these contents
abbrev pub HasFramesOf : Shape → Contents → List Line → List Line → Type 0
HasFramesOf s c journal [] = Unit {0}
HasFramesOf s c journal (SendLine tag f ∷ rest) =
    (f ≡ frame s c tag (past_of journal)) × HasFramesOf s c (journal ++ SendLine tag f ∷ []) rest
HasFramesOf s c journal (l ∷ rest) = HasFramesOf s c (journal ++ l ∷ []) rest
