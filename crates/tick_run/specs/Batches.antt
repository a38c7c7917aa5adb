-- What a batch leaves of a book and a transcript.
use Rattle.std.specs.Prelude.{◌≡◌, ℕ, true, List, ◌++◌, map, Some}
use Rattle.lossy_link.specs.Arrivals.{Arrival}
use Rattle.meter_frames.specs.declared.Frame.{Frame}
use Rattle.meter_frames.specs.Frames.{spelling, IsFrame}
use Rattle.event_schedule.specs.declared.Event.{Event}
use Rattle.event_schedule.specs.declared.Line.{Line}
use Rattle.event_schedule.specs.Transcripts.{TranscriptView}
use Rattle.group_book.specs.Books.{BookView, knows, posted_of}
use Rattle.tick_run.specs.Running.{quiet, HaveEvents}

-- bytes are the spelling of the frame that is posted under its tag
pub record CanTake (b : BookView) (bytes : List ℕ) : Type 0 where
  pub frame : Frame
  pub is : IsFrame frame
  pub spelled : bytes ≡ spelling frame
  pub known : knows b frame.tag ≡ true
  pub posted : posted_of b frame.tag ≡ Some frame

-- lines with these events were added to the book, and to the transcript at tick t
pub record Batched (t : ℕ) (events : List Event) (book after : BookView) (script done : TranscriptView) (waiting left : List Arrival) : Type 0 where
  pub added : List Line
  pub presence : after.presence ≡ book.presence
  pub journal : after.journal ≡ book.journal ++ added
  pub events_are : HaveEvents events added
  pub script_is : done ≡ record script { entries = script.entries ++ map (quiet t) added }
  pub link : left ≡ waiting
