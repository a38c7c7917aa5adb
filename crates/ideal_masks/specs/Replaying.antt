-- A book after the events of a transcript, whose frames have no words.
use Rattle.std.specs.Prelude.{◌≡◌, ◌≤◌, ◌+◌, IsTrue, List, [], ◌∷◌, map, Some, reverse}
use Rattle.group_plan.specs.declared.Tag.{Tag}
use Rattle.group_plan.specs.Tables.{ReadingsView, presence_of}
use Rattle.meter_frames.specs.declared.Frame.{Frame}
use Rattle.event_schedule.specs.declared.Event.{Event}
use Rattle.event_schedule.specs.declared.Event.TheVariants.{Send, Take, Close, End}
use Rattle.event_schedule.specs.Events.{event_of}
use Rattle.event_schedule.specs.Transcript.{Contents, frame}
use Rattle.event_schedule.specs.Journal.{HasFramesOf}
use Rattle.group_book.specs.Books.{BookView, shape_of, past, knows, has_round, posted_in}

-- each word is 0
abbrev pub no_contents : Contents
no_contents = record { reading = λ g r i. 0; answer = λ g r i set. 0; total = λ g r set. 0 }

-- the event is of the book's plan
abbrev pub IsOfBook : BookView → Event → Type 0
IsOfBook b (Send tag) = IsTrue (knows b tag)
IsOfBook b (Take tag) = IsTrue (knows b tag)
IsOfBook b (Close g r) = IsTrue (has_round b g r)
IsOfBook b (End g r) = IsTrue (has_round b g r)

-- each Send of the book's lines has the frame of its tag, with the word 0
abbrev pub HasBlankFrames : BookView → Type 0
HasBlankFrames b = HasFramesOf (shape_of b) no_contents [] b.journal

-- so it is, and each frame that is posted is that of its tag now
pub record IsBlank (b : BookView) : Type 0 where
  pub sent : HasBlankFrames b
  pub posted : (tag : Tag) (f : Frame) → posted_in tag b.journal ≡ Some f → frame (shape_of b) no_contents tag (past b) ≡ Some f

-- the event came after all others, and the presence stays
pub record MakesEvent (b : BookView) (e : Event) (c : BookView) : Type 0 where
  pub presence : c.presence ≡ b.presence
  pub past : past c ≡ e ∷ past b
  pub spare : b.spare ≤ c.spare + 1
  pub blank : IsBlank c

-- the book of these readings' presence after these events
pub record HasEvents (x : ReadingsView) (events : List Event) (b : BookView) : Type 0 where
  pub presence : b.presence ≡ presence_of x
  pub past : past b ≡ reverse events

-- the events of a book, the oldest first
abbrev pub events_in : BookView → List Event
events_in b = map event_of b.journal
