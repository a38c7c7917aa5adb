-- A meter that is given a run, tick by tick: its reading of the tick's round, and then the announcements that reach it.
use Rattle.std.specs.Prelude.{◌≡◌, Contains, ℕ, zero, suc, List, [], ◌∷◌, ◌++◌, map, Option, Some, None, Result, Ok, Err}
use Rattle.missing_round.specs.Masks.{Masks}
use Rattle.meter_frames.specs.declared.Frame.{Frame}
use Rattle.event_schedule.specs.declared.Entry.{Entry}
use Rattle.event_schedule.specs.Tables.{Readings}
use Rattle.meter_apart.specs.declared.answers.Noted.{Noted}
use Rattle.meter_apart.specs.declared.part.Part.{Part}
use Rattle.meter_apart.specs.Replies.{reading_frame, to_reading, after_reading, answer_frame, to_frame, after_frame}
use Rattle.apart_runs.specs.Carried.{told_at, own_at}

-- what a meter is given: a reading to send, or a frame to hear
pub data Asked : Type 0 where
  ToRead : (r reading : ℕ) → Asked
  ToHear : (frame : Frame) → Asked

-- the reading of a round, where the meter has one
abbrev pub to_read : ℕ → Option ℕ → List Asked
to_read r None = []
to_read r (Some reading) = ToRead r reading ∷ []

-- what the meter is given in tick t
abbrev pub asked_at : Part → Readings → List Entry → ℕ → List Asked
asked_at part x entries t = to_read t (x part.group t part.meter) ++ map ToHear (told_at part.group part.meter entries t)

-- the frame of an answer that is no refusal
abbrev pub frame_said : {E : Type 0} → Result Frame E → List Frame
frame_said (Ok f) = f ∷ []
frame_said (Err refusal) = []

-- what it says to one of these after a journal, and its journal then
abbrev pub says_to : Part → Masks → List Noted → Asked → List Frame
says_to part m journal (ToRead r reading) = frame_said (to_reading part m journal r reading)
says_to part m journal (ToHear f) = frame_said (to_frame part m journal f)

abbrev pub after_asked : Part → List Noted → Asked → List Noted
after_asked part journal (ToRead r reading) = after_reading part journal r reading
after_asked part journal (ToHear f) = after_frame part journal f

-- to some of these, one after another
unfoldable pub says_all : Part → Masks → List Noted → List Asked → List Frame
says_all part m journal [] = []
says_all part m journal (a ∷ rest) = says_to part m journal a ++ says_all part m (after_asked part journal a) rest

unfoldable pub after_all : Part → List Noted → List Asked → List Noted
after_all part journal [] = journal
after_all part journal (a ∷ rest) = after_all part (after_asked part journal a) rest

-- the journal that the first ticks of a run leave, so many
abbrev pub notes_after : Part → Readings → List Entry → ℕ → List Noted
notes_after part x entries zero = []
notes_after part x entries (suc t) = after_all part (notes_after part x entries t) (asked_at part x entries t)

-- the frames that the meter says in tick t
abbrev pub said_at : Part → Masks → Readings → List Entry → ℕ → List Frame
said_at part m x entries t = says_all part m (notes_after part x entries t) (asked_at part x entries t)

-- the frame that is asked for
abbrev pub frame_for : Part → Masks → Asked → Frame
frame_for part m (ToRead r reading) = reading_frame part m r reading
frame_for part m (ToHear f) = answer_frame part m f.tag.round f.missing

-- it says the frame that it is asked for, each time; and in each tick these are, as a set, its frames that the run sends
pub record IsMeterOf (part : Part) (m : Masks) (x : Readings) (entries : List Entry) : Type 0 where
  pub answers : (t : ℕ) → said_at part m x entries t ≡ map (frame_for part m) (asked_at part x entries t)
  pub sent : (t : ℕ) (f : Frame) → Contains (said_at part m x entries t) f → Contains (own_at part.group part.meter entries t) f
  pub said : (t : ℕ) (f : Frame) → Contains (own_at part.group part.meter entries t) f → Contains (said_at part m x entries t) f
