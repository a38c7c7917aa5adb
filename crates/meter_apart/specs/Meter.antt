-- The state that a journal gives a meter.
use Rattle.std.specs.Prelude.{◌≡◌, ℕ, ◌<◌, List, [], ◌∷◌, ◌++◌, slice_index_or, slice_set, Option, Some, None, Result, Bool, if◌then◌else◌}
use Rattle.missing_round.specs.Masks.{Masks}
use Rattle.meter_core.specs.declared.Heard.{Heard}
use Rattle.meter_core.specs.Meters.{MeterView, kept_set, Hears}
use Rattle.meter_frames.specs.declared.Frame.{Frame}
use Rattle.meter_apart.specs.declared.answers.Noted.{Noted}
use Rattle.meter_apart.specs.declared.answers.ReadingRefusal.{ReadingRefusal}
use Rattle.meter_apart.specs.declared.answers.FrameRefusal.{FrameRefusal}
use Rattle.meter_apart.specs.declared.part.Part.{Part}
use Rattle.meter_apart.specs.declared.keys.MeterKeys.{MeterKeys}
use Rattle.meter_apart.specs.declared.meter.MeterApart.{MeterApart}
use Rattle.meter_apart.specs.Keys.{words_of}
use Rattle.meter_apart.specs.Journal.{marked, kept}
use Rattle.meter_apart.specs.Replies.{to_reading, after_reading, to_frame, after_frame, can_follow}

-- the keys of a meter, what it has of its plan, and its mask words
abbrev pub meter_keys : MeterApart → MeterKeys
meter_keys m = m.keys

abbrev pub meter_part : MeterApart → Part
meter_part m = m.keys.part

abbrev pub meter_masks : MeterApart → Masks
meter_masks m = words_of m.keys

-- what is kept is what the journal says
pub record IsState (rounds : ℕ) (readings : List (Option ℕ)) (core : MeterView) (journal : List Noted) : Type 0 where
  pub readings_are : (r : ℕ) → r < rounds → slice_index_or readings r None ≡ marked journal r
  pub sets_are : (r : ℕ) → r < rounds → kept_set core r ≡ kept journal r

-- the meter is in the state that the journal gives
abbrev pub IsAfter : List Noted → MeterApart → Type 0
IsAfter journal m = IsState (meter_part m).home.rounds m.readings.items m.core journal

-- what is said to a reading, and the state that it leaves: that of the journal with what was appended
pub record SaysReading (old : MeterApart) (journal : List Noted) (r reading : ℕ) (said : Result Frame ReadingRefusal) (new : MeterApart) : Type 0 where
  pub said_is : said ≡ to_reading (meter_part old) (meter_masks old) journal r reading
  pub after : IsAfter (after_reading (meter_part old) journal r reading) new

-- what is said to a frame, and the state that it leaves
pub record SaysAnswer (old : MeterApart) (journal : List Noted) (f : Frame) (said : Result Frame FrameRefusal) (new : MeterApart) : Type 0 where
  pub said_is : said ≡ to_frame (meter_part old) (meter_masks old) journal f
  pub after : IsAfter (after_frame (meter_part old) journal f) new

-- whether a line follows, and the state that it leaves
pub record Follows (old : MeterApart) (journal : List Noted) (line : Noted) (follows : Bool) (new : MeterApart) : Type 0 where
  pub follows_is : follows ≡ can_follow (meter_part old) journal line
  pub after : IsAfter (if follows then journal ++ line ∷ [] else journal) new

-- ---- what is kept of a reading and of a set

-- a reading is marked
pub record MarksReading (old : MeterApart) (r reading : ℕ) (new : MeterApart) : Type 0 where
  pub keys : meter_keys new ≡ meter_keys old
  pub readings : new.readings.items ≡ slice_set old.readings.items r (Some reading)
  pub sets : (q : ℕ) → kept_set new.core q ≡ kept_set old.core q

-- a set is heard
pub record HearsSet (old : MeterApart) (r : ℕ) (set : List ℕ) (said : Heard) (new : MeterApart) : Type 0 where
  pub keys : meter_keys new ≡ meter_keys old
  pub readings : new.readings.items ≡ old.readings.items
  pub core : Hears old.core r set said new.core
