-- Entries written down one after another: their lines stand in a journal.
use Rattle.std.specs.Prelude.{◌≡◌, List, ◌++◌, All}
use Rattle.event_schedule.specs.declared.Entry.{Entry}
use Rattle.event_schedule.specs.Events.{lines_of}
use Rattle.event_schedule.specs.Transcripts.{Fits, NeverFalls, TranscriptView, last_tick_from}
use Rattle.cut_resume.specs.declared.remaking.RemadeRun.{RemadeRun}

-- the journal has the lines of the entries
abbrev pub IsMade : RemadeRun → Type 0
IsMade m = m.journal.items ≡ lines_of m.draft.entries

-- these entries can be written next
pub record CanGoOn (m : RemadeRun) (entries : List Entry) : Type 0 where
  pub made : IsMade m
  pub fits : All (Fits m.draft.plan) entries
  pub ticks : NeverFalls (last_tick_from 0 m.draft.entries) entries

-- these entries were written
pub record GoesOn (old : RemadeRun) (entries : List Entry) (new : RemadeRun) : Type 0 where
  pub draft : new.draft ≡ record old.draft { entries = old.draft.entries ++ entries }
  pub made : IsMade new

-- these are the entries of the cut, and then those that are left
pub record IsRemade (cut : TranscriptView) (left : List Entry) (m : RemadeRun) : Type 0 where
  pub draft : m.draft ≡ record cut { entries = cut.entries ++ left }
  pub made : IsMade m
