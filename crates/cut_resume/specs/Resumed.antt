-- How a run goes on from a cut.
use Rattle.std.specs.Prelude.{◌≡◌, ℕ, List, ◌++◌, Result, Ok, Err, ⊤}
use Rattle.group_plan.specs.Tables.{ReadingsView}
use Rattle.link_lanes.specs.Lanes.{Slot}
use Rattle.pair_keys.specs.Keys.{Keys}
use Rattle.mask_stream.specs.KeyStreams.{streams}
use Rattle.event_schedule.specs.declared.Entry.{Entry}
use Rattle.event_schedule.specs.Events.{lines_of}
use Rattle.event_schedule.specs.Transcripts.{TranscriptView}
use Rattle.transcript_text.specs.EntryLines.{entry_line}
use Rattle.tick_run.specs.declared.finished.Finished.{Finished}
use Rattle.tick_run.specs.Finished.{HasRowsOf, IsFinished}
use Rattle.cut_resume.specs.declared.errors.ResumeError.{ResumeError}
use Rattle.cut_resume.specs.declared.errors.ResumeError.TheVariants.{NotThis, Memory}
use Rattle.cut_resume.specs.Left.{IsNoneOf, Leaves}
use Rattle.cut_resume.specs.OnCourse.{IsFirstOff}

-- the entries of the cut, and behind them those that they leave of the run
pub record Follows (run : Finished) (cut : TranscriptView) (f : Finished) : Type 0 where
  pub left : List Entry
  pub leaves : Leaves cut.entries run.transcript.entries left
  pub transcript : f.transcript ≡ record cut { entries = cut.entries ++ left }
  pub presence : f.book.presence ≡ run.book.presence
  pub journal : f.book.journal ≡ lines_of f.transcript.entries

-- the cut's entries are followed by those that are left of a run; or the first that may not be picked is that of this line; want of memory is free
abbrev pub FollowEnds : Finished → TranscriptView → Result Finished ResumeError → Type 0
FollowEnds run cut (Ok f) = Follows run cut f
FollowEnds run cut (Err (NotThis n)) = (k : ℕ) × (n ≡ entry_line cut.plan k) × IsNoneOf cut.entries run.transcript.entries k
FollowEnds run cut (Err Memory) = ⊤

-- a run of these readings, keys and lanes that is over, and that begins with the entries of the cut
pub record IsResumed (readings : ReadingsView) (keys : Keys) (slots : List Slot) (cut : TranscriptView) (f : Finished) : Type 0 where
  pub finished : IsFinished readings keys slots f.book f.transcript
  pub report : HasRowsOf f.transcript.entries f.book
  pub more : List Entry
  pub begins : f.transcript.entries ≡ cut.entries ++ more

-- the run goes on from the cut; or the entry of line n is the first with which the cut is not on course; want of memory is free
abbrev pub ResumeEnds : ReadingsView → Keys → List Slot → TranscriptView → Result Finished ResumeError → Type 0
ResumeEnds readings keys slots cut (Ok f) = IsResumed readings keys slots cut f
ResumeEnds readings keys slots cut (Err (NotThis n)) = (k : ℕ) × (n ≡ entry_line cut.plan k) × IsFirstOff readings (streams keys) slots cut.entries k
ResumeEnds readings keys slots cut (Err Memory) = ⊤
