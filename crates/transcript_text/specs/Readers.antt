-- The entries of a text, read one after another.
use Rattle.std.specs.Prelude.{◌≡◌, ℕ, ◌+◌, ◌<◌, ◌≤◌, List, [], ◌∷◌, ◌++◌, length, Option, None, Some, Result, Ok, Err}
use Rattle.group_plan.specs.Plans.{PlanView}
use Rattle.event_schedule.specs.declared.Entry.{Entry}
use Rattle.event_schedule.specs.Transcripts.{TranscriptView, IsPlan, IsTranscript, Fits}
use Rattle.transcript_text.specs.declared.version.Version.{Version}
use Rattle.transcript_text.specs.declared.fault.ReadError.{ReadError}
use Rattle.transcript_text.specs.Spelling.{text_of}
use Rattle.field_texts.specs.Parts.{parts}
use Rattle.transcript_text.specs.Reading.{Fails, before, entries_from}
use Rattle.transcript_text.specs.Heads.{read_of}
use Rattle.transcript_text.specs.ReadBack.{HasHead}

-- a text of which some entries are read
pub record ReaderView : Type 0 where
  pub version : Version
  pub plan : PlanView
  -- the number of the next line
  pub line : ℕ
  -- the tick of the last entry that is read, 0 before the first
  pub last : ℕ
  -- how many entries are read
  pub count : ℕ
  -- the entries that are left to read, or the first fault
  pub left : Result (List Entry) ReadError
  -- the text from the next line on
  pub text : List ℕ
  -- how many bytes it has
  pub bytes : ℕ

-- the entries that are left to read where this is the text from the next line on, or the first fault
abbrev pub left_of : ReaderView → List ℕ → Result (List Entry) ReadError
left_of r text = entries_from r.version r.plan r.line r.last r.count (parts 10 text)

-- a reader over this text, from the next line on
abbrev pub over : ReaderView → List ℕ → ReaderView
over r text = record r { left = left_of r text; text = text; bytes = length text }

-- the transcript of a plan and these entries, or the fault
abbrev pub with_entries : PlanView → Result (List Entry) ReadError → Result TranscriptView ReadError
with_entries plan (Ok es) = Ok (record { plan = plan; entries = es })
with_entries plan (Err f) = Err f

-- the head of a text is read, and no entry
pub record IsBegun (version : Version) (text : List ℕ) (r : ReaderView) : Type 0 where
  pub read : read_of version text ≡ with_entries r.plan r.left
  pub last : r.last ≡ 0
  pub plan : IsPlan r.plan
  pub head : HasHead version r.plan
  -- however the text goes on
  pub goes_on : (more : List ℕ) → read_of version (text ++ more) ≡ with_entries r.plan (left_of r (r.text ++ more))

-- how the reading of a text begins
abbrev pub Begins : Version → List ℕ → Result ReaderView ReadError → Type 0
Begins version text (Ok r) = IsBegun version text r
Begins version text (Err f) = Fails f (read_of version text)

-- an entry is read: the first of those that were left
pub record IsRead (old : ReaderView) (e : Entry) (new : ReaderView) : Type 0 where
  pub left : old.left ≡ before (e ∷ []) new.left
  pub plan : new.plan ≡ old.plan
  pub line : new.line ≡ old.line + 1
  pub last : new.last ≡ e.tick
  pub tick : old.last ≤ e.tick
  pub fits : Fits old.plan e
  pub bytes : new.bytes < old.bytes

-- the next entry; none where all are read; or the fault that stands there. At these two nothing has changed
abbrev pub NextEnds : ReaderView → Result (Option Entry) ReadError → ReaderView → Type 0
NextEnds old (Ok (Some e)) new = IsRead old e new
NextEnds old (Ok None) new = (old.left ≡ Ok []) × (new ≡ old)
NextEnds old (Err f) new = (old.left ≡ Err f) × (new ≡ old)

-- what the bytes are read as is a transcript, and they are its text
unfoldable pub IsTextOfWhatIsRead : Version → List ℕ → Type 0
IsTextOfWhatIsRead version text = (t : TranscriptView) → read_of version text ≡ Ok t → IsTranscript t × (text ≡ text_of version t)
