-- A text that comes piece by piece, whose entries are read as far as it has come.
use Rattle.std.specs.Prelude.{◌≡◌, ℕ, List, [], ◌++◌, All, Result, Vec}
use Rattle.std.specs.declared.alloc.Global.{Global}
use Rattle.event_schedule.specs.declared.Entry.{Entry}
use Rattle.event_schedule.specs.Transcripts.{Fits, IsPlan, NeverFalls, last_tick_from}
use Rattle.transcript_text.specs.declared.version.Version.{Version}
use Rattle.transcript_text.specs.declared.fault.ReadError.{ReadError}
use Rattle.transcript_text.specs.Reading.{before}
use Rattle.transcript_text.specs.Heads.{read_of}
use Rattle.transcript_text.specs.ReadBack.{HasHead}
use Rattle.transcript_text.specs.Readers.{ReaderView, left_of, with_entries}

-- a text of which the head and some entries are read
pub record FeedView : Type 0 where
  -- what is read, over no text
  pub reader : ReaderView
  -- the bytes that came and are not read
  pub rest : List ℕ

-- the entries that are left to read once these bytes have come too, or the first fault
abbrev pub left_with : FeedView → List ℕ → Result (List Entry) ReadError
left_with f more = left_of f.reader (f.rest ++ more)

-- the head of a text is read, and no entry, however the text goes on
pub record IsFeedOf (version : Version) (text : List ℕ) (f : FeedView) : Type 0 where
  pub read : (more : List ℕ) → read_of version (text ++ more) ≡ with_entries f.reader.plan (left_with f more)
  pub last : f.reader.last ≡ 0
  pub plan : IsPlan f.reader.plan
  pub head : HasHead version f.reader.plan

-- some bytes have come, and these entries are read: the first of those that were left
pub record IsFed (old : FeedView) (bytes : List ℕ) (es : List Entry) (new : FeedView) : Type 0 where
  pub left : (more : List ℕ) → left_with old (bytes ++ more) ≡ before es (left_with new more)
  pub plan : new.reader.plan ≡ old.reader.plan
  pub fits : All (Fits old.reader.plan) es
  pub ticks : NeverFalls old.reader.last es
  pub last : new.reader.last ≡ last_tick_from old.reader.last es
