-- Each entry of a transcript has a line.
use Rattle.std.proofs.Common.{List, ℕ, All, get_or, Some, None}
use Rattle.event_schedule.specs.declared.Entry.{Entry}
use Rattle.event_schedule.specs.declared.Line.{Line}
use Rattle.event_schedule.specs.declared.Line.TheVariants.{Send, Take, Close, End}
use Rattle.transcript_text.specs.Writing.{IsWritable}
use Rattle.event_schedule.specs.Transcripts.{TranscriptView, Fits, FitsLine, IsTranscript}

pub writable : (t : TranscriptView) → IsTranscript t → All (λ e. IsWritable e.line) t.entries
writable t is = λ k d lt. by_line (get_or t.entries k d) (is.fit k d lt)
  where
    by_line : (e : Entry) → Fits t.plan e → IsWritable e.line
    by_line e fits = by_kind e.fate e.line fits
      where
        by_kind : (fate : List ℕ) (line : Line) → FitsLine t.plan fate line → IsWritable line
        by_kind fate (Send tag (Some frame)) f = (f.1.same, f.1.fits)
        by_kind fate (Send tag None) f = tt
        by_kind fate (Take tag v) f = tt
        by_kind fate (Close g r c) f = tt
        by_kind fate (End g r e) f = tt
