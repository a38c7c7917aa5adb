use Rattle.std.proofs.Common.{◌≡◌, All}
use Rattle.event_schedule.specs.Transcripts.{last_tick_from}
use Rattle.transcript_text.specs.Ahead.{IsPieceOf}
use Rattle.transcript_text.specs.Reading.{before}
use Rattle.transcript_text.proofs.lines.put_entries.Given as goal

abbrev pub invariant-entries : goal.invariant-entries
invariant-entries g l = record {
  plan : l.transcript.plan ≡ l.reader.plan;
  same : l.reader.plan ≡ l.fn.reader.plan;
  last : last_tick_from 0 l.transcript.entries ≡ l.reader.last;
  so_far : before l.transcript.entries l.reader.left ≡ l.fn.reader.left;
  pieces : All (IsPieceOf l.reader.version l.reader.plan l.reader.text) l.pieces.items;
}

abbrev pub decreases-entries : goal.decreases-entries
decreases-entries g l = l.reader.bytes
