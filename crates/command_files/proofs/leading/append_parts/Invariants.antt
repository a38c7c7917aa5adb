use Rattle.std.proofs.Common.{◌≡◌, ◌<◌, ◌^◌, length}
use Rattle.event_schedule.specs.Transcripts.{TranscriptView}
use Rattle.rtrb.specs.Ring.{received, SameConsumer}
use Rattle.command_files.specs.Ahead.{IsAhead, AreNext, reached}
use Rattle.command_files.proofs.leading.append_parts.Given as goal

-- the file has what came out behind what it had
abbrev pub invariant-loop : goal.invariant-loop
invariant-loop g l = record {
  ring : SameConsumer l.fn.parts.ring l.parts.ring;
  name : l.file.begun.name.now ≡ l.fn.file.begun.name.now;
  ahead : (t : TranscriptView) → length t.entries < 2 ^ 64 → AreNext l.fn.file.entries t (received l.parts.ring) → IsAhead g.B.BegunFile.has l.fn.file.begun.file l.fn.file.entries t
      → IsAhead g.B.BegunFile.has l.file.begun.file l.file.entries t × (l.file.entries ≡ reached l.fn.file.entries (received l.parts.ring));
}
