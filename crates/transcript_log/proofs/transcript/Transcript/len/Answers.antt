use Rattle.std.proofs.Common.{length, sym, ap, ◌∙◌}
use Rattle.event_schedule.specs.Transcripts.{TranscriptView}
use Rattle.transcript_log.proofs.StampLemmas.{length-entries_of}
use Rattle.transcript_log.proofs.transcript.Transcript.len.Goals as goal

pub returns-clause-len : goal.returns-clause-len
returns-clause-len c =
    c.len.ensures.len ∙ sym (length-entries_of c.self.inside.stamps.items c.self.inside.lines.items c.self.invariant.long)
    ∙ ap (λ (v : TranscriptView). length v.entries) c.self.view_is
