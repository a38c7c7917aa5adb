use Rattle.std.proofs.Common.{length, sym, ap, ◌∙◌}
use Rattle.event_schedule.specs.Transcripts.{TranscriptView}
use Rattle.transcript_log.proofs.Tails.{as_many}
use Rattle.transcript_log.proofs.draft.Draft.len.Goals as goal

pub returns : goal.returns
returns c =
    c.len.ensures ∙ sym (as_many c.self.inside.stamps c.self.inside.lines.value.items c.self.invariant.long)
    ∙ ap (λ (v : TranscriptView). length v.entries) c.self.view_is
