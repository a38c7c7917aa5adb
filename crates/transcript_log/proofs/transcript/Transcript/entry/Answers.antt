use Rattle.std.proofs.Common.{◌<◌, length, get_or, sym, ap, ◌∙◌, arith}
use Rattle.event_schedule.specs.declared.Line.{Line}
use Rattle.event_schedule.specs.declared.Entry.{Entry}
use Rattle.transcript_log.specs.declared.transcript.Stamp.{Stamp}
use Rattle.event_schedule.specs.Transcripts.{TranscriptView}
use Rattle.transcript_log.proofs.StampLemmas.{length-entries_of, get_or-entries_of}
use Rattle.transcript_log.proofs.transcript.Transcript.entry.Goals as goal

pub index-stamp-requires : goal.index-stamp-requires
index-stamp-requires c =
    let long = length-entries_of c.self.inside.stamps.items c.self.inside.lines.items c.self.invariant.long in
    let whole = ap (λ (v : TranscriptView). length v.entries) c.self.view_is in
    omega (arith, c.requires, whole, long, c.self.invariant.long, c.self.inside.stamps.ok.0)

pub at-requires : goal.at-requires
at-requires c =
    let long = length-entries_of c.self.inside.stamps.items c.self.inside.lines.items c.self.invariant.long in
    let whole = ap (λ (v : TranscriptView). length v.entries) c.self.view_is in
    omega (arith, c.requires, whole, long)

pub returns : goal.returns
returns c =
    let stamp = c.index-stamp.result.now in
    let made : Entry = record { tick = stamp.tick; fate = stamp.fate; line = c.at.result } in
    let kept : Stamp = get_or c.self.inside.stamps.items c.args.at stamp in
    let long = length-entries_of c.self.inside.stamps.items c.self.inside.lines.items c.self.invariant.long in
    let whole = ap (λ (v : TranscriptView). length v.entries) c.self.view_is in
    let within : c.args.at < length c.self.inside.lines.items = omega (arith, c.requires, whole, long) in
    ap (λ (s : Stamp). record { tick = s.tick; fate = s.fate; line = c.at.result }) c.index-stamp.ensures
    ∙ ap (λ (l : Line). record { tick = kept.tick; fate = kept.fate; line = l }) c.at.ensures
    ∙ sym (get_or-entries_of c.self.inside.stamps.items c.self.inside.lines.items c.args.at stamp c.at.result made c.self.invariant.long within)
    ∙ ap (λ (v : TranscriptView). get_or v.entries c.args.at made) c.self.view_is
