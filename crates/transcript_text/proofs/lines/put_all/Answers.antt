use Rattle.std.proofs.Common.{◌≡◌, ◌∙◌, ◌++◌, ◌∷◌, ◌+◌, [], All, drop, ap, arith, sym, subst}
use Rattle.std.proofs.lemmas.List.Elements.{All-tail}
use Rattle.event_schedule.specs.Transcripts.{TranscriptView, Fits, NeverFalls, last_tick_from}
use Rattle.transcript_text.proofs.EntryLoop.{last-push, next_of, put_next}
use Rattle.transcript_text.proofs.lines.put_all.Goals as goal

pub loop-entry-preserved : goal.loop-entry-preserved
loop-entry-preserved c =
    let s = c.loop-entry.invariant in
    let e = c.entry-item.result in
    let at = c.loop-entry.entry-index in
    let es = c.args.entries.now in
    let plan = c.args.transcript.now.plan in
    let front = c.loop-entry.transcript.entries in
    let within = c.loop-entry-test.true in
    let next = next_of es at e (omega (arith, within)) (sym c.entry-item.is) in
    let put = c.in_ok-push.ensures in
    let more : c.push.new.self.entries ≡ front ++ e ∷ [] = ap (λ (t : TranscriptView). t.entries) put in
    let last = ap (last_tick_from 0) more ∙ last-push 0 front e in
    record {
      plan = ap (λ (t : TranscriptView). t.plan) put ∙ s.plan;
      so_far = rw more (put_next front es _ at e next s.so_far);
      ticks = rw last (subst (NeverFalls (last_tick_from 0 front)) next s.ticks).1;
      fits = All-tail (Fits plan) e (drop (at + 1) es) (subst (All (Fits plan)) next s.fits);
    }
