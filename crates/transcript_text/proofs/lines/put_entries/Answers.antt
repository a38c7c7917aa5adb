use Rattle.std.proofs.Common.{◌≡◌, ◌∙◌, ◌++◌, ◌∷◌, [], ap, sym, subst, Option, Ok}
use Rattle.std.proofs.lemmas.List.Elements.{All-nil}
use Rattle.event_schedule.specs.declared.Entry.{Entry}
use Rattle.event_schedule.specs.Transcripts.{TranscriptView, last_tick_from}
use Rattle.transcript_text.specs.Ahead.{IsPieceOf}
use Rattle.transcript_text.specs.Readers.{IsRead, NextEnds, ReaderView}
use Rattle.transcript_text.proofs.EntryLoop.{last-push, last_behind, one_more, some_more}
use Rattle.transcript_text.proofs.lines.put_entries.Goals as goal

pub entries-preserved-in-Some : goal.entries-preserved-in-Some
entries-preserved-in-Some g c =
    let s = c.entries.invariant in
    let filled = c.in-Some.ensures.entries in
    let put = c.in_ok-put_all.ensures in
    let front = c.entries.transcript.entries in
    let es = c.in-Some.entries.items in
    let more : c.put_all.new.transcript.entries ≡ front ++ es = ap (λ (t : TranscriptView). t.entries) put ∙ ap (λ q. front ++ q) c.deref.ensures.value in
    record {
      plan = ap (λ (t : TranscriptView). t.plan) put ∙ s.plan ∙ sym filled.plan;
      same = filled.plan ∙ s.same;
      last = ap (last_tick_from 0) more ∙ last_behind 0 front es ∙ ap (λ last. last_tick_from last es) s.last ∙ sym filled.last;
      so_far = rw more (some_more front c.entries.reader.left _ s.so_far es c.next_entries.new.reader.left filled.left);
      pieces = c.in-Some.ensures.pieces;
    }

pub entries-preserved : goal.entries-preserved
entries-preserved g c =
    let s = c.entries.invariant in
    let entry = c.in-Ok-Some.entry in
    let kept = c.in_default.ensures.entries in
    let read : IsRead c.next_entries.new.reader entry c.next.new.self = subst (λ (o : Option Entry). NextEnds c.next_entries.new.reader (Ok o) c.next.new.self) c.in-Ok-Some.field-0-is c.in-Ok-Some.ensures in
    let put = c.in_ok-push-in-Ok-Some.ensures in
    let front = c.entries.transcript.entries in
    let more : c.push.new.self.entries ≡ front ++ entry ∷ [] = ap (λ (t : TranscriptView). t.entries) put in
    let none : c.clear.new.self.items ≡ [] = c.clear.ensures.items in
    record {
      plan = ap (λ (t : TranscriptView). t.plan) put ∙ s.plan ∙ sym (ap (λ (v : ReaderView). v.plan) kept) ∙ sym read.plan;
      same = read.plan ∙ ap (λ (v : ReaderView). v.plan) kept ∙ s.same;
      last = ap (last_tick_from 0) more ∙ last-push 0 front entry ∙ sym read.last;
      so_far = rw more (one_more front c.entries.reader.left _ s.so_far entry c.next.new.self.left (sym (ap (λ (v : ReaderView). v.left) kept) ∙ read.left));
      pieces = rw none (All-nil (IsPieceOf c.next.new.self.version c.next.new.self.plan c.next.new.self.text));
    }
