use Rattle.std.proofs.Common.{◌≡◌, ◌+◌, ◌∙◌, ℕ, List, Some, length, slice_get, ap, sym, subst, arith}
use Rattle.event_schedule.specs.declared.Entry.{Entry}
use Rattle.transcript_text.specs.Ahead.{IsPieceOf, IsSkipped}
use Rattle.transcript_text.specs.Readers.{ReaderView}
use Rattle.transcript_text.proofs.AheadLemmas.{behind_piece, here, last_bytes, room, skipped, view_at}
use Rattle.transcript_text.proofs.entry_reader.EntryReader.skip.Goals as goal

pub overflow_add-self : goal.overflow_add-self
overflow_add-self c =
    let r = c.self.inside in
    let is = subst (λ (v : ReaderView). IsPieceOf v.version v.plan v.text c.args.piece.now) (sym c.self.view_is) c.requires in
    let most = room r.version r.plan r.rest.now c.args.piece.now is c.if-piece-self.false in
    let few = c.self.invariant.0 in
    let long = c.len-entries.ensures in
    omega (arith, most, few, long)

pub overflow_add-self-2 : goal.overflow_add-self-2
overflow_add-self-2 c =
    let r = c.self.inside in
    let is = subst (λ (v : ReaderView). IsPieceOf v.version v.plan v.text c.args.piece.now) (sym c.self.view_is) c.requires in
    let most = room r.version r.plan r.rest.now c.args.piece.now is c.if-piece-self.false in
    let few = c.self.invariant.0 in
    let count = c.self.invariant.1 in
    let long = c.len-entries.ensures in
    omega (arith, most, few, count, long)

pub overflow_sub-self : goal.overflow_sub-self
overflow_sub-self c =
    let r = c.self.inside in
    let is = subst (λ (v : ReaderView). IsPieceOf v.version v.plan v.text c.args.piece.now) (sym c.self.view_is) c.requires in
    let most = room r.version r.plan r.rest.now c.args.piece.now is c.if-piece-self.false in
    omega (arith, most)

pub invariant_of-self : goal.invariant_of-self
invariant_of-self c =
    let r = c.self.inside in
    let piece = c.args.piece.now in
    let is = subst (λ (v : ReaderView). IsPieceOf v.version v.plan v.text piece) (sym c.self.view_is) c.requires in
    let most = room r.version r.plan r.rest.now piece is c.if-piece-self.false in
    let rest = ap length (behind_piece r.version r.plan r.rest.now piece is c.if-piece-self.false) ∙ (here r.version r.plan r.rest.now piece is c.if-piece-self.false).2 in
    let few = c.self.invariant.0 in
    let count = c.self.invariant.1 in
    let long = c.len-entries.ensures in
    (omega (arith, most, few, rest, long), omega (arith, count), c.self.invariant.2)

pub returns : goal.returns
returns c =
    let r = c.self.inside in
    let piece = c.args.piece.now in
    let is = subst (λ (v : ReaderView). IsPieceOf v.version v.plan v.text piece) (sym c.self.view_is) c.requires in
    let first : slice_get piece.entries.items 0 ≡ Some c.in-Some.first.now = ap (λ (es : List Entry). slice_get es 0) (sym c.deref.ensures.value) ∙ sym c.in-Some.ensures.value in
    let done = skipped r.version r.plan r.rest.now piece is c.if-piece-self.false r.line r.last r.count c.in-Some.first.now c.groups-groups.ensures.limits c.self.invariant.2 first c.if-first-self.false in
    let said = c.len-entries.ensures in
    let long : c.len-entries.result ≡ length piece.entries.items = omega (arith, said) in
    subst (λ (v : ReaderView). IsSkipped v piece (view_at r.version r.plan (r.line + c.len-entries.result) piece.last (r.count + c.len-entries.result) (last_bytes piece.until r.rest.now))) c.self.view_is
    (subst (λ (n : ℕ). IsSkipped (view_at r.version r.plan r.line r.last r.count r.rest.now) piece (view_at r.version r.plan (r.line + n) piece.last (r.count + n) (last_bytes piece.until r.rest.now))) (sym long) done)
