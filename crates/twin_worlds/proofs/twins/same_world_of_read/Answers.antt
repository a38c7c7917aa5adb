use Rattle.std.proofs.Common.{rules, ◌≡◌, subst}
use Rattle.std.specs.Prelude.{Err}
use Rattle.twin_worlds.specs.declared.answers.TwinError.{TwinError}
use Rattle.twin_worlds.specs.Twins.{SameWorldEnds}
use Rattle.twin_worlds.proofs.TwinLemmas.{text-refused, book-refused, is-record}
use Rattle.twin_worlds.proofs.twins.same_world_of_read.Goals as goal

pub returns-in_err-transcript-clause-ends : goal.returns-in_err-transcript-clause-ends
returns-in_err-transcript-clause-ends g c = λ text read.
    let m = g.M.Masks.table c.args.masks.now in
    let e : TwinError = c.in_err-transcript.field-0.0 in
    let answered : Err e ≡ c.from_residual.result = search (rules, c.from_residual.ensures) in
    subst (SameWorldEnds m c.args.first.now text) answered (text-refused m c.args.first.now text e (c.in_err-transcript.ensures.ends text read))

pub returns-in_err-_book-clause-ends : goal.returns-in_err-_book-clause-ends
returns-in_err-_book-clause-ends g c = λ text read.
    let m = g.M.Masks.table c.args.masks.now in
    let t = c.in_ok-transcript.transcript in
    let e : TwinError = c.in_err-_book.field-0.0 in
    let answered : Err e ≡ c.from_residual-in_err-_book.result = search (rules, c.from_residual-in_err-_book.ensures) in
    subst (SameWorldEnds m c.args.first.now text) answered (book-refused m c.args.first.now text t e (c.in_ok-transcript.ensures.ends text read) c.in_err-_book.ensures)

pub returns-clause-ends : goal.returns-clause-ends
returns-clause-ends g c = λ text read.
    is-record (g.M.Masks.table c.args.masks.now) c.args.first.now text c.in_ok-transcript.transcript c.in_ok-_book._book (c.in_ok-transcript.ensures.ends text read) c.in_ok-_book.ensures
