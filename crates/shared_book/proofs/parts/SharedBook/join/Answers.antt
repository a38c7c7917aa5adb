use Rattle.std.proofs.Common.{◌∙◌, ap, arith}
use Rattle.shared_book.specs.Law.{Mine}
use Rattle.shared_book.proofs.Shares.{joins, learns}
use Rattle.shared_book.proofs.Steps.{carries_none}
use Rattle.shared_book.proofs.parts.SharedBook.join.Goals as goal

pub join_seat-requires : goal.join_seat-requires
join_seat-requires c =
    let r = c.args.pass.now.rests in
    let q = c.args.other.rests in
    let w = c.args.self.now.words_are in
    let some = c.args.self.now.some_group in
    (c.requires.passes.0.table, c.requires.passes.1.table, carries_none _ _ c.requires.free.1 q.0, omega arith, joins _ _ _ _ _ r.1 c.requires.first c.requires.free.0 r.2 q.1 c.requires.free.1)

pub load-requires : goal.load-requires
load-requires c =
    let r = c.args.pass.now.rests in
    let w = c.args.self.now.words_are in
    let some = c.args.self.now.some_group in
    let e = c.join_seat.ensures in
    (e.0 ∙ c.requires.passes.0.table, omega arith, learns _ _ _ _ (ap (λ (m : Mine). m.0.live) e.2 ∙ r.1) (ap (λ (m : Mine). m.0.number) e.2 ∙ c.requires.first) (ap (λ (m : Mine). m.0.held) e.2 ∙ c.requires.free.0) (ap (λ (m : Mine). m.0.pending) e.2))
