use Rattle.std.proofs.Common.{arith}
use Rattle.shared_book.proofs.Shares.{splits}
use Rattle.shared_book.proofs.parts.SharedBook.split.Goals as goal

pub split_seat-seat-requires : goal.split_seat-seat-requires
split_seat-seat-requires c =
    let r = c.args.pass.now.rests in
    let w = c.args.self.now.words_are in
    let some = c.args.self.now.some_group in
    (c.requires.pass.table, omega arith, splits _ _ _ r.1 c.requires.first c.requires.free r.2)
