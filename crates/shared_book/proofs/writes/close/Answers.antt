use Rattle.std.proofs.Common.{◌<◌, arith}
use Rattle.shared_book.proofs.Writing.{closed_one}
use Rattle.shared_book.proofs.writes.close.Goals as goal

pub returns : goal.returns
returns c = λ p j rep.
    let more = c.if-round-rounds.false in
    let rounds = c.requires.rounds in
    let lt : c.args.round < c.args.pages.now.rounds = omega arith in
    closed_one p j c.args.round c.args.lines.now c.args.pages.now c.close.new.self c.close.new.lines c.close.result rep lt (c.close.ensures p j rep)
