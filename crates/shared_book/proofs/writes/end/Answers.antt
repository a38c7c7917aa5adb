use Rattle.std.proofs.Common.{◌<◌, arith}
use Rattle.shared_book.proofs.Writing.{ended_one}
use Rattle.shared_book.proofs.writes.end.Goals as goal

pub returns : goal.returns
returns c = λ p j rep.
    let more = c.if-round-rounds.false in
    let rounds = c.requires.rounds in
    let lt : c.args.round < c.args.pages.now.rounds = omega arith in
    ended_one p j c.args.round c.args.lines.now c.args.pages.now c.end.new.self c.end.new.lines c.end.result rep lt (c.end.ensures p j rep)
