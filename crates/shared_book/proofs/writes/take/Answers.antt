use Rattle.shared_book.proofs.Writing.{took, not_taken}
use Rattle.shared_book.proofs.writes.take.Goals as goal

pub returns-in-Ok : goal.returns-in-Ok
returns-in-Ok c = λ p j rep. took p j c.args.frame.now c.args.lines.now c.args.pages.now.group c.take.new.self c.take.new.lines c.in-Ok.verdict (c.in-Ok.ensures p j rep)

pub returns-in-Err : goal.returns-in-Err
returns-in-Err c = λ p j rep. not_taken p j c.args.frame.now c.args.lines.now c.args.pages.now.group c.take.new.self c.take.new.lines c.in-Err.e (c.in-Err.ensures p j rep)
