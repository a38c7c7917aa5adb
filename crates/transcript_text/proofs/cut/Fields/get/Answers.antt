use Rattle.std.proofs.Common.{arith}
use Rattle.transcript_text.proofs.Cutting.{at_taken, at_past}
use Rattle.transcript_text.proofs.cut.Fields.get.Goals as goal

pub returns-then-i-self : goal.returns-then-i-self
returns-then-i-self c = at_taken c.args.self.now.at c.args.self.now.count c.args.i _ (omega arith) (omega arith)

pub returns-else-i-self : goal.returns-else-i-self
returns-else-i-self c = at_past c.args.self.now.at c.args.self.now.count c.args.i (omega arith)
