use Rattle.command_files.proofs.AheadLemmas.{ahead-next}
use Rattle.command_files.proofs.ahead.Ahead.append.Goals as goal

pub returns-clause-ahead : goal.returns-clause-ahead
returns-clause-ahead g c = λ t few is ahead.
    ahead-next g.B.BegunFile.has c.args.self.now.begun.file c.append.new.self.file c.args.self.now.entries c.len.result c.saturating_add-self.result c.args.part.now _ c.len.ensures.len c.saturating_add-self.ensures
    c.part_text.ensures.first c.part_text.ensures.next c.append.ensures.has t few is ahead
