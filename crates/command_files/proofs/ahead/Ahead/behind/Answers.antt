use Rattle.std.proofs.Common.{[], arith}
use Rattle.command_files.proofs.AheadLemmas.{ahead-behind}
use Rattle.command_files.proofs.ahead.Ahead.behind.Goals as goal

pub returns-clause-ahead : goal.returns-clause-ahead
returns-clause-ahead g c = λ t within text_is.
    ahead-behind g.B.BegunFile.has _ c.args.entries t c.args.text.now (c.append_source.ensures.has [] c.requires) (omega (arith, c.if-entries-eq0.false)) within text_is
