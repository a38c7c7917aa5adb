use Rattle.std.proofs.Common.{[], ◌∷◌}
use Rattle.command_files.specs.Calls.{putting}
use Rattle.command_files.proofs.CommitLemmas.{not_committed, then_one}
use Rattle.command_files.proofs.desk_calls.commit_then.Goals as goal

pub returns-clause-ends : goal.returns-clause-ends
returns-clause-ends g c one two has_one has_two = then_one _ _ _ _ _ _ _ _ _ _ _ c.in-Ok.ensures.ends has_one (c.commit_one.ensures.ends two has_two)

pub returns-in-Err-clause-ends : goal.returns-in-Err-clause-ends
returns-in-Err-clause-ends g c one two has_one has_two =
    not_committed (g.B.BegunFile.has c.args.first.file) (g.B.BegunFile.failed c.args.first.file) c.args.first.name.now one (putting c.args.second.name.now two ∷ []) c.args.line.now
    (g.D.Desk.view c.args.desk.now) (g.D.Desk.view c.commit.new.desk) c.in-Err.outcome c.in-Err.ensures.ends
