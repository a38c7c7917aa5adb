use Rattle.std.proofs.Common.{◌≡◌, ◌++◌, take}
use Rattle.tick_run.specs.ByGroups.{sends_by}
use Rattle.tick_run.proofs.journal.add_sent.Given as goal

abbrev pub invariant-loop-group : goal.invariant-loop-group
invariant-loop-group l = l.journal.items ≡ l.fn.journal.items ++ sends_by (take l.group-index l.groups)
