use Rattle.std.proofs.Common.{◌≡◌, ◌++◌, take}
use Rattle.tick_run.specs.ByGroups.{closed_by}
use Rattle.tick_run.proofs.journal.add_closed.Given as goal

abbrev pub invariant-loop-group : goal.invariant-loop-group
invariant-loop-group l = l.journal.items ≡ l.fn.journal.items ++ closed_by (take l.group-index l.groups)
