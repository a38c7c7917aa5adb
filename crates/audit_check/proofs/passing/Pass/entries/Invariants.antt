use Rattle.std.proofs.Common.{drop}
use Rattle.audit_check.proofs.PassLemmas.{IsOn}
use Rattle.audit_check.proofs.passing.Pass.entries.Given as goal

abbrev pub invariant-loop-entry : goal.invariant-loop-entry
invariant-loop-entry l = IsOn l.fn.self l.entries l.self (drop l.entry-index l.entries)
