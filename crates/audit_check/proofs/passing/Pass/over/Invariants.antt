use Rattle.std.proofs.Common.{drop}
use Rattle.transcript_text.specs.Ahead.{entries_of}
use Rattle.audit_check.proofs.PassLemmas.{IsOn}
use Rattle.audit_check.proofs.passing.Pass.over.Given as goal

abbrev pub invariant-loop-entries : goal.invariant-loop-entries
invariant-loop-entries l = IsOn l.fn.self (entries_of l.batch) l.self (entries_of (drop l.entries-index l.batch))
