use Rattle.std.proofs.Common.{refl}
use Rattle.transcript_text.specs.Ahead.{entries_of}
use Rattle.audit_check.proofs.JudgingLemmas.{takes}
use Rattle.audit_check.proofs.judging.EntryJudgeEntrySink.take.Goals as goal

pub returns : goal.returns
returns c = takes c.args.self (entries_of c.args.lists.now) (record { plan = c.args.self.plan; pass = c.in_ok-over.field-0 }) refl c.in_ok-over.ensures
