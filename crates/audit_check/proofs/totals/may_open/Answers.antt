use Rattle.std.proofs.Common.{ap}
use Rattle.group_book.specs.declared.answers.Outcome.{Outcome}
use Rattle.audit_check.proofs.TotalLemmas.{may_open_is}
use Rattle.audit_check.proofs.totals.may_open.Goals as goal

pub returns-then-is_same : goal.returns-then-is_same
returns-then-is_same c = may_open_is c.args.rounds.now c.args.group c.args.round c.args.answered c.outcome-survivors.result.survivors c.is_within.result (ap (λ (o : Outcome). o.survivors) c.outcome-survivors.ensures) c.if-is_same.ensures c.is_within.ensures
