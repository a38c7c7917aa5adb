use Rattle.std.proofs.Common.{refl}
use Rattle.audit_check.proofs.PassLemmas.{none_judged}
use Rattle.audit_check.proofs.passing.Pass.new.Goals as goal

pub returns : goal.returns
returns c = none_judged c.args.plan.now _ refl refl c.in_ok-replay.ensures.plan c.in_ok-replay.ensures.journal c.in_ok-replay.ensures.replay
