use Rattle.audit_check.proofs.SayLemmas.{end_said}
use Rattle.audit_check.proofs.telling.say_end.Goals as goal

pub returns : goal.returns
returns c = end_said c.args.rounds.now c.args.group c.args.round c.end.result c.args.ending c.is_same.result c.end.new.self c.end.ensures c.is_same.ensures
