use Rattle.std.proofs.Common.{sym, subst}
use Rattle.meter_apart.specs.declared.answers.Noted.{Noted}
use Rattle.meter_apart.specs.Meter.{Follows}
use Rattle.meter_apart.proofs.CallLemmas.{follows_set}
use Rattle.meter_apart.proofs.meter.MeterApart.follow.Goals as goal

pub returns-in-Kept-clause-follows : goal.returns-in-Kept-clause-follows
returns-in-Kept-clause-follows c = λ journal after.
    subst (λ (line : Noted). Follows c.args.self.now journal line c.is_answer.result c.hear_set.new.self) (sym c.in-Kept.is)
    (follows_set c.args.self.now c.hear_set.new.self journal c.in-Kept.round c.in-Kept.set c.hear_set.result c.is_answer.result after c.hear_set.ensures c.is_answer.ensures)
