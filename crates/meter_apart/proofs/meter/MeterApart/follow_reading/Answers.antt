use Rattle.std.proofs.Common.{Ok, ap, sym, ◌∙◌}
use Rattle.meter_apart.proofs.CallLemmas.{follows_first}
use Rattle.meter_apart.proofs.meter.MeterApart.follow_reading.Goals as goal

pub returns-in-Ok-None-clause-follows : goal.returns-in-Ok-None-clause-follows
returns-in-Ok-None-clause-follows c = λ journal after. follows_first c.args.self.now c.mark.new.self journal c.args.round c.args.reading after (ap Ok (sym c.in-Ok-None.field-0-is) ∙ c.in-Ok-None.ensures) c.mark.ensures
