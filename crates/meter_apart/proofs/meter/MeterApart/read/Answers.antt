use Rattle.std.proofs.Common.{Ok, ap, sym, ◌∙◌}
use Rattle.meter_apart.proofs.CallLemmas.{says_first}
use Rattle.meter_apart.proofs.meter.MeterApart.read.Goals as goal

pub returns-in-Ok-None-clause-says : goal.returns-in-Ok-None-clause-says
returns-in-Ok-None-clause-says c = λ journal after.
    says_first c.args.self.now c.mark.new.self journal c.args.round c.args.reading c.reading_frame.result after (ap Ok (sym c.in-Ok-None.field-0-is) ∙ c.in-Ok-None.ensures) c.mark.ensures c.reading_frame.ensures
