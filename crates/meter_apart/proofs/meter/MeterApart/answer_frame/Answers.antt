use Rattle.meter_apart.proofs.PartLemmas.{within-places}
use Rattle.meter_apart.proofs.meter.MeterApart.answer_frame.Goals as goal

pub answer-requires-clause-missing : goal.answer-requires-clause-missing
answer-requires-clause-missing c = within-places c.args.self.now.keys.part.home c.args.round c.args.missing.now c.requires.round c.requires.within
