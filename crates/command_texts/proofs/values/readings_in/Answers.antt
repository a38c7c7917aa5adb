use Rattle.command_texts.proofs.RunLemmas.{plan_of_readings}
use Rattle.command_texts.proofs.values.readings_in.Goals as goal

pub returns-in-Ok-clause-same_plan : goal.returns-in-Ok-clause-same_plan
returns-in-Ok-clause-same_plan c = plan_of_readings _ _ _ c.in-Ok.ensures
