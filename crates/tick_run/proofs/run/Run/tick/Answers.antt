use Rattle.tick_run.proofs.RunLemmas.{met-by}
use Rattle.tick_run.proofs.run.Run.tick.Goals as goal

pub returns-clause-met : goal.returns-clause-met
returns-clause-met g c = λ first met. c.in_ok-run_tick.ensures.fates first (met-by first _ _ _ _ c.self.view_is met)
