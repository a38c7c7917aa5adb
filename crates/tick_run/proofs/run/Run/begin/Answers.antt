use Rattle.std.proofs.Common.{◌∙◌, arith}
use Rattle.tick_run.proofs.FinishLemmas.{kept-fresh}
use Rattle.tick_run.proofs.run.Run.begin.Goals as goal

pub invariant_of-result : goal.invariant_of-result
invariant_of-result g c = record {
  of = record {
    known = record { masks = c.requires.masks; hidden = c.in_ok-hidden.ensures };
    some = c.threads_of.ensures;
  };
  within = omega arith;
  runs = c.in_ok-running.ensures.runs (g.M.Masks.table c.args.masks.now);
}

pub returns-clause-met : goal.returns-clause-met
returns-clause-met g c =
    kept-fresh _ _ _ c.args.readings.now.plan c.in_ok-running.running.transcript (c.reserve.ensures.posts ∙ c.requires.posts) c.reserve.ensures.lanes c.in_ok-running.ensures.transcript
