use Rattle.head_end.proofs.CallLemmas.{keeps_new, state_new}
use Rattle.head_end.proofs.head.HeadEnd.new.Goals as goal

pub invariant_of-result : goal.invariant_of-result
invariant_of-result c = record { keeps = keeps_new c.args.plan.now _ _ _ _ c.in_ok-try_copy.ensures c.in_ok-first_rounds.ensures c.in_ok-no_words.ensures c.in_ok-no_words-2.ensures }

pub returns-clause-state : goal.returns-clause-state
returns-clause-state c = state_new c.args.plan.now _ _ _ _ c.in_ok-try_copy.ensures c.in_ok-first_rounds.ensures c.in_ok-no_words.ensures c.in_ok-no_words-2.ensures
