use Rattle.register_words.proofs.WorldLemmas.{each_isolated, registers_converse, registers_isolated, registers_undone}
use Rattle.register_words.proofs.laws.register_isolation.Goals as goal

pub returns-clause-isolated : goal.returns-clause-isolated
returns-clause-isolated c = registers_isolated

pub returns-clause-undone : goal.returns-clause-undone
returns-clause-undone c = registers_undone

pub returns-clause-converse : goal.returns-clause-converse
returns-clause-converse c = registers_converse

pub returns-clause-each : goal.returns-clause-each
returns-clause-each c = each_isolated
