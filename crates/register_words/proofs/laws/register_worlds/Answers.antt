use Rattle.register_words.proofs.WorldLemmas.{first_register, side_words_are_world}
use Rattle.register_words.proofs.laws.register_worlds.Goals as goal

pub returns-clause-world : goal.returns-clause-world
returns-clause-world c = side_words_are_world

pub returns-clause-first : goal.returns-clause-first
returns-clause-first c = first_register
