use Rattle.billing_read.proofs.BillLemmas.{isolated, converse}
use Rattle.billing_read.proofs.laws.billing_isolation.Goals as goal

pub returns-clause-isolated : goal.returns-clause-isolated
returns-clause-isolated c = isolated

pub returns-clause-converse : goal.returns-clause-converse
returns-clause-converse c = converse
