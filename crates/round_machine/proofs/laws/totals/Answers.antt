use Rattle.round_machine.proofs.CallLemmas as lemmas
use Rattle.round_machine.proofs.laws.totals.Goals as goal

pub returns : goal.returns
returns c = lemmas.totals
