use Rattle.audit_check.proofs.PossibleLemmas.{possible_before, opened_rounds_stay}
use Rattle.audit_check.proofs.laws.possible_lines.Goals as goal

pub returns-clause-before : goal.returns-clause-before
returns-clause-before c = possible_before

pub returns-clause-opened : goal.returns-clause-opened
returns-clause-opened c = opened_rounds_stay
