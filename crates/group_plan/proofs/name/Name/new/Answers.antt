use Rattle.std.proofs.Common.{rules}
use Rattle.group_plan.proofs.NameLemmas.{keeps-name}
use Rattle.group_plan.proofs.name.Name.new.Goals as goal

pub invariant_of-result : goal.invariant_of-result
invariant_of-result c = search (rules, keeps-name)
