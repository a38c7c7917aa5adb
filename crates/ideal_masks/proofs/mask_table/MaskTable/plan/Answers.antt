use Rattle.std.proofs.Common.{subst}
use Rattle.ideal_masks.specs.ListTables.{IsMaskTable}
use Rattle.ideal_masks.proofs.KeptLemmas.{keeps-table}
use Rattle.ideal_masks.proofs.mask_table.MaskTable.plan.Goals as goal

pub returns-clause-table : goal.returns-clause-table
returns-clause-table c = subst (λ t. IsMaskTable t.plan t.words) c.self.view_is (keeps-table c.self.inside.plan c.self.inside.groups.items c.self.invariant)
