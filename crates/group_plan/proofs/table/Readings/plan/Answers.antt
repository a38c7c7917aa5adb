use Rattle.std.proofs.Common.{subst}
use Rattle.group_plan.specs.Tables.{IsReadingTable}
use Rattle.group_plan.proofs.TableLemmas.{reading_table}
use Rattle.group_plan.proofs.table.Readings.plan.Goals as goal

pub returns-clause-table : goal.returns-clause-table
returns-clause-table c =
    subst (λ v. IsReadingTable v.plan v.table) c.self.view_is (reading_table c.self.inside.plan c.self.inside.values.items c.self.invariant)
