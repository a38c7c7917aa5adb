use Rattle.group_plan.proofs.TableLemmas.{table_of_presence}
use Rattle.group_plan.proofs.table.Presence.plan.Goals as goal

pub returns-clause-table : goal.returns-clause-table
returns-clause-table c = table_of_presence c.args.self.now c.self.inside.plan c.self.inside.present.items c.self.invariant c.self.view_is
