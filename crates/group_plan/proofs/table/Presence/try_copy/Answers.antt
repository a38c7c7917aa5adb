use Rattle.group_plan.proofs.TableLemmas.{copy_is, copy_keeps, table_of_presence}
use Rattle.group_plan.proofs.table.Presence.try_copy.Goals as goal

pub invariant_of-result : goal.invariant_of-result
invariant_of-result c =
    copy_keeps c.self.inside.plan c.in_ok-try_copy.field-0 c.self.inside.present.items c.in_ok-copy_of_present.field-0.items c.self.invariant c.in_ok-try_copy.ensures c.in_ok-copy_of_present.ensures

pub returns-clause-presence : goal.returns-clause-presence
returns-clause-presence c =
    copy_is c.args.self.now c.self.inside.plan c.in_ok-try_copy.field-0 c.self.inside.present.items c.in_ok-copy_of_present.field-0.items c.self.view_is c.in_ok-try_copy.ensures c.in_ok-copy_of_present.ensures

pub returns-clause-table : goal.returns-clause-table
returns-clause-table c = table_of_presence c.args.self.now c.self.inside.plan c.self.inside.present.items c.self.invariant c.self.view_is

pub returns-in_err-try_copy-clause-table : goal.returns-in_err-try_copy-clause-table
returns-in_err-try_copy-clause-table c = table_of_presence c.args.self.now c.self.inside.plan c.self.inside.present.items c.self.invariant c.self.view_is

pub returns-in_err-copy_of_present-clause-table : goal.returns-in_err-copy_of_present-clause-table
returns-in_err-copy_of_present-clause-table c = table_of_presence c.args.self.now c.self.inside.plan c.self.inside.present.items c.self.invariant c.self.view_is
