use Rattle.plan_files.proofs.TableLemmas.{read_again, read_keeps}
use Rattle.plan_files.proofs.registers.read_registers.Goals as goal

pub invariant_of-result : goal.invariant_of-result
invariant_of-result c =
    read_keeps c.args.plan.now c.in_ok-copy.copy c.args.registers c.args.bytes.now c.in_ok-tables.tables.items c.in_ok-copy.ensures c.requires.count.0 c.requires.count.1 c.in_ok-tables.ensures.read

pub returns : goal.returns
returns c = (c.in_ok-copy.ensures, read_again c.args.plan.now c.args.registers c.args.bytes.now c.in_ok-tables.tables.items c.in_ok-tables.ensures.read)
