use Rattle.ideal_masks.proofs.FiniteTables.{is_table, keeps_lines}
use Rattle.ideal_masks.proofs.table_laws.finite_tables.Goals as goal

pub returns-clause-table : goal.returns-clause-table
returns-clause-table c = is_table

pub returns-clause-same_lines : goal.returns-clause-same_lines
returns-clause-same_lines c = keeps_lines
