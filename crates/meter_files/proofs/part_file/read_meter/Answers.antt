use Rattle.plan_files.specs.RowsLeft.{rows_left}
use Rattle.meter_files.proofs.WholeLemmas.{ends_whole}
use Rattle.meter_files.proofs.part_file.read_meter.Goals as goal

pub returns-clause-whole : goal.returns-clause-whole
returns-clause-whole c = ends_whole (rows_left c.in_ok-rows.rows) c.part_from.result c.part_from.ensures
