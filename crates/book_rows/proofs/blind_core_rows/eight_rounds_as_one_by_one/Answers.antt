use Rattle.std.proofs.Common.{arith}
use Rattle.book_rows.proofs.FullGroups.{full_readings, full_rows}
use Rattle.book_rows.proofs.blind_core_rows.eight_rounds_as_one_by_one.Goals as goal

pub masked_rounds-requires-clause-readings : goal.masked_rounds-requires-clause-readings
masked_rounds-requires-clause-readings g c = full_rows 64 3 c.full-all.result c.full-all.ensures (omega arith)

pub masked_group-requires-clause-readings : goal.masked_group-requires-clause-readings
masked_group-requires-clause-readings g c = full_readings 64 3 c.full-all.result c.full-all.ensures (omega arith)
