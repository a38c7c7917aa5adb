use Rattle.std.proofs.Common.{arith}
use Rattle.book_rows.proofs.FullGroups.{full_readings}
use Rattle.book_rows.proofs.blind_core_rows.each_pair_word_asked_once.Goals as goal

pub masked_group-requires-clause-readings : goal.masked_group-requires-clause-readings
masked_group-requires-clause-readings g c = full_readings 64 1 c.full.result c.full.ensures (omega arith)
