use Rattle.missing_round.proofs.BlockLemmas.{from_bits-256}
use Rattle.meter_core.proofs.notes.set_of.Goals as goal

pub unreachable-requires : goal.unreachable-requires
unreachable-requires c = let set : _ = from_bits-256 _ c.from_bits.result c.from_bits.ensures in c.in_default.not-Ok set.0 set.1
