use Rattle.link_lanes.proofs.FateLemmas.{is_fate}
use Rattle.link_lanes.proofs.texts.fate_with.Goals as goal

pub unreachable-requires : goal.unreachable-requires
unreachable-requires c = is_fate c.args.delays.now c.in-Err.field-0 c.requires c.in-Err.ensures
