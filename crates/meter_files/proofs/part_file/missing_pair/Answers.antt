use Rattle.std.proofs.Common.{rules, arith}
use Rattle.meter_files.specs.PartFiles.{owner_view}
use Rattle.meter_files.proofs.PartLemmas.{next_looked}
use Rattle.meter_files.proofs.part_file.missing_pair.Goals as goal

pub loop-other-preserved : goal.loop-other-preserved
loop-other-preserved c = next_looked (owner_view c.args.owner) c.args.pairs.now c.loop-other.other c.loop-other.invariant (omega arith) (search rules)
