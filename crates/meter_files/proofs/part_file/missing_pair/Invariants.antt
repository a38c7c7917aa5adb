use Rattle.meter_files.specs.PartFiles.{owner_view}
use Rattle.meter_files.proofs.PartLemmas.{LooksFrom}
use Rattle.meter_files.proofs.part_file.missing_pair.Given as goal

-- those before it have a key
abbrev pub invariant-loop-other : goal.invariant-loop-other
invariant-loop-other l = LooksFrom (owner_view l.owner) l.pairs l.other
