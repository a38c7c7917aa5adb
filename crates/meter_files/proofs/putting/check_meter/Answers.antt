use Rattle.std.proofs.Common.{[], ◌∷◌}
use Rattle.meter_files.specs.declared.names.PartFile.TheVariants.{Keys, Journal}
use Rattle.meter_files.specs.Names.{part_name}
use Rattle.meter_files.proofs.PutLemmas.{check_first, check_next}
use Rattle.meter_files.proofs.putting.check_meter.Goals as goal

pub returns-in-Err-clause-checks : goal.returns-in-Err-clause-checks
returns-in-Err-clause-checks g c =
    check_first c.args.prefix.now (part_name c.args.prefix.now c.args.meter Keys ∷ []) (part_name c.args.prefix.now c.args.meter Journal ∷ []) _ _ _ c.in-Err.ensures.checks

pub returns-clause-checks : goal.returns-clause-checks
returns-clause-checks g c =
    let first = c.in_default.ensures.checks in
    check_next c.args.prefix.now (part_name c.args.prefix.now c.args.meter Keys ∷ []) (part_name c.args.prefix.now c.args.meter Journal ∷ []) _ _ _ _ first.0 first.1 c.check_name-2.ensures.checks
