use Rattle.std.proofs.Common.{rules, ◌≡◌}
use Rattle.meter_files.specs.Names.{part_name}
use Rattle.meter_files.proofs.PutLemmas.{name_stops}
use Rattle.meter_files.proofs.putting.check_name.Goals as goal

pub returns-in-Err-Failed-clause-checks : goal.returns-in-Err-Failed-clause-checks
returns-in-Err-Failed-clause-checks g c =
    let named : g.D.Begun.BegunFile.name c.in-Ok-begin_new.begun ≡ part_name c.args.prefix.now c.args.meter c.args.file = search rules in
    name_stops (g.D.Begun.BegunFile.has c.in-Ok-begin_new.begun) (g.D.Begun.BegunFile.failed c.in-Ok-begin_new.begun) _ _ _ _ _ _ c.in-Ok-begin_new.ensures.same_view named c.in-Err-Failed.field-0-is c.in-Err-Failed.ensures.ends
