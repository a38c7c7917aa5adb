use Rattle.std.proofs.Common.{rules, ◌≡◌}
use Rattle.meter_files.specs.Names.{part_name}
use Rattle.meter_files.proofs.PutLemmas.{file_stops}
use Rattle.meter_files.proofs.putting.put_file.Goals as goal

pub returns-in-Err-Failed-clause-puts : goal.returns-in-Err-Failed-clause-puts
returns-in-Err-Failed-clause-puts g c =
    let named : g.D.Begun.BegunFile.name c.append.new.self ≡ part_name c.args.prefix.now c.args.meter c.args.file = search rules in
    file_stops (g.D.Begun.BegunFile.has c.append.new.self) (g.D.Begun.BegunFile.failed c.append.new.self) _ _ _ _ _ _ _ c.in-Ok-begin_new.ensures.same_view named c.in-Err-Failed.field-0-is c.in-Err-Failed.ensures.ends
