use Rattle.std.proofs.Common.{[], get_or}
use Rattle.plan_files.specs.KeptRows.{fields_in}
use Rattle.plan_files.proofs.RegisterLemmas.{reads_whole}
use Rattle.plan_files.proofs.row.readings_field.Goals as goal

pub returns : goal.returns
returns c =
    reads_whole c.args.count c.args.is_member (get_or (fields_in c.args.row.now) c.args.place []) c.kept_field.result.now c.readings.result c.requires.count.0 c.requires.count.1 c.kept_field.ensures c.readings.ensures
