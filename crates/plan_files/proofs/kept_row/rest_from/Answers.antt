use Rattle.plan_files.proofs.FieldLemmas.{slice_rest}
use Rattle.plan_files.proofs.kept_row.rest_from.Goals as goal

pub returns : goal.returns
returns c = slice_rest c.args.place c.args.bytes.now
