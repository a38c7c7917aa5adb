use Rattle.std.proofs.Common.{◌∙◌, [], ap, get_or}
use Rattle.csv.specs.Records.{fields_of}
use Rattle.plan_files.specs.KeptRows.{fields_in}
use Rattle.plan_files.proofs.KeptLemmas.{kept_at}
use Rattle.plan_files.proofs.RowLemmas.{field_none, field_some}
use Rattle.plan_files.proofs.row.kept_field.Goals as goal

pub returns-in-Some : goal.returns-in-Some
returns-in-Some c =
    let row = c.args.row.now in
    field_some (fields_of row.kept) c.args.place c.in-Some.field.now c.in-Some.ensures.value ∙ ap (λ l. get_or l c.args.place []) c.requires.kept.kept ∙ kept_at c.args.place (fields_in row) c.requires.place

pub returns-in-None : goal.returns-in-None
returns-in-None c =
    let row = c.args.row.now in
    field_none (fields_of row.kept) c.args.place c.in-None.ensures.value ∙ ap (λ l. get_or l c.args.place []) c.requires.kept.kept ∙ kept_at c.args.place (fields_in row) c.requires.place
