use Rattle.std.proofs.Common.{◌∙◌, List, ℕ, ap, arith, length-drop, subst, sym}
use Rattle.csv.specs.Records.{fields_of}
use Rattle.plan_files.specs.KeptRows.{KeepsField, kept_with}
use Rattle.plan_files.proofs.KeptLemmas.{cut_kept}
use Rattle.plan_files.proofs.kept_row.read_field.Goals as goal

pub returns-in_ok-keep : goal.returns-in_ok-keep
returns-in_ok-keep c =
    let read = c.in_ok-end.ensures in
    subst (KeepsField c.args.bytes.now (fields_of c.args.kept.now) c.keep.new.kept) (sym c.rest_from.ensures) (record {
      text = read.text;
      field = read.field;
      added = c.in_ok-keep.ensures.kept ∙ ap (λ (t : List ℕ). kept_with (fields_of c.args.kept.now) t) (c.deref.ensures.value ∙ read.cut) ∙ cut_kept (fields_of c.args.kept.now) read.text;
      none = c.in_ok-keep.ensures.none;
      short = let l = length-drop c.in_ok-end.end c.args.bytes.now in omega (arith, l);
    })
