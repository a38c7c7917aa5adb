use Rattle.std.proofs.Common.{◌∙◌, ap, sym, arith}
use Rattle.std.proofs.lemmas.Bool.Decides.{nat_tests}
use Rattle.plan_files.specs.KeptRows.{rows_in}
use Rattle.plan_files.proofs.FieldLemmas.{none_left}
use Rattle.plan_files.proofs.RowsLeft.{row_none, rows_same}
use Rattle.plan_files.proofs.kept_row.read_row.Goals as goal

pub returns-then-is_empty : goal.returns-then-is_empty
returns-then-is_empty c =
    let start = c.skip_ends-start.result.now in
    row_none c.args.bytes.now (c.skip_ends-start.ensures.same ∙ none_left start (grind (arith, nat_tests, c.if-is_empty.true)))

pub returns : goal.returns
returns c = record {
  rows = rows_same c.args.bytes.now c.skip_ends-start.result.now c.skip_ends-start.ensures.same ∙ ap rows_in (sym c.in_ok-left.ensures.start);
  begun = c.in_ok-left.ensures.begun;
}
