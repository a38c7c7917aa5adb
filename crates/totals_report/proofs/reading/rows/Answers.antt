use Rattle.std.proofs.Common.{rules, arith, sym, ◌∙◌, ◌≡◌, ◌++◌, ◌∷◌, []}
use Rattle.std.proofs.lemmas.Bool.Decides.{nat_tests}
use Rattle.totals_report.proofs.LineLemmas.{row_more, row_none, rest_left, rest_none}
use Rattle.totals_report.proofs.reading.rows.Goals as goal

pub returns-in_default-row : goal.returns-in_default-row
returns-in_default-row c =
    row_none c.loop-line.number c.loop-line.rows.items c.in-Some.line.now c.in-Some.after.now _ _ c.in-Some.ensures.0 c.loop-line.invariant.so_far (sym c.in_default-row.is ∙ c.row.ensures)

pub loop-line-preserved : goal.loop-line-preserved
loop-line-preserved c =
    let s = c.loop-line.invariant in
    let cut = c.in-Some.ensures in
    let pushed : c.push.new.self.items ≡ c.loop-line.rows.items ++ c.in-Some-row.row ∷ [] = search rules in
    record {
      few = omega (arith, s.few, cut.1);
      so_far = rw pushed (row_more c.loop-line.number c.loop-line.rows.items c.in-Some.line.now c.in-Some.after.now _ _ cut.0 s.so_far c.in-Some-row.row c.in-Some-row.ensures);
    }

pub returns-then-not-is_empty : goal.returns-then-not-is_empty
returns-then-not-is_empty c =
    rest_left c.loop-line.number c.loop-line.rows.items c.loop-line.rest.now _ _ (rw c.in_default.is at c.cut.ensures) c.loop-line.invariant.so_far (grind (arith, nat_tests, c.is_empty.ensures))

pub returns : goal.returns
returns c = rw c.new.ensures (
    rest_none c.loop-line.number c.loop-line.rows.items c.loop-line.rest.now _ _ (rw c.in_default.is at c.cut.ensures) c.loop-line.invariant.so_far (grind (arith, nat_tests, c.is_empty.ensures)))
