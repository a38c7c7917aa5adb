use Rattle.std.proofs.Common.{length, ap, arith}
use Rattle.field_texts.proofs.Cutting.{parts_some}
use Rattle.totals_report.proofs.cut.split_row.Goals as goal

pub returns-in-Some : goal.returns-in-Some
returns-in-Some c = λ six.
    let a = ap length c.in_ok-name.ensures.0 in
    let b = ap length c.in_ok-round.ensures.0 in
    let d = ap length c.in_ok-survivors.ensures.0 in
    let e = ap length c.in_ok-missing.ensures.0 in
    let f = ap length c.in_ok-outcome.ensures.0 in
    let g = ap length c.in-Some.ensures.0 in
    let some = parts_some 44 c.in-Some.field-0.1.now in
    omega (arith, six, a, b, d, e, f, g, some)
