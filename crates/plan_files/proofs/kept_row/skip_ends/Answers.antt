use Rattle.std.proofs.Common.{◌∙◌, ◌≡◌, ◌<◌, sym, subst, arith, false, get_or, length}
use Rattle.plan_files.specs.KeptRows.{SkipsTo, is_line_end}
use Rattle.plan_files.proofs.FieldLemmas.{skip_one, starts_at}
use Rattle.plan_files.proofs.kept_row.skip_ends.Goals as goal
use Rattle.plan_files.proofs.kept_row.skip_ends.Goals.{then-loop-count-test+else-is_line_end, else-loop-count-test}

pub loop-count-preserved : goal.loop-count-preserved
loop-count-preserved c = record {
  inside = omega (arith, c.loop-count-test.true);
  same = c.loop-count.invariant.same ∙ skip_one c.args.bytes.now c.loop-count.count (omega (arith, c.loop-count-test.true)) (sym c.is_line_end.ensures ∙ c.if-is_line_end.true);
}

pub returns : goal.returns
returns c =
    let bytes = c.args.bytes.now in
    let count = c.loop-count.count in
    let ends : count < length bytes → is_line_end (get_or bytes count 0) ≡ false = elim c.loop-count-test.branch [
      | then-loop-count-test+else-is_line_end w ↦ (λ lt. sym w.is_line_end.ensures ∙ w.if-is_line_end.false)
      | else-loop-count-test w ↦ (λ lt. absurd (omega (arith, lt, w.loop-count-test)))
    ] in
    subst (SkipsTo bytes) (sym c.rest_from.ensures) (record { same = c.loop-count.invariant.same; starts = starts_at bytes count ends })
