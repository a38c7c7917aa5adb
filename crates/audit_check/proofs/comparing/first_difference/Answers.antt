use Rattle.std.proofs.Common.{◌≡◌, ◌+◌, ◌∙◌, sym, subst, suc, take, arith}
use Rattle.std.specs.Prelude.{slice_get}
use Rattle.audit_check.proofs.RowLemmas.{same_more, one_ended, same_if, differ_if}
use Rattle.audit_check.proofs.comparing.first_difference.Goals.{then-loop-at-test+else-is_same, else-loop-at-test}
use Rattle.audit_check.proofs.comparing.first_difference.Goals.{else-at-from_frames-via-then-at-from_frames+else-at-reported, else-at-from_frames-via-else-at-from_frames}
use Rattle.audit_check.proofs.comparing.first_difference.Goals as goal

pub loop-at-preserved : goal.loop-at-preserved
loop-at-preserved c =
    let xs = c.args.from_frames.now in
    let ys = c.args.reported.now in
    let lt = c.loop-at-test.true in
    let same : slice_get xs c.loop-at.at ≡ slice_get ys c.loop-at.at
    = sym c.row_at.ensures ∙ same_if c.row_at.result c.row_at-in-loop-at.result c.is_same.result c.is_same.ensures c.if-is_same.true ∙ c.row_at-in-loop-at.ensures in
    let more = same_more xs ys c.loop-at.at lt same c.loop-at.invariant.same in
    let next : suc c.loop-at.at ≡ c.loop-at.at + 1 = omega arith in
    record {
      same = subst (λ k. take k xs ≡ take k ys) next more.0;
      one = omega (arith, lt);
      other = let le = more.1 in omega (arith, le);
    }

pub returns-else-at-from_frames-clause-differ : goal.returns-else-at-from_frames-clause-differ
returns-else-at-from_frames-clause-differ c =
    let xs = c.args.from_frames.now in
    let ys = c.args.reported.now in
    let one = c.loop-at.invariant.one in
    let other = c.loop-at.invariant.other in (
      c.loop-at.invariant.same,
      elim c.loop-at-test.branch [
        | then-loop-at-test+else-is_same w ↦ λ same.
            differ_if w.row_at.result w.row_at-in-loop-at.result w.is_same.result w.is_same.ensures w.if-is_same.false (w.row_at.ensures ∙ same ∙ sym w.row_at-in-loop-at.ensures)
        | else-loop-at-test w ↦
            let past = w.loop-at-test.false in
            elim c.else-at-from_frames.branch [
              | else-at-from_frames-via-then-at-from_frames+else-at-reported v ↦
                  let more = v.if-at-reported.false in
                  one_ended xs ys c.loop-at.at (omega (arith, past)) (omega (arith, other, more))
              | else-at-from_frames-via-else-at-from_frames v ↦
                  let fewer = v.if-at-from_frames.false in
                  absurd (omega (arith, past, one, fewer))
            ]
      ],
    )
