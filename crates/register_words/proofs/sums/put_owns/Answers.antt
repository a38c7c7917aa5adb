use Rattle.std.proofs.Common.{ℕ, ◌∙◌, List, length, ap, arith}
use Rattle.std.specs.Prelude.{slice_index}
use Rattle.blind_core.specs.Columns.{column}
use Rattle.blind_core.specs.Rows.{with_owns}
use Rattle.blind_core.proofs.ColumnLemmas.{columns_put, put_ends}
use Rattle.register_words.proofs.HidingLemmas.{row_begins, row_head}
use Rattle.register_words.proofs.sums.put_owns.Goals as goal

pub loop-meter-init : goal.loop-meter-init
loop-meter-init c =
    let all = c.into_iter-meter-iterator.ensures.into_iter_gives ∙ c.members-meter-items.ensures.members in
    record {
      row = row_begins (length c.args.sums.now) c.args.members.now _ c.as_slice-row.result.now all c.requires.within (ap length c.as_slice-row.ensures.value ∙ c.requires.row);
      put = λ f are k h. ap (λ (l : List ℕ). with_owns (λ i. slice_index (f i) k) l (column 0 k c.args.sums.now)) all;
    }

pub offset_bounds-row-place : goal.offset_bounds-row-place
offset_bounds-row-place c =
    let head = row_head (length c.args.sums.now) c.args.members.now _ _ c.as_slice-row.result.now c.loop-meter.place _ c.loop-meter.invariant.row c.in-Some.ensures.steps in
    omega (arith, head.0, c.as_slice-row.ensures.fits)

pub bounds-row-place : goal.bounds-row-place
bounds-row-place c = (row_head (length c.args.sums.now) c.args.members.now _ _ c.as_slice-row.result.now c.loop-meter.place _ c.loop-meter.invariant.row c.in-Some.ensures.steps).0

pub bounds-sums-meter : goal.bounds-sums-meter
bounds-sums-meter c =
    let head = row_head (length c.args.sums.now) c.args.members.now _ _ c.as_slice-row.result.now c.loop-meter.place _ c.loop-meter.invariant.row c.in-Some.ensures.steps in
    omega (arith, head.1, c.loop-meter.auto.sums)

pub overflow_add-place : goal.overflow_add-place
overflow_add-place c =
    let head = row_head (length c.args.sums.now) c.args.members.now _ _ c.as_slice-row.result.now c.loop-meter.place _ c.loop-meter.invariant.row c.in-Some.ensures.steps in
    omega (arith, head.0, c.as_slice-row.ensures.fits)

pub loop-meter-preserved : goal.loop-meter-preserved
loop-meter-preserved c =
    let head = row_head (length c.args.sums.now) c.args.members.now _ _ c.as_slice-row.result.now c.loop-meter.place _ c.loop-meter.invariant.row c.in-Some.ensures.steps in
    record {
      row = head.3;
      put = λ f are. columns_put (λ k i. slice_index (f i) k) c.args.members.now _ c.args.sums.now c.loop-meter.sums c.in-Some.meter _ _
          (c.loop-meter.invariant.put f are) c.in-Some.ensures.steps (λ k h. ap (λ (l : List ℕ). slice_index l k) (head.2 f are));
    }

pub returns : goal.returns
returns c f are k h = put_ends _ _ _ _ _ (c.loop-meter.invariant.put f (c.as_slice-row.ensures.value ∙ are) k h) c.in-None.ensures.steps.0
