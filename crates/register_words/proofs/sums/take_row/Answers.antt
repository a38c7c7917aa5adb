use Rattle.std.proofs.Common.{ℕ, ◌<◌, ◌∙◌, List, [], length, get_or, ap, arith}
use Rattle.std.specs.Prelude.{slice_index}
use Rattle.std.proofs.lemmas.List.{get_or-replicate}
use Rattle.blind_core.specs.Columns.{column}
use Rattle.blind_core.proofs.ColumnLemmas.{taken_begins, taken_ends, taken_all, columns_taken}
use Rattle.register_words.proofs.HidingLemmas.{row_begins, row_head}
use Rattle.register_words.proofs.sums.take_row.Goals as goal

pub loop-high-init : goal.loop-high-init
loop-high-init c =
    let all = c.into_iter-high-iterator.ensures.into_iter_gives ∙ c.members-high-items.ensures.members in
    record {
      row = row_begins (length c.args.sums.now) c.args.higher.now _ c.as_slice-row.result.now all c.requires.within (ap length c.as_slice-row.ensures.value ∙ c.requires.row);
      columns = λ f are k h. taken_begins (λ j. slice_index (f j) k) c.args.higher.now (column 0 k c.args.sums.now) _ _ all (get_or-replicate 8 k 0 0 h);
    }

pub offset_bounds-row-place : goal.offset_bounds-row-place
offset_bounds-row-place c =
    let head = row_head (length c.args.sums.now) c.args.higher.now _ _ c.as_slice-row.result.now c.loop-high.place _ c.loop-high.invariant.row c.in-Some.ensures.steps in
    omega (arith, head.0, c.as_slice-row.ensures.fits)

pub bounds-row-place : goal.bounds-row-place
bounds-row-place c = (row_head (length c.args.sums.now) c.args.higher.now _ _ c.as_slice-row.result.now c.loop-high.place _ c.loop-high.invariant.row c.in-Some.ensures.steps).0

pub bounds-sums-high : goal.bounds-sums-high
bounds-sums-high c =
    let head = row_head (length c.args.sums.now) c.args.higher.now _ _ c.as_slice-row.result.now c.loop-high.place _ c.loop-high.invariant.row c.in-Some.ensures.steps in
    omega (arith, head.1, c.loop-high.auto.sums)

pub overflow_add-place : goal.overflow_add-place
overflow_add-place c =
    let head = row_head (length c.args.sums.now) c.args.higher.now _ _ c.as_slice-row.result.now c.loop-high.place _ c.loop-high.invariant.row c.in-Some.ensures.steps in
    omega (arith, head.0, c.as_slice-row.ensures.fits)

pub loop-high-preserved : goal.loop-high-preserved
loop-high-preserved c =
    let row = c.as_slice-row.result.now in
    let head = row_head (length c.args.sums.now) c.args.higher.now _ _ row c.loop-high.place _ c.loop-high.invariant.row c.in-Some.ensures.steps in
    let inside : c.in-Some.high < length c.loop-high.sums = omega (arith, head.1, c.loop-high.auto.sums) in
    record {
      row = head.3;
      columns = λ f are. columns_taken (λ k j. slice_index (f j) k) c.args.higher.now _ c.args.sums.now c.loop-high.sums c.loop-high.total c.in-Some.high _ (get_or row c.loop-high.place []) _ _
          (c.loop-high.invariant.columns f are) c.in-Some.ensures.steps inside (λ k h. ap (λ (l : List ℕ). slice_index l k) (head.2 f are)) c.add.ensures c.take_away.ensures;
    }

pub returns-clause-sums : goal.returns-clause-sums
returns-clause-sums c f are k h = taken_ends _ _ _ _ _ _ (c.loop-high.invariant.columns f (c.as_slice-row.ensures.value ∙ are) k h) c.in-None.ensures.steps.0

pub returns-clause-row : goal.returns-clause-row
returns-clause-row c f are k h = taken_all _ _ _ _ _ _ (c.loop-high.invariant.columns f (c.as_slice-row.ensures.value ∙ are) k h) c.in-None.ensures.steps.0
