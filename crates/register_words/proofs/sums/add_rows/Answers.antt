use Rattle.std.proofs.Common.{ℕ, ◌<◌, IsTrue, nat_lt, length, sym, subst, sum_by, ◌∙◌, ap, arith}
use Rattle.std.specs.List.{list_all}
use Rattle.std.proofs.lemmas.List.{length-map}
use Rattle.blind_core.specs.Columns.{column}
use Rattle.blind_core.specs.Rows.{taken_from}
use Rattle.blind_core.proofs.RowLoop.{rows_begin}
use Rattle.blind_core.proofs.ColumnLemmas.{length-column, columns_end, next_within, columns_next, rows_done}
use Rattle.missing_round.specs.Words.{word}
use Rattle.pair_keys.specs.Keys.{table_of}
use Rattle.register_words.specs.Blocks.{pair_of}
use Rattle.register_words.specs.Hidden.{pair_words}
use Rattle.register_words.specs.Words.{words_of}
use Rattle.register_words.proofs.HidingLemmas.{higher_ends, next_place, pair_at}
use Rattle.register_words.proofs.sums.add_rows.Goals as goal

pub loop-low-init : goal.loop-low-init
loop-low-init c k h =
    rows_begin _ _ _ _ _ _ _ (c.into_iter-low-iterator.ensures.into_iter_gives ∙ c.members-low-items.ensures.members) c.members-low-items.ensures.set c.requires.places
    (subst (λ (n : ℕ). IsTrue (list_all (λ j. nat_lt j n) c.args.members.now)) (sym (length-column 0 k c.args.sums.now)) c.requires.within)

pub pair_blocks-requires-clause-meter : goal.pair_blocks-requires-clause-meter
pair_blocks-requires-clause-meter c = next_place _ _ _ _ _ _ _ _ _ c.in-Some.low _ (c.loop-low.invariant 0 (omega arith)) c.in-Some.ensures.steps

pub pair_blocks-requires-clause-others : goal.pair_blocks-requires-clause-others
pair_blocks-requires-clause-others c =
    (higher_ends (table_of c.args.keys.now).plan c.args.group c.args.round (length c.loop-low.sums) c.in-Some.low c.without-higher.result
    (columns_end (table_of c.args.keys.now).plan c.args.group c.args.round (pair_words (table_of c.args.keys.now) c.args.group c.args.round) c.args.members.now _ c.loop-low.higher c.args.sums.now c.loop-low.sums
    c.in-Some.low _ c.without-higher.result c.loop-low.invariant c.in-Some.ensures.steps c.without-higher.ensures)).0

pub take_row-row-requires-clause-row : goal.take_row-row-requires-clause-row
take_row-row-requires-clause-row c = ap length c.pair_blocks.ensures.made ∙ length-map c.without-higher.result (λ j. words_of ((table_of c.args.keys.now).key (pair_of c.args.group c.in-Some.low j)) c.args.round)

pub take_row-row-requires-clause-within : goal.take_row-row-requires-clause-within
take_row-row-requires-clause-within c =
    (higher_ends (table_of c.args.keys.now).plan c.args.group c.args.round (length c.loop-low.sums) c.in-Some.low c.without-higher.result
    (columns_end (table_of c.args.keys.now).plan c.args.group c.args.round (pair_words (table_of c.args.keys.now) c.args.group c.args.round) c.args.members.now _ c.loop-low.higher c.args.sums.now c.loop-low.sums
    c.in-Some.low _ c.without-higher.result c.loop-low.invariant c.in-Some.ensures.steps c.without-higher.ensures)).1

pub bounds-sums-low : goal.bounds-sums-low
bounds-sums-low c =
    omega (arith, c.take_row-row.auto.sums, next_within (table_of c.args.keys.now).plan c.args.group c.args.round (pair_words (table_of c.args.keys.now) c.args.group c.args.round) c.args.members.now c.loop-low.low-iterator c.loop-low.higher c.args.sums.now c.loop-low.sums c.in-Some.low c.next.new.self c.loop-low.invariant c.in-Some.ensures.steps)

pub loop-low-preserved : goal.loop-low-preserved
loop-low-preserved c =
    let keys = table_of c.args.keys.now in
    let g = c.args.group in
    let r = c.args.round in
    let low = c.in-Some.low in
    let others = c.without-higher.result in
    let inside : low < length c.take_row-row.new.sums =
    omega (arith, c.take_row-row.auto.sums, next_within keys.plan g r (pair_words keys g r) c.args.members.now c.loop-low.low-iterator c.loop-low.higher c.args.sums.now c.loop-low.sums low c.next.new.self c.loop-low.invariant c.in-Some.ensures.steps) in
    columns_next keys.plan g r (pair_words keys g r) c.args.members.now _ c.loop-low.higher c.args.sums.now c.loop-low.sums
    low _ others c.take_row-row.new.sums c.take_row-row.result _ c.loop-low.invariant c.in-Some.ensures.steps c.without-higher.ensures inside
    (λ k h. c.take_row-row.ensures.sums (λ j. words_of (keys.key (pair_of g low j)) r) c.pair_blocks.ensures.made k h ∙ ap (λ (row : ℕ → ℕ). taken_from row others (column 0 k c.loop-low.sums)) (pair_at keys g r low k h))
    (λ k h. c.take_row-row.ensures.row (λ j. words_of (keys.key (pair_of g low j)) r) c.pair_blocks.ensures.made k h ∙ ap (λ (row : ℕ → ℕ). word (sum_by row others)) (pair_at keys g r low k h))
    c.add.ensures

pub returns-clause-rows : goal.returns-clause-rows
returns-clause-rows c k h = rows_done _ _ _ _ _ _ _ _ _ (c.loop-low.invariant k h) c.in-None.ensures.steps.0
