use Rattle.std.proofs.Common.{ℕ, ◌+◌, ◌<◌, IsTrue, List, length, sym, subst, ◌∙◌, arith}
use Rattle.std.specs.List.{list_all}
use Rattle.std.proofs.lemmas.List.{get_or-replicate}
use Rattle.blind_core.specs.Columns.{column}
use Rattle.blind_core.specs.Rows.{is_higher}
use Rattle.blind_core.proofs.ColumnLemmas.{taken_begins, taken_ends, taken_all, first-higher, columns_taken}
use Rattle.blind_core.proofs.rounds.take_row.Goals as goal

pub loop-high-init : goal.loop-high-init
loop-high-init g c =
    let all = c.into_iter-high-iterator.ensures.into_iter_gives ∙ c.members-high-items.ensures.members in
    record {
      ends = subst (λ (l : List ℕ). IsTrue (list_all (is_higher (g.M.Masks.plan c.args.masks.now) c.args.group (c.args.first + 7) (length c.args.sums.now) c.args.low) l)) (sym all) c.requires.higher;
      columns = λ j h. taken_begins ((g.M.Masks.table c.args.masks.now).pair c.args.group (c.args.first + j) c.args.low) c.args.higher.now (column 0 j c.args.sums.now) c.into_iter-high-iterator.result _ all (get_or-replicate 8 j 0 0 h);
    }

pub pair_rounds-words-requires-clause-place : goal.pair_rounds-words-requires-clause-place
pair_rounds-words-requires-clause-place g c = (first-higher (g.M.Masks.plan c.args.masks.now) c.args.group (c.args.first + 7) (length c.args.sums.now) c.args.low c.in-Some.high c.loop-high.high-iterator c.next.new.self c.loop-high.invariant.ends c.in-Some.ensures.steps).1

pub pair_rounds-words-requires-clause-order : goal.pair_rounds-words-requires-clause-order
pair_rounds-words-requires-clause-order g c = (first-higher (g.M.Masks.plan c.args.masks.now) c.args.group (c.args.first + 7) (length c.args.sums.now) c.args.low c.in-Some.high c.loop-high.high-iterator c.next.new.self c.loop-high.invariant.ends c.in-Some.ensures.steps).0

pub loop-high-preserved : goal.loop-high-preserved
loop-high-preserved g c =
    let first = first-higher (g.M.Masks.plan c.args.masks.now) c.args.group (c.args.first + 7) (length c.args.sums.now) c.args.low c.in-Some.high c.loop-high.high-iterator c.next.new.self c.loop-high.invariant.ends c.in-Some.ensures.steps in
    let inside : c.in-Some.high < length c.loop-high.sums = omega (arith, first.2, c.loop-high.auto.sums) in
    record {
      ends = first.3;
      columns = columns_taken (λ j. (g.M.Masks.table c.args.masks.now).pair c.args.group (c.args.first + j) c.args.low) _ _ _ c.loop-high.sums _ _ _ c.pair_rounds-words.result _ _
          c.loop-high.invariant.columns c.in-Some.ensures.steps inside c.pair_rounds-words.ensures c.add.ensures c.take_away.ensures;
    }

pub returns-clause-sums : goal.returns-clause-sums
returns-clause-sums g c j h = taken_ends _ _ _ _ _ _ (c.loop-high.invariant.columns j h) c.in-None.ensures.steps.0

pub returns-clause-row : goal.returns-clause-row
returns-clause-row g c j h = taken_all _ _ _ _ _ _ (c.loop-high.invariant.columns j h) c.in-None.ensures.steps.0
