use Rattle.std.proofs.Common.{◌∙◌, sym, ap}
use Rattle.missing_round.specs.Words.{word}
use Rattle.group_plan.specs.Plans.{size}
use Rattle.group_plan.specs.Tables.{reading}
use Rattle.event_schedule.specs.Tables.{plain_sum}
use Rattle.group_book.specs.Books.{shape_of, past}
use Rattle.ideal_masks.specs.Pools.{others}
use Rattle.ideal_masks.specs.Chains.{pool_in}
use Rattle.ideal_masks.proofs.ChainLemmas.{below-tests}
use Rattle.ideal_masks.proofs.LinkLemmas.{others-below}
use Rattle.ideal_masks.proofs.AgreementLemmas.{totals-round, sum-is}
use Rattle.ideal_masks.proofs.compared.Compared.check_total.Goals as goal

pub sum_of_readings-first-requires-clause-meters : goal.sum_of_readings-first-requires-clause-meters
sum_of_readings-first-requires-clause-meters c =
    let at = c.args.self.now in
    let b = at.book.now in
    rw (c.requires.compared.first, c.in-Some.ensures.1) (below-tests (size b.presence.plan.groups at.group) (others (pool_in at) (shape_of b) at.group at.round (past b)) (others-below (pool_in at) (shape_of b) at.group at.round (past b)))

pub sum_of_readings-second-requires-clause-meters : goal.sum_of_readings-second-requires-clause-meters
sum_of_readings-second-requires-clause-meters c =
    let at = c.args.self.now in
    let b = at.book.now in
    rw (c.requires.compared.second, c.in-Some.ensures.1) (below-tests (size b.presence.plan.groups at.group) (others (pool_in at) (shape_of b) at.group at.round (past b)) (others-below (pool_in at) (shape_of b) at.group at.round (past b)))

pub returns-then-first-second : goal.returns-then-first-second
returns-then-first-second c =
    let at = c.args.self.now in
    let b = at.book.now in
    let s = shape_of b in
    let found = c.in-Some.ensures in
    let one = c.sum_of_readings-first.ensures in
    let two = c.sum_of_readings-second.ensures in
    record {
      opened = found.0;
      first = sum-is (pool_in at) s at.first.now.plan at.first.now.table (past b) at.group at.round c.sum_of_readings-first.result (ap (λ p. p.groups) (sym c.requires.compared.first)) one.limits one.table
          (one.sum ∙ ap (λ l. word (plain_sum (reading at.first.now.table) at.group at.round l)) found.1);
      second = sum-is (pool_in at) s at.second.now.plan at.second.now.table (past b) at.group at.round c.sum_of_readings-second.result (ap (λ p. p.groups) (sym c.requires.compared.second)) two.limits two.table
          (two.sum ∙ ap (λ l. word (plain_sum (reading at.second.now.table) at.group at.round l)) found.1);
      differ = c.if-first-second.true;
      before = c.requires.before;
    }

pub returns : goal.returns
returns c =
    let at = c.args.self.now in
    let b = at.book.now in
    let s = shape_of b in
    let found = c.in-Some.ensures in
    let one = c.sum_of_readings-first.ensures in
    let two = c.sum_of_readings-second.ensures in
    let first = sum-is (pool_in at) s at.first.now.plan at.first.now.table (past b) at.group at.round c.sum_of_readings-first.result (ap (λ p. p.groups) (sym c.requires.compared.first)) one.limits one.table
    (one.sum ∙ ap (λ l. word (plain_sum (reading at.first.now.table) at.group at.round l)) found.1) in
    let second = sum-is (pool_in at) s at.second.now.plan at.second.now.table (past b) at.group at.round c.sum_of_readings-second.result (ap (λ p. p.groups) (sym c.requires.compared.second)) two.limits two.table
    (two.sum ∙ ap (λ l. word (plain_sum (reading at.second.now.table) at.group at.round l)) found.1) in
    totals-round (pool_in at) s (reading at.first.now.table) (reading at.second.now.table) (past b) at.group at.round c.requires.before
    (λ _. sym first ∙ c.if-first-second.false ∙ second)
