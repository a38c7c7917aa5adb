use Rattle.std.proofs.Common.{rules, ◌≡◌, true, ◌-◌, ◌<◌, ◌^◌, ◌∙◌, arith}
use Rattle.std.proofs.lemmas.Bool.Decides.{nat_tests}
use Rattle.std.proofs.lemmas.List.{get_or_default}
use Rattle.ideal_masks.specs.Order.{is_lower_first}
use Rattle.ideal_masks.proofs.RowOrder.{moves-after}
use Rattle.ideal_masks.proofs.order.goes_on.Goals as goal

pub returns-else-at-eq0 : goal.returns-else-at-eq0
returns-else-at-eq0 c =
    let low : is_lower_first c.index-rows-at.result.id ≡ true = search rules in
    let small : c.index-rows-at.result.by < 2 ^ 64 = search rules in
    let last_is = c.index-rows-at-else-at-eq0.is ∙ get_or_default c.args.rows.now (c.args.at - 1) c.index-rows-at-else-at-eq0.result c.index-rows-at.result (omega (arith, c.requires)) in
    moves-after c.args.rows.now c.args.at c.index-rows-at.result c.index-rows-at-else-at-eq0.result c.index-rows-at.result c.is_before.result c.requires c.index-rows-at.is last_is
    (grind (arith, nat_tests, c.if-by-eq0.false)) small low (grind (arith, nat_tests, c.if-at-eq0.false)) c.is_before.ensures
