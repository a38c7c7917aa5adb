use Rattle.std.proofs.Common.{◌≡◌, true, ap, ◌∙◌, subst}
use Rattle.missing_round.specs.Words.{word}
use Rattle.group_plan.specs.Plans.{size}
use Rattle.group_plan.specs.Tables.{reading}
use Rattle.event_schedule.specs.Tables.{plain_sum}
use Rattle.group_book.specs.Books.{shape_of, past}
use Rattle.ideal_masks.specs.Chains.{are_below}
use Rattle.twin_worlds.proofs.AnswerRows.{survivors-below}
use Rattle.twin_worlds.proofs.WorldWords.{total-is}
use Rattle.twin_worlds.proofs.world.total.Goals as goal

pub sum_of_readings-requires-clause-meters : goal.sum_of_readings-requires-clause-meters
sum_of_readings-requires-clause-meters g c =
    let b = c.args.world.now.book.now in
    subst (λ p. are_below (size p.groups c.args.group) c.outcome-survivors.result.survivors ≡ true) (ap (λ p. p.plan) c.requires.world.presence)
    (ap (are_below (size b.presence.plan.groups c.args.group)) (ap (λ o. o.survivors) c.outcome-survivors.ensures.outcome) ∙ survivors-below (shape_of b) c.args.group c.args.round (past b))

pub returns : goal.returns
returns g c =
    let x = c.args.world.now.known.readings.now in
    let sum = c.sum_of_readings.ensures in
    total-is x c.args.world.now.book.now c.args.group c.args.round c.sum_of_readings.result sum.limits sum.table c.requires.world.presence
    (sum.sum ∙ ap (λ l. word (plain_sum (reading x.table) c.args.group c.args.round l)) (ap (λ o. o.survivors) c.outcome-survivors.ensures.outcome))
