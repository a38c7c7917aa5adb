use Rattle.std.proofs.Common.{sym, subst, ap, ◌∙◌}
use Rattle.group_plan.specs.Plans.{members as members_of}
use Rattle.rayon.proofs.ListFacts.{IfOk-then}
use Rattle.plan_meters.specs.TickFrames.{IsRow}
use Rattle.plan_meters.proofs.RowLemmas.{members-are_places, row-are_readings}
use Rattle.plan_meters.proofs.hidden.words_of_round.Goals as goal

pub masked_group-requires-clause-places : goal.masked_group-requires-clause-places
masked_group-requires-clause-places g c =
    let ms = c.members-members.ensures ∙ ap (λ p. members_of p.groups c.args.group c.args.round) c.plan.ensures.plan in
    rw (c.requires.masks, ms) (members-are_places c.args.readings.now.plan c.args.group c.args.round c.requires.round)

pub masked_group-requires-clause-readings : goal.masked_group-requires-clause-readings
masked_group-requires-clause-readings g c =
    let ms = c.members-members.ensures ∙ ap (λ p. members_of p.groups c.args.group c.args.round) c.plan.ensures.plan in
    let row : IsRow c.args.readings.now c.args.group c.args.round c.deref.result.now = subst (IsRow c.args.readings.now c.args.group c.args.round) (sym c.deref.ensures.value) c.in_ok-row.ensures in
    rw ms (row-are_readings c.args.readings.now c.args.group c.args.round c.deref.result.now c.plan.ensures.table row)

pub returns : goal.returns
returns g c =
    let ms = c.members-members.ensures ∙ ap (λ p. members_of p.groups c.args.group c.args.round) c.plan.ensures.plan in
    let row : IsRow c.args.readings.now c.args.group c.args.round c.deref.result.now = subst (IsRow c.args.readings.now c.args.group c.args.round) (sym c.deref.ensures.value) c.in_ok-row.ensures in
    IfOk-then c.masked_group.result _ _ c.masked_group.ensures (λ words are. record { row = c.deref.result.now; is = row; are = rw ms at are })
