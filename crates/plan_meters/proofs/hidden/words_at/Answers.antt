use Rattle.std.proofs.Common.{◌≡◌, ◌*◌, ◌/◌, ◌%◌, ℕ, length, map, ap, ◌∙◌, subst, IfOk}
use Rattle.std.proofs.lemmas.List.{length-map}
use Rattle.group_plan.specs.NewPlans.{stated}
use Rattle.plan_meters.specs.Hidden.{HideRounds, rounds_from}
use Rattle.plan_meters.proofs.hidden.words_at.Goals as goal

pub returns : goal.returns
returns g c =
    let readings = c.args.readings.now in
    let place = c.args.place in
    let n : length c.groups-groups.result.now ≡ length readings.plan.groups = ap length (c.groups-groups.ensures.groups ∙ ap (λ p. map stated p.groups) c.plan.ensures.plan) ∙ length-map (readings.plan.groups) stated in
    let rounds : c.rounds.result ≡ readings.plan.rounds = c.rounds.ensures.rounds ∙ ap (λ p. p.rounds) c.plan-2.ensures.plan in
    let first = place / length c.groups-groups.result.now * 8 in
    let count : c.min-count.result ≡ rounds_from readings.plan.rounds first = c.min-count.ensures ∙ ap (λ k. rounds_from k first) rounds in
    subst (λ (k : ℕ). IfOk c.words_of_block.result (λ rows. HideRounds readings (g.M.Masks.table c.args.masks.now) (place % k) (place / k * 8) (rounds_from readings.plan.rounds (place / k * 8)) rows.items)) n
    (subst (λ (k : ℕ). IfOk c.words_of_block.result (λ rows. HideRounds readings (g.M.Masks.table c.args.masks.now) (place % length c.groups-groups.result.now) first k rows.items)) count c.words_of_block.ensures)
