use Rattle.std.proofs.Common.{◌≡◌, ◌++◌, ◌<◌, ap, ◌∙◌, subst, OnOk, arith, map, filter, is_some, List, ℕ}
use Rattle.group_plan.specs.Plans.{members}
use Rattle.group_plan.specs.Tables.{reading}
use Rattle.plan_meters.specs.TickFrames.{reading_frame}
use Rattle.plan_meters.proofs.GroupLemmas.{readings-now}
use Rattle.plan_meters.proofs.group.add_reading_frames.Goals as goal

pub returns : goal.returns
returns g c =
    let readings = c.args.known.now.readings.now in
    let group = c.args.group in
    let t = c.args.tick in
    let m = g.M.Masks.table c.args.known.now.masks.now in
    let below : t < readings.plan.rounds = let n : c.rounds.result ≡ readings.plan.rounds = c.rounds.ensures.rounds ∙ ap (λ p. p.rounds) c.plan.ensures.plan in let lt : t < c.rounds.result = c.if-tick-rounds.false in omega arith in
    let ms : c.members-members.result ≡ members readings.plan.groups group t = c.members-members.ensures ∙ ap (λ p. members p.groups group t) c.plan-2.ensures.plan in
    subst (λ l. OnOk c.add_readings.result (c.add_readings.new.frames.items ≡ c.args.frames.now.items ++ l))
    (ap (λ (l : List ℕ). map (reading_frame readings.plan.groups (reading readings.table) m group t) (filter (λ i. is_some (reading readings.table group t i)) l)) ms ∙ readings-now readings m group t below) c.add_readings.ensures
