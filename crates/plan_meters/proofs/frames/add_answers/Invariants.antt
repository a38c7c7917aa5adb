use Rattle.std.proofs.Common.{◌≡◌, ◌++◌, map, filter}
use Rattle.missing_round.specs.Sets.{is_member}
use Rattle.group_plan.specs.Plans.{members}
use Rattle.plan_meters.specs.TickFrames.{answer_to}
use Rattle.plan_meters.proofs.frames.add_answers.Given as goal

abbrev pub invariant-loop-meter : goal.invariant-loop-meter
invariant-loop-meter g l =
    l.frames.items ++ map (answer_to (g.M.Masks.table l.known.masks.now) l.came l.group l.round) (filter (λ i. is_member i l.hearers.meters) l.meter-iterator)
    ≡ l.fn.frames.items ++ map (answer_to (g.M.Masks.table l.known.masks.now) l.came l.group l.round) (filter (λ i. is_member i l.hearers.meters) (members l.known.readings.now.plan.groups l.group l.round))
