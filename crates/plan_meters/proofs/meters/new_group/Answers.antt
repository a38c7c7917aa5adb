use Rattle.std.proofs.Common.{◌≡◌, ◌+◌, ◌<◌, ◌≤◌, ap, sym, subst, ◌∙◌, List, ℕ, zero-add, arith}
use Rattle.std.specs.List.{AllZip, range_with_len}
use Rattle.group_plan.specs.Plans.{PlanView, floor_of, size}
use Rattle.group_plan.specs.Tables.{presence_of}
use Rattle.meter_core.specs.Meters.{MeterView, new_meter}
use Rattle.event_schedule.specs.Schedule.{shape_of_presence}
use Rattle.plan_meters.specs.Meters.{IsMeterOf}
use Rattle.plan_meters.proofs.RangeLemmas.{range_push}
use Rattle.plan_meters.proofs.MeterLemmas.{new-is}
use Rattle.plan_meters.proofs.meters.new_group.Goals as goal

pub loop-meter-preserved : goal.loop-meter-preserved
loop-meter-preserved c =
    let g = c.args.group in
    let k = c.loop-meter.meter in
    let end : c.meters-meter-end.result ≡ size c.args.readings.now.plan.groups g = c.meters-meter-end.ensures.meters ∙ ap (λ (p : PlanView). size p.groups g) c.plan-plan.ensures.plan in
    let lt : k < c.meters-meter-end.result = c.loop-meter-test.true in
    record {
      to = omega (arith, lt, end);
      are = λ past.
          let p = presence_of c.args.readings.now in
          let floor = c.floor_of-floor.ensures.floor ∙ ap (λ p. floor_of p.groups g) c.plan-plan.ensures.plan in
          let rounds = c.rounds-rounds.ensures.rounds ∙ ap (λ p. p.rounds) c.plan-plan.ensures.plan in
          let new = c.in_ok-new.ensures ∙ ap (new_meter k c.floor_of-floor.result) rounds in
          subst (λ (l : List MeterView). AllZip (IsMeterOf p past 0 g) (range_with_len 0 (k + 1)) l) (sym c.in_ok-push.ensures.items)
          (range_push (IsMeterOf p past 0 g) 0 k c.loop-meter.meters.items c.in_ok-new.field-0 (c.loop-meter.invariant.are past)
          (subst (λ (j : ℕ). IsMeterOf p past 0 g j c.in_ok-new.field-0) (sym (zero-add k)) (subst (IsMeterOf p past 0 g k) (sym new) (new-is (shape_of_presence p) p.plan.rounds past g k c.floor_of-floor.result floor))));
    }

pub returns : goal.returns
returns c = λ past.
    let p = presence_of c.args.readings.now in
    let g = c.args.group in
    let end : c.meters-meter-end.result ≡ size c.args.readings.now.plan.groups g = c.meters-meter-end.ensures.meters ∙ ap (λ (p : PlanView). size p.groups g) c.plan-plan.ensures.plan in
    let over : c.meters-meter-end.result ≤ c.loop-meter.meter = c.loop-meter-test.false in
    let at : c.loop-meter.meter ≡ size c.args.readings.now.plan.groups g = omega (arith, over, end, c.loop-meter.invariant.to) in
    subst (λ (n : ℕ). AllZip (IsMeterOf p past 0 g) (range_with_len 0 n) c.loop-meter.meters.items) at (c.loop-meter.invariant.are past)
