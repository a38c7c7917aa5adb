use Rattle.std.proofs.Common.{◌≡◌, ◌<◌, ◌≤◌, ◌+◌, ap, sym, subst, ◌∙◌, true, ℕ, length, arith}
use Rattle.std.specs.Prelude.{nat_lt}
use Rattle.std.proofs.lemmas.Bool.{and_from, lt-ltb}
use Rattle.missing_round.specs.Sets.{is_member as is_in}
use Rattle.group_plan.specs.Plans.{PlanView, size, members, is_member}
use Rattle.group_plan.specs.Tables.{presence_of}
use Rattle.meter_core.specs.Meters.{MeterView}
use Rattle.event_schedule.proofs.MemberLemmas.{is_member-below}
use Rattle.plan_meters.specs.Meters.{IsMeterOf}
use Rattle.plan_meters.proofs.RangeLemmas.{Upto, upto-none, upto-within, upto-at, upto-all}
use Rattle.plan_meters.proofs.ShapeLemmas.{present_is}
use Rattle.plan_meters.proofs.MetersLemmas.{member-in, group-marked, group-passed}
use Rattle.plan_meters.proofs.meters.read_group.Goals as goal
use Rattle.plan_meters.proofs.meters.read_group.Goals.{then-has_reading, else-has_reading}

pub loop-meter-init : goal.loop-meter-init
loop-meter-init c = λ past are.
    upto-none (λ t. IsMeterOf (presence_of c.args.readings.now) past t c.args.group) c.args.round (size c.args.readings.now.plan.groups c.args.group) c.args.meters.now are

pub has_reading-requires : goal.has_reading-requires
has_reading-requires c =
    let plan = c.args.readings.now.plan in
    let g = c.args.group in
    let k = c.loop-meter.meter in
    let end : c.meters-meter-end.result ≡ size plan.groups g = c.meters-meter-end.ensures.meters ∙ ap (λ (p : PlanView). size p.groups g) c.plan-2.ensures.plan in
    let below : k < size plan.groups g = let lt = c.loop-meter-test.true in omega arith in
    and_from (nat_lt c.args.round plan.rounds) (nat_lt k (size plan.groups g)) (lt-ltb c.args.round plan.rounds c.requires.round) (lt-ltb k (size plan.groups g) below)

pub bounds-meters-meter : goal.bounds-meters-meter
bounds-meters-meter c =
    let past = c.requires.meters.past in
    let p = presence_of c.args.readings.now in
    let plan = c.args.readings.now.plan in
    let g = c.args.group in
    let end = c.meters-meter-end.ensures.meters ∙ ap (λ (p : PlanView). size p.groups g) c.plan-2.ensures.plan in
    upto-within (λ t. IsMeterOf p past t g) c.args.round c.loop-meter.meter (size plan.groups g) c.meters-meter-end.result c.loop-meter.meters (c.loop-meter.invariant past c.requires.meters.are) end c.loop-meter-test.true

pub mark_read-requires-clause-round : goal.mark_read-requires-clause-round
mark_read-requires-clause-round c =
    let past = c.requires.meters.past in
    let p = presence_of c.args.readings.now in
    let plan = c.args.readings.now.plan in
    let g = c.args.group in
    let t = c.args.round in
    let k = c.loop-meter.meter in
    let so_far = c.loop-meter.invariant past c.requires.meters.are in
    let end = c.meters-meter-end.ensures.meters ∙ ap (λ (p : PlanView). size p.groups g) c.plan-2.ensures.plan in
    let within = upto-within (λ t. IsMeterOf p past t g) t k (size plan.groups g) c.meters-meter-end.result c.loop-meter.meters so_far end c.loop-meter-test.true in
    let is = upto-at (λ t. IsMeterOf p past t g) t k (size plan.groups g) c.loop-meter.meters c.index-meters-meter.result c.index-meters-meter.is within so_far in
    subst (λ (m : MeterView). t < length m.notes) c.index-meters-meter.is (omega (arith, c.requires.round, is.notes))

pub mark_read-requires-clause-member : goal.mark_read-requires-clause-member
mark_read-requires-clause-member c =
    let past = c.requires.meters.past in
    let p = presence_of c.args.readings.now in
    let plan = c.args.readings.now.plan in
    let g = c.args.group in
    let t = c.args.round in
    let k = c.loop-meter.meter in
    let so_far = c.loop-meter.invariant past c.requires.meters.are in
    let end = c.meters-meter-end.ensures.meters ∙ ap (λ (p : PlanView). size p.groups g) c.plan-2.ensures.plan in
    let within = upto-within (λ t. IsMeterOf p past t g) t k (size plan.groups g) c.meters-meter-end.result c.loop-meter.meters so_far end c.loop-meter-test.true in
    let is = upto-at (λ t. IsMeterOf p past t g) t k (size plan.groups g) c.loop-meter.meters c.index-meters-meter.result c.index-meters-meter.is within so_far in
    let member : is_member plan.groups g t k ≡ true = c.has_reading.ensures.member c.if-has_reading.true in
    ap (λ (i : ℕ). is_in i c.members-members.result) (sym (ap (λ (m : MeterView). m.meter) c.index-meters-meter.is) ∙ is.number)
    ∙ ap (is_in k) (c.members-members.ensures ∙ ap (λ (p : PlanView). members p.groups g t) c.plan.ensures.plan)
    ∙ member-in plan g t k (is_member-below plan.groups g t k member) member

pub loop-meter-preserved : goal.loop-meter-preserved
loop-meter-preserved c = λ past are.
    let readings = c.args.readings.now in
    let p = presence_of readings in
    let plan = readings.plan in
    let g = c.args.group in
    let t = c.args.round in
    let k = c.loop-meter.meter in
    let meters = c.loop-meter.meters in
    let so_far = c.loop-meter.invariant past are in
    let end = c.meters-meter-end.ensures.meters ∙ ap (λ (p : PlanView). size p.groups g) c.plan-2.ensures.plan in
    let within = upto-within (λ t. IsMeterOf p past t g) t k (size plan.groups g) c.meters-meter-end.result meters so_far end c.loop-meter-test.true in
    let set = c.members-members.ensures ∙ ap (λ (p : PlanView). members p.groups g t) c.plan.ensures.plan in
    let present = present_is readings g t k ∙ sym c.has_reading.ensures.present in
    elim c.if-has_reading.branch [
      | then-has_reading w ↦ subst (Upto (λ t. IsMeterOf p past t g) t (k + 1) (size plan.groups g)) (sym w.meters-is)
          (group-marked p past t g k meters w.index-meters-meter.result w.mark_read.new.self c.members-members.result c.requires.round (present ∙ w.if-has_reading.true) set w.index-meters-meter.is within w.mark_read.ensures so_far)
      | else-has_reading w ↦ subst (Upto (λ t. IsMeterOf p past t g) t (k + 1) (size plan.groups g)) (sym w.meters-is) (group-passed p past t g k meters (present ∙ w.if-has_reading.false) so_far)
    ]

pub returns : goal.returns
returns c = λ past are.
    let p = presence_of c.args.readings.now in
    let plan = c.args.readings.now.plan in
    let g = c.args.group in
    let end : c.meters-meter-end.result ≡ size plan.groups g = c.meters-meter-end.ensures.meters ∙ ap (λ (p : PlanView). size p.groups g) c.plan-2.ensures.plan in
    let over : c.meters-meter-end.result ≤ c.loop-meter.meter = c.loop-meter-test.false in
    upto-all (λ t. IsMeterOf p past t g) c.args.round c.loop-meter.meter (size plan.groups g) c.loop-meter.meters (omega arith) (c.loop-meter.invariant past are)
