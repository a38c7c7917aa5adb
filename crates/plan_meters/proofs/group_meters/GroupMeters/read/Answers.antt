use Rattle.std.proofs.Common.{◌≡◌, ◌+◌, ap, sym, subst, ◌∙◌, arith}
use Rattle.std.proofs.lemmas.List.{with_items_is}
use Rattle.group_plan.specs.Plans.{PlanView}
use Rattle.group_plan.specs.Tables.{presence_of}
use Rattle.plan_meters.specs.Meters.{AreOfGroup}
use Rattle.plan_meters.proofs.MetersLemmas.{own-over}
use Rattle.plan_meters.proofs.group_meters.GroupMeters.read.Goals as goal

pub returns-then-tick-rounds : goal.returns-then-tick-rounds
returns-then-tick-rounds c = λ past are.
    let p = presence_of c.args.readings.now in
    let read = c.read_group.ensures past (subst (AreOfGroup p past c.args.tick c.args.group) (sym c.deref_mut.ensures.value) are) in
    subst (AreOfGroup p past (c.args.tick + 1) c.args.group) (sym (with_items_is c.args.self.now.meters c.read_group.new.meters (omega (arith, c.read_group.auto.meters, c.deref_mut.ensures.len)))) read

pub returns-else-tick-rounds : goal.returns-else-tick-rounds
returns-else-tick-rounds c = λ past are.
    let p = presence_of c.args.readings.now in
    let rounds : c.rounds.result ≡ p.plan.rounds = c.rounds.ensures.rounds ∙ ap (λ (p : PlanView). p.rounds) c.plan.ensures.plan in
    let over = c.if-tick-rounds.false in
    own-over p past c.args.tick c.args.group c.args.self.now.meters.items (omega (arith, rounds, over)) are
