use Rattle.std.proofs.Common.{◌-◌, refl, ap, ◌∙◌, arith}
use Rattle.group_plan.specs.Tables.{reading}
use Rattle.billing_read.proofs.BillLemmas.{bill_none, bill_more, bill_few, bill_small, bill_whole, rounds_done}
use Rattle.billing_read.proofs.bills.bill_of.Goals as goal

pub loop-round-init : goal.loop-round-init
loop-round-init c = record {
  bill = bill_none (reading c.args.readings.now.table) c.args.group c.args.meter c.args.from;
  none = λ _. refl;
  few = omega arith;
  small = omega arith;
}

pub loop-round-preserved : goal.loop-round-preserved
loop-round-preserved c =
    let x = reading c.args.readings.now.table in
    let before = c.loop-round.invariant in
    record {
      bill = bill_more x c.args.group c.args.meter c.args.from c.loop-round.round c.loop-round.bill c.add.new.self c.get.result c.loop-round.auto.round c.get.ensures.reading before.bill c.add.ensures;
      none = λ behind. absurd (omega (arith, behind, c.loop-round-test.true, c.loop-round.auto.round));
      few = bill_few c.loop-round.bill c.add.new.self c.get.result c.loop-round.round before.few c.add.ensures;
      small = bill_small c.loop-round.bill c.add.new.self c.get.result c.loop-round.round before.small c.get.ensures.small c.add.ensures;
    }

pub returns : goal.returns
returns c =
    let plan = c.args.readings.now.plan in
    let rounds = c.rounds.ensures.rounds ∙ ap (λ p. p.rounds) c.plan.ensures.plan in
    c.loop-round.invariant.bill
    ∙ bill_whole plan c.args.from c.args.until (reading c.args.readings.now.table) c.args.group c.args.meter c.loop-round.round c.rounds.result c.loop-round.auto.round rounds
    (rounds_done c.args.from c.loop-round.round c.min-round-end.result c.loop-round-test.false c.loop-round.auto.round-end c.loop-round.invariant.none ∙ ap (λ n. n - c.args.from) c.min-round-end.ensures)
