use Rattle.std.proofs.Common.{◌∙◌, ◌-◌, sym, arith}
use Rattle.plan_files.proofs.RegisterLemmas.{numbers_cut, numbers_left, numbers_next, numbers_whole, numbers_wrong}
use Rattle.plan_files.proofs.row.read_numbers.Goals as goal

pub returns-in_default : goal.returns-in_default
returns-in_default c =
    numbers_cut c.args.count c.loop-done._done c.args.text.now c.loop-done.rest.now c.loop-done.numbers.items c.loop-done-test.true c.in_default.ensures c.loop-done.invariant.so_far

pub returns-in_default-read_number : goal.returns-in_default-read_number
returns-in_default-read_number c =
    numbers_wrong c.args.count (c.args.count - c.loop-done._done) c.args.text.now c.loop-done.rest.now c.loop-done.numbers.items c.in-Some.part.now _ c.in-Some.ensures.0
    (sym c.read_number.ensures.number ∙ c.in_default-read_number.is) c.loop-done.invariant.so_far

pub loop-done-preserved : goal.loop-done-preserved
loop-done-preserved c =
    let lt = c.loop-done-test.true in
    let long = c.loop-done.invariant.long in
    let pushed = c.push.ensures.len in
    record {
      turns = omega (arith, lt);
      long = omega (arith, long, pushed);
      so_far = numbers_next c.args.count c.loop-done._done c.in-Some-read_number.number c.args.text.now c.loop-done.rest.now c.loop-done.numbers.items c.in-Some.part.now c.in-Some.after.now c.push.new.self.items
          lt c.in-Some.ensures.0 (sym c.read_number.ensures.number ∙ c.in-Some-read_number.is) c.push.ensures.items c.loop-done.invariant.so_far;
    }

pub returns-in_default-read_number-2 : goal.returns-in_default-read_number-2
returns-in_default-read_number-2 c =
    let over = c.loop-done-test.false in
    numbers_left c.args.count c.loop-done._done c.args.text.now c.loop-done.rest.now c.loop-done.numbers.items c.loop-done.invariant.turns (omega (arith, over))
    (sym c.read_number-2.ensures.number ∙ c.in_default-read_number-2.is) c.loop-done.invariant.so_far

pub returns : goal.returns
returns c =
    let over = c.loop-done-test.false in
    let turns = c.loop-done.invariant.turns in
    let long = c.loop-done.invariant.long in
    let pushed = c.push-2.ensures.len in (
      numbers_whole c.args.count c.loop-done._done c.in-Some-read_number-2.number c.args.text.now c.loop-done.rest.now c.loop-done.numbers.items c.push-2.new.self.items turns (omega (arith, over))
          (sym c.read_number-2.ensures.number ∙ c.in-Some-read_number-2.is) c.push-2.ensures.items c.loop-done.invariant.so_far,
      omega (arith, over, turns, long, pushed),
    )
