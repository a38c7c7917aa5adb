use Rattle.std.proofs.Common.{◌≡◌, ◌<◌, ◌^◌, arith, length}
use Rattle.rtrb.specs.Ring.{sent}
use Rattle.tick_run.specs.Runs.{told_by}
use Rattle.tick_run.proofs.RunLemmas.{makes-none, makes-more, has-left, none-left}
use Rattle.command_files.proofs.AheadLemmas.{handed-none, handed-tick, same_producer}
use Rattle.command_files.proofs.leading.lead.Goals as goal

pub loop-init : goal.loop-init
loop-init g c = record {
  makes = makes-none c.args.run;
  met = λ opening met. met;
  room = c.requires.room;
  ring = search;
  handed = handed-none c.args.first (told_by c.args.run) (sent c.args.parts.now.ring) c.requires.none c.requires.first;
}

pub tick-requires-clause-left : goal.tick-requires-clause-left
tick-requires-clause-left g c κs within = has-left c.loop.counter c.ticks_left-end.result c.args.run c.loop.run c.loop.invariant.makes c.ticks_left-end.ensures c.loop-test.true

pub hand_over-requires-clause-handed : goal.hand_over-requires-clause-handed
hand_over-requires-clause-handed g c κs within =
    (handed-tick c.args.first c.loop.handed c.loop.run _ (sent c.loop.parts.ring) c.in_ok-run.ensures.makes c.loop.invariant.handed).within

pub loop-preserved : goal.loop-preserved
loop-preserved g c = record {
  makes = makes-more c.loop.counter c.args.run c.loop.run _ c.loop.invariant.makes c.in_ok-run.ensures.makes;
  met = λ opening met. c.in_ok-run.ensures.met opening (c.loop.invariant.met opening met);
  room = c.tick.ensures.room;
  ring = same_producer c.args.parts.now.ring c.loop.parts.ring c.hand_over.new.parts.ring c.loop.invariant.ring c.hand_over.ensures.ring;
  handed = c.in_ok-handed.ensures.handed c.args.first (handed-tick c.args.first c.loop.handed c.loop.run _ (sent c.loop.parts.ring) c.in_ok-run.ensures.makes c.loop.invariant.handed);
}

pub returns-clause-leads : goal.returns-clause-leads
returns-clause-leads g c =
    let at : c.loop.counter ≡ c.ticks_left-end.result = omega (arith, c.loop-test.false, c.loop.auto.counter-end) in
    let s = c.loop.invariant in
    let few : length c.loop.run.entries < 2 ^ 64 = omega (arith, c.len-entries.ensures, c.len-entries.type_inv) in
    record {
      over = none-left c.loop.counter c.ticks_left-end.result c.args.run c.loop.run s.makes c.ticks_left-end.ensures at;
      makes = record { count = c.loop.counter; makes = s.makes };
      met = s.met;
      next = s.handed.next;
      few = few;
    }
