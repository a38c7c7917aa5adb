use Rattle.std.proofs.Common.{◌≡◌, ap, arith}
use Rattle.tick_run.proofs.RunLemmas.{makes-none, makes-more, has-left, none-left}
use Rattle.cut_resume.proofs.HeardLemmas.{heard_more}
use Rattle.cut_resume.proofs.heard.lead.Goals as goal

pub loop-init : goal.loop-init
loop-init g c = record { makes = makes-none c.args.run; met = λ first met. met; room = c.requires.room; heard = c.requires.heard }

pub tick-requires-clause-left : goal.tick-requires-clause-left
tick-requires-clause-left g c κs within = has-left c.loop.counter c.ticks_left-end.result c.args.run c.loop.run c.loop.invariant.makes c.ticks_left-end.ensures c.loop-test.true

pub hear-requires-clause-heard : goal.hear-requires-clause-heard
hear-requires-clause-heard g c κs within = heard_more c.args.cut.now.entries 1 c.loop.run _ c.loop.heard c.in_ok-run.ensures.makes c.loop.invariant.heard

pub loop-preserved : goal.loop-preserved
loop-preserved g c = record {
  makes = makes-more c.loop.counter c.args.run c.loop.run _ c.loop.invariant.makes c.in_ok-run.ensures.makes;
  met = λ first met. c.in_ok-run.ensures.met first (c.loop.invariant.met first met);
  room = c.tick.ensures.room;
  heard = c.in_ok-heard.ensures;
}

pub returns-clause-over : goal.returns-clause-over
returns-clause-over g c =
    let at : c.loop.counter ≡ c.ticks_left-end.result = omega (arith, c.loop-test.false, c.loop.auto.counter-end) in
    none-left c.loop.counter c.ticks_left-end.result c.args.run c.loop.run c.loop.invariant.makes c.ticks_left-end.ensures at

pub returns-clause-same : goal.returns-clause-same
returns-clause-same g c = (ap (λ v. v.readings) c.loop.invariant.makes.is, ap (λ v. v.masks) c.loop.invariant.makes.is)
