use Rattle.std.proofs.Common.{arith}
use Rattle.audit_check.proofs.TotalLemmas.{sum_more, word_posted}
use Rattle.audit_check.proofs.totals.sum_of.Goals as goal

pub loop-meter-preserved : goal.loop-meter-preserved
loop-meter-preserved c = record {
  summed = sum_more _ c.loop-meter.sum c.add-sum.result c.word_or_zero.result c.in-Some.meter _ c.loop-meter.meter-iterator _ c.in-Some.ensures.steps (word_posted c.args.rounds.now _ c.posted.result c.word_or_zero.result c.posted.ensures c.word_or_zero.ensures) c.add-sum.ensures c.loop-meter.invariant.summed;
  small = let is = c.add-sum.ensures in omega (arith, is);
}
