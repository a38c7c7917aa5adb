use Rattle.std.proofs.Common.{refl, arith}
use Rattle.head_end.proofs.StateLemmas.{state_passed}
use Rattle.head_end.proofs.CallLemmas.{passes}
use Rattle.head_end.proofs.head.HeadEnd.pass.Goals as goal

pub returns : goal.returns
returns c = λ journal after. record {
  plan = refl;
  passes_is = passes c.args.self.now journal after (omega (arith, c.if-self-rounds.false, c.rounds.ensures.rounds, c.w1.ensures, c.w2.ensures));
  after = state_passed c.args.self.now.plan c.args.self.now.ticks c.args.self.now.rounds.items c.args.self.now.readings.items c.args.self.now.answers.items journal after;
}
