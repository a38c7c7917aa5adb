use Rattle.std.proofs.Common.{[]}
use Rattle.std.specs.Prelude.{Some}
use Rattle.head_end.specs.Lines.{by_groups, again_of}
use Rattle.head_end.proofs.LineLemmas.{lists_more}
use Rattle.head_end.proofs.head.HeadEnd.again.Goals as goal

pub loop-round-preserved : goal.loop-round-preserved
loop-round-preserved c = λ journal after.
    lists_more (λ r. by_groups c.args.self.now.plan (again_of c.args.self.now.plan journal) (Some r)) c.loop-round.round [] c.loop-round.lines.items c.add_again_in.new.lines.items
    (c.loop-round.invariant journal after) (c.in_ok-add_again_in.ensures journal after)
