use Rattle.head_end.specs.Lines.{again_of}
use Rattle.head_end.proofs.LineLemmas.{lists_more}
use Rattle.head_end.proofs.head.HeadEnd.add_again_in.Goals as goal

pub loop-group-preserved : goal.loop-group-preserved
loop-group-preserved c = λ journal after.
    lists_more (again_of c.args.self.now.plan journal c.args.round) c.loop-group.group c.args.lines.now.items c.loop-group.lines.items c.add_again.new.lines.items (c.loop-group.invariant journal after) (c.in_ok-add_again.ensures journal after)
