use Rattle.std.proofs.Common.{arith}
use Rattle.load_maker.specs.Writing.{group_text}
use Rattle.load_maker.proofs.DrawLemmas.{flat_more, written_more}
use Rattle.load_maker.proofs.plan.put_groups.Goals as goal

pub loop-group-preserved : goal.loop-group-preserved
loop-group-preserved c = written_more _ _ _ _ _ _ c.loop-group.invariant c.in_ok-put_group.ensures (flat_more (group_text c.args.meters) 0 c.loop-group.group c.loop-group.group (omega arith))
