use Rattle.blind_core.proofs.WordLoops.{owns_next}
use Rattle.blind_core.proofs.group.put_owns.Goals as goal

pub loop-meter-preserved : goal.loop-meter-preserved
loop-meter-preserved g c =
    owns_next ((g.M.Masks.table c.args.masks.now).own c.args.group c.args.round) c.args.members.now c.args.sums.now c.loop-meter.meter-iterator c.loop-meter.sums c.as_slice-words.result.now c.loop-meter.place
    c.in-Some.meter c.next.new.self c.loop-meter.invariant c.in-Some.ensures.steps
