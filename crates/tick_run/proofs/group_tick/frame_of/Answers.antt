use Rattle.std.proofs.Common.{sym}
use Rattle.plan_meters.proofs.SpellingLemmas.{frame_in-is}
use Rattle.tick_run.proofs.group_tick.frame_of.Goals as goal

pub returns : goal.returns
returns c =
    let read = c.in-Ok.ensures.decodes in
    sym (frame_in-is c.args.bytes.now c.in-Ok.frame read.0 read.1)
