use Rattle.std.proofs.Common.{sym, ◌∙◌}
use Rattle.head_end.proofs.CallLemmas.{announced_some}
use Rattle.head_end.proofs.head.HeadEnd.announced.Goals as goal

pub returns : goal.returns
returns c = λ journal after.
    announced_some c.args.self.now.plan c.args.self.now.ticks journal c.args.group c.args.round c.round_now.result c.survivors-survivors.result c.members.result c.minus.result c.len.result c.floor_of.result
    (c.round_now.ensures.now journal after) (sym c.is_closed.ensures ∙ c.if-not-is_closed.false) after.ticks_are c.survivors-survivors.ensures c.len.ensures c.floor_of.ensures.floor c.if-len-floor_of.false c.members.ensures c.minus.ensures
