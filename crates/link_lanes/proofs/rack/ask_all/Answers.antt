use Rattle.std.proofs.Common.{arith}
use Rattle.link_lanes.proofs.AskLemmas.{asked_none, asked_more, asked_all, asked_bound}
use Rattle.link_lanes.proofs.rack.ask_all.Goals as goal

pub loop-at-init : goal.loop-at-init
loop-at-init g c = asked_none _ _ _ _ _ _ c.once-fate.ensures

pub ask-fate-requires : goal.ask-fate-requires
ask-fate-requires g c = omega (arith, asked_bound _ _ _ _ _ _ _ _ c.index_mut.result.now c.loop-at.invariant (omega arith) _ c.index_mut.ensures.value c.requires)

pub loop-at-preserved : goal.loop-at-preserved
loop-at-preserved g c = asked_more _ _ _ _ _ _ _ _ _ c.loop-at.invariant (omega arith) _ _ c.index_mut.ensures.value c.ask-fate.ensures.after c.ask-fate.ensures.fate

pub returns-clause-fate : goal.returns-clause-fate
returns-clause-fate g c = (asked_all _ _ _ _ _ _ _ _ c.loop-at.invariant (omega arith)).0

pub returns-clause-after : goal.returns-clause-after
returns-clause-after g c = (asked_all _ _ _ _ _ _ _ _ c.loop-at.invariant (omega arith)).1
