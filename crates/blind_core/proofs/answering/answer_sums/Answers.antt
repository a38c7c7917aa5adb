use Rattle.std.proofs.Common.{◌∙◌}
use Rattle.blind_core.proofs.AnswerLoops.{first-is_apart, all_shared_next, all_shared_begins}
use Rattle.blind_core.proofs.answering.answer_sums.Goals as goal

pub loop-other-init : goal.loop-other-init
loop-other-init g c =
    all_shared_begins _ _ _ _ _ _ _ (c.into_iter-other-iterator.ensures.into_iter_gives ∙ c.members-other-items.ensures.members) c.requires.apart c.requires.missing c.owns-sums.ensures

pub add_shares-sums-requires-clause-meters : goal.add_shares-sums-requires-clause-meters
add_shares-sums-requires-clause-meters g c =
    first-is_apart (g.M.Masks.plan c.args.masks.now) c.args.group c.args.round c.args.meters.now c.loop-other.other-iterator c.next.new.self c.in-Some.other c.in-Some.ensures.steps c.loop-other.invariant.apart c.requires.meters

pub loop-other-preserved : goal.loop-other-preserved
loop-other-preserved g c =
    all_shared_next _ _ _ _ _ _ _ _ _ _ c.in-Some.ensures.steps c.loop-other.invariant c.add_shares-sums.ensures
