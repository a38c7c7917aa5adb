use Rattle.std.proofs.Common.{[], sym, ap, ◌∙◌, arith}
use Rattle.std.proofs.lemmas.List.{get_or_default}
use Rattle.missing_round.specs.Sets.{is_member}
use Rattle.mask_graphs.proofs.ListFacts.{member_head}
use Rattle.sparse_masks.proofs.RoundLemmas.{survivor-below}
use Rattle.sparse_masks.proofs.RankLemmas.{ranks_begin, ranks_pass, ranks_put}
use Rattle.sparse_masks.proofs.round.Round.fill_ranks.Goals as goal

pub loop-meter-init : goal.loop-meter-init
loop-meter-init c =
    ranks_begin c.args.self.now c.args.ranks.now c.into_iter-meter-iterator.result (c.into_iter-meter-iterator.ensures.into_iter_gives ∙ c.members-meter-items.ensures.members) c.requires.long

pub bounds-components-meter : goal.bounds-components-meter
bounds-components-meter c =
    let x = c.in-Some.meter in
    let low = survivor-below c.args.self.now c.requires.round x (c.loop-meter.invariant.inside x (ap (is_member x) c.in-Some.ensures.steps ∙ member_head x c.next.new.self)) in
    let long = c.requires.components.0 in
    omega (arith, low, long)

pub root-requires : goal.root-requires
root-requires c =
    let x = c.in-Some.meter in
    let low = survivor-below c.args.self.now c.requires.round x (c.loop-meter.invariant.inside x (ap (is_member x) c.in-Some.ensures.steps ∙ member_head x c.next.new.self)) in
    let long = c.requires.components.0 in
    c.index-components-meter.is ∙ get_or_default _ x c.index-components-meter.result [] (omega (arith, low, long)) ∙ c.requires.components.1 x low

pub loop-meter-preserved-then-root-meter : goal.loop-meter-preserved-then-root-meter
loop-meter-preserved-then-root-meter c =
    ranks_put c.args.self.now c.loop-meter.ranks c.put_ranks.new.ranks c.loop-meter.meter-iterator c.next.new.self c.in-Some.meter c.in-Some.ensures.steps (sym c.root.ensures ∙ c.if-root-meter.true)
    c.put_ranks.ensures.long c.put_ranks.ensures.each c.loop-meter.invariant

pub loop-meter-preserved : goal.loop-meter-preserved
loop-meter-preserved c =
    ranks_pass c.args.self.now c.loop-meter.ranks c.loop-meter.meter-iterator c.next.new.self c.in-Some.meter c.in-Some.ensures.steps (λ e. c.if-root-meter.false (c.root.ensures ∙ e)) c.loop-meter.invariant
