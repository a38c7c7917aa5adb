use Rattle.std.proofs.Common.{length, sym, ◌∙◌}
use Rattle.sparse_masks.specs.Trees.{passes}
use Rattle.sparse_masks.specs.Rounds.{graph_of}
use Rattle.sparse_masks.proofs.RoundLemmas.{choice_begins, choice_within, choice_keeps, choice_drops}
use Rattle.sparse_masks.proofs.round.Round.passing.Goals as goal

pub loop-from-init : goal.loop-from-init
loop-from-init c =
    let r = c.args.self.now in
    choice_begins r (passes (graph_of r) (length r.survivors) c.args.through) c.into_iter-from-iterator.result c.requires.round
    (c.into_iter-from-iterator.ensures.into_iter_gives ∙ c.members-from-items.ensures.members) c.members-from-items.ensures.set

pub passes-requires-clause-from : goal.passes-requires-clause-from
passes-requires-clause-from c =
    let r = c.args.self.now in
    choice_within r (passes (graph_of r) (length r.survivors) c.args.through) c.loop-from.from-iterator c.next.new.self c.loop-from.passing c.in-Some.from c.in-Some.ensures.steps c.loop-from.invariant

pub loop-from-preserved-then-not-passes : goal.loop-from-preserved-then-not-passes
loop-from-preserved-then-not-passes c =
    let r = c.args.self.now in
    choice_drops r (passes (graph_of r) (length r.survivors) c.args.through) c.loop-from.from-iterator c.next.new.self c.loop-from.passing c.without-passing.result c.in-Some.from c.in-Some.ensures.steps
    (sym c.passes.ensures ∙ c.if-not-passes.true) c.without-passing.ensures c.loop-from.invariant

pub loop-from-preserved : goal.loop-from-preserved
loop-from-preserved c =
    let r = c.args.self.now in
    choice_keeps r (passes (graph_of r) (length r.survivors) c.args.through) c.loop-from.from-iterator c.next.new.self c.loop-from.passing c.in-Some.from c.in-Some.ensures.steps
    (sym c.passes.ensures ∙ c.if-not-passes.false) c.loop-from.invariant
