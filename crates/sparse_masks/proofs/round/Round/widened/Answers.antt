use Rattle.std.proofs.Common.{◌||◌, sym, ◌∙◌}
use Rattle.missing_round.specs.Sets.{is_member}
use Rattle.sparse_masks.specs.Trees.{touches}
use Rattle.sparse_masks.specs.Rounds.{graph_of}
use Rattle.sparse_masks.proofs.RoundLemmas.{choice_begins, choice_within, choice_keeps, choice_drops}
use Rattle.sparse_masks.proofs.round.Round.widened.Goals as goal

pub loop-meter-init : goal.loop-meter-init
loop-meter-init c =
    choice_begins c.args.self.now (λ j. is_member j c.args.set || touches (graph_of c.args.self.now) c.args.set j) c.into_iter-meter-iterator.result c.requires.round
    (c.into_iter-meter-iterator.ensures.into_iter_gives ∙ c.members-meter-items.ensures.members) c.members-meter-items.ensures.set

pub is_near-requires-clause-meter : goal.is_near-requires-clause-meter
is_near-requires-clause-meter c =
    choice_within c.args.self.now (λ j. is_member j c.args.set || touches (graph_of c.args.self.now) c.args.set j) c.loop-meter.meter-iterator c.next.new.self c.loop-meter.wider c.in-Some.meter c.in-Some.ensures.steps c.loop-meter.invariant

pub loop-meter-preserved-then-not-is_near : goal.loop-meter-preserved-then-not-is_near
loop-meter-preserved-then-not-is_near c =
    choice_drops c.args.self.now (λ j. is_member j c.args.set || touches (graph_of c.args.self.now) c.args.set j) c.loop-meter.meter-iterator c.next.new.self c.loop-meter.wider c.without-wider.result c.in-Some.meter c.in-Some.ensures.steps
    (sym c.is_near.ensures ∙ c.if-not-is_near.true) c.without-wider.ensures c.loop-meter.invariant

pub loop-meter-preserved : goal.loop-meter-preserved
loop-meter-preserved c =
    choice_keeps c.args.self.now (λ j. is_member j c.args.set || touches (graph_of c.args.self.now) c.args.set j) c.loop-meter.meter-iterator c.next.new.self c.loop-meter.wider c.in-Some.meter c.in-Some.ensures.steps
    (sym c.is_near.ensures ∙ c.if-not-is_near.false) c.loop-meter.invariant
