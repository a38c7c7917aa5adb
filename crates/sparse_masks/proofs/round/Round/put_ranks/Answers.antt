use Rattle.std.proofs.Common.{sym, ap, ◌∙◌, arith}
use Rattle.std.proofs.lemmas.Slice.Eq.{bytes_eq-Decides}
use Rattle.missing_round.specs.Sets.{is_member}
use Rattle.sparse_masks.specs.Rounds.{graph_of}
use Rattle.sparse_masks.proofs.ReachLemmas.{around-members}
use Rattle.sparse_masks.proofs.RoundLemmas.{members-below}
use Rattle.sparse_masks.proofs.RankLemmas.{next-within, steps_begin, steps_more, steps_stop}
use Rattle.sparse_masks.proofs.round.Round.put_ranks.Goals as goal

pub put_steps-requires : goal.put_steps-requires
put_steps-requires c =
    members-below c.args.self.now c.requires.round _ c.alone-reached.result c.requires.long
    (λ i h. around-members (graph_of c.args.self.now) c.args.from 0 i (ap (is_member i) (sym c.alone-reached.ensures) ∙ h))

pub loop-steps-init : goal.loop-steps-init
loop-steps-init c = steps_begin (graph_of c.args.self.now) c.args.from c.alone-reached.result c.args.ranks.now c.put_steps.new.ranks c.alone-reached.ensures c.put_steps.ensures.long c.put_steps.ensures.each

pub returns-then-eq-clause-each : goal.returns-then-eq-clause-each
returns-then-eq-clause-each c =
    let len = c.len-steps-end.ensures in
    let test = c.loop-steps-test.true in
    steps_stop (graph_of c.args.self.now) c.args.from c.loop-steps.steps c.loop-steps.reached c.args.ranks.now c.loop-steps.ranks (omega (arith, len, test))
    (sym c.widened-wider.ensures ∙ (bytes_eq-Decides c.widened-wider.result c.loop-steps.reached).0 (sym c.eq.ensures ∙ c.if-eq.true)) c.loop-steps.invariant

pub put_steps-requires-in-loop-steps : goal.put_steps-requires-in-loop-steps
put_steps-requires-in-loop-steps c =
    members-below c.args.self.now c.requires.round _ c.minus.result (c.loop-steps.invariant.long ∙ c.requires.long)
    (next-within (graph_of c.args.self.now) c.args.from c.loop-steps.steps c.loop-steps.reached c.widened-wider.result c.minus.result c.loop-steps.invariant.is c.widened-wider.ensures c.minus.ensures)

pub loop-steps-preserved : goal.loop-steps-preserved
loop-steps-preserved c =
    let len = c.len-steps-end.ensures in
    let test = c.loop-steps-test.true in
    steps_more (graph_of c.args.self.now) c.args.from c.loop-steps.steps c.loop-steps.reached c.widened-wider.result c.minus.result c.args.ranks.now c.loop-steps.ranks c.put_steps-in-loop-steps.new.ranks
    (omega (arith, len, test)) c.widened-wider.ensures c.minus.ensures c.put_steps-in-loop-steps.ensures.long c.put_steps-in-loop-steps.ensures.each c.loop-steps.invariant
