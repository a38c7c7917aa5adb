use Rattle.std.proofs.Common.{◌<◌, sym, ◌∙◌, arith, length}
use Rattle.std.specs.Prelude.{None}
use Rattle.sparse_masks.specs.Trees.{parent}
use Rattle.sparse_masks.specs.Rounds.{graph_of}
use Rattle.sparse_masks.proofs.RoundLemmas.{table_at, table_long}
use Rattle.sparse_masks.proofs.TreeLoops.{pass_on, pass_root}
use Rattle.sparse_masks.proofs.round.Round.passes.Goals as goal

pub bounds-parents-at : goal.bounds-parents-at
bounds-parents-at c =
    let r = c.args.self.now in
    let long = table_long (parent (graph_of r)) r.meters c.args.parents.now c.requires.parents in
    let below = c.loop-steps.invariant.below in
    omega (arith, long, below)

pub returns-in-None : goal.returns-in-None
returns-in-None c =
    let r = c.args.self.now in
    let len = c.len-steps-end.ensures in
    let test = c.loop-steps-test.true in
    let few : c.loop-steps._steps < length r.survivors = omega (arith, len, test) in
    pass_root r c.args.through c.args.from c.loop-steps._steps c.loop-steps.at few c.if-at-through.false (sym (table_at (parent (graph_of r)) r.meters c.loop-steps.at c.args.parents.now None c.requires.parents c.loop-steps.invariant.below) ∙ c.in-None.is) c.loop-steps.invariant

pub loop-steps-preserved : goal.loop-steps-preserved
loop-steps-preserved c =
    let r = c.args.self.now in
    let len = c.len-steps-end.ensures in
    let test = c.loop-steps-test.true in
    let few : c.loop-steps._steps < length r.survivors = omega (arith, len, test) in
    pass_on r c.requires.round c.args.through c.args.from c.loop-steps._steps c.loop-steps.at c.in-Some.next few c.if-at-through.false (sym (table_at (parent (graph_of r)) r.meters c.loop-steps.at c.args.parents.now None c.requires.parents c.loop-steps.invariant.below) ∙ c.in-Some.is) c.loop-steps.invariant
