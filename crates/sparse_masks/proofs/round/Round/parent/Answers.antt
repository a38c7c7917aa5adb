use Rattle.std.proofs.Common.{sym, ◌∙◌, arith}
use Rattle.sparse_masks.specs.Trees.{joined_to}
use Rattle.sparse_masks.specs.Rounds.{graph_of}
use Rattle.sparse_masks.proofs.RoundLemmas.{table_at, table_long}
use Rattle.sparse_masks.proofs.TreeLoops.{stranger-none}
use Rattle.sparse_masks.proofs.round.Round.parent.Goals as goal

pub bounds-joined-meter : goal.bounds-joined-meter
bounds-joined-meter c =
    let r = c.args.self.now in
    let long = table_long (joined_to (graph_of r)) r.meters c.args.joined.now c.requires.joined in
    let meter = c.requires.meter in
    omega (arith, long, meter)

pub survivor_parent-requires-clause-joined : goal.survivor_parent-requires-clause-joined
survivor_parent-requires-clause-joined c =
    let r = c.args.self.now in
    c.index-joined-meter.is ∙ table_at (joined_to (graph_of r)) r.meters c.args.meter c.args.joined.now c.index-joined-meter.result c.requires.joined c.requires.meter

pub returns-else-has : goal.returns-else-has
returns-else-has c = stranger-none (graph_of c.args.self.now) c.args.meter (sym c.has.ensures ∙ c.if-has.false)
