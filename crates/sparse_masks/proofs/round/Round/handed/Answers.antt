use Rattle.std.proofs.Common.{◌∙◌, sym, arith}
use Rattle.std.specs.Prelude.{None}
use Rattle.sparse_masks.specs.Trees.{parent, gathered}
use Rattle.sparse_masks.specs.Rounds.{graph_of}
use Rattle.sparse_masks.specs.TreeParts.{delta_in}
use Rattle.sparse_masks.proofs.RoundLemmas.{table_at, table_long}
use Rattle.sparse_masks.proofs.DeltaLemmas.{handed-is, handed-other, handed-none}
use Rattle.sparse_masks.proofs.round.Round.handed.Goals as goal

pub bounds-parents-from : goal.bounds-parents-from
bounds-parents-from c =
    let r = c.args.self.now in
    let long = table_long (parent (graph_of r)) r.meters c.args.parents.now c.requires.parents in
    let from = c.requires.from in
    omega (arith, long, from)

pub returns-in-Some : goal.returns-in-Some
returns-in-Some c =
    let r = c.args.self.now in
    let d = delta_in c.args.deltas.now in
    c.gathered.ensures ∙ sym (handed-is (parent (graph_of r) c.args.from) c.in-Some.parent c.args.to (gathered (graph_of r) d c.args.from) (sym (table_at (parent (graph_of r)) r.meters c.args.from c.args.parents.now None c.requires.parents c.requires.from) ∙ c.in-Some.is) c.if-parent-to.true)

pub returns-in_default : goal.returns-in_default
returns-in_default c =
    let r = c.args.self.now in
    let d = delta_in c.args.deltas.now in
    handed-other (parent (graph_of r) c.args.from) c.in-Some.parent c.args.to (gathered (graph_of r) d c.args.from) (sym (table_at (parent (graph_of r)) r.meters c.args.from c.args.parents.now None c.requires.parents c.requires.from) ∙ c.in-Some.is) c.if-parent-to.false

pub returns-in_default-2 : goal.returns-in_default-2
returns-in_default-2 c =
    let r = c.args.self.now in
    let d = delta_in c.args.deltas.now in
    handed-none (parent (graph_of r) c.args.from) c.args.to (gathered (graph_of r) d c.args.from) (sym (table_at (parent (graph_of r)) r.meters c.args.from c.args.parents.now None c.requires.parents c.requires.from) ∙ c.in_default.is)
