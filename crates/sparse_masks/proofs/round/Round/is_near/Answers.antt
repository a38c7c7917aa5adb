use Rattle.std.proofs.Common.{◌||◌, sym, ap, ◌∙◌, arith}
use Rattle.std.specs.List.{list_any}
use Rattle.missing_round.specs.Sets.{is_member}
use Rattle.sparse_masks.specs.Trees.{joined_to, touches}
use Rattle.sparse_masks.specs.Rounds.{graph_of}
use Rattle.sparse_masks.proofs.RoundLemmas.{table_at, table_long}
use Rattle.sparse_masks.proofs.round.Round.is_near.Goals as goal

pub bounds-joined-meter : goal.bounds-joined-meter
bounds-joined-meter c =
    let r = c.args.self.now in
    let long = table_long (joined_to (graph_of r)) r.meters c.args.joined.now c.requires.joined in
    let meter = c.requires.meter in
    omega (arith, long, meter)

pub returns-else-has : goal.returns-else-has
returns-else-has c =
    let r = c.args.self.now in
    let set = c.args.set in
    let at = table_at (joined_to (graph_of r)) r.meters c.args.meter c.args.joined.now c.index-joined-meter.result c.requires.joined c.requires.meter in
    c.meets.ensures ∙ ap (list_any (λ i. is_member i set)) (c.index-joined-meter.is ∙ at)
    ∙ ap (λ b. b || touches (graph_of r) set c.args.meter) (sym c.if-has.false ∙ c.has.ensures)
