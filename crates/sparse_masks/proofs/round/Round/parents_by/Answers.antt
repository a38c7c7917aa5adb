use Rattle.std.proofs.Common.{◌++◌, ◌∷◌, [], ℕ, ap, ◌∙◌}
use Rattle.std.specs.Prelude.{Option}
use Rattle.sparse_masks.specs.Trees.{parent}
use Rattle.sparse_masks.specs.Rounds.{graph_of}
use Rattle.sparse_masks.proofs.RoundLemmas.{table_more}
use Rattle.sparse_masks.proofs.round.Round.parents_by.Goals as goal

pub loop-meter-preserved : goal.loop-meter-preserved
loop-meter-preserved c =
    let f : ℕ → Option ℕ = parent (graph_of c.args.self.now) in
    c.in_ok-push.ensures.items ∙ ap (λ (p : Option ℕ). c.loop-meter.parents.items ++ p ∷ []) c.parent.ensures ∙ table_more f c.loop-meter.meter c.loop-meter.parents.items c.loop-meter.invariant
