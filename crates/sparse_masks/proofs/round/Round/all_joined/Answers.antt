use Rattle.std.proofs.Common.{◌≡◌, ◌++◌, ◌∷◌, [], List, ℕ, map, ap, ◌∙◌, arith}
use Rattle.std.specs.List.{range_with_len}
use Rattle.sparse_masks.specs.Trees.{joined_to}
use Rattle.sparse_masks.specs.Rounds.{graph_of}
use Rattle.sparse_masks.proofs.RoundLemmas.{table_more}
use Rattle.sparse_masks.proofs.round.Round.all_joined.Goals as goal

pub loop-meter-preserved : goal.loop-meter-preserved
loop-meter-preserved c =
    let f : ℕ → List ℕ = joined_to (graph_of c.args.self.now) in
    c.in_ok-push.ensures.items ∙ ap (λ (s : List ℕ). c.loop-meter.sets.items ++ s ∷ []) c.joined_to.ensures ∙ table_more f c.loop-meter.meter c.loop-meter.sets.items c.loop-meter.invariant

pub returns : goal.returns
returns c =
    let test = c.loop-meter-test.false in
    let end = c.loop-meter.auto.meter-end in
    let all : c.loop-meter.meter ≡ c.args.self.now.meters = omega (arith, test, end) in
    c.loop-meter.invariant ∙ ap (λ n. map (joined_to (graph_of c.args.self.now)) (range_with_len 0 n)) all
