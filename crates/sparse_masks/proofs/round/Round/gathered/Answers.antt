use Rattle.std.proofs.Common.{◌≡◌, ℕ, List, true, length, sym, subst}
use Rattle.std.specs.Prelude.{nat_lt}
use Rattle.std.specs.List.{list_all}
use Rattle.sparse_masks.specs.Trees.{passes}
use Rattle.sparse_masks.specs.Rounds.{graph_of}
use Rattle.sparse_masks.proofs.DeltaLemmas.{passing-below}
use Rattle.sparse_masks.proofs.round.Round.gathered.Goals as goal

pub sum_answered-requires : goal.sum_answered-requires
sum_answered-requires c =
    let r = c.args.self.now in
    subst (λ (l : List ℕ). list_all (λ i. nat_lt i (length c.args.deltas.now)) l ≡ true) (sym c.passing.ensures)
    (passing-below r c.requires.round (passes (graph_of r) (length r.survivors) c.args.through) (length c.args.deltas.now) c.requires.deltas)
