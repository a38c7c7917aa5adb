use Rattle.std.proofs.Common.{◌≡◌, ℕ, List, true, length, sym, subst}
use Rattle.std.specs.Prelude.{nat_lt}
use Rattle.std.specs.List.{list_all}
use Rattle.sparse_masks.proofs.RoundLemmas.{component-below}
use Rattle.sparse_masks.proofs.round.Round.own_move.Goals as goal

pub sum_answered-requires : goal.sum_answered-requires
sum_answered-requires c =
    subst (λ (l : List ℕ). list_all (λ i. nat_lt i (length c.args.deltas.now)) l ≡ true) (sym c.requires.members)
    (component-below c.args.self.now c.requires.round (length c.args.deltas.now) c.args.meter c.requires.deltas)
