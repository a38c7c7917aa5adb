use Rattle.std.proofs.Common.{◌≡◌, ◌+◌, IsTrue, sum_by}
use Rattle.missing_round.specs.Words.{word}
use Rattle.ideal_masks.specs.Chains.{are_below, size_of, deltas_of}
use Rattle.ideal_masks.proofs.compared.Compared.sum_of_deltas.Given as goal

abbrev pub invariant-loop-meter : goal.invariant-loop-meter
invariant-loop-meter l =
    IsTrue (are_below (size_of l.self) l.meter-iterator)
    × (word (l.total + sum_by (deltas_of l.self) l.meter-iterator) ≡ word (sum_by (deltas_of l.self) l.fn.meters))
