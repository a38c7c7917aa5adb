use Rattle.std.proofs.Common.{◌≡◌}
use Rattle.std.specs.List.{list_any}
use Rattle.missing_round.specs.Sets.{is_member}
use Rattle.sparse_masks.proofs.round.meets.Given as goal

abbrev pub invariant-loop-meter : goal.invariant-loop-meter
invariant-loop-meter l = list_any (λ i. is_member i l.set) l.meter-iterator ≡ list_any (λ i. is_member i l.set) l.fn.meters
