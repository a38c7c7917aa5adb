use Rattle.std.proofs.Common.{◌≡◌}
use Rattle.meter_apart.specs.Keys.{has_key, is_complete}
use Rattle.meter_apart.proofs.KeyLemmas.{rest_passes}
use Rattle.meter_apart.proofs.keys.is_complete.Given as goal

-- the keys so far are there
abbrev pub invariant-loop-other : goal.invariant-loop-other
invariant-loop-other l = is_complete l.meter l.meters l.pairs ≡ rest_passes (has_key l.meter l.pairs) l.other l.meters
