use Rattle.std.specs.Prelude.{List}
use Rattle.meter_apart.specs.declared.answers.Noted.{Noted}
use Rattle.meter_apart.specs.Meter.{IsAfter}
use Rattle.apart_roles.proofs.RunLemmas.{HasAnswered}
use Rattle.apart_roles.proofs.meter_run.run_meter.Given as goal

abbrev pub invariant-loop-turn : goal.invariant-loop-turn
invariant-loop-turn g l = (journal : List Noted) → IsAfter journal l.fn.meter → HasAnswered l.fn.meter journal (g.W.Wire.view l.fn.wire) l._turn (g.W.Wire.view l.wire) l.meter
