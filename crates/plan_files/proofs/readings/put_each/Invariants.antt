use Rattle.plan_files.specs.RegisterParts.{PutsFirst}
use Rattle.plan_files.proofs.readings.put_each.Given as goal

-- the tables so far have their reading
abbrev pub invariant-loop-register : goal.invariant-loop-register
invariant-loop-register l = PutsFirst l.plan l.register l.fn.tables l.group l.round l.meter l.values l.tables
