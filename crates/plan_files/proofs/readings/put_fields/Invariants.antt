use Rattle.std.proofs.Common.{◌≡◌, ◌+◌, drop, length}
use Rattle.plan_files.specs.KeptRows.{fields_in}
use Rattle.plan_files.specs.Readings.{fields_fault}
use Rattle.plan_files.specs.RegisterParts.{FillsTables}
use Rattle.plan_files.specs.Registers.{register_of}
use Rattle.plan_files.proofs.readings.put_fields.Given as goal

-- the meters so far have their readings, and none of their fields has a fault
abbrev pub invariant-loop-meter : goal.invariant-loop-meter
invariant-loop-meter l = record {
  fault : fields_fault (register_of (length l.fn.tables) 0) l.plan l.group l.round 0 (drop 2 (fields_in l.row))
      ≡ fields_fault (register_of (length l.fn.tables) 0) l.plan l.group l.round l.meter (drop (2 + l.meter) (fields_in l.row));
  filled : FillsTables l.plan l.group l.round (fields_in l.row) l.meter l.fn.tables l.tables;
}
