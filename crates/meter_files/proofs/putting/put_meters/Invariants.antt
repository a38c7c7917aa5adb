use Rattle.std.proofs.Common.{◌≡◌, ◌≤◌}
use Rattle.pair_keys.specs.Keys.{table_of}
use Rattle.desk_outside.specs.Desk.{after_steps}
use Rattle.meter_files.specs.Putting.{files_below}
use Rattle.meter_files.proofs.putting.put_meters.Given as goal

-- the files of the meters so far are put
abbrev pub invariant-loop-meter : goal.invariant-loop-meter
invariant-loop-meter g l = record {
  put : g.D.Desk.view l.desk ≡ after_steps (g.D.Desk.view l.fn.desk) (files_below (table_of l.keys) l.group l.prefix l.meter);
  later : g.D.Desk.faults l.fn.desk ≤ g.D.Desk.faults l.desk;
}
