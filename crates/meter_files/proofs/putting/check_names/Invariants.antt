use Rattle.std.proofs.Common.{◌≡◌, ◌≤◌}
use Rattle.std.specs.List.{All}
use Rattle.meter_files.specs.Names.{names_below}
use Rattle.meter_files.specs.Putting.{IsFree}
use Rattle.meter_files.proofs.putting.check_names.Given as goal

-- the names so far are free, and nothing was done
abbrev pub invariant-loop-meter : goal.invariant-loop-meter
invariant-loop-meter g l = record {
  free : All (IsFree (g.D.Desk.view l.fn.desk)) (names_below l.prefix l.meter);
  same : g.D.Desk.view l.desk ≡ g.D.Desk.view l.fn.desk;
  later : g.D.Desk.faults l.fn.desk ≤ g.D.Desk.faults l.desk;
}
