use Rattle.std.proofs.Common.{◌≡◌, replicate}
use Rattle.group_plan.specs.Tables.{absent}
use Rattle.plan_files.proofs.readings.no_readings.Given as goal

-- so many tables are there
abbrev pub invariant-loop-register : goal.invariant-loop-register
invariant-loop-register l = l.tables.items ≡ replicate l._register (absent l.plan)
