use Rattle.std.proofs.Common.{◌≡◌, ◌≤◌, ◌+◌, length}
use Rattle.group_plan.specs.Plans.{last_tick}
use Rattle.plan_files.specs.Gathering.{gather, gathered_by, nothing}
use Rattle.plan_files.proofs.gathering.gather.Given as goal

-- the rows so far are gathered, and the others come
abbrev pub invariant-loop-entry : goal.invariant-loop-entry
invariant-loop-entry l = record {
  number : l.number + length l.entry-iterator.rest.items ≡ l.first + length l.fn.entries.items;
  long : length l.entry-iterator.rest.items ≡ l.entry-iterator.rest.len;
  few : l.gathering.members ≤ l.number;
  so_far : gather (last_tick l.plan) l.fault l.first (nothing l.plan) l.fn.entries.items
      ≡ gather (last_tick l.plan) l.fault l.number (gathered_by l.gathering) l.entry-iterator.rest.items;
}
