use Rattle.std.proofs.Common.{◌≡◌, ◌≤◌, ◌+◌, length}
use Rattle.meter_files.specs.PartFiles.{gather, gathered_by, nothing, owner_view}
use Rattle.meter_files.proofs.part_file.gather.Given as goal

-- the rows so far are gathered, and the others come
abbrev pub invariant-loop-entry : goal.invariant-loop-entry
invariant-loop-entry l = record {
  number : l.number + length l.entry-iterator.rest.items ≡ 5 + length l.fn.entries.items;
  long : length l.entry-iterator.rest.items ≡ l.entry-iterator.rest.len;
  few : l.keys.members ≤ l.number;
  pairs : length l.keys.pairs.items ≡ l.owner.meters;
  so_far : gather (owner_view l.owner) l.fault 5 (nothing l.owner.meters) l.fn.entries.items
      ≡ gather (owner_view l.owner) l.fault l.number (gathered_by l.keys) l.entry-iterator.rest.items;
}
