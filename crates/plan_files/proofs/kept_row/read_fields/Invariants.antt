use Rattle.std.proofs.Common.{◌≡◌, [], length}
use Rattle.csv.specs.Records.{fields_of, partial_of}
use Rattle.plan_files.proofs.KeptLemmas.{IsReadTo}
use Rattle.plan_files.proofs.kept_row.read_fields.Given as goal

-- the fields so far are read
abbrev pub invariant-loop-next : goal.invariant-loop-next
invariant-loop-next l = record {
  so_far : IsReadTo l.start l.left (fields_of l.row.kept) l.row.third.now;
  none : partial_of l.row.kept ≡ [];
  start : l.row.start.now ≡ l.start;
}

abbrev pub decreases-loop-next : goal.decreases-loop-next
decreases-loop-next l = length l.left
