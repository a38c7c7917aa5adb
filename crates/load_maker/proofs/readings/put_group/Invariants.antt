use Rattle.std.proofs.Common.{◌≡◌, ◌++◌, ◌*◌}
use Rattle.load_maker.specs.Drawing.{ahead}
use Rattle.load_maker.specs.Writing.{group_rows_text}
use Rattle.load_maker.proofs.readings.put_group.Given as goal

-- the rows so far are written
abbrev pub invariant-loop-round : goal.invariant-loop-round
invariant-loop-round l = record {
  written : l.out.items ≡ l.fn.out.items ++ group_rows_text l.fn.stream l.group l.size.meters l.round;
  stream : l.stream ≡ ahead l.fn.stream (2 * (l.round * l.size.meters));
}
