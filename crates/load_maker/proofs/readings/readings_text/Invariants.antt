use Rattle.std.proofs.Common.{◌≡◌, ◌*◌}
use Rattle.std.specs.List.{flat_map, range_with_len}
use Rattle.load_maker.specs.Drawing.{stream_at}
use Rattle.load_maker.specs.Writing.{group_rows_text}
use Rattle.load_maker.proofs.readings.readings_text.Given as goal

-- the rows of the groups so far are written
abbrev pub invariant-loop-group : goal.invariant-loop-group
invariant-loop-group l = record {
  written : l.out.items ≡ flat_map (λ g. group_rows_text (stream_at l.seed 2 (2 * (g * l.size.rounds * l.size.meters))) g l.size.meters l.size.rounds) (range_with_len 0 l.group);
  stream : l.stream ≡ stream_at l.seed 2 (2 * (l.group * l.size.rounds * l.size.meters));
}
