use Rattle.std.proofs.Common.{◌≤◌, ◌<◌, ◌+◌, ◌-◌, ◌^◌, length}
use Rattle.link_lanes.specs.Racks.{posts_of, spare_of, HasRoom}
use Rattle.file_rows.proofs.link_lanes_rows.pass_all.Given as goal

abbrev pub invariant-loop-tick : goal.invariant-loop-tick
invariant-loop-tick g l = record {
  room : HasRoom (λ b. (goal.Lane-dyn g (b.vtable, b.value)).meaning b.value) l.rack;
  few : length (posts_of l.rack) + (length l.posts - l.tick-index) < 2 ^ 32;
  spare : length l.posts - l.tick-index ≤ spare_of l.rack;
}
