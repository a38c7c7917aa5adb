use Rattle.std.proofs.Common.{◌≤◌, ◌<◌, ◌+◌, ◌^◌, length}
use Rattle.link_lanes.specs.Racks.{slots, posts_of, spare_of, HasRoom}
use Rattle.tick_run.proofs.PassLemmas.{Passing}
use Rattle.tick_run.proofs.by_groups.pass_frames.Given as goal

abbrev pub invariant-loop-frame : goal.invariant-loop-frame
invariant-loop-frame g l = record {
  room : HasRoom (λ b. (goal.Lane-dyn g (b.vtable, b.value)).meaning b.value) l.rack;
  posts : length l.frames ≤ spare_of l.rack + l.frame-index;
  spare : spare_of l.fn.rack ≤ spare_of l.rack + l.frame-index;
  few : length (posts_of l.rack) + length l.frames < 2 ^ 32 + l.frame-index;
  passing : Passing l.tick l.frame-index l.frames (slots (λ b. (goal.Lane-dyn g (b.vtable, b.value)).meaning b.value) l.fn.rack) (slots (λ b. (goal.Lane-dyn g (b.vtable, b.value)).meaning b.value) l.rack)
      (posts_of l.fn.rack) (posts_of l.rack) l.fn.fates.items l.fates.items;
}
