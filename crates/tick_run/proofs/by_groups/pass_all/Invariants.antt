use Rattle.std.proofs.Common.{◌≤◌, ◌<◌, ◌+◌, ◌^◌, length, take, drop}
use Rattle.link_lanes.specs.Racks.{slots, posts_of, spare_of, HasRoom}
use Rattle.tick_run.specs.ByGroups.{Passes, frames_by}
use Rattle.tick_run.proofs.by_groups.pass_all.Given as goal

abbrev pub invariant-loop-group : goal.invariant-loop-group
invariant-loop-group g l = record {
  room : HasRoom (λ b. (goal.Lane-dyn g (b.vtable, b.value)).meaning b.value) l.rack;
  posts : length (frames_by (drop l.group-index l.groups)) ≤ spare_of l.rack;
  few : length (posts_of l.rack) + length (frames_by (drop l.group-index l.groups)) < 2 ^ 32;
  passing : Passes l.tick (frames_by (take l.group-index l.groups)) (slots (λ b. (goal.Lane-dyn g (b.vtable, b.value)).meaning b.value) l.fn.rack) (slots (λ b. (goal.Lane-dyn g (b.vtable, b.value)).meaning b.value) l.rack)
      (posts_of l.fn.rack) (posts_of l.rack) l.fates.items;
}
