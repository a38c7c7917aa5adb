use Rattle.std.proofs.Common.{◌≡◌, ◌+◌, ◌^◌, [], map, drop, length, IsTrue}
use Rattle.link_lanes.specs.Counts.{slot, are_up_to}
use Rattle.link_lanes.proofs.FitLemmas.{GoesOn}
use Rattle.link_lanes.proofs.rack.Rack.fit.Given as goal

-- the rows that are left give what all give
abbrev pub invariant-loop-row : goal.invariant-loop-row
invariant-loop-row g l = record {
  counts : IsTrue (are_up_to (2 ^ 62 + length l.rack.posts.items) (map (λ h. slot ((goal.Lane-dyn g (h.lane.vtable, h.lane.value)).meaning h.lane.value) h.from h.to) l.rack.hung.items));
  rows : GoesOn (map (λ h. slot ((goal.Lane-dyn g (h.lane.vtable, h.lane.value)).meaning h.lane.value) h.from h.to) l.rack.hung.items) (map (λ b. (goal.Lane-dyn g (b.vtable, b.value)).meaning b.value) l.left.items) (drop l.row-index l.rows)
      (map (λ b. (goal.Lane-dyn g (b.vtable, b.value)).meaning b.value) l.fn.cupboard.items) l.rows;
  posts : l.rack.posts.items ≡ [];
}
