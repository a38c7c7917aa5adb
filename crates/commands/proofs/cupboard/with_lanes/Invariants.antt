use Rattle.std.proofs.Common.{◌≡◌, ◌++◌, map, replicate, None}
use Rattle.link_lanes.specs.Kinds.{clear_by, rules_by, seeded_by, every_by, burst_by}
use Rattle.commands.specs.Cupboard.{four}
use Rattle.commands.proofs.cupboard.with_lanes.OwnLists.{own-1}
use Rattle.commands.proofs.cupboard.with_lanes.Given as goal

-- four boxes of each lane before, and as many of this one as the loop has made
abbrev pub invariant-loop : goal.invariant-loop
invariant-loop g l = map (λ b. (own-1.entry b.vtable).1.meaning b.value) l.cupboard.items ≡ replicate l.counter (clear_by 0)

abbrev pub invariant-loop-2 : goal.invariant-loop-2
invariant-loop-2 g l = map (λ b. (own-1.entry b.vtable).1.meaning b.value) l.cupboard.items ≡ four (clear_by 0) ++ replicate l.counter (rules_by 0 None)

abbrev pub invariant-loop-3 : goal.invariant-loop-3
invariant-loop-3 g l = map (λ b. (own-1.entry b.vtable).1.meaning b.value) l.cupboard.items ≡ four (clear_by 0) ++ four (rules_by 0 None) ++ replicate l.counter (seeded_by 0 None)

abbrev pub invariant-loop-4 : goal.invariant-loop-4
invariant-loop-4 g l = map (λ b. (own-1.entry b.vtable).1.meaning b.value) l.cupboard.items ≡ four (clear_by 0) ++ four (rules_by 0 None) ++ four (seeded_by 0 None) ++ replicate l.counter (every_by 0 None)

abbrev pub invariant-loop-5 : goal.invariant-loop-5
invariant-loop-5 g l = map (λ b. (own-1.entry b.vtable).1.meaning b.value) l.cupboard.items ≡ four (clear_by 0) ++ four (rules_by 0 None) ++ four (seeded_by 0 None) ++ four (every_by 0 None) ++ replicate l.counter (burst_by 0 None)
