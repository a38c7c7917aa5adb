use Rattle.std.proofs.Common.{◌≡◌, ◌++◌}
use Rattle.std.specs.List.{flat_map, range_with_len}
use Rattle.load_maker.specs.Writing.{group_text}
use Rattle.load_maker.proofs.plan.put_groups.Given as goal

-- the rows so far are written
abbrev pub invariant-loop-group : goal.invariant-loop-group
invariant-loop-group l = l.out.items ≡ l.fn.out.items ++ flat_map (group_text l.meters) (range_with_len 0 l.group)
