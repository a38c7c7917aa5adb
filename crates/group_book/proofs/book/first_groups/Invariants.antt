use Rattle.std.proofs.Common.{◌≡◌, map}
use Rattle.std.specs.List.{range_with_len}
use Rattle.group_book.specs.Groups.{first_group}
use Rattle.group_book.proofs.book.first_groups.Given as goal

abbrev pub invariant-loop-group : goal.invariant-loop-group
invariant-loop-group l = l.groups.items ≡ map (first_group l.plan) (range_with_len 0 l.group)
