use Rattle.std.proofs.Common.{◌≡◌, take}
use Rattle.group_book.proofs.book.copy_of_groups.Given as goal

abbrev pub invariant-loop-group : goal.invariant-loop-group
invariant-loop-group l = l.copy.items ≡ take l.group-index l.groups
