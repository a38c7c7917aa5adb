use Rattle.std.proofs.Common.{◌≡◌, map}
use Rattle.std.specs.List.{range_with_len}
use Rattle.group_book.specs.Start.{first_page}
use Rattle.group_book.proofs.start.first_pages.Given as goal

abbrev pub invariant-loop-round : goal.invariant-loop-round
invariant-loop-round l = l.pages.items ≡ map (first_page l.plan l.group) (range_with_len 0 l.round)
