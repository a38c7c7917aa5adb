use Rattle.std.proofs.Common.{◌≡◌}
use Rattle.std.specs.List.{AllZip, range_with_len}
use Rattle.shared_book.specs.Ends.{IsPassOf, view}
use Rattle.tick_run.specs.Sharing.{leading}
use Rattle.tick_run.specs.Whole.{IsFirst}
use Rattle.tick_run.proofs.first.first_groups.Given as goal

-- the groups so far are the first ones
abbrev pub invariant-loop-number : goal.invariant-loop-number
invariant-loop-number l = record {
  pass : IsPassOf l.shared l.first;
  leads : view l.first ≡ leading l.number;
  first : AllZip (IsFirst l.shared l.readings) (range_with_len 0 l.number) l.groups.items;
}
