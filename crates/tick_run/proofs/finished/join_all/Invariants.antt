use Rattle.std.proofs.Common.{◌≡◌, length}
use Rattle.shared_book.specs.Ends.{IsPassOf, view}
use Rattle.tick_run.specs.Sharing.{JoinsGroups}
use Rattle.tick_run.proofs.finished.join_all.Given as goal

abbrev pub invariant-loop-group : goal.invariant-loop-group
invariant-loop-group l = record {
  can_next : (goal.iterator-loop-group).can_next l.group-iterator;
  finite : (goal.iterator-loop-group).is_finite l.group-iterator;
  pass : IsPassOf l.shared l.first;
  joins : JoinsGroups (length l.fn.groups.items) l.yielded (view l.first);
}
