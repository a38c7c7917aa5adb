use Rattle.std.proofs.Common.{◌≡◌, ◌≤◌, length, vec_len, vec_capacity}
use Rattle.shared_book.specs.Slots.{HavePages}
use Rattle.shared_book.proofs.handed.take_out.Given as goal

abbrev pub invariant-loop-slot : goal.invariant-loop-slot
invariant-loop-slot l = record {
  can_next : (goal.iterator-loop-slot).can_next l.slot-iterator;
  finite : (goal.iterator-loop-slot).is_finite l.slot-iterator;
  made : HavePages l.yielded l.groups.items;
  long : vec_len l.groups ≡ length l.yielded;
  room : length l.fn.slots.items ≤ vec_capacity l.groups;
}
