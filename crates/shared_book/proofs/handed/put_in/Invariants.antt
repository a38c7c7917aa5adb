use Rattle.std.proofs.Common.{◌≡◌, ◌≤◌, length, vec_len, vec_capacity}
use Rattle.shared_book.specs.Slots.{HavePages, AreNew}
use Rattle.shared_book.proofs.handed.put_in.Given as goal

abbrev pub invariant-loop-pages : goal.invariant-loop-pages
invariant-loop-pages l = record {
  can_next : (goal.iterator-loop-pages).can_next l.pages-iterator;
  finite : (goal.iterator-loop-pages).is_finite l.pages-iterator;
  made : HavePages l.slots.items l.yielded;
  new : AreNew l.slots.items;
  long : vec_len l.slots ≡ length l.yielded;
  room : length l.fn.groups.items ≤ vec_capacity l.slots;
}
