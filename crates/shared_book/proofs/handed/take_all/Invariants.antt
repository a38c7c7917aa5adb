use Rattle.std.proofs.Common.{◌≡◌, ◌≤◌, ◌-◌, ◌<◌, ℕ, false, get_or, take, vec_len, vec_capacity}
use Rattle.std.specs.Mem.Slots.{slots_items, slots_filled, slots_len}
use Rattle.std.specs.Mem.Slots.Ownership.{Filled}
use Rattle.shared_book.specs.Slots.{HavePages}
use Rattle.shared_book.proofs.handed.take_all.Given as goal

abbrev pub invariant-loop-slot : goal.invariant-loop-slot
invariant-loop-slot l = record {
  items : slots_items l.closed.slots ≡ slots_items l.initial.closed.slots;
  len : slots_len l.closed.slots ≡ slots_len l.initial.closed.slots;
  within : l.slot ≤ slots_len l.closed.slots;
  filled : Filled (slots_filled l.closed.slots) l.slot (slots_len l.closed.slots);
  taken : (k : ℕ) → k < l.slot → get_or (slots_filled l.closed.slots) k false ≡ false;
  made : HavePages (take l.slot (slots_items l.closed.slots)) l.groups.items;
  long : vec_len l.groups ≡ l.slot;
  room : slots_len l.closed.slots ≤ vec_capacity l.groups;
}

abbrev pub decreases-loop-slot : goal.decreases-loop-slot
decreases-loop-slot l = slots_len l.closed.slots - l.slot
