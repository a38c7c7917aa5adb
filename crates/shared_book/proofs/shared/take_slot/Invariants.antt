use Rattle.std.proofs.Common.{◌≡◌}
use Rattle.shared_book.proofs.shared.take_slot.Given as goal

abbrev pub invariant-home : goal.invariant-home
invariant-home g l = (l.seat.table_id ≡ l.initial.seat.table_id) × (l.seat.id ≡ l.initial.seat.id) × (l.seat.me ≡ l.initial.seat.me)
