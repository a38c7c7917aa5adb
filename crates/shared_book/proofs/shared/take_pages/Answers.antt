use Rattle.std.proofs.Common.{ℕ, refl, sym, ap, subst}
use Rattle.shared_book.specs.Law.{Mine, IsOwn}
use Rattle.shared_book.proofs.Turning.{checked_out}
use Rattle.shared_book.proofs.shared.take_pages.Goals as goal

pub handed_in-pages-requires-clause-slot : goal.handed_in-pages-requires-clause-slot
handed_in-pages-requires-clause-slot g c = let t = c.take_slot.ensures.taken in (t.1, ap (λ (m : Mine). m.1) t.2)

pub returns-clause-rests : goal.returns-clause-rests
returns-clause-rests g c = (checked_out c.args.seat.now.me.0.opening c.args.group c.args.seat.now.me c.take_slot.new.seat.me c.handed_in-pages.new.seat.me c.handed_in-pages.result c.requires.rests.0 refl c.take_slot.ensures.taken c.handed_in-pages.ensures.handed).0

pub returns-clause-opening : goal.returns-clause-opening
returns-clause-opening g c = (checked_out c.args.seat.now.me.0.opening c.args.group c.args.seat.now.me c.take_slot.new.seat.me c.handed_in-pages.new.seat.me c.handed_in-pages.result c.requires.rests.0 refl c.take_slot.ensures.taken c.handed_in-pages.ensures.handed).1

pub returns-clause-ends : goal.returns-clause-ends
returns-clause-ends g c = (checked_out c.args.seat.now.me.0.opening c.args.group c.args.seat.now.me c.take_slot.new.seat.me c.handed_in-pages.new.seat.me c.handed_in-pages.result c.requires.rests.0 refl c.take_slot.ensures.taken c.handed_in-pages.ensures.handed).2

pub returns-clause-own : goal.returns-clause-own
returns-clause-own g c = λ is. (checked_out c.args.seat.now.me.0.opening c.args.group c.args.seat.now.me c.take_slot.new.seat.me c.handed_in-pages.new.seat.me c.handed_in-pages.result c.requires.rests.0 refl c.take_slot.ensures.taken c.handed_in-pages.ensures.handed).3 (subst (λ (n : ℕ). IsOwn n c.handed_in-pages.result.last) (sym c.requires.number) (c.is_own.ensures is))
