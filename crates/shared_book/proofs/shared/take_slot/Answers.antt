use Rattle.std.proofs.Common.{◌∙◌, ap}
use Rattle.shared_book.specs.Law.{Mine}
use Rattle.shared_book.proofs.Steps.{takes_out, carries_none, tried}
use Rattle.shared_book.proofs.shared.take_slot.Goals as goal

pub compare_exchange-found-requires : goal.compare_exchange-found-requires
compare_exchange-found-requires g c =
    let inv = c.home.invariant in
    let r = c.requires.rests in
    (inv.0 ∙ c.requires.table, c.requires.group.0, takes_out _ _ _ _ _ (ap (λ (m : Mine). m.0.live) inv.2 ∙ r.0.1) (ap (λ (m : Mine). m.0.held) inv.2 ∙ r.1) (ap (λ (m : Mine). m.1) inv.2 ∙ carries_none _ _ r.1 r.0.0) c.requires.group.1)

pub returns-then-found-eq-HOME-clause-taken : goal.returns-then-found-eq-HOME-clause-taken
returns-then-found-eq-HOME-clause-taken g c = tried c.args.shelf.now.table_id.slots c.args.group c.compare_exchange-found.result c.home.seat.me c.args.seat.now.me c.compare_exchange-found.new.seat.me c.home.invariant.2 c.if-found-eq-HOME.true c.compare_exchange-found.ensures.2
