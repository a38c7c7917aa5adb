use Rattle.std.proofs.Common.{◌≡◌, ◌∙◌, ap, sym, subst, ℕ, List, [], ◌∷◌}
use Rattle.std.specs.Prelude.{Option, Some, None}
use Rattle.atomic_table.specs.Table.{rest}
use Rattle.shared_book.specs.declared.handed.Handed.{Handed}
use Rattle.shared_book.specs.declared.turn.View.{View}
use Rattle.shared_book.specs.Law.{Mine, NextIs}
use Rattle.shared_book.proofs.Steps.{gives_back}
use Rattle.shared_book.proofs.shared.put_back.Goals as goal

pub exchange-requires : goal.exchange-requires
exchange-requires c = let t = c.requires.slot in (c.requires.table, (None, t.0 ∙ ap (λ (l : List (ℕ × Option Handed)). (c.args.group, None) ∷ rest l) (sym t.0)))

pub store-requires : goal.store-requires
store-requires c =
    let t = c.requires.slot in
    let e = c.exchange.ensures in
    let same : c.exchange.new.seat.me.0 ≡ c.args.seat.now.me.0 = ap (λ (m : Mine). m.0) e.3 in
    let out : c.exchange.new.seat.me.1 ≡ (c.args.group, Some c.args.handed) ∷ [] = ap (λ (m : Mine). m.1) e.3 ∙ ap (λ (l : List (ℕ × Option Handed)). (c.args.group, Some c.args.handed) ∷ rest l) t.0 in (
      e.0 ∙ c.requires.table,
      c.requires.group.0,
      gives_back _ _ _ _ _ c.args.handed (ap (λ (v : View). v.live) same ∙ t.2) (ap (λ (v : View). v.held) same ∙ t.1) c.requires.group.1 out (subst (λ (v : View). NextIs v c.args.group c.args.handed) (sym same) c.requires.next),
    )
