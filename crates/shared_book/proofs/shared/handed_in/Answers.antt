use Rattle.std.proofs.Common.{◌∙◌, ap, sym, ℕ, List, ◌∷◌}
use Rattle.std.specs.Prelude.{Option, Some}
use Rattle.atomic_table.specs.Table.{rest}
use Rattle.shared_book.specs.declared.handed.Handed.{Handed}
use Rattle.shared_book.proofs.shared.handed_in.Goals as goal

pub exchange-requires : goal.exchange-requires
exchange-requires c = let t = c.requires.slot in (c.requires.table, (Some t.0, t.1 ∙ ap (λ (l : List (ℕ × Option Handed)). (c.args.group, Some t.0) ∷ rest l) (sym t.1)))
