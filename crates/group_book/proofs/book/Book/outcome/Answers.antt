use Rattle.std.proofs.Common.{ℕ, ap, ◌∙◌}
use Rattle.group_book.specs.Books.{outcome_of, state_of}
use Rattle.group_book.proofs.TableLemmas.{outcome_under}
use Rattle.group_book.proofs.book.Book.outcome.Goals as goal

pub returns-clause-outcome : goal.returns-clause-outcome
returns-clause-outcome c = c.outcome.ensures _ _ c.group.ensures.replays ∙ ap (λ (g : ℕ). outcome_of c.args.self.now g c.args.round) c.group.ensures.group

pub returns-clause-tables : goal.returns-clause-tables
returns-clause-tables c =
    let led = c.group.ensures.replays.ledger in
    λ x m under. ap (λ o. o.state) (c.outcome.ensures _ _ c.group.ensures.replays ∙ ap (λ (g : ℕ). outcome_of c.args.self.now g c.args.round) c.group.ensures.group)
    ∙ ap state_of (outcome_under c.args.self.now.presence c.args.self.now.journal c.args.group c.args.round led.limits led.table led.journal x m under)
