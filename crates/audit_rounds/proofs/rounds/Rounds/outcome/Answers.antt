use Rattle.std.proofs.Common.{ℕ, ap, ◌∙◌}
use Rattle.group_book.specs.Books.{outcome_of}
use Rattle.audit_rounds.proofs.rounds.Rounds.outcome.Goals as goal

pub returns : goal.returns
returns c = c.outcome.ensures _ _ c.group.ensures.replays ∙ ap (λ (g : ℕ). outcome_of c.args.self.now g c.args.round) c.group.ensures.group
