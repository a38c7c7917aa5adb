use Rattle.std.proofs.Common.{ℕ, subst}
use Rattle.group_book.specs.Books.{IsAnnounced}
use Rattle.audit_rounds.proofs.rounds.Rounds.announced.Goals as goal

pub returns : goal.returns
returns c = subst (λ (g : ℕ). IsAnnounced c.args.self.now g c.args.round c.announced.result) c.group.ensures.group (c.announced.ensures _ _ c.group.ensures.replays)
