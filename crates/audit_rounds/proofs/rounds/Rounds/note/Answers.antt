use Rattle.std.proofs.Common.{◌++◌, sym, subst}
use Rattle.audit_rounds.specs.Told.{all_told, IsUnsent}
use Rattle.audit_rounds.proofs.NoteLemmas.{noted}
use Rattle.audit_rounds.proofs.rounds.Rounds.note.Goals as goal

pub invariant_of-self : goal.invariant_of-self
invariant_of-self c =
    noted c.self.inside.presence c.note.new.self (all_told c.self.inside.told.items ++ c.self.inside.last.items) c.args.group c.args.round c.args.meter c.self.inside.groups.items c.note.ensures
    c.plan-plan.ensures.table (subst (λ b. IsUnsent b.journal c.args.group c.args.round c.args.meter) (sym c.self.view_is) c.requires.unsent) c.self.invariant
