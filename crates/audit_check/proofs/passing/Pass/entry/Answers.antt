use Rattle.std.proofs.Common.{Some, refl, sym, subst}
use Rattle.audit_check.specs.Following.{LineEnds}
use Rattle.audit_check.proofs.PassLemmas.{not_some, one_may, one_may_not}
use Rattle.audit_check.proofs.passing.Pass.entry.Goals as goal

pub returns-in_ok-self : goal.returns-in_ok-self
returns-in_ok-self c =
    let p = c.args.self.now in
    let r = p.replay in
    let now = c.line.new.self in
    let none = not_some p.impossible (sym c.if-is_some.ensures) in
    let follows = subst (λ may. LineEnds r.rounds.presence r.rounds.journal c.args.entry.now.line may now.rounds now.seen now.answered.items) c.if-branch.true c.in_ok-line.ensures in
    one_may p _ c.args.entry.now none none follows c.in_ok-self.ensures

pub returns-else-branch : goal.returns-else-branch
returns-else-branch c =
    let p = c.args.self.now in
    let r = p.replay in
    let now = c.line.new.self in
    let none = not_some p.impossible (sym c.if-is_some.ensures) in
    let may_not = subst (λ may. LineEnds r.rounds.presence r.rounds.journal c.args.entry.now.line may now.rounds now.seen now.answered.items) c.if-branch.false c.in_ok-line.ensures in
    one_may_not p (record { replay = now; count = p.count; impossible = Some p.count }) c.args.entry.now none refl may_not
