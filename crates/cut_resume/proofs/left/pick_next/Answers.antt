use Rattle.std.proofs.Common.{◌<◌, ◌∙◌, ◌+◌, ◌++◌, drop, length, sym, ap, subst, append-nil, arith}
use Rattle.std.proofs.lemmas.List.{drop_all}
use Rattle.cut_resume.specs.Left.{IsNotThere, at_places}
use Rattle.cut_resume.specs.Order.{IsPicked, may_pass}
use Rattle.cut_resume.proofs.LeftLemmas.{next_picked, next_not, none_there, picks_not, picks_when}
use Rattle.cut_resume.proofs.left.pick_next.Goals as goal

pub returns-then-left-len-clause-picks : goal.returns-then-left-len-clause-picks
returns-then-left-len-clause-picks c =
    let l = c.pass.new.left in
    let e = c.args.entry.now in
    subst (IsNotThere e) (sym (ap (λ x. at_places l.run.entries l.passed.items ++ x) (drop_all l.next l.run.entries (omega (arith, c.if-left-len.true, c.len.ensures.len))) ∙ append-nil (at_places l.run.entries l.passed.items)) ∙ c.in_ok-pass.ensures.same)
    (none_there e (at_places l.run.entries l.passed.items) c.in_ok-pass.ensures.passed)

pub returns-else-is_it-clause-picks : goal.returns-else-is_it-clause-picks
returns-else-is_it-clause-picks c =
    let l = c.pass.new.left in
    let e = c.args.entry.now in
    let within = c.in_ok-pass.ensures.left.within in
    let lt : l.next < length l.run.entries = omega (arith, within, c.if-left-len.false, c.len.ensures.len) in
    picks_not e _ _ c.is_same-is_it.result c.if-is_it.false
    (subst (IsNotThere e) c.in_ok-pass.ensures.same
    (next_not e c.entry.result l.run.entries (at_places l.run.entries l.passed.items) l.next lt c.entry.ensures c.if-is_it.ensures (ap (may_pass e) c.entry.ensures ∙ c.in_ok-pass.ensures.stops c.entry.result lt) c.in_ok-pass.ensures.passed))

pub returns-then-is_it-clause-picks : goal.returns-then-is_it-clause-picks
returns-then-is_it-clause-picks c =
    let l = c.pass.new.left in
    let e = c.args.entry.now in
    let within = c.in_ok-pass.ensures.left.within in
    let lt : l.next < length l.run.entries = omega (arith, within, c.if-left-len.false, c.len.ensures.len) in
    picks_when e _ _ c.is_same-is_it.result c.if-is_it.true
    (subst (λ old. IsPicked e old (at_places l.run.entries l.passed.items ++ drop (l.next + 1) l.run.entries)) c.in_ok-pass.ensures.same
    (next_picked e c.entry.result l.run.entries (at_places l.run.entries l.passed.items) l.next lt c.entry.ensures c.if-is_it.ensures c.in_ok-pass.ensures.passed))
