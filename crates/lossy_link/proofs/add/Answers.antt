use Rattle.std.proofs.Common.{◌∙◌, sym, ap}
use Rattle.lossy_link.specs.Waiting.{copies_of}
use Rattle.lossy_link.proofs.WaitingLemmas.{set-same}
use Rattle.lossy_link.proofs.CallLemmas.{add_refused, added_behind, added_first}
use Rattle.lossy_link.proofs.add.Goals as goal

pub returns-in_err-push-clause-ends : goal.returns-in_err-push-clause-ends
returns-in_err-push-clause-ends c =
    add_refused _ _ _ c.from_residual.result c.from_residual.ensures.0
    (ap copies_of (c.get_mut.follows.holds c.push.new.self).0 ∙ set-same c.args.tick c.args.waiting.now.entries _ _ (sym c.in-Some.ensures.value) c.in_err-push.ensures.items)

pub returns-in-Some-clause-ends : goal.returns-in-Some-clause-ends
returns-in-Some-clause-ends c =
    added_behind c.args.tick c.args.waiting.now.entries _ _ c.push.new.self _ c.in-Some.ensures.ordered c.in-Some.ensures.value (c.get_mut.follows.holds c.push.new.self).0 c.in_ok-push.ensures.items

pub returns-clause-ends : goal.returns-clause-ends
returns-clause-ends c =
    added_first c.args.tick c.args.waiting.now.entries c.get_mut.follows.lender-at-none.entries c.insert.new.self.entries c.push-2.new.self c.new-copies.result.items c.args.bytes c.in_default.ensures.ordered c.in_default.ensures.value (ap (λ m. m.entries) c.get_mut.follows.holds-at-none) c.in_ok-insert.ensures.entries c.in_ok-push-2.ensures.items c.new-copies.ensures.items
