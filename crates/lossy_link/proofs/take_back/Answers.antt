use Rattle.std.proofs.Common.{◌∙◌, ap}
use Rattle.lossy_link.specs.Waiting.{copies_of}
use Rattle.lossy_link.proofs.WaitingLemmas.{ascends_from, taken_back, none_placed}
use Rattle.lossy_link.proofs.take_back.Goals as goal

pub returns-in-Some-clause-same : goal.returns-in-Some-clause-same
returns-in-Some-clause-same c = λ a earlier tick e.
    ap copies_of (c.get_mut.follows.holds c.pop.new.self).0
    ∙ taken_back c.args.tick c.args.waiting.now.entries c.in-Some.copies.now c.pop.new.self c.pop.result (ascends_from _ c.in-Some.ensures.ordered) c.in-Some.ensures.value c.pop.ensures.items c.pop.ensures.cases a earlier tick e

pub returns-in_default-clause-same : goal.returns-in_default-clause-same
returns-in_default-clause-same c = λ a earlier tick e.
    absurd (none_placed c.args.tick c.args.waiting.now.entries (ascends_from _ c.in_default.ensures.ordered) c.in_default.ensures.value a earlier tick e)
