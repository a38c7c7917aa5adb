use Rattle.std.proofs.Common.{◌∙◌, drop, get_or, ap}
use Rattle.cut_resume.proofs.LeftLemmas.{passed_picked, passed_not, picks_when, picks_not, stop_is}
use Rattle.cut_resume.proofs.left.pick_passed.Goals as goal

pub returns-then-is_it-clause-picks : goal.returns-then-is_it-clause-picks
returns-then-is_it-clause-picks c =
    let l = c.args.left.now in
    picks_when c.args.entry.now _ _ c.is_same-is_it.result c.if-is_it.true
    (passed_picked c.args.entry.now c.entry.result l.run.entries (drop l.next l.run.entries) l.passed.items c.remove.new.self.items c.args.at c.index.result.now c.requires.stops.0 c.requires.left.places
    (c.entry.ensures ∙ ap (λ k. get_or l.run.entries k c.entry.result) c.index.ensures) c.if-is_it.ensures c.remove.ensures.items c.requires.stops.1)

pub returns-else-is_it-clause-picks : goal.returns-else-is_it-clause-picks
returns-else-is_it-clause-picks c =
    let l = c.args.left.now in
    let at_k = c.entry.ensures ∙ ap (λ k. get_or l.run.entries k c.entry.result) c.index.ensures in
    picks_not c.args.entry.now _ _ c.is_same-is_it.result c.if-is_it.false
    (passed_not c.args.entry.now c.entry.result l.run.entries (drop l.next l.run.entries) l.passed.items c.args.at c.index.result.now c.requires.stops.0 c.requires.left.places
    at_k c.if-is_it.ensures (stop_is c.args.entry.now c.entry.result l.run.entries l.passed.items c.args.at c.index.result.now at_k c.requires.stops.2) c.requires.stops.1)
