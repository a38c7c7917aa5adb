use Rattle.std.proofs.Common.{◌∙◌, ap, subst, arith}
use Rattle.group_plan.specs.Tables.{reading, IsReadingTable}
use Rattle.ideal_masks.specs.Pools.{pool_of}
use Rattle.ideal_masks.proofs.KnownLemmas.{known-group, known-after}
use Rattle.ideal_masks.proofs.agreement.check_known_rounds.Goals as goal

pub returns : goal.returns
returns c =
    let x = c.args.first.now in
    let y = c.args.second.now in
    let pool = pool_of c.args.known.now in
    let y_fits : IsReadingTable x.plan y.table = subst (λ p. IsReadingTable p y.table) c.requires.plan c.plan-second.ensures.table in
    let rounds = c.rounds-round-end.ensures.rounds ∙ ap (λ p. p.rounds) c.plan.ensures.plan in
    known-group pool (reading x.table) (reading y.table) c.args.group c.loop-round.round c.loop-round.invariant
    (λ r i le. known-after pool x.plan x.table y.table c.plan-first.ensures.table y_fits c.args.group r i (omega (arith, rounds, c.loop-round-test.false, le)))
