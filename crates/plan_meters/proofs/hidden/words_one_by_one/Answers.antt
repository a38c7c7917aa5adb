use Rattle.std.proofs.Common.{◌≡◌, ℕ, subst, arith}
use Rattle.plan_meters.specs.Hidden.{HideRounds}
use Rattle.plan_meters.proofs.HiddenLemmas.{rows-more}
use Rattle.plan_meters.proofs.hidden.words_one_by_one.Goals as goal

pub loop-later-preserved : goal.loop-later-preserved
loop-later-preserved g c =
    rows-more c.args.readings.now (g.M.Masks.table c.args.masks.now) c.args.group c.args.first c.loop-later.later c.loop-later.rows.items _ c.in_ok-words_of_round.field-0
    c.loop-later.invariant c.in_ok-words_of_round.ensures c.in_ok-push.ensures.items

pub returns : goal.returns
returns g c =
    let at : c.loop-later.later ≡ c.args.count = omega (arith, c.loop-later-test.false, c.loop-later.auto.later-end) in
    subst (λ (n : ℕ). HideRounds c.args.readings.now (g.M.Masks.table c.args.masks.now) c.args.group c.args.first n c.loop-later.rows.items) at c.loop-later.invariant
