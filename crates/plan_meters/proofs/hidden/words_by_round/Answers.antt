use Rattle.std.proofs.Common.{◌≡◌, ℕ, subst, arith}
use Rattle.plan_meters.specs.Hidden.{AreColumns}
use Rattle.plan_meters.proofs.HiddenLemmas.{columns-more}
use Rattle.plan_meters.proofs.hidden.words_by_round.Goals as goal

pub loop-later-preserved : goal.loop-later-preserved
loop-later-preserved c =
    columns-more c.args.words.now c.loop-later.later c.loop-later.rows.items _ c.in_ok-words_in_round.field-0 c.loop-later.invariant c.in_ok-words_in_round.ensures c.in_ok-push.ensures.items

pub returns : goal.returns
returns c =
    let at : c.loop-later.later ≡ 8 = omega (arith, c.loop-later-test.false, c.loop-later.auto.later-end) in
    subst (λ (n : ℕ). AreColumns c.args.words.now n c.loop-later.rows.items) at c.loop-later.invariant
