use Rattle.std.proofs.Common.{◌≡◌, true, sym, ◌∙◌, arith, subst}
use Rattle.std.specs.List.{All}
use Rattle.std.proofs.lemmas.List.{take_all}
use Rattle.cut_resume.specs.Left.{at_places}
use Rattle.cut_resume.specs.Order.{may_pass}
use Rattle.cut_resume.proofs.LeftLemmas.{stop_more}
use Rattle.cut_resume.proofs.left.first_stop.Goals as goal

pub loop-at-preserved : goal.loop-at-preserved
loop-at-preserved c =
    stop_more c.args.entry.now c.entry.result c.args.run.now.entries c.args.places.now c.loop-at.at _ c.loop-at-test.true c.requires c.entry.ensures (sym c.may_pass.ensures ∙ c.if-not-may_pass.false) c.loop-at.invariant

pub returns : goal.returns
returns c =
    subst (λ ks. All (λ x. may_pass c.args.entry.now x ≡ true) (at_places c.args.run.now.entries ks)) (take_all c.loop-at.at c.args.places.now (omega (arith, c.loop-at-test.false))) c.loop-at.invariant
