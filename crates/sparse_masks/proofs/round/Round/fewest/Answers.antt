use Rattle.std.proofs.Common.{[], subst, ◌∙◌, arith}
use Rattle.std.proofs.lemmas.List.{get_or_default}
use Rattle.sparse_masks.specs.Opened.{FewestGoesOn}
use Rattle.sparse_masks.proofs.OpenedLemmas.{fewest-begins, fewest-place}
use Rattle.sparse_masks.proofs.round.Round.fewest.Goals as goal

pub loop-meter-init : goal.loop-meter-init
loop-meter-init c = fewest-begins c.args.self.now c.args.fewest

pub bounds-components-meter : goal.bounds-components-meter
bounds-components-meter c =
    let long = c.requires.components.0 in
    let test = c.loop-meter-test.true in
    omega (arith, long, test)

pub with_component-least-requires : goal.with_component-least-requires
with_component-least-requires c =
    let long = c.requires.components.0 in
    let test = c.loop-meter-test.true in
    c.index-components-meter.is ∙ get_or_default _ c.loop-meter.meter c.index-components-meter.result [] (omega (arith, long, test)) ∙ c.requires.components.1 c.loop-meter.meter test

pub loop-meter-preserved : goal.loop-meter-preserved
loop-meter-preserved c =
    let long = c.requires.components.0 in
    let test = c.loop-meter-test.true in
    fewest-place c.args.self.now c.args.fewest c.loop-meter.least c.with_component-least.result c.loop-meter.meter c.index-components-meter.result
    (c.index-components-meter.is ∙ get_or_default _ c.loop-meter.meter c.index-components-meter.result [] (omega (arith, long, test)) ∙ c.requires.components.1 c.loop-meter.meter test)
    c.with_component-least.ensures c.loop-meter.invariant

pub returns : goal.returns
returns c =
    let test = c.loop-meter-test.false in
    let end = c.loop-meter.auto.meter-end in
    subst (λ n. FewestGoesOn c.args.self.now c.args.fewest n c.loop-meter.least) (omega (arith, test, end)) c.loop-meter.invariant
