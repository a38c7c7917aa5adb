use Rattle.std.proofs.Common.{◌<◌, ◌∙◌, sym, arith}
use Rattle.meter_apart.specs.Keys.{has_key, is_complete}
use Rattle.meter_apart.proofs.KeyLemmas.{all_more}
use Rattle.meter_apart.proofs.keys.is_complete.Goals as goal

pub loop-other-preserved : goal.loop-other-preserved
loop-other-preserved c =
    let lt : c.loop-other.other < c.args.meters = omega (arith, c.loop-other-test.true, c.loop-other.auto.other-end) in
    all_more (has_key c.args.meter c.args.pairs.now) c.loop-other.other c.args.meters (is_complete c.args.meter c.args.meters c.args.pairs.now) c.loop-other.invariant lt
    (sym c.has_key.ensures ∙ c.if-not-has_key.false)
