use Rattle.std.proofs.Common.{◌∙◌, ◌+◌, ◌-◌, ap, map, arith}
use Rattle.std.specs.List.{range_with_len}
use Rattle.group_plan.specs.Plans.{size}
use Rattle.mask_stream.specs.Ends.{between}
use Rattle.ideal_masks.proofs.AboveLemmas.{others-above, higher-is, copied-none, copied-more, copied-all}
use Rattle.ideal_masks.proofs.KeptLemmas.{place-in}
use Rattle.ideal_masks.proofs.mask_table.higher_words.Goals as goal

pub pairs-row-requires-clause-others : goal.pairs-row-requires-clause-others
pairs-row-requires-clause-others g c =
    let plan = c.args.plan.now in
    let at = place-in plan c.args.group c.args.round c.args.low c.requires.place in
    let below = at.meter in
    let same = c.meters.ensures.meters in
    rw (c.requires.plan, c.meters_above-others.ensures)
    (others-above plan c.args.group c.args.round c.args.low c.meters.result (c.args.low + 1) (c.meters.result - (c.args.low + 1)) at.round same (omega arith) (omega arith))

pub loop-value-init : goal.loop-value-init
loop-value-init g c = copied-none c.as_slice-value-items.result.now c.in_ok-words.words.items c.in_ok-words.ensures.items

pub loop-value-preserved : goal.loop-value-preserved
loop-value-preserved g c =
    copied-more c.as_slice-value-items.result.now c.loop-value.value-index c.loop-value.words.items c.push.new.self.items c.loop-value-test.true c.word_is.ensures c.in_ok-push.ensures.items c.loop-value.invariant

pub returns-clause-words : goal.returns-clause-words
returns-clause-words g c =
    copied-all c.as_slice-value-items.result.now c.loop-value.value-index c.loop-value.words.items c.loop-value-test.false c.loop-value.invariant
    ∙ c.as_slice-value-items.ensures.value
    ∙ c.pairs-row.ensures
    ∙ ap (map (between ((g.M.Masks.table c.args.masks.now).pair c.args.group c.args.round) c.args.low)) (c.meters_above-others.ensures ∙ ap (λ n. range_with_len (c.args.low + 1) (n - (c.args.low + 1))) c.meters.ensures.meters)
    ∙ higher-is (g.M.Masks.table c.args.masks.now) c.args.group c.args.round (size c.args.plan.now.groups c.args.group) c.args.low

pub returns-clause-small : goal.returns-clause-small
returns-clause-small g c = c.loop-value.invariant.small
