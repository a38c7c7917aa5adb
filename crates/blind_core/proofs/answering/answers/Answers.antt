use Rattle.std.proofs.Common.{◌∙◌, ap, map, get_or}
use Rattle.missing_round.specs.Words.{word, answer_word}
use Rattle.blind_core.proofs.AnswerLoops.{all-shares, spread_begins, spread_next, spread_ends}
use Rattle.blind_core.proofs.answering.answers.Goals as goal

pub loop-meter-init : goal.loop-meter-init
loop-meter-init g c =
    let table = g.M.Masks.table c.args.masks.now in
    let own = table.own c.args.group c.args.round in
    let pair = table.pair c.args.group c.args.round in
    spread_begins (λ i. answer_word own pair i c.args.missing.now) c.args.meters.now c.into_iter-meter-iterator.result c.answer_sums-sums.result.items
    (c.into_iter-meter-iterator.ensures.into_iter_gives ∙ c.members-meter-items.ensures.members) c.members-meter-items.ensures.set
    (ap (map word) c.answer_sums-sums.ensures ∙ all-shares pair c.args.missing.now own c.args.meters.now)

pub loop-meter-preserved : goal.loop-meter-preserved
loop-meter-preserved g c =
    spread_next _ _ _ _ c.answer_sums-sums.result.items _ c.loop-meter.place _ _ c.in-Some.ensures.steps c.loop-meter.invariant
    (c.word_of.ensures ∙ ap (λ l. word (get_or l c.loop-meter.place 0)) c.deref.ensures.0)

pub returns : goal.returns
returns g c = spread_ends _ _ _ _ _ c.in-None.ensures.steps.0 c.members-meter-items.ensures.set c.loop-meter.invariant
