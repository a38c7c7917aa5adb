use Rattle.std.proofs.Common.{sym, ◌∙◌, [], ◌∷◌}
use Rattle.link_lanes.proofs.FateLemmas.{delay_last, delay_more, delay_bad}
use Rattle.link_lanes.proofs.texts.fate_of_two.Goals as goal

pub returns-in_default : goal.returns-in_default
returns-in_default c = delay_bad (c.args.first ∷ []) 1 c.args.first c.args.text.now c.args.text.now [] c.in-None.ensures (sym c.in_default.is ∙ c.delay.ensures)

pub returns-in_default-delay : goal.returns-in_default-delay
returns-in_default-delay c = delay_bad (c.args.first ∷ []) 1 c.args.first c.args.text.now c.in-Some.part.now _ c.in-Some.ensures.0 (sym c.in_default-delay.is ∙ c.delay-in-Some.ensures)

pub returns-in-Some-delay : goal.returns-in-Some-delay
returns-in-Some-delay c = c.fate_with.ensures ∙ delay_last (c.args.first ∷ []) 1 c.args.first c.in-Some-delay.second c.args.text.now c.in-None.ensures c.in-Some-delay.ensures

pub returns-in-Some-delay-2 : goal.returns-in-Some-delay-2
returns-in-Some-delay-2 c = c.fate_of_three.ensures ∙ delay_more (c.args.first ∷ []) 1 c.args.first c.in-Some-delay-2.second c.args.text.now c.in-Some.part.now c.in-Some.rest.now c.in-Some.ensures.0 c.in-Some-delay-2.ensures
