use Rattle.std.proofs.Common.{sym, ◌∙◌, [], ◌∷◌}
use Rattle.link_lanes.proofs.FateLemmas.{delay_last, delay_bad, delay_over}
use Rattle.link_lanes.proofs.texts.fate_of_three.Goals as goal

pub returns-in_default : goal.returns-in_default
returns-in_default c = delay_bad (c.args.first ∷ c.args.second ∷ []) 0 c.args.second c.args.text.now c.args.text.now [] c.in-None.ensures (sym c.in_default.is ∙ c.delay.ensures)

pub returns-in-Some-delay : goal.returns-in-Some-delay
returns-in-Some-delay c = c.fate_with.ensures ∙ delay_last (c.args.first ∷ c.args.second ∷ []) 0 c.args.second c.in-Some-delay.third c.args.text.now c.in-None.ensures c.in-Some-delay.ensures

pub returns-in-Some : goal.returns-in-Some
returns-in-Some c = delay_over (c.args.first ∷ c.args.second ∷ []) c.args.second c.args.text.now c.in-Some.field-0.0.now c.in-Some.field-0.1.now c.in-Some.ensures.0
