use Rattle.std.proofs.Common.{◌∷◌, ◌∙◌, sym, ap}
use Rattle.link_lanes.specs.Texts.{four}
use Rattle.link_lanes.proofs.TextLemmas.{four_parts}
use Rattle.link_lanes.proofs.texts.quarters.Goals as goal

pub returns : goal.returns
returns c =
    four_parts _ _ _ _ _ c.in_ok-third.ensures
    ∙ sym (ap four (c.in_ok-first.ensures.0 ∙ ap (λ ps. c.in_ok-first.first.now ∷ ps) c.in_ok-second.ensures.0))
