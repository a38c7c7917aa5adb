use Rattle.std.proofs.Common.{◌∷◌, ◌∙◌, sym, ap}
use Rattle.link_lanes.specs.Texts.{two}
use Rattle.link_lanes.proofs.TextLemmas.{more_than_two}
use Rattle.link_lanes.proofs.texts.halves.Goals as goal

pub returns-in-Some : goal.returns-in-Some
returns-in-Some c =
    sym (ap two (c.in_ok-first.ensures.0 ∙ ap (λ ps. c.in_ok-first.first.now ∷ ps) c.in-Some.ensures.0) ∙ more_than_two _ _ c.args.mark c.in-Some.field-0.1.now)
