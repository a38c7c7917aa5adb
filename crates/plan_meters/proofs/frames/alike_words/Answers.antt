use Rattle.std.proofs.Common.{◌∙◌}
use Rattle.group_plan.specs.Plans.{is_place}
use Rattle.plan_meters.proofs.HearerLemmas.{all-members, alike-places}
use Rattle.plan_meters.proofs.frames.alike_words.Goals as goal

pub answers-requires-clause-meters : goal.answers-requires-clause-meters
answers-requires-clause-meters g c =
    all-members (is_place (g.M.Masks.plan c.args.masks.now) c.args.group c.args.round) c.args.hearers.now.alike (λ i member. (c.requires.can i member).place)

pub answers-requires-clause-missing : goal.answers-requires-clause-missing
answers-requires-clause-missing g c =
    alike-places (g.M.Masks.plan c.args.masks.now) c.args.group c.args.round c.args.hearers.now.alike c.args.hearers.now.missing c.requires.can (λ none. c.if-len-eq0.false (c.len.ensures ∙ none))
