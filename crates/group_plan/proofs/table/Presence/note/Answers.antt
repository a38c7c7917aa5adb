use Rattle.std.proofs.Common.{◌≡◌, true, ap, ◌∙◌}
use Rattle.group_plan.specs.Plans.{is_place, is_member}
use Rattle.group_plan.proofs.TableLemmas.{keeps_note, notes_now}
use Rattle.group_plan.proofs.table.Presence.note.Goals as goal

pub invariant_of-self : goal.invariant_of-self
invariant_of-self c =
    let place : is_place c.self.inside.plan c.args.group c.args.round c.args.meter ≡ true = ap (λ t. is_place t.plan c.args.group c.args.round c.args.meter) c.self.view_is ∙ c.requires.place in
    let member : is_member c.self.inside.plan.groups c.args.group c.args.round c.args.meter ≡ true = ap (λ t. is_member t.plan.groups c.args.group c.args.round c.args.meter) c.self.view_is ∙ c.requires.member in
    rw c.place_at-at.ensures.at
    (keeps_note c.self.inside.plan c.self.inside.present.items c.args.group c.args.round c.args.meter c.self.invariant place member)

pub returns : goal.returns
returns c =
    notes_now c.args.self.now c.self.inside.plan c.self.inside.present.items c.self.invariant c.self.view_is c.args.group c.args.round c.args.meter c.place_at-at.result c.requires.place c.place_at-at.ensures.at
