use Rattle.std.proofs.Common.{◌∙◌, get_or, ap, subst, []}
use Rattle.group_plan.specs.Plans.{is_place}
use Rattle.ideal_masks.specs.KeptMasks.{no_words, HasWords}
use Rattle.ideal_masks.proofs.KeptLemmas.{place-in, found, has-words}
use Rattle.ideal_masks.proofs.mask_table.MaskTable.meter.Goals as goal

pub at-requires : goal.at-requires
at-requires c =
    let at = place-in c.self.inside.plan c.args.group c.args.round c.args.meter (ap (λ t. is_place t.plan c.args.group c.args.round c.args.meter) c.self.view_is ∙ c.requires) in
    (found c.self.inside.plan c.self.inside.groups.items c.args.group c.args.round c.args.meter c.index.result.now at c.self.invariant c.index.ensures).round

pub at-requires-2 : goal.at-requires-2
at-requires-2 c =
    let at = place-in c.self.inside.plan c.args.group c.args.round c.args.meter (ap (λ t. is_place t.plan c.args.group c.args.round c.args.meter) c.self.view_is ∙ c.requires) in
    rw c.at.ensures (found c.self.inside.plan c.self.inside.groups.items c.args.group c.args.round c.args.meter c.index.result.now at c.self.invariant c.index.ensures).meter

pub returns : goal.returns
returns c =
    let at = place-in c.self.inside.plan c.args.group c.args.round c.args.meter (ap (λ t. is_place t.plan c.args.group c.args.round c.args.meter) c.self.view_is ∙ c.requires) in
    let is = (found c.self.inside.plan c.self.inside.groups.items c.args.group c.args.round c.args.meter c.index.result.now at c.self.invariant c.index.ensures).is in
    subst (λ t. HasWords t c.args.group c.args.round c.args.meter c.at-2.result.now) c.self.view_is
    (has-words c.self.inside.plan c.self.inside.groups.items c.args.group c.args.round c.args.meter c.at-2.result.now at c.self.invariant
    (c.at-2.ensures ∙ ap (λ l. get_or l c.args.meter no_words) (c.at.ensures ∙ ap (λ l. get_or l c.args.round []) is)))
