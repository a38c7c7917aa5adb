use Rattle.std.proofs.Common.{◌∙◌, ap, set, sym, subst}
use Rattle.group_plan.specs.Plans.{is_place}
use Rattle.ideal_masks.specs.KeptMasks.{no_words, with_own, kept_words, KeepsMasks, SetsOwn}
use Rattle.ideal_masks.specs.KeptMasks.{MasksView}
use Rattle.group_plan.specs.Plans.{size}
use Rattle.group_plan.specs.Tables.{entry}
use Rattle.ideal_masks.proofs.KeptLemmas.{place-in, found, set_is, keeps-change, own-stays, sets-own}
use Rattle.ideal_masks.proofs.mask_table.MaskTable.set_own.Goals as goal

pub set_own-requires-clause-round : goal.set_own-requires-clause-round
set_own-requires-clause-round c =
    let at = place-in c.self.inside.plan c.args.group c.args.round c.args.meter (ap (λ t. is_place t.plan c.args.group c.args.round c.args.meter) c.self.view_is ∙ c.requires) in
    (found c.self.inside.plan c.self.inside.groups.items c.args.group c.args.round c.args.meter c.index_mut.result.now at c.self.invariant c.index_mut.ensures.value).round

pub set_own-requires-clause-meter : goal.set_own-requires-clause-meter
set_own-requires-clause-meter c =
    let at = place-in c.self.inside.plan c.args.group c.args.round c.args.meter (ap (λ t. is_place t.plan c.args.group c.args.round c.args.meter) c.self.view_is ∙ c.requires) in
    (found c.self.inside.plan c.self.inside.groups.items c.args.group c.args.round c.args.meter c.index_mut.result.now at c.self.invariant c.index_mut.ensures.value).meter

pub invariant_of-self : goal.invariant_of-self
invariant_of-self c =
    let plan = c.self.inside.plan in
    let groups = c.self.inside.groups.items in
    let at = place-in plan c.args.group c.args.round c.args.meter (ap (λ t. is_place t.plan c.args.group c.args.round c.args.meter) c.self.view_is ∙ c.requires) in
    let is = (found plan groups c.args.group c.args.round c.args.meter c.index_mut.result.now at c.self.invariant c.index_mut.ensures.value).is in
    subst (KeepsMasks plan) (sym (set_is groups c.args.group c.args.round c.args.meter (with_own c.args.word) c.index_mut.result.now c.set_own.new.self is c.set_own.ensures))
    (keeps-change plan groups c.args.group c.args.round c.args.meter (with_own c.args.word) at c.self.invariant
    (own-stays (size plan.groups c.args.group) c.args.meter c.args.word (entry no_words groups c.args.group c.args.round c.args.meter) c.word_is.ensures))

pub returns : goal.returns
returns c =
    let plan = c.self.inside.plan in
    let groups = c.self.inside.groups.items in
    let at = place-in plan c.args.group c.args.round c.args.meter (ap (λ t. is_place t.plan c.args.group c.args.round c.args.meter) c.self.view_is ∙ c.requires) in
    let is = (found plan groups c.args.group c.args.round c.args.meter c.index_mut.result.now at c.self.invariant c.index_mut.ensures.value).is in
    subst (λ (old : MasksView). SetsOwn old c.args.group c.args.round c.args.meter c.args.word (record { plan = plan; words = kept_words (set groups c.args.group c.set_own.new.self) })) c.self.view_is
    (rw (set_is groups c.args.group c.args.round c.args.meter (with_own c.args.word) c.index_mut.result.now c.set_own.new.self is c.set_own.ensures)
    (sets-own plan groups c.args.group c.args.round c.args.meter c.args.word at c.self.invariant))
