use Rattle.std.proofs.Common.{◌≡◌, ◌-◌, ◌<◌, ◌∙◌, suc, ap, set, sym, subst, arith}
use Rattle.group_plan.specs.Plans.{size, is_place}
use Rattle.group_plan.specs.Tables.{entry}
use Rattle.ideal_masks.specs.KeptMasks.{MasksView, no_words, with_pair, kept_words, KeepsMasks, SetsPair}
use Rattle.ideal_masks.proofs.KeptLemmas.{place-in, below-in, found, set_is, keeps-change, pair-stays, sets-pair}
use Rattle.ideal_masks.proofs.mask_table.MaskTable.set_pair.Goals as goal

pub set_pair-requires-clause-round : goal.set_pair-requires-clause-round
set_pair-requires-clause-round c =
    let high = place-in c.self.inside.plan c.args.group c.args.round c.args.high (ap (λ t. is_place t.plan c.args.group c.args.round c.args.high) c.self.view_is ∙ c.requires.place) in
    let at = below-in c.self.inside.plan c.args.group c.args.round c.args.low c.args.high c.requires.order high in
    (found c.self.inside.plan c.self.inside.groups.items c.args.group c.args.round c.args.low c.index_mut.result.now at c.self.invariant c.index_mut.ensures.value).round

pub set_pair-requires-clause-meter : goal.set_pair-requires-clause-meter
set_pair-requires-clause-meter c =
    let high = place-in c.self.inside.plan c.args.group c.args.round c.args.high (ap (λ t. is_place t.plan c.args.group c.args.round c.args.high) c.self.view_is ∙ c.requires.place) in
    let at = below-in c.self.inside.plan c.args.group c.args.round c.args.low c.args.high c.requires.order high in
    (found c.self.inside.plan c.self.inside.groups.items c.args.group c.args.round c.args.low c.index_mut.result.now at c.self.invariant c.index_mut.ensures.value).meter

pub set_pair-requires-clause-above : goal.set_pair-requires-clause-above
set_pair-requires-clause-above c =
    let high = place-in c.self.inside.plan c.args.group c.args.round c.args.high (ap (λ t. is_place t.plan c.args.group c.args.round c.args.high) c.self.view_is ∙ c.requires.place) in
    let at = below-in c.self.inside.plan c.args.group c.args.round c.args.low c.args.high c.requires.order high in
    let long = (found c.self.inside.plan c.self.inside.groups.items c.args.group c.args.round c.args.low c.index_mut.result.now at c.self.invariant c.index_mut.ensures.value).long in
    let within = high.meter in
    let order = c.requires.order in
    rw long (omega arith)

pub invariant_of-self : goal.invariant_of-self
invariant_of-self c =
    let plan = c.self.inside.plan in
    let groups = c.self.inside.groups.items in
    let k = c.args.high - c.args.low - 1 in
    let high = place-in plan c.args.group c.args.round c.args.high (ap (λ t. is_place t.plan c.args.group c.args.round c.args.high) c.self.view_is ∙ c.requires.place) in
    let at = below-in plan c.args.group c.args.round c.args.low c.args.high c.requires.order high in
    let is = (found plan groups c.args.group c.args.round c.args.low c.index_mut.result.now at c.self.invariant c.index_mut.ensures.value).is in
    let within = high.meter in
    let order = c.requires.order in
    let above : k < size plan.groups c.args.group - suc c.args.low = omega arith in
    subst (KeepsMasks plan) (sym (set_is groups c.args.group c.args.round c.args.low (with_pair k c.args.word) c.index_mut.result.now c.set_pair.new.self is c.set_pair.ensures))
    (keeps-change plan groups c.args.group c.args.round c.args.low (with_pair k c.args.word) at c.self.invariant
    (pair-stays (size plan.groups c.args.group) c.args.low k c.args.word (entry no_words groups c.args.group c.args.round c.args.low) c.word_is.ensures above))

pub returns : goal.returns
returns c =
    let plan = c.self.inside.plan in
    let groups = c.self.inside.groups.items in
    let k = c.args.high - c.args.low - 1 in
    let high = place-in plan c.args.group c.args.round c.args.high (ap (λ t. is_place t.plan c.args.group c.args.round c.args.high) c.self.view_is ∙ c.requires.place) in
    let at = below-in plan c.args.group c.args.round c.args.low c.args.high c.requires.order high in
    let is = (found plan groups c.args.group c.args.round c.args.low c.index_mut.result.now at c.self.invariant c.index_mut.ensures.value).is in
    let order = c.requires.order in
    let place : k ≡ c.args.high - suc c.args.low = omega arith in
    subst (λ (old : MasksView). SetsPair old c.args.group c.args.round c.args.low c.args.high c.args.word (record { plan = plan; words = kept_words (set groups c.args.group c.set_pair.new.self) })) c.self.view_is
    (rw (set_is groups c.args.group c.args.round c.args.low (with_pair k c.args.word) c.index_mut.result.now c.set_pair.new.self is c.set_pair.ensures)
    (sets-pair plan groups c.args.group c.args.round c.args.low c.args.high k c.args.word high order place c.self.invariant))
