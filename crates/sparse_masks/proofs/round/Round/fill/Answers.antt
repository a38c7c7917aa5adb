use Rattle.std.proofs.Common.{◌≡◌, ◌<◌, ℕ, true, List, [], sym, ap, subst, ◌∙◌, length}
use Rattle.std.specs.Prelude.{nat_lt, slice_index_or, if◌then◌else◌}
use Rattle.std.specs.List.{list_all}
use Rattle.std.proofs.lemmas.List.{get_or_default}
use Rattle.missing_round.specs.Sets.{is_member}
use Rattle.mask_graphs.proofs.ListFacts.{member_head}
use Rattle.sparse_masks.proofs.RoundLemmas.{component-below, filled_begins, filled_ends, filled_passes, filled_puts, filled_within}
use Rattle.sparse_masks.proofs.round.Round.fill.Goals as goal

pub loop-meter-init : goal.loop-meter-init
loop-meter-init c =
    filled_begins c.args.self.now c.into_iter-meter-iterator.result c.args.sets.now
    (c.into_iter-meter-iterator.ensures.into_iter_gives ∙ c.members-meter-items.ensures.members) c.requires.none

pub bounds-sets-meter : goal.bounds-sets-meter
bounds-sets-meter c =
    filled_within c.args.self.now c.requires.round c.loop-meter.sets c.loop-meter.meter-iterator c.next.new.self c.in-Some.meter c.in-Some.ensures.steps c.loop-meter.invariant

pub component-requires-clause-survivor : goal.component-requires-clause-survivor
component-requires-clause-survivor c =
    c.loop-meter.invariant.inside c.in-Some.meter (ap (is_member c.in-Some.meter) c.in-Some.ensures.steps ∙ member_head c.in-Some.meter c.next.new.self)

pub put_each-requires : goal.put_each-requires
put_each-requires c =
    subst (λ (l : List ℕ). list_all (λ i. nat_lt i (length c.loop-meter.sets)) l ≡ true) (sym c.component.ensures)
    (component-below c.args.self.now c.requires.round (length c.loop-meter.sets) c.in-Some.meter c.loop-meter.invariant.long)

pub loop-meter-preserved-then-len-eq0 : goal.loop-meter-preserved-then-len-eq0
loop-meter-preserved-then-len-eq0 c =
    filled_puts c.args.self.now c.requires.round c.loop-meter.sets c.put_each.new.sets c.loop-meter.meter-iterator c.next.new.self c.in-Some.meter c.in-Some.ensures.steps c.loop-meter.invariant
    c.put_each.ensures.long
    (λ i. c.put_each.ensures.each i ∙ ap (λ (s : List ℕ). if is_member i s then s else slice_index_or c.loop-meter.sets i []) c.component.ensures)

pub loop-meter-preserved : goal.loop-meter-preserved
loop-meter-preserved c =
    let within : c.in-Some.meter < length c.loop-meter.sets
    = filled_within c.args.self.now c.requires.round c.loop-meter.sets c.loop-meter.meter-iterator c.next.new.self c.in-Some.meter c.in-Some.ensures.steps c.loop-meter.invariant in
    filled_passes c.args.self.now c.requires.round c.loop-meter.sets c.loop-meter.meter-iterator c.next.new.self c.in-Some.meter c.in-Some.ensures.steps
    (λ none.
    let empty : length c.index-sets-meter.result ≡ 0
    = ap length (c.index-sets-meter.is ∙ get_or_default c.loop-meter.sets c.in-Some.meter c.index-sets-meter.result [] within ∙ none) in
    c.if-len-eq0.false (c.len.ensures ∙ empty))
    c.loop-meter.invariant

pub returns : goal.returns
returns c = filled_ends c.args.self.now c.loop-meter.sets c.loop-meter.meter-iterator c.in-None.ensures.steps.0 c.loop-meter.invariant
