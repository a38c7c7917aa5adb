use Rattle.std.proofs.Common.{◌+◌, ℕ, Bool, List, drop, map, sym, ap, subst, ◌∙◌, arith, refl}
use Rattle.group_plan.specs.Plans.{size}
use Rattle.mask_stream.specs.Ends.{between}
use Rattle.sparse_masks.specs.Neighbours.{are_neighbours}
use Rattle.sparse_masks.proofs.RowLemmas.{Spread, spread_begins, spread_next, spread_takes, spread_skips, spread_test}
use Rattle.sparse_masks.proofs.ring.RingMasks.spread.Goals as goal

pub loop-other-init : goal.loop-other-init
loop-other-init g c =
    let f : ℕ → ℕ = between ((g.M.Masks.table c.args.self.now.masks.now).pair c.args.group c.args.round) c.args.meter in
    let p : ℕ → Bool = are_neighbours c.args.self.now.width (size c.args.self.now.plan.now.groups c.args.group) c.args.meter in
    spread_begins p f c.args.others.now c.into_iter-other-iterator.result c.as_slice-words.result.now c.new-spread.result.items
    (c.into_iter-other-iterator.ensures.into_iter_gives ∙ c.members-other-items.ensures.members) c.new-spread.ensures
    (c.as_slice-words.ensures.value ∙ c.requires.row ∙ ap (λ l. map f l) c.requires.neighbours) c.members-other-items.ensures.set

pub offset_bounds-words-place : goal.offset_bounds-words-place
offset_bounds-words-place g c =
    let f : ℕ → ℕ = between ((g.M.Masks.table c.args.self.now.masks.now).pair c.args.group c.args.round) c.args.meter in
    let p : ℕ → Bool = are_neighbours c.args.self.now.width (size c.args.self.now.plan.now.groups c.args.group) c.args.meter in
    let before = c.loop-other.invariant in
    let is = spread_test p f c.args.others.now c.loop-other.other-iterator c.next.new.self (drop c.loop-other.place c.as_slice-words.result.now) c.loop-other.spread.items c.args.neighbours c.in-Some.other c.has.result c.in-Some.ensures.steps c.requires.neighbours c.has.ensures before in
    let n = spread_next p f c.args.others.now c.loop-other.other-iterator c.next.new.self c.as_slice-words.result.now c.loop-other.spread.items c.loop-other.place c.in-Some.other c.in-Some.ensures.steps (is ∙ c.if-has.true) before in
    let within = n.within in
    let fits = c.as_slice-words.ensures.fits in
    omega (arith, within, fits)

pub bounds-words-place : goal.bounds-words-place
bounds-words-place g c =
    let f : ℕ → ℕ = between ((g.M.Masks.table c.args.self.now.masks.now).pair c.args.group c.args.round) c.args.meter in
    let p : ℕ → Bool = are_neighbours c.args.self.now.width (size c.args.self.now.plan.now.groups c.args.group) c.args.meter in
    let before = c.loop-other.invariant in
    let is = spread_test p f c.args.others.now c.loop-other.other-iterator c.next.new.self (drop c.loop-other.place c.as_slice-words.result.now) c.loop-other.spread.items c.args.neighbours c.in-Some.other c.has.result c.in-Some.ensures.steps c.requires.neighbours c.has.ensures before in
    (spread_next p f c.args.others.now c.loop-other.other-iterator c.next.new.self c.as_slice-words.result.now c.loop-other.spread.items c.loop-other.place c.in-Some.other c.in-Some.ensures.steps (is ∙ c.if-has.true) before).within

pub overflow_add-place : goal.overflow_add-place
overflow_add-place g c =
    let f : ℕ → ℕ = between ((g.M.Masks.table c.args.self.now.masks.now).pair c.args.group c.args.round) c.args.meter in
    let p : ℕ → Bool = are_neighbours c.args.self.now.width (size c.args.self.now.plan.now.groups c.args.group) c.args.meter in
    let before = c.loop-other.invariant in
    let is = spread_test p f c.args.others.now c.loop-other.other-iterator c.next.new.self (drop c.loop-other.place c.as_slice-words.result.now) c.loop-other.spread.items c.args.neighbours c.in-Some.other c.has.result c.in-Some.ensures.steps c.requires.neighbours c.has.ensures before in
    let n = spread_next p f c.args.others.now c.loop-other.other-iterator c.next.new.self c.as_slice-words.result.now c.loop-other.spread.items c.loop-other.place c.in-Some.other c.in-Some.ensures.steps (is ∙ c.if-has.true) before in
    let within = n.within in
    let fits = c.as_slice-words.ensures.fits in
    omega (arith, within, fits)

pub loop-other-preserved-then-has : goal.loop-other-preserved-then-has
loop-other-preserved-then-has g c =
    let f : ℕ → ℕ = between ((g.M.Masks.table c.args.self.now.masks.now).pair c.args.group c.args.round) c.args.meter in
    let p : ℕ → Bool = are_neighbours c.args.self.now.width (size c.args.self.now.plan.now.groups c.args.group) c.args.meter in
    let before = c.loop-other.invariant in
    let row = c.as_slice-words.result.now in
    let is = spread_test p f c.args.others.now c.loop-other.other-iterator c.next.new.self (drop c.loop-other.place row) c.loop-other.spread.items c.args.neighbours c.in-Some.other c.has.result c.in-Some.ensures.steps c.requires.neighbours c.has.ensures before in
    subst (λ (made : List ℕ). Spread p f c.args.others.now c.next.new.self (drop (c.loop-other.place + 1) row) made) (sym c.push.ensures.items)
    (spread_takes p f c.args.others.now c.loop-other.other-iterator c.next.new.self row c.loop-other.spread.items c.loop-other.place c.in-Some.other _ c.in-Some.ensures.steps (is ∙ c.if-has.true) refl before)

pub loop-other-preserved : goal.loop-other-preserved
loop-other-preserved g c =
    let f : ℕ → ℕ = between ((g.M.Masks.table c.args.self.now.masks.now).pair c.args.group c.args.round) c.args.meter in
    let p : ℕ → Bool = are_neighbours c.args.self.now.width (size c.args.self.now.plan.now.groups c.args.group) c.args.meter in
    let before = c.loop-other.invariant in
    let words = drop c.loop-other.place c.as_slice-words.result.now in
    let is = spread_test p f c.args.others.now c.loop-other.other-iterator c.next.new.self words c.loop-other.spread.items c.args.neighbours c.in-Some.other c.has.result c.in-Some.ensures.steps c.requires.neighbours c.has.ensures before in
    subst (λ (made : List ℕ). Spread p f c.args.others.now c.next.new.self words made) (sym c.push-else-has.ensures.items)
    (spread_skips p f c.args.others.now c.loop-other.other-iterator c.next.new.self words c.loop-other.spread.items c.in-Some.other c.in-Some.ensures.steps (is ∙ c.if-has.false) before)
