use Rattle.std.proofs.Common.{◌≡◌, ◌∙◌, Some, is_some, refl, sym, ap, slice_get}
use Rattle.pair_keys.proofs.PileLemmas.{read_at, keeps-set, room-pair, kept-pair, same-keys, pair-outside, pair-place}
use Rattle.pair_keys.proofs.pile.KeyPile.put_pair.Goals as goal

pub returns-in-None : goal.returns-in-None
returns-in-None c =
    (pair-outside c.args.self.now.plan c.args.self.now.groups.items c.args.group c.args.low c.args.high _ _ c.args.self.now.keeps refl refl (sym c.pair_slot.ensures ∙ c.in-None.is), refl)

pub returns-in-Some-Some : goal.returns-in-Some-Some
returns-in-Some-Some c =
    let place = pair-place c.args.self.now.plan c.args.self.now.groups.items c.args.group c.args.low c.args.high _ _ _ c.args.self.now.keeps refl refl (sym c.pair_slot.ensures ∙ c.in-Some-Some.is) in
    (place.of_plan, ap is_some (place.key ∙ c.in-Some-Some.field-0-is), refl, refl)

pub invariant_of-self : goal.invariant_of-self
invariant_of-self c =
    let k = c.index_mut.result.now in
    let row = c.index_mut-in-Some-None.result.now in
    let place = pair-place c.args.self.now.plan c.args.self.now.groups.items c.args.group c.args.low c.args.high _ _ _ c.args.self.now.keeps refl refl (sym c.pair_slot.ensures ∙ c.in-Some-None.is) in
    let at : slice_get c.args.self.now.groups.items c.args.group ≡ Some k = read_at _ _ k place.group c.index_mut.ensures.value in
    let row_at : slice_get k.lower.items c.args.high ≡ Some row = read_at _ _ row (place.room k at) c.index_mut-in-Some-None.ensures.value in
    record { keeps = keeps-set _ _ _ k _ c.args.self.now.keeps place.group at (room-pair k _ c.args.high c.args.low row _ (Some c.args.key) row_at (place.room k at) refl refl refl) }

pub returns-in-Some-None : goal.returns-in-Some-None
returns-in-Some-None c =
    let k = c.index_mut.result.now in
    let row = c.index_mut-in-Some-None.result.now in
    let place = pair-place c.args.self.now.plan c.args.self.now.groups.items c.args.group c.args.low c.args.high _ _ _ c.args.self.now.keeps refl refl (sym c.pair_slot.ensures ∙ c.in-Some-None.is) in
    let at : slice_get c.args.self.now.groups.items c.args.group ≡ Some k = read_at _ _ k place.group c.index_mut.ensures.value in
    let row_at : slice_get k.lower.items c.args.high ≡ Some row = read_at _ _ row (place.room k at) c.index_mut-in-Some-None.ensures.value in
    (place.of_plan, place.key ∙ c.in-Some-None.field-0-is, same-keys _ _ _ (kept-pair _ c.args.group c.args.high c.args.low k _ row _ c.args.key place.group at row_at (place.room k at) (place.inside k row at row_at) refl refl refl))
