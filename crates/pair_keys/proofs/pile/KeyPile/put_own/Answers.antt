use Rattle.std.proofs.Common.{◌≡◌, ◌∙◌, Some, is_some, refl, sym, ap, slice_get}
use Rattle.pair_keys.proofs.PileLemmas.{read_at, keeps-set, room-own, kept-own, same-keys, own-outside, own-place}
use Rattle.pair_keys.proofs.pile.KeyPile.put_own.Goals as goal

pub returns-in-None : goal.returns-in-None
returns-in-None c =
    (own-outside c.args.self.now.plan c.args.self.now.groups.items c.args.group c.args.meter _ c.args.self.now.keeps refl (sym c.own_slot.ensures ∙ c.in-None.is), refl)

pub returns-in-Some-Some : goal.returns-in-Some-Some
returns-in-Some-Some c =
    let place = own-place c.args.self.now.plan c.args.self.now.groups.items c.args.group c.args.meter _ _ c.args.self.now.keeps refl (sym c.own_slot.ensures ∙ c.in-Some-Some.is) in
    (place.of_plan, ap is_some (place.key ∙ c.in-Some-Some.field-0-is), refl, refl)

pub invariant_of-self : goal.invariant_of-self
invariant_of-self c =
    let k = c.index_mut.result.now in
    let place = own-place c.args.self.now.plan c.args.self.now.groups.items c.args.group c.args.meter _ _ c.args.self.now.keeps refl (sym c.own_slot.ensures ∙ c.in-Some-None.is) in
    let at : slice_get c.args.self.now.groups.items c.args.group ≡ Some k = read_at _ _ k place.group c.index_mut.ensures.value in
    record { keeps = keeps-set _ _ _ k _ c.args.self.now.keeps place.group at (room-own k _ c.args.meter (Some c.args.key) refl refl) }

pub returns-in-Some-None : goal.returns-in-Some-None
returns-in-Some-None c =
    let k = c.index_mut.result.now in
    let place = own-place c.args.self.now.plan c.args.self.now.groups.items c.args.group c.args.meter _ _ c.args.self.now.keeps refl (sym c.own_slot.ensures ∙ c.in-Some-None.is) in
    let at : slice_get c.args.self.now.groups.items c.args.group ≡ Some k = read_at _ _ k place.group c.index_mut.ensures.value in
    (place.of_plan, place.key ∙ c.in-Some-None.field-0-is, same-keys _ _ _ (kept-own _ c.args.group c.args.meter k _ c.args.key place.group at (place.inside k at) refl refl))
