use Rattle.std.proofs.Common.{ℕ, subst, sym, arith, slice_set, vec_capacity}
use Rattle.meter_core.specs.SmallNotes.{AreKept}
use Rattle.meter_core.proofs.NoteLemmas.{room-to_mark, kept-marked, seen-marked, set-stands}
use Rattle.meter_core.proofs.notes.Notes.mark.Goals as goal

pub place_of-place-requires-clause-room : goal.place_of-place-requires-clause-room
place_of-place-requires-clause-room c =
    let blocks = c.self.inside.blocks in
    let room = room-to_mark blocks.items (vec_capacity blocks) c.self.inside.notes.items c.args.self.now c.args.round c.self.invariant c.self.view_is c.requires.round c.requires.first in
    omega (arith, room, blocks.ok.0)

pub invariant_of-self : goal.invariant_of-self
invariant_of-self c =
    let blocks = c.self.inside.blocks in
    let new = c.place_of-place.new.blocks in
    subst (λ (capacity : ℕ). AreKept new.items capacity (slice_set c.self.inside.notes.items c.args.round (record { members = c.place_of-place.result; kept = c.index_mut.result.now.kept }))) (sym c.place_of-place.ensures.capacity)
    (kept-marked blocks.items new.items c.bits.result (vec_capacity blocks) c.self.inside.notes.items c.args.self.now c.args.round c.index_mut.result.now c.place_of-place.result
    c.self.invariant c.place_of-place.ensures.blocks c.self.view_is c.requires.round c.index_mut.ensures.value c.requires.first c.place_of-place.ensures.place)

pub returns : goal.returns
returns c =
    let new = c.place_of-place.new.blocks in
    seen-marked c.self.inside.blocks.items new.items c.args.members c.self.inside.notes.items c.args.self.now c.args.round c.index_mut.result.now c.place_of-place.result
    c.place_of-place.ensures.blocks c.self.invariant.placed c.self.view_is c.requires.round c.index_mut.ensures.value
    (set-stands new.items c.bits.result c.args.members c.place_of-place.result c.place_of-place.ensures.place c.bits.ensures.bits c.bits.ensures.set)
