use Rattle.std.proofs.Common.{rules, ◌≡◌, ◌∙◌, subst}
use Rattle.std.specs.Prelude.{Err, reverse}
use Rattle.group_plan.specs.Tables.{reading}
use Rattle.event_schedule.specs.Events.{events_of}
use Rattle.sparse_masks.specs.declared.RingDiffer.{RingDiffer}
use Rattle.sparse_masks.specs.Offsets.{ring_offsets}
use Rattle.sparse_masks.specs.OffsetEnds.{RingOffsetsEnd}
use Rattle.sparse_masks.specs.SideParts.{moves_between}
use Rattle.sparse_masks.proofs.MoveLemmas.{agreed-on_ring, list-moves_on, list-on_ring, list-places_on, sums-err}
use Rattle.sparse_masks.proofs.offsets.moves_on_ring.Goals as goal

pub returns-in_err-check_sums-clause-ends : goal.returns-in_err-check_sums-clause-ends
returns-in_err-check_sums-clause-ends c =
    let x = c.args.first.now in
    let y = c.args.second.now in
    let events = events_of c.args.transcript.now.entries in
    let differ : RingDiffer = c.in_err-check_sums.field-0.0 in
    let answered : Err differ ≡ c.from_residual-in_err-check_sums.result = search rules in
    subst (RingOffsetsEnd c.args.width x y events) answered
    (sums-err c.args.width x y events c.in_ok-book.book differ c.in_ok-book.ensures.events c.in_ok-check_places.ensures c.in_err-check_sums.ensures)

pub of-requires : goal.of-requires
of-requires c =
    let b = c.in_ok-book.book in
    list-moves_on b.presence.plan (moves_between c.args.width c.args.first.now c.args.second.now b) c.in_ok-all_moves.field-0.items c.in_ok-all_moves.ensures

pub returns-clause-ends : goal.returns-clause-ends
returns-clause-ends c =
    let x = c.args.first.now in
    let y = c.args.second.now in
    let events = events_of c.args.transcript.now.entries in (
      agreed-on_ring c.args.width x y events c.in_ok-book.book c.in_ok-book.ensures.events c.in_ok-check_places.ensures c.in_ok-check_sums.ensures,
      c.of.ensures ∙ c.in_ok-all_moves.ensures ∙ list-on_ring c.args.width x y events c.in_ok-book.book c.in_ok-book.ensures.events,
    )

pub returns-clause-places : goal.returns-clause-places
returns-clause-places c =
    let x = c.args.first.now in
    let y = c.args.second.now in
    let events = events_of c.args.transcript.now.entries in
    list-places_on x.plan (ring_offsets c.args.width x.plan.groups (reading x.table) (reading y.table) (reverse events)) c.of.result
    (c.of.ensures ∙ c.in_ok-all_moves.ensures ∙ list-on_ring c.args.width x y events c.in_ok-book.book c.in_ok-book.ensures.events)
