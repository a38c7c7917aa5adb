-- What the end of `ring_offsets` says of whole transcripts.
use Rattle.std.proofs.Common.{◌≡◌, ℕ, List, sym, subst, ◌∙◌}
use Rattle.std.specs.Prelude.{reverse, Result, Ok, Err, IfOk, IfErr}
use Rattle.group_plan.specs.Plans.{IsWithinLimits}
use Rattle.group_plan.specs.Tables.{ReadingsView, reading, IsReadingTable}
use Rattle.event_schedule.specs.declared.Event.{Event}
use Rattle.event_schedule.specs.Transcript.{transcript}
use Rattle.event_schedule.proofs.ScheduleLemmas.{after-reverse}
use Rattle.ideal_masks.specs.declared.Offset.{Offset}
use Rattle.ideal_masks.specs.Offsets.{shift}
use Rattle.ideal_masks.proofs.AgreementLemmas.{bounded}
use Rattle.sparse_masks.specs.declared.RingDiffer.{RingDiffer}
use Rattle.sparse_masks.specs.declared.RingDiffer.TheVariants.{Presence, Component, Memory}
use Rattle.sparse_masks.specs.Neighbours.{ring}
use Rattle.sparse_masks.specs.Offsets.{RingAgree, ring_offsets}
use Rattle.sparse_masks.specs.OffsetEnds.{RingOffsetsEnd, HasRingWorlds, HasNoRingWorlds}
use Rattle.sparse_masks.proofs.ConverseLemmas.{ring_converse}
use Rattle.sparse_masks.proofs.WorldLemmas.{ring_worlds}

here : (x y : ReadingsView) → IsReadingTable y.plan y.table → y.plan ≡ x.plan → IsReadingTable x.plan y.table
here x y fits same = subst (λ p. IsReadingTable p y.table) same fits

pub worlds-end : (w : ℕ) (x y : ReadingsView) (events : List Event) (result : Result (List Offset) RingDiffer) → IsReadingTable x.plan x.table → IsReadingTable y.plan y.table → y.plan ≡ x.plan → IsWithinLimits x.plan
    → RingOffsetsEnd w x y events result → IfOk result (λ _. HasRingWorlds w x y events)
worlds-end w x y events (Err e) x_fits y_fits same limits ends = tt
worlds-end w x y events (Ok list) x_fits y_fits same limits ends = λ m.
    let groups = x.plan.groups in
    let agree : RingAgree w groups (reading x.table) (reading y.table) _ = subst (RingAgree w groups (reading x.table) (reading y.table)) (sym (after-reverse events)) ends.0 in
    subst (λ whole. transcript groups (reading y.table) (ring w groups (shift (ring_offsets w groups (reading x.table) (reading y.table) whole) m)) events ≡ transcript groups (reading x.table) (ring w groups m) events)
    (after-reverse events)
    (ring_worlds w groups (reading x.table) (reading y.table) m events x_fits.of_members (bounded x.plan x.table limits x_fits) (bounded x.plan y.table limits (here x y y_fits same)) agree)

pub no_worlds-end : (w : ℕ) (x y : ReadingsView) (events : List Event) (result : Result (List Offset) RingDiffer) → IsReadingTable x.plan x.table → IsReadingTable y.plan y.table → y.plan ≡ x.plan → IsWithinLimits x.plan
    → RingOffsetsEnd w x y events result → IfErr result (HasNoRingWorlds w x y events)
no_worlds-end w x y events (Ok list) x_fits y_fits same limits ends = tt
no_worlds-end w x y events (Err (Presence g r i)) x_fits y_fits same limits ends = tt
no_worlds-end w x y events (Err (Component g r i a b)) x_fits y_fits same limits ends = λ m k one.
    let groups = x.plan.groups in
    let agree : RingAgree w groups (reading x.table) (reading y.table) (reverse events)
    = subst (RingAgree w groups (reading x.table) (reading y.table)) (after-reverse events)
    (ring_converse w groups (reading x.table) (reading y.table) m k events ends.0 (bounded x.plan x.table limits x_fits) (bounded x.plan y.table limits (here x y y_fits same)) one) in
    let other = ends.1.other in
    other.differ (other.first ∙ agree.sums g r i other.announced other.survivor other.opened ∙ sym other.second)
no_worlds-end w x y events (Err Memory) x_fits y_fits same limits ends = tt
