-- Each table of readings is isolated on a ring, whatever the schedule is.
use Rattle.std.proofs.Common.{◌≡◌, ℕ, List, sym, subst}
use Rattle.group_plan.specs.Plans.{PlanView}
use Rattle.group_plan.specs.Tables.{reading, IsReadingTable}
use Rattle.ideal_masks.specs.ListTables.{ReadingTable}
use Rattle.ideal_masks.specs.Offsets.{shift}
use Rattle.ideal_masks.proofs.TwoWorlds.{unshift-shift, shift-unshift}
use Rattle.event_schedule.specs.declared.Event.{Event}
use Rattle.event_schedule.specs.Tables.{IsOfPlan, IsBounded}
use Rattle.event_schedule.specs.Transcript.{transcript}
use Rattle.event_schedule.proofs.ScheduleLemmas.{after-reverse}
use Rattle.sparse_masks.specs.Neighbours.{ring}
use Rattle.sparse_masks.specs.Offsets.{RingAgree, ring_offsets}
use Rattle.sparse_masks.proofs.WorldLemmas.{ring_worlds}
use Rattle.sparse_masks.proofs.ConverseLemmas.{ring_converse}
use Rattle.command_texts.specs.RingIsolation.{RingIsolated, ring_between}

pub ring_isolated : (w : ℕ) (plan : PlanView) (x : ReadingTable) (events : List Event) → IsOfPlan plan.groups (reading x)
    → ((y : ReadingTable) → IsReadingTable plan y → IsBounded plan.groups (reading y)) → IsBounded plan.groups (reading x) → RingIsolated w plan x events
ring_isolated w plan x events of_plan bounded x_bounded = record {
  carried = λ y fits agree m words. record {
    same_lines = subst (λ whole. transcript plan.groups (reading y) (ring w plan.groups (shift (ring_offsets w plan.groups (reading x) (reading y) whole) m)) events ≡ transcript plan.groups (reading x) (ring w plan.groups m) events) (after-reverse events)
        (ring_worlds w plan.groups (reading x) (reading y) m events of_plan x_bounded (bounded y fits)
        (subst (RingAgree w plan.groups (reading x) (reading y)) (sym (after-reverse events)) agree));
    undone = unshift-shift (ring_between w plan x y events) m words;
    redone = shift-unshift (ring_between w plan x y events) m words;
  };
  converse = λ y fits presence m k same.
      subst (RingAgree w plan.groups (reading x) (reading y)) (after-reverse events)
      (ring_converse w plan.groups (reading x) (reading y) m k events presence x_bounded (bounded y fits) same);
}
