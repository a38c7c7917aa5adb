-- Ring isolation: what the transcript of a schedule under ring masks says of every other table of readings that agrees on the ring, and of
-- every mask table.
use Rattle.std.specs.Prelude.{ℕ, List, reverse, ◌≡◌, is_some}
use Rattle.group_plan.specs.Plans.{PlanView}
use Rattle.group_plan.specs.Tables.{reading, IsReadingTable}
use Rattle.ideal_masks.specs.ListTables.{ReadingTable}
use Rattle.event_schedule.specs.declared.Event.{Event}
use Rattle.event_schedule.specs.Tables.{Masks, IsMasks}
use Rattle.sparse_masks.specs.Neighbours.{ring}
use Rattle.sparse_masks.specs.Offsets.{ring_offsets, RingAgree}
use Rattle.ideal_masks.specs.Offsets.{shift, unshift}
use Rattle.event_schedule.specs.Transcript.{transcript}

-- the offsets between two tables on the ring of width w
abbrev pub ring_between : ℕ → PlanView → ReadingTable → ReadingTable → List Event → Masks
ring_between w plan x y events = ring_offsets w plan.groups (reading x) (reading y) (reverse events)

-- the tables agree on the ring
abbrev pub AgreeOnRing : ℕ → PlanView → ReadingTable → ReadingTable → List Event → Type 0
AgreeOnRing w plan x y events = RingAgree w plan.groups (reading x) (reading y) (reverse events)

-- under the ring offsets o the table y has the transcript that x has, and adding o and taking it away undo each other
pub record CarriesOnRing (w : ℕ) (plan : PlanView) (x : ReadingTable) (events : List Event) (y : ReadingTable) (m : Masks) : Type 0 where
  pub same_lines :
      transcript plan.groups (reading y) (ring w plan.groups (shift (ring_between w plan x y events) m)) events
      ≡ transcript plan.groups (reading x) (ring w plan.groups m) events
  pub undone : unshift (ring_between w plan x y events) (shift (ring_between w plan x y events) m) ≡ m
  pub redone : shift (ring_between w plan x y events) (unshift (ring_between w plan x y events) m) ≡ m

-- no transcript of this schedule under ring masks tells x from any table that agrees with it on the ring; and a table of the same presence
-- that has the transcript of x, whatever the two mask tables are, agrees with it
pub record RingIsolated (w : ℕ) (plan : PlanView) (x : ReadingTable) (events : List Event) : Type 0 where
  pub carried : (y : ReadingTable) → IsReadingTable plan y → AgreeOnRing w plan x y events → (m : Masks) → IsMasks m → CarriesOnRing w plan x events y m
  pub converse : (y : ReadingTable) → IsReadingTable plan y → ((g r i : ℕ) → is_some (reading x g r i) ≡ is_some (reading y g r i)) → (m k : Masks) →
      transcript plan.groups (reading x) (ring w plan.groups m) events ≡ transcript plan.groups (reading y) (ring w plan.groups k) events →
      AgreeOnRing w plan x y events
