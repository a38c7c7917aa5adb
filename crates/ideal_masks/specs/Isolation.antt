-- Isolation: what the transcript of a schedule says of every other table of readings that agrees, and of every mask table.
use Rattle.std.specs.Prelude.{◌≡◌, ℕ, ◌<◌, true, ◌||◌, List, length, reverse}
use Rattle.group_plan.specs.Plans.{PlanView, size}
use Rattle.group_plan.specs.Tables.{reading, IsReadingTable}
use Rattle.event_schedule.specs.declared.Event.{Event}
use Rattle.event_schedule.specs.Tables.{Masks}
use Rattle.event_schedule.specs.Transcript.{transcript}
use Rattle.ideal_masks.specs.declared.Offset.{Offset}
use Rattle.ideal_masks.specs.Pools.{Pool, nobody}
use Rattle.ideal_masks.specs.Offsets.{offsets_for, AgreeFor}
use Rattle.ideal_masks.specs.ListTables.{ReadingTable, MaskTable, masks_in, shift_table, unshift_table, IsMaskTable}
use Rattle.ideal_masks.specs.Moves.{offset_list, listed}

-- two mask tables of the plan have the same words of the pool: the own words of its meters, and each pair word with an end in it
pub record KeepsWords (pool : Pool) (plan : PlanView) (m k : MaskTable) : Type 0 where
  pub own : (g r i : ℕ) → g < length plan.groups → r < plan.rounds → i < size plan.groups g → pool g i ≡ true →
      (masks_in m).own g r i ≡ (masks_in k).own g r i
  pub pair : (g r i j : ℕ) → g < length plan.groups → r < plan.rounds → i < j → j < size plan.groups g → (pool g i || pool g j) ≡ true →
      (masks_in m).pair g r i j ≡ (masks_in k).pair g r i j

-- under these offsets the table y has the transcript that x has, the pool has the same words, and shift and unshift undo each other
pub record CarriesFor (pool : Pool) (plan : PlanView) (x : ReadingTable) (events : List Event) (y : ReadingTable) (o : Masks) (m : MaskTable) : Type 0 where
  pub same_lines :
      transcript plan.groups (reading y) (masks_in (shift_table plan o m)) events
      ≡ transcript plan.groups (reading x) (masks_in m) events
  pub words : KeepsWords pool plan m (shift_table plan o m)
  pub undone : unshift_table plan o (shift_table plan o m) ≡ m
  pub redone : shift_table plan o (unshift_table plan o m) ≡ m

-- and where nobody is in the pool
abbrev pub Carries : PlanView → ReadingTable → List Event → ReadingTable → Masks → MaskTable → Type 0
Carries = CarriesFor nobody

-- the list of the moved words between two tables
abbrev pub offsets_between_for : Pool → PlanView → ReadingTable → ReadingTable → List Event → List Offset
offsets_between_for pool plan x y events = offset_list plan (offsets_for pool plan.groups (reading x) (reading y) (reverse events))

abbrev pub offsets_between : PlanView → ReadingTable → ReadingTable → List Event → List Offset
offsets_between = offsets_between_for nobody

-- no transcript of this schedule tells a pool, with its readings and its words, x from any table that agrees with it for the pool:
-- each has the same transcript under its shift
abbrev pub IsolatedFor : Pool → PlanView → ReadingTable → List Event → Type 0
IsolatedFor pool plan x events =
    (y : ReadingTable) → IsReadingTable plan y → AgreeFor pool plan.groups (reading x) (reading y) (reverse events) →
    (m : MaskTable) → IsMaskTable plan m → CarriesFor pool plan x events y (listed (offsets_between_for pool plan x y events)) m

-- no transcript of this schedule tells x from any table that agrees with it: each has the same transcript under its shift
abbrev pub Isolated : PlanView → ReadingTable → List Event → Type 0
Isolated = IsolatedFor nobody
