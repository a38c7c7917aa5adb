-- What the laws on finite mask tables say: the table of any masks is one of the plan, and says what they say.
use Rattle.std.specs.Prelude.{◌≡◌, List}
use Rattle.group_plan.specs.Plans.{PlanView}
use Rattle.group_plan.specs.Tables.{reading, IsReadingTable}
use Rattle.event_schedule.specs.declared.Event.{Event}
use Rattle.event_schedule.specs.Tables.{Masks, IsMasks}
use Rattle.event_schedule.specs.Transcript.{transcript}
use Rattle.ideal_masks.specs.ListTables.{ReadingTable, masks_in, mask_table_of, IsMaskTable}

-- words below 2^64 make a mask table of the plan
abbrev pub WordsMakeTable : Type 0
WordsMakeTable = (plan : PlanView) (m : Masks) → IsMasks m → IsMaskTable plan (mask_table_of plan m)

-- readings of the plan have under the finite table the transcript that they have under the masks, whatever the schedule is
abbrev pub TableKeepsLines : Type 0
TableKeepsLines = (plan : PlanView) (x : ReadingTable) (m : Masks) (events : List Event) → IsReadingTable plan x →
    transcript plan.groups (reading x) (masks_in (mask_table_of plan m)) events ≡ transcript plan.groups (reading x) m events
