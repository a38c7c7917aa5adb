-- What the laws of this crate say. Each is proved for every plan, presence, list of lanes and list of entries.
use Rattle.std.specs.Prelude.{◌≡◌, ℕ, ◌<◌, List, [], length, reverse}
use Rattle.group_plan.specs.Plans.{IsWithinLimits}
use Rattle.group_plan.specs.Tables.{PresenceView, IsPresenceTable}
use Rattle.link_lanes.specs.Lanes.{Slot}
use Rattle.event_schedule.specs.declared.Entry.{Entry}
use Rattle.event_schedule.specs.Events.{events_of}
use Rattle.event_schedule.specs.Schedule.{Shape, shape_of_presence}
use Rattle.event_schedule.specs.Transcript.{Contents, lines_after}
use Rattle.run_rows.specs.Ticks.{Clock, clock_of, HaveDelays, IsRunPlan, IsTickRun, posts_of}
use Rattle.run_rows.specs.Report.{fate_at, row, outcome_row}
use Rattle.run_rows.specs.Summary.{summary_of_lines, summary_of_posts}
use Rattle.run_rows.specs.Posts.{posts_by_lanes}
use Rattle.run_rows.specs.Runs.{IsRun, IsReported}

-- a plan within the limits and a presence of it can run
abbrev pub PlansCanRun : Type 0
PlansCanRun = (p : PresenceView) → IsWithinLimits p.plan → IsPresenceTable p.plan p.table → IsRunPlan (shape_of_presence p) (clock_of p.plan)

-- in every tick run the posts are those by the lanes alone
abbrev pub PostsAreByLanes : Type 0
PostsAreByLanes = (s : Shape) (c : Clock) (slots : List Slot) (entries : List Entry) → IsRunPlan s c → HaveDelays entries → IsTickRun s c slots entries →
    posts_of entries ≡ posts_by_lanes s c slots

-- in every tick run the outcomes are the rows of the report by fates
abbrev pub RowsAreDelays : Type 0
RowsAreDelays = (s : Shape) (c : Clock) (slots : List Slot) (entries : List Entry) (total : ℕ → ℕ → List ℕ → ℕ) →
    IsRunPlan s c → HaveDelays entries → IsTickRun s c slots entries → (g r : ℕ) → g < length s.groups → r < c.rounds →
    outcome_row s total g r (events_of (reverse entries)) ≡ row s c (fate_at (posts_by_lanes s c slots)) total g r

-- in every tick run the summary of its lines is that by the lanes alone
abbrev pub SummariesAreOfPosts : Type 0
SummariesAreOfPosts = (s : Shape) (c : Clock) (slots : List Slot) (entries : List Entry) (words : Contents) →
    IsRunPlan s c → HaveDelays entries → IsTickRun s c slots entries →
    summary_of_lines s c words.total (lines_after s words [] (events_of entries)) ≡ summary_of_posts s c words.total (posts_by_lanes s c slots)

-- the report and the summary of a run depend on its plan, presence, lanes and totals alone
abbrev pub Reports : Type 0
Reports = (s : Shape) (c : Clock) (slots : List Slot) (words : Contents) (entries : List Entry) →
    IsRunPlan s c → IsRun s c slots words entries → IsReported s c slots words entries
