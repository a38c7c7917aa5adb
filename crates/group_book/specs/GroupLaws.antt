-- What of a journal each group decides alone.
use Rattle.std.specs.Prelude.{◌≡◌, ℕ, ◌↔◌, List, Option}
use Rattle.meter_frames.specs.declared.Frame.{Frame}
use Rattle.event_schedule.specs.declared.Event.{Event}
use Rattle.event_schedule.specs.declared.Line.{Line}
use Rattle.event_schedule.specs.Schedule.{Shape}
use Rattle.event_schedule.specs.Journal.{core_line}
use Rattle.group_plan.specs.Tables.{PresenceView}
use Rattle.event_schedule.specs.ByGroup.{group_of, lines_in}
use Rattle.group_book.specs.Groups.{GroupView}
use Rattle.group_book.specs.Replay.{IsJournal, IsLedger, Replays}

-- the core's line of an event is that after the lines of its own group alone
abbrev pub LinesAreOfGroups : Type 0
LinesAreOfGroups = (s : Shape) (journal : List Line) (e : Event) (given : Option Frame) →
    core_line s journal e given ≡ core_line s (lines_in (group_of e) journal) e given

-- lines are the core's, one after another, exactly where those of each group are
abbrev pub JournalsAreOfGroups : Type 0
JournalsAreOfGroups = (s : Shape) (lines : List Line) → IsJournal s lines ↔ ((g : ℕ) → IsJournal s (lines_in g lines))

-- the groups' lines can be merged in any way
abbrev pub MergesAreJournals : Type 0
MergesAreJournals = (s : Shape) (one other : List Line) → ((g : ℕ) → lines_in g other ≡ lines_in g one) → IsJournal s one → IsJournal s other

-- what is kept of a group is what any journal says of it that has the group's lines
abbrev pub GroupsStay : Type 0
GroupsStay = (p : PresenceView) (one other : List Line) (v : GroupView) → IsLedger p other → lines_in v.group other ≡ lines_in v.group one → Replays p one v → Replays p other v
