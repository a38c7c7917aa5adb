-- What a request writes into the pages of its group.
use Rattle.std.specs.Prelude.{◌≡◌, ◌≤◌, ℕ, ◌+◌, List, [], ◌∷◌, ◌++◌, Some, None, Result, Ok, Err}
use Rattle.group_plan.specs.Tables.{PresenceView}
use Rattle.event_schedule.specs.declared.Event.{Event}
use Rattle.event_schedule.specs.declared.Line.{Line}
use Rattle.event_schedule.specs.Events.{event_of}
use Rattle.event_schedule.specs.Journal.{core_line}
use Rattle.transcript_log.specs.Lines.{LinesView}
use Rattle.event_schedule.specs.Schedule.{shape_of_presence}
use Rattle.event_schedule.specs.ByGroup.{group_of}
use Rattle.group_book.specs.Groups.{GroupView}
use Rattle.group_book.specs.Replay.{IsGroup}
use Rattle.shared_book.specs.declared.parcel.Reply.{Reply}
use Rattle.shared_book.specs.declared.parcel.Request.{Request}
use Rattle.shared_book.specs.declared.parcel.CommitError.{CommitError}
use Rattle.shared_book.specs.declared.parcel.CommitError.TheVariants.{Frame, Take, Place}
use Rattle.shared_book.specs.Parcels.{Judged, Accepted, RefusedFrame, Outside, judged_request, reply_of}

-- a request adds its line to the pages of group g, which were what this journal said
pub record Writes (p : PresenceView) (j : List Line) (request : Request) (g : ℕ) (before : LinesView) (reply : Reply) (v : GroupView) (after : LinesView) : Type 0 where
  pub event : Event
  pub line : Line
  pub accepted : judged_request p.plan j request ≡ Accepted event
  pub core : line ≡ core_line (shape_of_presence p) j event None
  pub replied : reply_of line ≡ Some reply
  pub own : group_of (event_of line) ≡ g
  pub pages : IsGroup p (j ++ line ∷ []) g v
  pub lines : after.items ≡ before.items ++ line ∷ []
  pub spare : before.spare ≤ after.spare + 1

-- nothing was written, for this reason
pub record Leaves (p : PresenceView) (j : List Line) (request : Request) (g : ℕ) (before : LinesView) (why : Judged) (v : GroupView) (after : LinesView) : Type 0 where
  pub judged : judged_request p.plan j request ≡ why
  pub pages : IsGroup p j g v
  pub lines : after.items ≡ before.items
  pub spare : before.spare ≤ after.spare + 1

-- write of a request into the pages of its group
abbrev pub WriteEnds : PresenceView → List Line → Request → ℕ → LinesView → Result Reply CommitError → GroupView → LinesView → Type 0
WriteEnds p j request g before (Ok reply) v after = Writes p j request g before reply v after
WriteEnds p j request g before (Err (Frame e)) v after = ⊥
WriteEnds p j request g before (Err (Take e)) v after = Leaves p j request g before (RefusedFrame e) v after
WriteEnds p j request g before (Err Place) v after = Leaves p j request g before Outside v after
