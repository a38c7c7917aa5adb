-- What becomes of parcels.
use Rattle.std.specs.Prelude.{◌≡◌, ℕ, ◌==◌, ◌%◌, List, [], ◌∷◌, ◌++◌, filter, Option, Some, None, Result, Ok, Err}
use Rattle.meter_frames.specs.declared.FrameError.{FrameError}
use Rattle.event_schedule.specs.declared.Line.{Line}
use Rattle.event_schedule.specs.Events.{event_of}
use Rattle.group_book.specs.Books.{BookView}
use Rattle.event_schedule.specs.ByGroup.{group_of}
use Rattle.shared_book.specs.declared.parcel.Parcel.{Parcel}
use Rattle.shared_book.specs.declared.parcel.Request.{Request}
use Rattle.shared_book.specs.declared.parcel.Reply.{Reply}
use Rattle.shared_book.specs.declared.parcel.CommitError.{CommitError}
use Rattle.shared_book.specs.declared.parcel.CommitError.TheVariants.{Frame, Take, Place}
use Rattle.shared_book.specs.declared.turn.Turn.{Turn}
use Rattle.shared_book.specs.Parcels.{Judged, Accepted, BadFrame, RefusedFrame, Outside, judged_after, request_of, group_in, reply_of}
use Rattle.shared_book.specs.Turns.{StartsWith, journal_after}
use Rattle.collector_workers.specs.declared.mark.Mark.{Mark}
use Rattle.collector_workers.specs.declared.mark.Mark.TheVariants.{Made, Bad, Refused, OutOfPlan}
use Rattle.collector_workers.specs.declared.outcome.Outcome.{Outcome}

-- a parcel that adds no line, with this mark
abbrev pub without_line : Mark → Outcome
without_line mark = record { mark = mark; line = None }

-- a parcel that adds this line, with its reply
abbrev pub with_line : Reply → Line → Outcome
with_line reply line = record { mark = Made reply; line = Some line }

-- what became of a parcel that was judged so: an accepted one adds the line of its event and is marked with its reply, and another one is marked
-- with its own cause
abbrev pub IsOutcome : Judged → Outcome → Type 0
IsOutcome (Accepted event) x = (line : Line) × (reply : Reply) × (x ≡ with_line reply line) × (event_of line ≡ event) × (reply_of line ≡ Some reply)
IsOutcome (BadFrame e) x = x ≡ without_line (Bad e)
IsOutcome (RefusedFrame e) x = x ≡ without_line (Refused e)
IsOutcome Outside x = x ≡ without_line OutOfPlan

-- a parcel was judged after some history, which begins with one and with which the other begins
pub record Becomes (o : BookView) (from to : List Turn) (parcel : Parcel) (x : Outcome) : Type 0 where
  pub at : List Turn
  pub since : StartsWith at from
  pub until : StartsWith to at
  pub is : IsOutcome (judged_after o.presence.plan (journal_after o at) parcel) x

-- what a commit tells, whose line is the last of these
abbrev pub IsTold : Result Reply CommitError → List Line → Outcome → Type 0
IsTold (Ok reply) lines x = (front : List Line) (line : Line) → lines ≡ front ++ line ∷ [] → x ≡ with_line reply line
IsTold (Err (Frame e)) lines x = x ≡ without_line (Bad e)
IsTold (Err (Take e)) lines x = x ≡ without_line (Refused e)
IsTold (Err Place) lines x = x ≡ without_line OutOfPlan

-- a line, where there is one, before others
abbrev pub line_before : Option Line → List Line → List Line
line_before None lines = lines
line_before (Some line) lines = line ∷ lines

-- the lines of some outcomes, in their order
abbrev pub lines_told : List Outcome → List Line
lines_told [] = []
lines_told (x ∷ xs) = line_before x.line (lines_told xs)

-- ---- who commits what

-- the worker, of so many, of what was read: that of its group; the first where it is no frame
abbrev pub worker_if_read : ℕ → Result Request FrameError → ℕ
worker_if_read workers (Ok request) = group_in request % workers
worker_if_read workers (Err e) = 0

-- the worker of a parcel
abbrev pub worker_for : ℕ → Parcel → ℕ
worker_for workers parcel = worker_if_read workers (request_of parcel)

-- the parcels of one of so many workers
abbrev pub parcels_for : ℕ → ℕ → List Parcel → List Parcel
parcels_for workers k parcels = filter (λ p. worker_for workers p == k) parcels

-- the lines of the groups of one of so many workers
abbrev pub lines_by : ℕ → ℕ → List Line → List Line
lines_by workers k lines = filter (λ l. group_of (event_of l) % workers == k) lines
