-- A run of one group: what it has between ticks, and what a tick makes of it.
use Rattle.std.specs.Prelude.{◌≡◌, ℕ, ◌-◌, ◌+◌, ◌<◌, ◌≤◌, List, [], ◌∷◌, ◌++◌, length, map, take, drop, All, true, Option, Some, None}
use Rattle.missing_round.specs.Masks.{Masks}
use Rattle.group_plan.specs.Plans.{is_place}
use Rattle.group_plan.specs.Tables.{ReadingsView, PresenceView, presence_of}
use Rattle.lossy_link.specs.Arrivals.{Arrival, posted}
use Rattle.meter_core.specs.Meters.{MeterView}
use Rattle.meter_frames.specs.declared.Frame.{Frame}
use Rattle.meter_frames.specs.Frames.{spelling, IsFrame, FitsKind}
use Rattle.event_schedule.specs.declared.Event.{Event}
use Rattle.event_schedule.specs.declared.Event.TheVariants.{Send, Take, Close, End}
use Rattle.event_schedule.specs.declared.Line.{Line}
use Rattle.event_schedule.specs.declared.Line.TheVariants.{Send as SendLine}
use Rattle.event_schedule.specs.declared.Entry.{Entry}
use Rattle.transcript_log.specs.Drafts.{quiet}
use Rattle.event_schedule.specs.Events.{event_of, lines_of}
use Rattle.event_schedule.specs.Journal.{past_of, core_line}
use Rattle.transcript_log.specs.Lines.{LinesView}
use Rattle.event_schedule.specs.Schedule.{shape_of_presence}
use Rattle.event_schedule.specs.Transcripts.{TranscriptView, FitsLine}
use Rattle.group_book.specs.declared.answers.SendAnswer.{SendAnswer}
use Rattle.run_rows.specs.Ticks.{phase}
use Rattle.group_book.specs.Books.{BookView, Adds, SendEnds, posted_in}
use Rattle.event_schedule.specs.ByGroup.{group_of}
use Rattle.group_book.specs.Groups.{GroupView}
use Rattle.group_book.specs.Replay.{IsLedger, Replays, book_at}
use Rattle.plan_meters.specs.GroupMeters.{AreGroupMeters}
use Rattle.plan_meters.specs.Meters.{AreTold}
use Rattle.tick_run.specs.declared.group_tick.GroupWork.{GroupWork}
use Rattle.tick_run.specs.Progress.{IsDelay, sending}
use Rattle.tick_run.specs.Running.{AreRunning, starting}
use Rattle.tick_run.specs.Sending.{IsOfPlan}

-- ---- calls on what is kept of a group

-- calls on what is kept of group g added lines with these events to the journal, and to these lines
pub record Calls (p : PresenceView) (j : List Line) (events : List Event) (before : LinesView) (g : ℕ) (v : GroupView) (after : LinesView) : Type 0 where
  pub added : List Line
  pub events_are : map event_of added ≡ events
  pub pages : Replays p (j ++ added) v
  pub group : v.group ≡ g
  pub own : All (λ l. group_of (event_of l) ≡ g) added
  pub lines : after.items ≡ before.items ++ added

-- the frame is of group g of the plan, and stands posted under its tag
pub record IsTakeable (p : PresenceView) (g : ℕ) (j : List Line) (f : Frame) : Type 0 where
  pub own : f.tag.group ≡ g
  pub known : is_place p.plan f.tag.group f.tag.round f.tag.meter ≡ true
  pub posted : posted_in f.tag j ≡ Some f

-- the Takes of frames
abbrev pub takes_of : List Frame → List Event
takes_of frames = map (λ f. Take f.tag) frames

-- by some journal each of these frames can be taken
pub record CanTakeAll (v : GroupView) (frames : List Frame) : Type 0 where
  pub presence : PresenceView
  pub journal : List Line
  pub replays : Replays presence journal v
  pub takeable : All (IsTakeable presence v.group journal) frames

-- the Close of a round of group g, where there is one, and its End
abbrev pub close_of : ℕ → Option ℕ → List Event
close_of g None = []
close_of g (Some r) = Close g r ∷ []

abbrev pub end_of : ℕ → Option ℕ → List Event
end_of g None = []
end_of g (Some r) = End g r ∷ []

-- the line of a Send with its frame
abbrev pub send_line : Frame → Line
send_line f = SendLine f.tag (Some f)

-- the frame is of group g, and a book with these lines adds its line with the frame, whatever it answers
pub record IsSendable (p : PresenceView) (g : ℕ) (j : List Line) (f : Frame) : Type 0 where
  pub own : f.tag.group ≡ g
  pub fits : FitsKind f.tag.kind f.missing f.word
  pub adds : (spare : ℕ) (answer : SendAnswer) (after : BookView) → SendEnds (book_at p j spare) f answer after → Adds (book_at p j spare) (Send f.tag) (Some f) after
  pub line : core_line (shape_of_presence p) j (Send f.tag) (Some f) ≡ send_line f

-- so are these frames, one after another
abbrev pub AreSendable : PresenceView → ℕ → List Line → List Frame → Type 0
AreSendable p g j [] = Unit {0}
AreSendable p g j (f ∷ frames) = IsSendable p g j f × AreSendable p g (j ++ send_line f ∷ []) frames

-- by some journal of this presence
pub record CanSendFrames (p : PresenceView) (v : GroupView) (frames : List Frame) : Type 0 where
  pub journal : List Line
  pub replays : Replays p journal v
  pub sendable : AreSendable p v.group journal frames

-- frames were sent of group g: the journal and these lines have their lines
pub record SendsAll (p : PresenceView) (j : List Line) (frames : List Frame) (before : LinesView) (g : ℕ) (v : GroupView) (after : LinesView) : Type 0 where
  pub pages : Replays p (j ++ map send_line frames) v
  pub group : v.group ≡ g
  pub framed : All IsFrame frames
  pub lines : after.items ≡ before.items ++ map send_line frames

-- after some events the meters of a group have read the rounds below some t, and the announcements among these frames are to them and of one of these
pub record CanHearFrames (meters : List MeterView) (came : List Frame) : Type 0 where
  pub presence : PresenceView
  pub past : List Event
  pub until : ℕ
  pub group : ℕ
  pub own : All (λ f. f.tag.group ≡ group) came
  pub are : AreGroupMeters presence past until group meters
  pub told : AreTold presence past until came

-- ---- a group between ticks

-- the copies of frames that were sent at tick t with these fates, beside those that are on their way
abbrev pub posted_all : ℕ → List Frame → List (List ℕ) → List Arrival → List Arrival
posted_all t [] fates waiting = waiting
posted_all t (f ∷ frames) [] waiting = waiting
posted_all t (f ∷ frames) (fate ∷ fates) waiting = posted_all t frames fates (posted t (spelling f) fate waiting)

-- the Sends of frames at tick t, with these fates
abbrev pub sent_with : ℕ → List Frame → List (List ℕ) → List Entry
sent_with t [] fates = []
sent_with t (f ∷ frames) [] = []
sent_with t (f ∷ frames) (fate ∷ fates) = sending t f.tag (Some f) fate ∷ sent_with t frames fates

-- the transcript of these readings with these entries
abbrev pub script_of : ReadingsView → List Entry → TranscriptView
script_of readings entries = record { plan = readings.plan; entries = entries }

-- the events of these entries, the newest first
abbrev pub past_in : List Entry → List Event
past_in entries = past_of (lines_of entries)

-- the book of these readings with the lines of these entries
abbrev pub book_with : ReadingsView → List Entry → BookView
book_with readings entries = book_at (presence_of readings) (lines_of entries) 0

-- the lines of a group's last tick: of Takes, of Closes and Ends, and of Sends
abbrev pub taken_in : GroupWork → List Line
taken_in work = take work.closed_from work.lines.items

abbrev pub closed_in : GroupWork → List Line
closed_in work = take (work.sent_from - work.closed_from) (drop work.closed_from work.lines.items)

abbrev pub sends_in : GroupWork → List Line
sends_in work = drop work.sent_from work.lines.items

-- these parts are one after another
pub record IsInParts (work : GroupWork) : Type 0 where
  pub closed : work.closed_from ≤ work.sent_from
  pub sent : work.sent_from ≤ length work.lines.items

-- a group before tick t. Its entries are a run of the group up to there; its pages, its meters and its copies are those of these entries. The frames
-- of the tick before have met these fates, and their copies are not on their way yet
pub record IsGroupAt (readings : ReadingsView) (m : Masks) (t : ℕ) (entries : List Entry) (fates : List (List ℕ)) (kept : GroupView) (work : GroupWork) : Type 0 where
  pub own : All (λ e. group_of (event_of e.line) ≡ kept.group) entries
  pub long : length fates ≡ length work.frames.items
  pub fits : All (λ f. FitsKind f.tag.kind f.missing f.word) work.frames.items
  pub running : AreRunning readings m (kept.group ∷ []) (starting t) (book_with readings entries) (script_of readings entries) (posted_all (t - 1) work.frames.items fates work.link)
  pub pages : Replays (presence_of readings) (lines_of entries) kept
  pub meters : AreGroupMeters (presence_of readings) (past_in entries) t kept.group work.meters.meters.items

-- group g before tick t, but for its pages, which are in the shared book: the lines of its entries are a book's
pub record IsWorkAt (readings : ReadingsView) (m : Masks) (t : ℕ) (entries : List Entry) (fates : List (List ℕ)) (g : ℕ) (work : GroupWork) : Type 0 where
  pub inside : g < length readings.plan.groups
  pub own : All (λ e. group_of (event_of e.line) ≡ g) entries
  pub long : length fates ≡ length work.frames.items
  pub fits : All (λ f. FitsKind f.tag.kind f.missing f.word) work.frames.items
  pub running : AreRunning readings m (g ∷ []) (starting t) (book_with readings entries) (script_of readings entries) (posted_all (t - 1) work.frames.items fates work.link)
  pub ledger : IsLedger (presence_of readings) (lines_of entries)
  pub meters : AreGroupMeters (presence_of readings) (past_in entries) t g work.meters.meters.items

-- the entries of a group after a tick, in which it added these lines and its frames met these fates
abbrev pub entries_then : ℕ → List Entry → List Line → List Line → List Frame → List (List ℕ) → List Entry
entries_then t entries taken closed frames fates = ((entries ++ map (quiet t) taken) ++ map (quiet t) closed) ++ sent_with t frames fates

-- tick t of group g: it has taken, closed and ended, and sent. Its lines are the group's, and its pages are of its entries with them. And whatever fates its frames meet, it stands before the next tick with them
pub record GroupTicks (readings : ReadingsView) (m : Masks) (t : ℕ) (entries : List Entry) (g : ℕ) (kept : GroupView) (after : GroupWork) : Type 0 where
  pub group : kept.group ≡ g
  pub parts : IsInParts after
  pub takes : All (λ l. phase (event_of l) ≡ 0) (taken_in after)
  pub closes : All (λ l. phase (event_of l) ≡ 1) (closed_in after)
  pub sends : sends_in after ≡ map send_line after.frames.items
  pub own : All (λ l. group_of (event_of l) ≡ g) after.lines.items
  pub pages : Replays (presence_of readings) (lines_of entries ++ after.lines.items) kept
  pub fit_taken : All (FitsLine readings.plan []) (taken_in after)
  pub fit_closed : All (FitsLine readings.plan []) (closed_in after)
  pub fit_sent : All (IsOfPlan readings.plan) after.frames.items
  pub next : (fates : List (List ℕ)) → All (All IsDelay) fates → length fates ≡ length after.frames.items
      → IsGroupAt readings m (t + 1) (entries_then t entries (taken_in after) (closed_in after) after.frames.items fates) fates kept after

-- by some entries a group stands before tick t
pub record CanTick (readings : ReadingsView) (m : Masks) (t : ℕ) (kept : GroupView) (work : GroupWork) : Type 0 where
  pub entries : List Entry
  pub stands : IsGroupAt readings m t entries work.fates.items kept work
