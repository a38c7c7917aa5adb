-- A book, as its callers see it, and what each call answers and adds, by cases on its answer.
use Rattle.std.specs.Prelude.{◌≡◌, ◌≢◌, ◌≤◌, ℕ, ◌+◌, Bool, true, false, ◌&&◌, if◌then◌else◌, List, [], ◌∷◌, ◌++◌, Option, Some, None, is_some, Result, Ok, Err}
use Rattle.group_plan.specs.declared.Kind.{Kind}
use Rattle.group_plan.specs.declared.Kind.TheVariants.{Reading, Announcement, Answer}
use Rattle.group_plan.specs.declared.Tag.{Tag}
use Rattle.group_plan.specs.Plans.{is_place}
use Rattle.group_plan.specs.Tables.{PresenceView}
use Rattle.meter_frames.specs.declared.Frame.{Frame}
use Rattle.round_machine.specs.declared.Verdict.{Verdict}
use Rattle.round_machine.specs.declared.Closing.{Closing}
use Rattle.round_machine.specs.declared.Ending.{Ending}
use Rattle.event_schedule.specs.declared.Event.{Event}
use Rattle.event_schedule.specs.declared.Event.TheVariants.{Send, Take, Close, End}
use Rattle.event_schedule.specs.declared.Line.{Line}
use Rattle.event_schedule.specs.declared.Line.TheVariants.{Send as SendLine}
use Rattle.event_schedule.specs.Events.{event_of, frame_of, is_send}
use Rattle.event_schedule.specs.Schedule.{Shape, shape_of_presence, may_send, missing, verdict, closing, is_sent, is_announced, survivors, outcome, Running, EndedThin, Published, Unpublished}
use Rattle.event_schedule.specs.Schedule.{Outcome as RoundOutcome}
use Rattle.event_schedule.specs.Transcript.{ending}
use Rattle.event_schedule.specs.Frames.{contents_of_lines}
use Rattle.event_schedule.specs.Journal.{past_of, core_line}
use Rattle.group_book.specs.declared.answers.SendAnswer.{SendAnswer}
use Rattle.group_book.specs.declared.answers.SendAnswer.TheVariants.{Unknown, NotAllowed, WrongSet, Differs, Sent}
use Rattle.group_book.specs.declared.answers.TakeError.{TakeError}
use Rattle.group_book.specs.declared.answers.TakeError.TheVariants as refused
use Rattle.group_book.specs.declared.answers.OutcomeState.{OutcomeState}
use Rattle.group_book.specs.declared.answers.OutcomeState.TheVariants as states
use Rattle.group_book.specs.declared.answers.Outcome.{Outcome}
use Rattle.group_book.specs.Places.{is_round}

-- a book: the plan and who has a reading, the lines so far, and for how many more lines there is room
pub record BookView : Type 0 where
  pub presence : PresenceView
  pub journal : List Line
  pub spare : ℕ

-- the groups, rounds and presence of a book
abbrev pub shape_of : BookView → Shape
shape_of b = shape_of_presence b.presence

-- the events so far, the newest first
abbrev pub past : BookView → List Event
past b = past_of b.journal

-- whether the plan has the group, round and meter of a tag
abbrev pub knows : BookView → Tag → Bool
knows b tag = is_place b.presence.plan tag.group tag.round tag.meter

-- whether the plan has a group and a round
abbrev pub has_round : BookView → ℕ → ℕ → Bool
has_round b g r = is_round b.presence.plan g r

-- a line that is no Send
abbrev pub is_plain : Line → Bool
is_plain (SendLine tag frame) = false
is_plain _ = true

-- the frame that was posted first under group g, round r, meter i and kind k
unfoldable pub posted : ℕ → ℕ → ℕ → Kind → List Line → Option Frame
posted g r i k [] = None
posted g r i k (l ∷ ls) = if is_send g r i k (event_of l) && is_some (frame_of l) then frame_of l else posted g r i k ls

-- the frame that is posted under a tag
abbrev pub posted_in : Tag → List Line → Option Frame
posted_in tag journal = posted tag.group tag.round tag.meter tag.kind journal

-- the frame that is posted under a tag
abbrev pub posted_of : BookView → Tag → Option Frame
posted_of b tag = posted_in tag b.journal

-- whether a Send of the tag is effective now
abbrev pub allows : BookView → Tag → Bool
allows b tag = may_send (shape_of b) tag.kind tag.group tag.round tag.meter (past b)

-- whether an effective Send of the tag came
abbrev pub was_sent : BookView → Tag → Bool
was_sent b tag = is_sent (shape_of b) tag.kind tag.group tag.round tag.meter (past b)

-- the missing set of the tag's round
abbrev pub missing_of : BookView → Tag → List ℕ
missing_of b tag = missing (shape_of b) tag.group tag.round (past b)

-- what a Take, a Close and an End say now
abbrev pub verdict_of : BookView → Tag → Verdict
verdict_of b tag = verdict (shape_of b) tag.kind tag.group tag.round tag.meter (past b)

-- what a Close of the round says now
abbrev pub closing_of : BookView → ℕ → ℕ → Closing
closing_of b g r = closing (shape_of b) g r (past b)

-- what an End of the round says now
abbrev pub ending_of : BookView → ℕ → ℕ → Ending
ending_of b g r = ending (shape_of b) (contents_of_lines b.journal) g r (past b)

-- the core's line for the event is added, and all else stays
pub record Adds (b : BookView) (e : Event) (given : Option Frame) (c : BookView) : Type 0 where
  pub presence : c.presence ≡ b.presence
  pub journal : c.journal ≡ b.journal ++ core_line (shape_of b) b.journal e given ∷ []
  pub spare : b.spare ≤ c.spare + 1

-- no other frame is posted
abbrev pub IsFree : Option Frame → Frame → Type 0
IsFree None f = Unit {0}
IsFree (Some p) f = p ≡ f

-- the set that a frame of this kind carries is the announced one; a reading carries none
abbrev pub HasSet : Kind → List ℕ → List ℕ → Type 0
HasSet Reading announced set = Unit {0}
HasSet Announcement announced set = announced ≡ set
HasSet Answer announced set = announced ≡ set

-- it is another one
abbrev pub HasOtherSet : Kind → List ℕ → List ℕ → Type 0
HasOtherSet Reading announced set = ⊥
HasOtherSet Announcement announced set = announced ≢ set
HasOtherSet Answer announced set = announced ≢ set

-- send of a frame
abbrev pub SendEnds : BookView → Frame → SendAnswer → BookView → Type 0
SendEnds b f Unknown c = (knows b f.tag ≡ false) × (c ≡ b)
SendEnds b f NotAllowed c = (knows b f.tag ≡ true) × (allows b f.tag ≡ false) × Adds b (Send f.tag) (Some f) c
SendEnds b f (WrongSet set) c = (knows b f.tag ≡ true) × (allows b f.tag ≡ true) × (set ≡ missing_of b f.tag) × HasOtherSet f.tag.kind set f.missing × (c ≡ b)
SendEnds b f (Differs p) c = (knows b f.tag ≡ true) × (allows b f.tag ≡ true) × HasSet f.tag.kind (missing_of b f.tag) f.missing × (posted_of b f.tag ≡ Some p) × (p ≢ f) × (c ≡ b)
SendEnds b f Sent c = (knows b f.tag ≡ true) × (allows b f.tag ≡ true) × HasSet f.tag.kind (missing_of b f.tag) f.missing × IsFree (posted_of b f.tag) f × Adds b (Send f.tag) (Some f) c

-- take of a frame
abbrev pub TakeEnds : BookView → Frame → Result Verdict TakeError → BookView → Type 0
TakeEnds b f (Ok v) c = (knows b f.tag ≡ true) × IsFree (posted_of b f.tag) f × (v ≡ verdict_of b f.tag) × Adds b (Take f.tag) None c
TakeEnds b f (Err refused.Unknown) c = (knows b f.tag ≡ false) × (c ≡ b)
TakeEnds b f (Err (refused.Forged p came)) c = (knows b f.tag ≡ true) × (posted_of b f.tag ≡ Some p) × (p ≢ f) × (came ≡ f) × (c ≡ b)

-- close: its answer, and the book with its line
pub record CloseEnds (b : BookView) (g r : ℕ) (answer : Closing) (c : BookView) : Type 0 where
  pub is : answer ≡ closing_of b g r
  pub adds : Adds b (Close g r) None c

-- end: its answer, and the book with its line
pub record EndEnds (b : BookView) (g r : ℕ) (answer : Ending) (c : BookView) : Type 0 where
  pub is : answer ≡ ending_of b g r
  pub adds : Adds b (End g r) None c

-- the posted frame, which stands exactly where an effective Send of the tag came
abbrev pub IsPosted : BookView → Tag → Option Frame → Type 0
IsPosted b tag (Some f) = (posted_of b tag ≡ Some f) × (was_sent b tag ≡ true)
IsPosted b tag None = (posted_of b tag ≡ None) × (was_sent b tag ≡ false)

-- the missing set, exactly where it was announced
abbrev pub IsAnnounced : BookView → ℕ → ℕ → Option (List ℕ) → Type 0
IsAnnounced b g r (Some set) = (is_announced (shape_of b) g r (past b) ≡ true) × (set ≡ missing (shape_of b) g r (past b))
IsAnnounced b g r None = is_announced (shape_of b) g r (past b) ≡ false

-- an outcome as a book answers it
abbrev pub state_of : RoundOutcome → OutcomeState
state_of Running = states.Running
state_of EndedThin = states.Thin
state_of (Published survivors total) = states.Total total
state_of (Unpublished lacking) = states.Lacking lacking

-- the outcome of a round, with the frame total of the journal
abbrev pub outcome_of : BookView → ℕ → ℕ → Outcome
outcome_of b g r = record {
  survivors = survivors (shape_of b) g r (past b);
  state = state_of (outcome (shape_of b) (contents_of_lines b.journal).total g r (past b));
}
