-- A batch of parcels: what each is marked with, and what the book gains.
use Rattle.std.specs.Prelude.{◌≡◌, Bool, false, List, ◌++◌, map, count_by, zip, Option, Some, None, Result, Ok, Err}
use Rattle.std.specs.List.{AllZip}
use Rattle.event_schedule.specs.declared.Event.{Event}
use Rattle.event_schedule.specs.declared.Line.{Line}
use Rattle.event_schedule.specs.Events.{event_of}
use Rattle.event_schedule.specs.Journal.{IsJournalAfter}
use Rattle.group_book.specs.Books.{BookView, shape_of}
use Rattle.shared_book.specs.declared.parcel.Parcel.{Parcel}
use Rattle.shared_book.specs.declared.parcel.Reply.{Reply}
use Rattle.shared_book.specs.Parcels.{Judged, Accepted, BadFrame, RefusedFrame, Outside, judged, reply_of}
use Rattle.collector_workers.specs.declared.mark.Mark.{Mark}
use Rattle.collector_workers.specs.declared.mark.Mark.TheVariants.{Made, Bad, Refused, OutOfPlan}
use Rattle.collector_workers.specs.declared.mark.Collected.{Collected}
use Rattle.collector_workers.specs.declared.outcome.Outcome.{Outcome}
use Rattle.collector_workers.specs.Outcomes.{IsOutcome, lines_told}
use Rattle.collector_workers.specs.declared.mark.CollectRefused.{CollectRefused}

-- ---- marks

-- an accepted parcel is marked with a reply, every other one with its own cause
abbrev pub IsMark : Judged → Mark → Type 0
IsMark (Accepted event) mark = (reply : Reply) × (mark ≡ Made reply)
IsMark (BadFrame e) mark = mark ≡ Bad e
IsMark (RefusedFrame e) mark = mark ≡ Refused e
IsMark Outside mark = mark ≡ OutOfPlan

-- ---- which parcels and lines are counted

-- the parcel is accepted, and its event is one of these
abbrev pub is_accepted : (Event → Bool) → Judged → Bool
is_accepted these (Accepted event) = these event
is_accepted these _ = false

-- the parcel is accepted and marked with a reply, and its event with this reply is one of these
abbrev pub is_made : (Event → Reply → Bool) → Judged → Mark → Bool
is_made these (Accepted event) (Made reply) = these event reply
is_made these _ _ = false

-- there is a reply, and the event with it is one of these
abbrev pub is_reply : (Event → Reply → Bool) → Event → Option Reply → Bool
is_reply these event None = false
is_reply these event (Some reply) = these event reply

-- the event of a line, with the reply that the line says, is one of these
abbrev pub says : (Event → Reply → Bool) → Line → Bool
says these line = is_reply these (event_of line) (reply_of line)

-- ---- the calls

-- what became of each parcel, and the lines and marks in the order of the batch
pub record InOrder (b : BookView) (batch : List Parcel) (added : List Line) (marks : List Mark) : Type 0 where
  pub outcomes : List Outcome
  pub told : AllZip (λ parcel x. IsOutcome (judged b parcel) x) batch outcomes
  pub lines_are : added ≡ lines_told outcomes
  pub marks_are : marks ≡ map (λ x. x.mark) outcomes

-- a batch was collected: the book has one line more for each accepted parcel, in the order of the batch
pub record Collects (b : BookView) (batch : List Parcel) (marks : List Mark) (c : BookView) : Type 0 where
  pub presence : c.presence ≡ b.presence
  pub added : List Line
  pub journal : c.journal ≡ b.journal ++ added
  -- each added line is the core's, after the lines before it
  pub legal : IsJournalAfter (shape_of b) b.journal added
  pub in_order : InOrder b batch added marks
  pub marked : AllZip (λ parcel mark. IsMark (judged b parcel) mark) batch marks
  -- whichever events are counted: as many added lines are of them as accepted parcels
  pub lines : (these : Event → Bool) →
      count_by (λ line. these (event_of line)) added ≡ count_by (λ parcel. is_accepted these (judged b parcel)) batch
  -- whichever events and replies are counted: as many added lines say them as parcels are so marked
  pub replies : (these : Event → Reply → Bool) →
      count_by (says these) added ≡ count_by (λ made. is_made these (judged b made.0) made.1) (zip batch marks)

-- the plan, the presence and the lines of a book stay
pub record KeepsLines (b c : BookView) : Type 0 where
  pub presence : c.presence ≡ b.presence
  pub journal : c.journal ≡ b.journal

-- collect of a batch
abbrev pub CollectEnds : BookView → List Parcel → Result Collected CollectRefused → Type 0
CollectEnds b batch (Ok done) = Collects b batch done.replies.items done.book
CollectEnds b batch (Err refused) = KeepsLines b refused.book
