-- What a parcel asks of a book, and what becomes of it there.
use Rattle.std.specs.Prelude.{◌≡◌, ℕ, ◌==◌, Bool, ◌&&◌, bytes_eq, List, slice_index, Option, Some, None, Result, Ok, Err, if◌then◌else◌}
use Rattle.group_plan.specs.Plans.{PlanView, is_place}
use Rattle.group_plan.specs.declared.Kind.{Kind}
use Rattle.meter_frames.specs.declared.Frame.{Frame}
use Rattle.meter_frames.specs.declared.FrameError.{FrameError}
use Rattle.meter_frames.specs.declared.FrameError.TheVariants.{Kind as NoKind}
use Rattle.meter_frames.specs.Frames.{first_broken, kind_of, frame_at}
use Rattle.event_schedule.specs.declared.Event.{Event}
use Rattle.event_schedule.specs.declared.Event.TheVariants.{Take, Close, End}
use Rattle.event_schedule.specs.declared.Line.{Line}
use Rattle.event_schedule.specs.declared.Line.TheVariants.{Send as SendLine, Take as TakeLine, Close as CloseLine, End as EndLine}
use Rattle.event_schedule.specs.Events.{is_tag}
use Rattle.group_book.specs.declared.answers.TakeError.{TakeError}
use Rattle.group_book.specs.declared.answers.TakeError.TheVariants.{Unknown, Forged}
use Rattle.group_book.specs.Books.{BookView, posted_in}
use Rattle.group_book.specs.Places.{is_round}
use Rattle.shared_book.specs.declared.parcel.Parcel.{Parcel}
use Rattle.shared_book.specs.declared.parcel.Parcel.TheVariants.{Bytes, Close as CloseParcel, End as EndParcel}
use Rattle.shared_book.specs.declared.parcel.Reply.{Reply}
use Rattle.shared_book.specs.declared.parcel.Reply.TheVariants.{Took, Closed, Ended}
use Rattle.shared_book.specs.declared.parcel.Request.{Request}
use Rattle.shared_book.specs.declared.parcel.CommitError.{CommitError}
use Rattle.shared_book.specs.declared.parcel.CommitError.TheVariants.{Take as NotTaken, Place as NoPlace}
use Rattle.shared_book.specs.declared.parcel.Request.TheVariants.{Take as TakeRequest, Close as CloseRequest, End as EndRequest}

-- ---- the frame in the bytes

-- the frame in bytes that break no rule and have this kind
abbrev pub frame_of_kind : List ℕ → Option Kind → Result Frame FrameError
frame_of_kind bytes (Some kind) = Ok (frame_at kind bytes)
frame_of_kind bytes None = Err NoKind

-- the frame in bytes, or the first rule that they break
abbrev pub frame_unless : List ℕ → Option FrameError → Result Frame FrameError
frame_unless bytes (Some e) = Err e
frame_unless bytes None = frame_of_kind bytes (kind_of (slice_index bytes 2))

-- the frame that bytes are the spelling of, or the first rule that they break
unfoldable pub decoded : List ℕ → Result Frame FrameError
decoded bytes = frame_unless bytes (first_broken bytes)

-- ---- what is asked

-- to take the frame that was read, or the rule that the bytes break
abbrev pub taking : Result Frame FrameError → Result Request FrameError
taking (Ok f) = Ok (TakeRequest f)
taking (Err e) = Err e

-- what a parcel asks: to take the frame in its bytes, or to close or end a round
abbrev pub request_of : Parcel → Result Request FrameError
request_of (Bytes bytes) = taking (decoded bytes)
request_of (CloseParcel g r) = Ok (CloseRequest g r)
request_of (EndParcel g r) = Ok (EndRequest g r)

-- the group of what is asked
abbrev pub group_in : Request → ℕ
group_in (TakeRequest f) = f.tag.group
group_in (CloseRequest g r) = g
group_in (EndRequest g r) = g

-- ---- what becomes of it

-- what becomes of a parcel at a book: its event, or why there is none
pub data Judged : Type 0 where
  Accepted : (event : Event) → Judged
  BadFrame : (e : FrameError) → Judged
  RefusedFrame : (e : TakeError) → Judged
  Outside : Judged

-- whether two frames are the same
unfoldable pub same_frame : Frame → Frame → Bool
same_frame p f = is_tag f.tag.group f.tag.round f.tag.meter f.tag.kind p.tag && bytes_eq p.missing f.missing && (p.word == f.word)

-- a frame is taken unless another is posted under its tag
abbrev pub judged_beside : Option Frame → Frame → Judged
judged_beside None f = Accepted (Take f.tag)
judged_beside (Some p) f = if same_frame p f then Accepted (Take f.tag) else RefusedFrame (Forged p f)

-- what becomes of a request, where this is the plan and these are the lines so far
abbrev pub judged_request : PlanView → List Line → Request → Judged
judged_request plan lines (TakeRequest f) =
    if is_place plan f.tag.group f.tag.round f.tag.meter then judged_beside (posted_in f.tag lines) f else RefusedFrame Unknown
judged_request plan lines (CloseRequest g r) = if is_round plan g r then Accepted (Close g r) else Outside
judged_request plan lines (EndRequest g r) = if is_round plan g r then Accepted (End g r) else Outside

-- what becomes of a request that was read, or of bytes that are no frame
abbrev pub judged_if_read : PlanView → List Line → Result Request FrameError → Judged
judged_if_read plan lines (Ok request) = judged_request plan lines request
judged_if_read plan lines (Err e) = BadFrame e

-- what becomes of a parcel, where this is the plan and these are the lines so far
abbrev pub judged_after : PlanView → List Line → Parcel → Judged
judged_after plan lines parcel = judged_if_read plan lines (request_of parcel)

-- what becomes of a parcel at a book
abbrev pub judged : BookView → Parcel → Judged
judged b parcel = judged_after b.presence.plan b.journal parcel

-- why a request of no group of the plan is refused
abbrev pub IsOutside : Request → CommitError → Type 0
IsOutside (TakeRequest f) e = e ≡ NotTaken Unknown
IsOutside (CloseRequest g r) e = e ≡ NoPlace
IsOutside (EndRequest g r) e = e ≡ NoPlace

-- ---- the reply

-- the reply of a line: what its Take, its Close or its End said
abbrev pub reply_of : Line → Option Reply
reply_of (SendLine tag frame) = None
reply_of (TakeLine tag verdict) = Some (Took verdict)
reply_of (CloseLine g r closing) = Some (Closed closing)
reply_of (EndLine g r ending) = Some (Ended ending)
