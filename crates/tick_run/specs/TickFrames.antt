-- The frames that are due at a tick.
use Rattle.std.specs.Prelude.{◌≡◌, ℕ, ◌+◌, ◌<◌, ◌==◌, nat_lt, List, [], ◌++◌, All, map, filter, Some, if◌then◌else◌}
use Rattle.std.specs.List.{flat_map, range_with_len}
use Rattle.missing_round.specs.Masks.{Masks}
use Rattle.group_plan.specs.Plans.{size}
use Rattle.group_plan.specs.declared.Kind.TheVariants.{Reading, Announcement, Answer}
use Rattle.group_plan.specs.declared.Tag.{Tag}
use Rattle.meter_frames.specs.declared.Frame.{Frame}
use Rattle.meter_frames.specs.Frames.{FitsKind}
use Rattle.event_schedule.specs.declared.Event.{Event}
use Rattle.event_schedule.specs.declared.Event.TheVariants.{Send}
use Rattle.event_schedule.specs.Tables.{Readings}
use Rattle.event_schedule.specs.Schedule.{Shape, members_of, is_announced, survivors, missing}
use Rattle.event_schedule.specs.Transcript.{Contents, frame}
use Rattle.run_rows.specs.Ticks.{Clock, tag_of, tags}
use Rattle.tick_run.specs.Progress.{IsInTime}
use Rattle.plan_meters.specs.TickFrames.{answer_frame, reading_frame, was_taken}

-- what group g is to send at tick t, after this past, where these copies were taken in this tick
abbrev pub due_after : Shape → Clock → List Event → List Tag → ℕ → ℕ → List Tag
due_after s c past taken t g =
    tags Reading g t (if nat_lt t c.rounds then filter (λ i. s.present g t i) (members_of s g t) else [])
    ++ flat_map (λ r. if r + c.w1 == t then (if is_announced s g r past then tags Announcement g r (survivors s g r past) else []) else []) (range_with_len 0 c.rounds)
    ++ flat_map (λ r. tags Answer g r (filter (λ i. was_taken taken (tag_of Announcement g r i)) (members_of s g r))) (range_with_len 0 c.rounds)

-- ---- its frames

abbrev pub announcement_frame : ℕ → ℕ → List ℕ → ℕ → Frame
announcement_frame g r set i = record { tag = tag_of Announcement g r i; missing = set; word = 0 }

-- the announcements of a round, where it is announced
abbrev pub announcements_at : Shape → List Event → ℕ → ℕ → List Frame
announcements_at s past g r = if is_announced s g r past then map (announcement_frame g r (missing s g r past)) (survivors s g r past) else []

-- the answers of a round to the announcements that were taken
abbrev pub answers_in : Shape → Masks → List Event → List Tag → ℕ → ℕ → List Frame
answers_in s m past taken g r = map (answer_frame m g r (missing s g r past)) (filter (λ i. was_taken taken (tag_of Announcement g r i)) (members_of s g r))

-- the frames that group g is to send at tick t, after this past, where these copies were taken in this tick
abbrev pub frames_due : Shape → Clock → Readings → Masks → List Event → List Tag → ℕ → ℕ → List Frame
frames_due s c x m past taken t g =
    map (reading_frame s.groups x m g t) (if nat_lt t c.rounds then filter (λ i. s.present g t i) (members_of s g t) else [])
    ++ flat_map (λ r. if r + c.w1 == t then announcements_at s past g r else []) (range_with_len 0 c.rounds)
    ++ flat_map (answers_in s m past taken g) (range_with_len 0 c.rounds)

-- a frame that is to be sent at tick t: that of its tag now, within its group, and in time
pub record IsDue (s : Shape) (c : Clock) (w : Contents) (past : List Event) (t : ℕ) (f : Frame) : Type 0 where
  pub is : frame s w f.tag past ≡ Some f
  pub in_time : IsInTime s c t (Send f.tag)
  pub set : All (λ i. i < size s.groups f.tag.group) f.missing
  pub fits : FitsKind f.tag.kind f.missing f.word
