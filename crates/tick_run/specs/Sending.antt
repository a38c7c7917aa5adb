-- What Sends leave of a transcript, a link and a rack.
use Rattle.std.specs.Prelude.{◌≡◌, ℕ, ◌<◌, IsTrue, List, [], ◌∷◌, ◌++◌, All, map, filter}
use Rattle.std.specs.List.{flat_map}
use Rattle.missing_round.specs.Masks.{Masks}
use Rattle.group_plan.specs.Plans.{PlanView, size, is_place}
use Rattle.group_plan.specs.Tables.{ReadingsView}
use Rattle.group_plan.specs.declared.Tag.{Tag}
use Rattle.link_lanes.specs.declared.Post.{Post}
use Rattle.link_lanes.specs.Lanes.{Slot, after_post, after_posts, lasts, fate_through, fates_after}
use Rattle.lossy_link.specs.Arrivals.{Arrival}
use Rattle.meter_frames.specs.declared.Frame.{Frame}
use Rattle.meter_frames.specs.Frames.{FitsKind}
use Rattle.event_schedule.specs.declared.Entry.{Entry}
use Rattle.run_rows.specs.Ticks.{clock_of, sent_at, due_of, posts_of}
use Rattle.event_schedule.specs.Transcripts.{TranscriptView}
use Rattle.group_book.specs.Books.{BookView}
use Rattle.tick_run.specs.OnTheWay.{AreLanesAt}
use Rattle.tick_run.specs.Progress.{KeepSets, past_of_entries}
use Rattle.tick_run.specs.TickFrames.{IsDue}
use Rattle.plan_meters.specs.TickFrames.{run_shape}
use Rattle.tick_run.specs.Running.{run_contents, AreRunning, sending_at}

-- a frame of the plan, of its kind, with a set within its group
pub record IsOfPlan (plan : PlanView) (f : Frame) : Type 0 where
  pub place : IsTrue (is_place plan f.tag.group f.tag.round f.tag.meter)
  pub fits : FitsKind f.tag.kind f.missing f.word
  pub set : All (λ i. i < size plan.groups f.tag.group) f.missing

-- ---- the lanes

-- the fate that lanes give a frame at tick t, and its post
abbrev pub fate_by : ℕ → List Slot → Frame → List ℕ
fate_by t lanes f = fate_through t f.tag lanes (1 ∷ [])

abbrev pub post_by : ℕ → List Slot → Frame → Post
post_by t lanes f = record { tick = t; tag = f.tag; fate = fate_by t lanes f }

-- the posts of frames, one after another
abbrev pub passed : ℕ → List Slot → List Frame → List Post
passed t lanes [] = []
passed t lanes (f ∷ frames) = post_by t lanes f ∷ passed t (map (after_post t) lanes) frames

-- the posts are those of the entries, with the fates that these lanes give them, and the lanes that hang are those whose span holds tick t or comes later
pub record KeepsFates (slots : List Slot) (t : ℕ) (entries : List Entry) (lanes : List Slot) (posts : List Post) : Type 0 where
  pub posts_are : posts ≡ posts_of entries
  pub fates : map (λ p. p.fate) posts ≡ fates_after slots [] posts
  pub lanes_are : lanes ≡ filter (lasts t) (map (after_posts posts) slots)

-- the same before the lanes are let go whose span ended before tick t
pub record KeptFates (slots : List Slot) (t : ℕ) (entries : List Entry) (lanes : List Slot) (posts : List Post) : Type 0 where
  pub posts_are : posts ≡ posts_of entries
  pub fates : map (λ p. p.fate) posts ≡ fates_after slots [] posts
  pub lanes_are : AreLanesAt slots posts t lanes

-- ---- the run

-- frames with these tags were sent at tick t, what is due in these groups stays due, and announced sets stay
pub record SendsOn (readings : ReadingsView) (m : Masks) (these : List ℕ) (t : ℕ) (tags : List Tag) (before after : List Entry) : Type 0 where
  pub sent : sent_at after t ≡ sent_at before t ++ tags
  pub due : flat_map (due_of (run_shape readings) (clock_of readings.plan) after t) these
      ≡ flat_map (due_of (run_shape readings) (clock_of readings.plan) before t) these
  pub still : (f : Frame) → IsDue (run_shape readings) (clock_of readings.plan) (run_contents readings m) (past_of_entries before) t f
      → IsDue (run_shape readings) (clock_of readings.plan) (run_contents readings m) (past_of_entries after) t f
  pub sets : KeepSets (run_shape readings) (past_of_entries before) (past_of_entries after)

-- the run of these groups goes on by these frames
pub record GoesOn (readings : ReadingsView) (m : Masks) (these : List ℕ) (t : ℕ) (frames : List Frame) (before : TranscriptView) (book : BookView) (script : TranscriptView) (waiting : List Arrival) : Type 0 where
  pub running : AreRunning readings m these (sending_at t) book script waiting
  pub on : SendsOn readings m these t (map (λ f. f.tag) frames) before.entries script.entries

-- each of these frames is to be sent at tick t
abbrev pub AreDue : ReadingsView → Masks → ℕ → TranscriptView → List Frame → Type 0
AreDue readings m t script frames = All (IsDue (run_shape readings) (clock_of readings.plan) (run_contents readings m) (past_of_entries script.entries) t) frames
