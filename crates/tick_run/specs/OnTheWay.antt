-- Copies on their way, and the lanes that hang, against the entries of a run.
use Rattle.std.specs.Prelude.{◌≡◌, ℕ, ◌≤◌, ◌==◌, Bool, ◌&&◌, List, map, filter, sum_by, count_by, All, Some}
use Rattle.group_plan.specs.declared.Tag.{Tag}
use Rattle.link_lanes.specs.Lanes.{Slot, after_posts, lasts}
use Rattle.link_lanes.specs.declared.Post.{Post}
use Rattle.lossy_link.specs.Arrivals.{Arrival}
use Rattle.meter_frames.specs.declared.Frame.{Frame}
use Rattle.meter_frames.specs.Frames.{spelling, IsFrame}
use Rattle.event_schedule.specs.declared.Entry.{Entry}
use Rattle.event_schedule.specs.Events.{lines_of}
use Rattle.run_rows.specs.Ticks.{copies}
use Rattle.group_book.specs.Books.{posted_in}
use Rattle.plan_meters.specs.Came.{same_tag, tag_in}

-- bytes are the spelling of the frame that the entries posted under its tag
pub record IsOfSend (entries : List Entry) (bytes : List ℕ) : Type 0 where
  pub frame : Frame
  pub is : IsFrame frame
  pub spelled : bytes ≡ spelling frame
  pub posted : posted_in frame.tag (lines_of entries) ≡ Some frame

-- ---- copies

-- a copy of the tag that is due at tick u
abbrev pub is_copy : Tag → ℕ → Arrival → Bool
is_copy z u a = (a.tick == u) && same_tag z (tag_in a.bytes)

-- the copies due at tick t and later are those that the entries sent, each with the bytes of its frame
pub record AreOnTheWay (t : ℕ) (entries : List Entry) (waiting : List Arrival) : Type 0 where
  pub counts : (z : Tag) (u : ℕ) → t ≤ u → count_by (is_copy z u) waiting ≡ sum_by (copies z u) entries
  pub spelled : All (λ a. IsOfSend entries a.bytes) waiting

-- the lanes that hang are those that hung at first less some whose span ended before tick t, and each has counted the posts of its span
pub record AreLanesAt (slots : List Slot) (posts : List Post) (t : ℕ) (lanes : List Slot) : Type 0 where
  pub since : ℕ
  pub not_later : since ≤ t
  pub are : lanes ≡ filter (lasts since) (map (after_posts posts) slots)
