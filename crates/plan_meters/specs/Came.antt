-- Frames that came, as bytes.
use Rattle.std.specs.Prelude.{◌≡◌, ℕ, Bool, List, map, slice_index, Option, Some, None}
use Rattle.group_plan.specs.declared.Kind.{Kind}
use Rattle.group_plan.specs.declared.Kind.TheVariants.{Reading}
use Rattle.group_plan.specs.declared.Tag.{Tag}
use Rattle.meter_frames.specs.declared.Frame.{Frame}
use Rattle.meter_frames.specs.Frames.{spelling, IsFrame, kind_of, frame_at}
use Rattle.event_schedule.specs.Events.{is_tag}

-- the two are one tag
abbrev pub same_tag : Tag → Tag → Bool
same_tag z tag = is_tag z.group z.round z.meter z.kind tag

-- the frame that bytes of this kind carry
abbrev pub carried : List ℕ → Option Kind → Frame
carried bytes (Some kind) = frame_at kind bytes
carried bytes None = frame_at Reading bytes

-- the frame that bytes carry which are the spelling of one
unfoldable pub frame_in : List ℕ → Frame
frame_in bytes = carried bytes (kind_of (slice_index bytes 2))

abbrev pub tag_in : List ℕ → Tag
tag_in bytes = (frame_in bytes).tag

-- the frames of these copies, and their tags
abbrev pub frames_in : List (List ℕ) → List Frame
frames_in copies = map frame_in copies

abbrev pub tags_of : List Frame → List Tag
tags_of frames = map (λ f. f.tag) frames

-- bytes are the spelling of a frame
pub record IsSpelling (bytes : List ℕ) : Type 0 where
  pub frame : Frame
  pub is : IsFrame frame
  pub spelled : bytes ≡ spelling frame
