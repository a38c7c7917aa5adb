-- The frame that bytes spell.
use Rattle.std.proofs.Common.{◌≡◌, ℕ, List, get_or, ap, ◌∙◌}
use Rattle.std.specs.Prelude.{Some}
use Rattle.meter_frames.specs.declared.Frame.{Frame}
use Rattle.meter_frames.specs.Frames.{spelling, IsFrame, kind_of}
use Rattle.meter_frames.proofs.FrameLemmas.{frame_at-spelling, kind_of-byte}
use Rattle.plan_meters.specs.Came.{carried, frame_in}

kind-spelling : (f : Frame) → kind_of (get_or (spelling f) 2 0) ≡ Some f.tag.kind
unfolding spelling
kind-spelling f = kind_of-byte f.tag.kind

pub frame_in-spelling : (f : Frame) → IsFrame f → frame_in (spelling f) ≡ f
unfolding frame_in
frame_in-spelling f is = ap (carried (spelling f)) (kind-spelling f) ∙ frame_at-spelling f is

-- the frame of bytes that spell one
pub frame_in-is : (bytes : List ℕ) (f : Frame) → IsFrame f → bytes ≡ spelling f → frame_in bytes ≡ f
frame_in-is bytes f is spelled = ap frame_in spelled ∙ frame_in-spelling f is
