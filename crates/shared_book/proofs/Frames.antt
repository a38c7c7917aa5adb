-- Bytes and the frames in them.
use Rattle.std.proofs.Common.{◌≡◌, ℕ, List, get_or, Some, Result, Ok, Err, sym, ap, ◌∙◌}
use Rattle.meter_frames.specs.declared.Frame.{Frame}
use Rattle.meter_frames.specs.declared.FrameError.{FrameError}
use Rattle.meter_frames.specs.Frames.{Decodes, spelling, kind_of}
use Rattle.meter_frames.proofs.FrameLemmas.{first_broken-spelling, frame_at-spelling, kind_of-byte}
use Rattle.shared_book.specs.Parcels.{decoded, frame_unless, frame_of_kind}

kind-spelling : (f : Frame) → kind_of (get_or (spelling f) 2 0) ≡ Some f.tag.kind
unfolding spelling
kind-spelling f = kind_of-byte f.tag.kind

-- what is decoded is the frame in the bytes, or the first rule that they break
pub decoded_is : (xs : List ℕ) (r : Result Frame FrameError) → Decodes xs r → r ≡ decoded xs
unfolding decoded
decoded_is xs (Ok f) d = sym (
    ap decoded d.1
    ∙ ap (frame_unless (spelling f)) (first_broken-spelling f d.0)
    ∙ ap (frame_of_kind (spelling f)) (kind-spelling f)
    ∙ ap (λ (g : Frame). let r : Result Frame FrameError = Ok g in r) (frame_at-spelling f d.0)
    )
decoded_is xs (Err e) d = sym (ap (frame_unless xs) d)
