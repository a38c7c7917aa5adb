-- The bytes of a frame in hexadecimal digits.
use Rattle.std.specs.Prelude.{ℕ, List, slice_index, Option, Some, None, Result, Ok, Err, if◌then◌else◌}
use Rattle.std.specs.Str.{bytes_eq}
use Rattle.hex.specs.Hex.{decode_sized, encode_lower}
use Rattle.hex.specs.declared.error.FromHexError.{FromHexError}
use Rattle.group_plan.specs.declared.tag.Kind.{Kind}
use Rattle.meter_frames.specs.declared.Frame.{Frame}
use Rattle.meter_frames.specs.declared.FrameError.{FrameError}
use Rattle.meter_frames.specs.declared.FrameError.TheVariants as errors
use Rattle.meter_frames.specs.Frames.{spelling, first_broken, frame_at, kind_of, IsFrame}

-- a frame in lower-case digits
abbrev pub digits_of : Frame → List ℕ
digits_of f = encode_lower (spelling f)

-- the frame of some bytes, by the first rule that they break and their kind
abbrev pub frame_by : Option FrameError → Option Kind → List ℕ → Result Frame FrameError
frame_by (Some broken) kind bytes = Err broken
frame_by None (Some kind) bytes = Ok (frame_at kind bytes)
frame_by None None bytes = Err errors.Kind

-- the frame that bytes spell, or the first rule that they break
unfoldable pub frame_of_bytes : List ℕ → Result Frame FrameError
frame_of_bytes bytes = frame_by (first_broken bytes) (kind_of (slice_index bytes 2)) bytes

abbrev pub frame_of_decoded : Result (List ℕ) FromHexError → Option (Result Frame FrameError)
frame_of_decoded (Ok bytes) = Some (frame_of_bytes bytes)
frame_of_decoded (Err fault) = None

-- what 104 digits of either case spell, and nothing where the text is another one
unfoldable pub frame_in : List ℕ → Option (Result Frame FrameError)
frame_in text = frame_of_decoded (decode_sized text 52)

-- a frame that is read of a text has a spelling
abbrev pub IsRead : Option (Result Frame FrameError) → Type 0
IsRead (Some (Ok f)) = IsFrame f
IsRead _ = Unit {0}

abbrev pub if_written : List ℕ → Option (Result Frame FrameError) → Option Frame
if_written text (Some (Ok f)) = if bytes_eq (digits_of f) text then Some f else None
if_written text _ = None

-- the frame whose lower-case digits the text is
abbrev pub frame_written : List ℕ → Option Frame
frame_written text = if_written text (frame_in text)
