-- Frames of version 1, which are only read: their spelling, and the rules that bytes are tested by.
use Rattle.std.specs.Prelude.{◌≡◌, ℕ, ◌^◌, ◌<◌, ◌==◌, ◌&&◌, not, nat_lt, if◌then◌else◌, List, [], ◌∷◌, ◌++◌, length, slice_index, Option, Some, None, is_some, Result, Ok, Err}
use Rattle.std.specs.Int.{to_be_bytes, w64}
use Rattle.missing_round.specs.Sets.{IsSet, beyond, members, block_at}
use Rattle.group_plan.specs.declared.tag.Kind.{Kind}
use Rattle.meter_frames.specs.declared.Frame.{Frame}
use Rattle.meter_frames.specs.declared.old.OldFrameError.{OldFrameError}
use Rattle.meter_frames.specs.declared.old.OldFrameError.TheVariants as errors
use Rattle.meter_frames.specs.Frames.{head_bytes, FitsKind, number64, kind_of, tag_at}

-- the 28 bytes of a frame; the set is one number of 64 bits
unfoldable pub old_spelling : Frame → List ℕ
old_spelling f = head_bytes 1 f.tag ++ to_be_bytes w64 (block_at f.missing 0) ++ to_be_bytes w64 f.word

-- what has a spelling: its meters are below 64
pub record IsOldFrame (f : Frame) : Type 0 where
  pub group : f.tag.group < 2 ^ 16
  pub round : f.tag.round < 2 ^ 32
  pub meter : f.tag.meter < 64
  pub set : IsSet f.missing
  pub within : beyond 64 f.missing ≡ []
  pub word : f.word < 2 ^ 64
  pub fits : FitsKind f.tag.kind f.missing f.word

-- the set that bytes carry
abbrev pub old_set_at : List ℕ → List ℕ
old_set_at bytes = members (number64 12 bytes ∷ 0 ∷ 0 ∷ 0 ∷ [])

-- the word that bytes carry
abbrev pub old_word_at : List ℕ → ℕ
old_word_at bytes = number64 20 bytes

-- the first rule that bytes break, in the order in which the rules are tested
abbrev pub first_old_broken : List ℕ → Option OldFrameError
first_old_broken bytes =
    if not (length bytes == 28) then Some (errors.Length (length bytes))
    else if not (slice_index bytes 0 == 0x4d) then Some errors.Magic
    else if not (slice_index bytes 1 == 1) then Some errors.Version
    else if not (is_some (kind_of (slice_index bytes 2))) then Some errors.Kind
    else if not (nat_lt (slice_index bytes 3) 64) then Some errors.Meter
    else if not ((slice_index bytes 6 == 0) && (slice_index bytes 7 == 0)) then Some errors.Reserved
    else if (slice_index bytes 2 == 1) && not (length (old_set_at bytes) == 0) then Some errors.SetInReading
    else if (slice_index bytes 2 == 2) && not (old_word_at bytes == 0) then Some errors.WordInAnnouncement
    else None

-- bytes are the spelling of the frame, or this is the first rule that they break
abbrev pub DecodesOld : List ℕ → Result Frame OldFrameError → Type 0
DecodesOld bytes (Ok f) = IsOldFrame f × (bytes ≡ old_spelling f)
DecodesOld bytes (Err e) = first_old_broken bytes ≡ Some e

-- ---- field by field

-- the frame that bytes carry, where this is their kind
abbrev pub old_frame_at : Kind → List ℕ → Frame
old_frame_at kind bytes = record { tag = tag_at kind bytes; missing = old_set_at bytes; word = old_word_at bytes }

-- bytes that break no rule have this frame in their fields
abbrev pub ReadsOld : List ℕ → Result Frame OldFrameError → Type 0
ReadsOld bytes (Ok f) = (first_old_broken bytes ≡ None) × (kind_of (slice_index bytes 2) ≡ Some f.tag.kind) × (f ≡ old_frame_at f.tag.kind bytes)
ReadsOld bytes (Err e) = first_old_broken bytes ≡ Some e
