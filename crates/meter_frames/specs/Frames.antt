-- Frames of version 2: the spelling of a frame, and the rules that bytes are tested by.
use Rattle.std.specs.Prelude.{◌≡◌, ℕ, ◌^◌, ◌<◌, ◌==◌, ◌&&◌, not, if◌then◌else◌, List, [], ◌∷◌, ◌++◌, length, take, drop, slice_index, Option, Some, None, is_some, Result, Ok, Err}
use Rattle.std.specs.Int.{to_be_bytes, from_be_bytes, w16, w32, w64}
use Rattle.missing_round.specs.Sets.{IsSet, members, block_at}
use Rattle.group_plan.specs.declared.tag.Kind.{Kind}
use Rattle.group_plan.specs.declared.tag.Kind.TheVariants.{Reading, Announcement, Answer}
use Rattle.group_plan.specs.declared.tag.Tag.{Tag}
use Rattle.meter_frames.specs.declared.Frame.{Frame}
use Rattle.meter_frames.specs.declared.FrameError.{FrameError}
use Rattle.meter_frames.specs.declared.FrameError.TheVariants as errors

-- ---- the spelling

-- the byte that stands for a kind
abbrev pub kind_byte : Kind → ℕ
kind_byte Reading = 1
kind_byte Announcement = 2
kind_byte Answer = 3

-- the first twelve bytes of a frame of either version
abbrev pub head_bytes : ℕ → Tag → List ℕ
head_bytes version tag =
    (0x4d ∷ version ∷ kind_byte tag.kind ∷ tag.meter ∷ []) ++ to_be_bytes w16 tag.group ++ (0 ∷ 0 ∷ []) ++ to_be_bytes w32 tag.round

-- a set as one big-endian number of 256 bits, in which bit i is meter i
abbrev pub set_bytes : List ℕ → List ℕ
set_bytes set = to_be_bytes w64 (block_at set 3) ++ to_be_bytes w64 (block_at set 2) ++ to_be_bytes w64 (block_at set 1) ++ to_be_bytes w64 (block_at set 0)

-- the 52 bytes of a frame
unfoldable pub spelling : Frame → List ℕ
spelling f = head_bytes 2 f.tag ++ set_bytes f.missing ++ to_be_bytes w64 f.word

-- a reading names no meter as missing, and an announcement has no word
abbrev pub FitsKind : Kind → List ℕ → ℕ → Type 0
FitsKind Reading set word = set ≡ []
FitsKind Announcement set word = word ≡ 0
FitsKind Answer set word = Unit {0}

-- what has a spelling
pub record IsFrame (f : Frame) : Type 0 where
  pub group : f.tag.group < 2 ^ 16
  pub round : f.tag.round < 2 ^ 32
  pub meter : f.tag.meter < 256
  pub set : IsSet f.missing
  pub word : f.word < 2 ^ 64
  pub fits : FitsKind f.tag.kind f.missing f.word

-- ---- the rules

-- the big-endian number of 16 bits at a place
abbrev pub number16 : ℕ → List ℕ → ℕ
number16 at bytes = from_be_bytes w16 (take 2 (drop at bytes))

-- the big-endian number of 32 bits at a place
abbrev pub number32 : ℕ → List ℕ → ℕ
number32 at bytes = from_be_bytes w32 (take 4 (drop at bytes))

-- the big-endian number of 64 bits at a place
unfoldable pub number64 : ℕ → List ℕ → ℕ
number64 at bytes = from_be_bytes w64 (take 8 (drop at bytes))

-- the kind that a byte stands for
abbrev pub kind_of : ℕ → Option Kind
kind_of n = if n == 1 then Some Reading else if n == 2 then Some Announcement else if n == 3 then Some Answer else None

-- the set that bytes carry
abbrev pub set_at : List ℕ → List ℕ
set_at bytes = members (number64 36 bytes ∷ number64 28 bytes ∷ number64 20 bytes ∷ number64 12 bytes ∷ [])

-- the word that bytes carry
abbrev pub word_at : List ℕ → ℕ
word_at bytes = number64 44 bytes

-- the first rule that bytes break, in the order in which the rules are tested
abbrev pub first_broken : List ℕ → Option FrameError
first_broken bytes =
    if not (length bytes == 52) then Some (errors.Length (length bytes))
    else if not (slice_index bytes 0 == 0x4d) then Some errors.Magic
    else if not (slice_index bytes 1 == 2) then Some errors.Version
    else if not (is_some (kind_of (slice_index bytes 2))) then Some errors.Kind
    else if not ((slice_index bytes 6 == 0) && (slice_index bytes 7 == 0)) then Some errors.Reserved
    else if (slice_index bytes 2 == 1) && not (length (set_at bytes) == 0) then Some errors.SetInReading
    else if (slice_index bytes 2 == 2) && not (word_at bytes == 0) then Some errors.WordInAnnouncement
    else None

-- bytes are the spelling of the frame, or this is the first rule that they break
abbrev pub Decodes : List ℕ → Result Frame FrameError → Type 0
Decodes bytes (Ok f) = IsFrame f × (bytes ≡ spelling f)
Decodes bytes (Err e) = first_broken bytes ≡ Some e

-- ---- field by field

-- the tag that bytes carry, where this is their kind
abbrev pub tag_at : Kind → List ℕ → Tag
tag_at kind bytes = record { group = number16 4 bytes; round = number32 8 bytes; meter = slice_index bytes 3; kind = kind }

-- the frame that bytes carry, where this is their kind
abbrev pub frame_at : Kind → List ℕ → Frame
frame_at kind bytes = record { tag = tag_at kind bytes; missing = set_at bytes; word = word_at bytes }

-- bytes that break no rule have this frame in their fields
abbrev pub Reads : List ℕ → Result Frame FrameError → Type 0
Reads bytes (Ok f) = (first_broken bytes ≡ None) × (kind_of (slice_index bytes 2) ≡ Some f.tag.kind) × (f ≡ frame_at f.tag.kind bytes)
Reads bytes (Err e) = first_broken bytes ≡ Some e
