-- The bytes of a frame, and their digits.
use Rattle.std.proofs.Common.{◌≡◌, ◌<◌, ◌/◌, ◌%◌, ◌==◌, ◌&&◌, not, ◌≤◌, ℕ, zero, suc, Bool, true, false, List, [], ◌∷◌, ◌++◌, length, refl, ap, arith}
use Rattle.std.specs.Prelude.{codes, slice_index}
use Rattle.std.specs.Int.{to_be_bytes, w16, w32, w64}
use Rattle.std.specs.Str.{bytes_eq}
use Rattle.hex.specs.Hex.{IsBytes, encode_lower, encode_with, lower_digits}
use Rattle.hex.proofs.HexLemmas.{length-encode_with}
use Rattle.group_plan.specs.declared.tag.Kind.{Kind}
use Rattle.group_plan.specs.declared.tag.Kind.TheVariants.{Reading, Announcement, Answer}
use Rattle.group_plan.specs.declared.tag.Tag.{Tag}
use Rattle.missing_round.specs.Sets.{block_at}
use Rattle.meter_frames.specs.declared.Frame.{Frame}
use Rattle.meter_frames.specs.Frames.{head_bytes, kind_byte, set_bytes, spelling}
use Rattle.meter_frames.specs.OldFrames.{old_spelling}
use Rattle.transcript_text.specs.declared.version.Version.{Version}
use Rattle.transcript_text.specs.declared.version.Version.TheVariants.{One, Two}
use Rattle.transcript_text.specs.Spelling.{frame_bytes}
use Rattle.transcript_text.specs.Reading.{frame_size}
use Rattle.field_texts.proofs.Choices.{is_word}
use Rattle.transcript_text.proofs.Choices.{test_of}
use Rattle.field_texts.proofs.TextLaws.{clean}

-- ---- bytes

record AreBytes (xs : List ℕ) : Type 0 where
  each : IsBytes xs

none : AreBytes []
none = record { each = λ i. omega arith }

byte : (x : ℕ) {xs : List ℕ} → x < 256 → AreBytes xs → AreBytes (x ∷ xs)
byte x {xs} h k = record { each = each }
  where
    each : IsBytes (x ∷ xs)
    each zero = h
    each (suc i) = k.each i

append_bytes : (xs ys : List ℕ) → IsBytes xs → IsBytes ys → IsBytes (xs ++ ys)
append_bytes [] ys h k i = k i
append_bytes (x ∷ xs) ys h k zero = h 0
append_bytes (x ∷ xs) ys h k (suc i) = append_bytes xs ys (λ j. h (suc j)) k i

then : {xs ys : List ℕ} → AreBytes xs → AreBytes ys → AreBytes (xs ++ ys)
then {xs} {ys} h k = record { each = append_bytes xs ys h.each k.each }

bytes_16 : (n : ℕ) → AreBytes (to_be_bytes w16 n)
bytes_16 n = byte _ (omega arith) (byte _ (omega arith) none)

bytes_32 : (n : ℕ) → AreBytes (to_be_bytes w32 n)
bytes_32 n = byte _ (omega arith) (byte _ (omega arith) (byte _ (omega arith) (byte _ (omega arith) none)))

bytes_64 : (n : ℕ) → AreBytes (to_be_bytes w64 n)
bytes_64 n =
    byte _ (omega arith) (byte _ (omega arith) (byte _ (omega arith) (byte _ (omega arith)
    (byte _ (omega arith) (byte _ (omega arith) (byte _ (omega arith) (byte _ (omega arith) none)))))))

kind_byte_small : (k : Kind) → kind_byte k < 256
kind_byte_small Reading = omega arith
kind_byte_small Announcement = omega arith
kind_byte_small Answer = omega arith

bytes_head : (version : ℕ) (tag : Tag) → version < 256 → tag.meter < 256 → AreBytes (head_bytes version tag)
bytes_head version tag v m =
    then (byte 0x4d (omega arith) (byte version v (byte (kind_byte tag.kind) (kind_byte_small tag.kind) (byte tag.meter m none))))
    (then (bytes_16 tag.group) (then (byte 0 (omega arith) (byte 0 (omega arith) none)) (bytes_32 tag.round)))

bytes_set : (set : List ℕ) → AreBytes (set_bytes set)
bytes_set set = then (bytes_64 (block_at set 3)) (then (bytes_64 (block_at set 2)) (then (bytes_64 (block_at set 1)) (bytes_64 (block_at set 0))))

spelled : (version : Version) (f : Frame) → f.tag.meter < 256 → AreBytes (frame_bytes version f)
unfolding spelling old_spelling
spelled One f m = then (bytes_head 1 f.tag (omega arith) m) (then (bytes_64 (block_at f.missing 0)) (bytes_64 f.word))
spelled Two f m = then (bytes_head 2 f.tag (omega arith) m) (then (bytes_set f.missing) (bytes_64 f.word))

pub spelled_bytes : (version : Version) (f : Frame) → f.tag.meter < 256 → IsBytes (frame_bytes version f)
spelled_bytes version f m = (spelled version f m).each

pub spelled_length : (version : Version) (f : Frame) → length (frame_bytes version f) ≡ frame_size version
unfolding spelling old_spelling
spelled_length One f = refl
spelled_length Two f = refl

-- ---- digits

-- as long a text isn't the word
pub not_void : (version : Version) (f : Frame) → bytes_eq (encode_lower (frame_bytes version f)) (codes "void") ≡ false
not_void version f = by_test (bytes_eq (encode_lower (frame_bytes version f)) (codes "void")) refl
  where
    large : (version : Version) → 28 ≤ frame_size version
    large One = omega arith
    large Two = omega arith

    by_test : (b : Bool) → bytes_eq (encode_lower (frame_bytes version f)) (codes "void") ≡ b → b ≡ false
    by_test false e = refl
    by_test true e =
        let same : length (encode_lower (frame_bytes version f)) ≡ 4 = ap length (is_word _ (codes "void") e) in
        let twice = length-encode_with lower_digits (frame_bytes version f) in
        let long = spelled_length version f in
        let some = large version in
        absurd (omega (arith, same, twice, long, some))

digit_clean : (stop : ℕ) (xs : List ℕ) (i : ℕ) → (0 == stop) ≡ false → clean stop xs ≡ true → (slice_index xs i == stop) ≡ false
digit_clean stop [] i z h = z
digit_clean stop (x ∷ xs) zero z h = clean_first (x == stop) (clean stop xs) h
  where
    clean_first : (a b : Bool) → (not a && b) ≡ true → a ≡ false
    clean_first false b h = refl
    clean_first true b h = absurd cc
digit_clean stop (x ∷ xs) (suc i) z h = digit_clean stop xs i z (test_of (not (x == stop)) (clean stop xs) h).1

-- a byte that is neither a digit nor zero stands in no digits
pub clean_digits : (stop : ℕ) (bytes : List ℕ) → (0 == stop) ≡ false → clean stop lower_digits ≡ true → clean stop (encode_lower bytes) ≡ true
unfolding encode_with
clean_digits stop [] z h = refl
clean_digits stop (b ∷ bytes) z h =
    let high = digit_clean stop lower_digits (b / 16) z h in
    let low = digit_clean stop lower_digits (b % 16) z h in
    rw (high, low) (clean_digits stop bytes z h)
