-- The bytes and the digits of a frame.
use Rattle.std.proofs.Common.{◌≡◌, ◌∙◌, ◌<◌, ◌/◌, ◌%◌, ◌==◌, ◌&&◌, not, ℕ, zero, suc, Bool, true, false, List, [], ◌∷◌, ◌++◌, length, refl, sym, ap, arith}
use Rattle.std.specs.Prelude.{slice_index, Option, Some, None, Result, Ok, Err, if◌then◌else◌}
use Rattle.std.specs.Int.{to_be_bytes, w16, w32, w64}
use Rattle.std.specs.Str.{bytes_eq}
use Rattle.std.proofs.lemmas.Slice.Eq.{bytes_eq-Decides}
use Rattle.hex.specs.Hex.{IsBytes, encode_lower, encode_with, lower_digits}
use Rattle.hex.proofs.HexLemmas.{decode_sized-encode_lower}
use Rattle.missing_round.specs.Sets.{block_at}
use Rattle.group_plan.specs.declared.tag.Kind.{Kind}
use Rattle.group_plan.specs.declared.tag.Kind.TheVariants.{Reading, Announcement, Answer}
use Rattle.meter_frames.specs.declared.Frame.{Frame}
use Rattle.meter_frames.specs.declared.FrameError.{FrameError}
use Rattle.meter_frames.specs.Frames.{spelling, kind_byte, kind_of, IsFrame, Decodes}
use Rattle.meter_frames.proofs.FrameLemmas.{first_broken-spelling, frame_at-spelling, kind_of-byte}
use Rattle.field_texts.proofs.TextLaws.{clean}
use Rattle.apart_lines.specs.Frames.{digits_of, frame_by, frame_of_bytes, frame_of_decoded, frame_in, if_written, frame_written}

-- ---- bytes

kind_of_spelling : (f : Frame) → kind_of (slice_index (spelling f) 2) ≡ Some f.tag.kind
unfolding spelling
kind_of_spelling f = kind_of-byte f.tag.kind

pub frame_again : (f : Frame) → IsFrame f → frame_of_bytes (spelling f) ≡ Ok f
unfolding frame_of_bytes
frame_again f is =
    ap (λ broken. frame_by broken (kind_of (slice_index (spelling f) 2)) (spelling f)) (first_broken-spelling f is)
    ∙ ap (λ kind. frame_by None kind (spelling f)) (kind_of_spelling f)
    ∙ ap Ok (frame_at-spelling f is)

-- what is decoded is the frame of the bytes
pub frame_decoded : (bytes : List ℕ) (read : Result Frame FrameError) → Decodes bytes read → read ≡ frame_of_bytes bytes
unfolding frame_of_bytes
frame_decoded bytes (Ok f) is = sym (frame_again f is.0) ∙ ap frame_of_bytes (sym is.1)
frame_decoded bytes (Err broken) is = sym (ap (λ b. frame_by b (kind_of (slice_index bytes 2)) bytes) is)

-- ---- each is a byte

record AllBytes (xs : List ℕ) : Type 0 where
  at : IsBytes xs

no_bytes : AllBytes []
no_bytes = record { at = λ i. omega arith }

next_byte : (x : ℕ) (xs : List ℕ) → x < 256 → IsBytes xs → IsBytes (x ∷ xs)
next_byte x xs small later zero = small
next_byte x xs small later (suc i) = later i

byte : {x : ℕ} {xs : List ℕ} → x < 256 → AllBytes xs → AllBytes (x ∷ xs)
byte {x} {xs} small later = record { at = next_byte x xs small later.at }

bytes_then : (xs ys : List ℕ) → IsBytes xs → IsBytes ys → IsBytes (xs ++ ys)
bytes_then [] ys first later i = later i
bytes_then (x ∷ xs) ys first later zero = first 0
bytes_then (x ∷ xs) ys first later (suc i) = bytes_then xs ys (λ j. first (suc j)) later i

both_parts : {xs ys : List ℕ} → AllBytes xs → AllBytes ys → AllBytes (xs ++ ys)
both_parts {xs} {ys} first later = record { at = bytes_then xs ys first.at later.at }

two_bytes : (n : ℕ) → AllBytes (to_be_bytes w16 n)
two_bytes n = byte (omega arith) (byte (omega arith) no_bytes)

four_bytes : (n : ℕ) → AllBytes (to_be_bytes w32 n)
four_bytes n = byte (omega arith) (byte (omega arith) (byte (omega arith) (byte (omega arith) no_bytes)))

eight_bytes : (n : ℕ) → AllBytes (to_be_bytes w64 n)
eight_bytes n = byte (omega arith) (byte (omega arith) (byte (omega arith) (byte (omega arith) (byte (omega arith) (byte (omega arith) (byte (omega arith) (byte (omega arith) no_bytes)))))))

kind_small : (k : Kind) → kind_byte k < 256
kind_small Reading = omega arith
kind_small Announcement = omega arith
kind_small Answer = omega arith

all_spelled : (f : Frame) → f.tag.meter < 256 → AllBytes (spelling f)
unfolding spelling
all_spelled f small =
    both_parts
    (both_parts (byte (omega arith) (byte (omega arith) (byte (kind_small f.tag.kind) (byte small no_bytes))))
    (both_parts (two_bytes f.tag.group) (both_parts (byte (omega arith) (byte (omega arith) no_bytes)) (four_bytes f.tag.round))))
    (both_parts
    (both_parts (eight_bytes (block_at f.missing 3)) (both_parts (eight_bytes (block_at f.missing 2)) (both_parts (eight_bytes (block_at f.missing 1)) (eight_bytes (block_at f.missing 0)))))
    (eight_bytes f.word))

bytes_spelled : (f : Frame) → f.tag.meter < 256 → IsBytes (spelling f)
bytes_spelled f small = (all_spelled f small).at

length_spelled : (f : Frame) → length (spelling f) ≡ 52
unfolding spelling
length_spelled f = refl

-- ---- digits

-- the digits of a frame are read
pub digits_again : (f : Frame) → IsFrame f → frame_in (digits_of f) ≡ Some (Ok f)
unfolding frame_in
digits_again f is =
    ap frame_of_decoded (decode_sized-encode_lower (spelling f) 52 (length_spelled f) (bytes_spelled f is.meter))
    ∙ ap Some (frame_again f is)

pub written_again : (f : Frame) → IsFrame f → frame_written (digits_of f) ≡ Some f
written_again f is =
    ap (if_written (digits_of f)) (digits_again f is)
    ∙ ap (λ b. if b then Some f else None) ((bytes_eq-Decides (digits_of f) (digits_of f)).1 refl)

-- a frame whose digits a text is
pub written_back : (text : List ℕ) (f : Frame) → frame_written text ≡ Some f → text ≡ digits_of f
written_back text f is = by_read (frame_in text) is
  where
    by_test : (g : Frame) (b : Bool) → bytes_eq (digits_of g) text ≡ b → (if b then Some g else None) ≡ Some f → text ≡ digits_of f
    by_test g true same found = let e : g ≡ f = cc in sym ((bytes_eq-Decides (digits_of g) text).0 same) ∙ ap digits_of e
    by_test g false same found = absurd cc

    by_read : (read : Option (Result Frame FrameError)) → if_written text read ≡ Some f → text ≡ digits_of f
    by_read None found = absurd cc
    by_read (Some (Err e)) found = absurd cc
    by_read (Some (Ok g)) found = by_test g (bytes_eq (digits_of g) text) refl found

-- ---- no comma stands in digits

clean_parts : (same later : Bool) → (not same && later) ≡ true → (same ≡ false) × (later ≡ true)
clean_parts true later is = absurd cc
clean_parts false later is = (refl, is)

not_digit : (stop : ℕ) (table : List ℕ) (i : ℕ) → (0 == stop) ≡ false → clean stop table ≡ true → (slice_index table i == stop) ≡ false
not_digit stop [] i none is = none
not_digit stop (x ∷ table) zero none is = (clean_parts (x == stop) (clean stop table) is).0
not_digit stop (x ∷ table) (suc i) none is = not_digit stop table i none (clean_parts (x == stop) (clean stop table) is).1

pub clean_digits : (stop : ℕ) (bytes : List ℕ) → (0 == stop) ≡ false → clean stop lower_digits ≡ true → clean stop (encode_lower bytes) ≡ true
unfolding encode_with
clean_digits stop [] none is = refl
clean_digits stop (b ∷ bytes) none is =
    let high = not_digit stop lower_digits (b / 16) none is in
    let low = not_digit stop lower_digits (b % 16) none is in
    rw (high, low) (clean_digits stop bytes none is)
