-- Frames in text.
use Rattle.std.proofs.Common.{◌≡◌, ◌∙◌, ◌%◌, ◌/◌, ◌==◌, ℕ, Bool, true, false, List, length, refl, sym, ap, arith, inl, inr, Option, Some, None, Result, Ok, Err, subst}
use Rattle.std.specs.Prelude.{is_some, slice_index, if◌then◌else◌}
use Rattle.std.specs.Option.{option_map}
use Rattle.std.specs.Str.{bytes_eq}
use Rattle.std.proofs.lemmas.Slice.Eq.{bytes_eq-Decides}
use Rattle.hex.specs.Hex.{IsBytes, decode_pairs, decode_sized, encode_lower}
use Rattle.hex.specs.declared.error.FromHexError.{FromHexError}
use Rattle.hex.specs.declared.error.FromHexError.TheVariants.{OddLength, InvalidStringLength}
use Rattle.hex.proofs.HexLemmas.{decode_pairs-ok, decode_sized-encode_lower}
use Rattle.group_plan.specs.declared.tag.Kind.{Kind}
use Rattle.meter_frames.specs.declared.Frame.{Frame}
use Rattle.meter_frames.specs.declared.FrameError.{FrameError}
use Rattle.meter_frames.specs.declared.old.OldFrameError.{OldFrameError}
use Rattle.meter_frames.specs.Frames.{Decodes, IsFrame, first_broken, frame_at, kind_of, spelling}
use Rattle.meter_frames.specs.OldFrames.{DecodesOld, IsOldFrame, first_old_broken, old_frame_at, old_spelling}
use Rattle.meter_frames.proofs.FrameLemmas.{decodes, first_broken-spelling, frame_at-spelling, kind_of-byte}
use Rattle.meter_frames.proofs.OldFrameLemmas.{decodes_old, first_old_broken-spelling, old_frame_at-spelling}
use Rattle.transcript_text.specs.declared.version.Version.{Version}
use Rattle.transcript_text.specs.declared.version.Version.TheVariants.{One, Two}
use Rattle.transcript_text.specs.Spelling.{frame_bytes}
use Rattle.transcript_text.specs.Reading.{bytes_of, frame_of, frame_of_bytes, frame_of_some, if_written}
use Rattle.field_texts.proofs.Choices.{pick}

abbrev found : {E : Type 0} (broken : Option E) (o : Option Kind) (frame : Kind → Frame) → Option Frame
found broken o frame = if is_some broken then None else option_map frame o

found_is : {E : Type 0} (broken : Option E) (o : Option Kind) (frame : Kind → Frame) (kind : Kind) → broken ≡ None → o ≡ Some kind → found broken o frame ≡ Some (frame kind)
found_is broken o frame kind b k = rw (b, k) refl

found_none : {E : Type 0} (broken : Option E) (o : Option Kind) (frame : Kind → Frame) (e : E) → broken ≡ Some e → None ≡ found broken o frame
found_none broken o frame e b = rw b refl

found_back : {E : Type 0} (broken : Option E) (o : Option Kind) (frame : Kind → Frame) (f : Frame) → found broken o frame ≡ Some f → (kind : Kind) × (broken ≡ None) × (o ≡ Some kind) × (frame kind ≡ f)
found_back (Some e) o frame f h = absurd cc
found_back None None frame f h = absurd cc
found_back None (Some kind) frame f h = (kind, refl, refl, cc)

second_byte : (f : Frame) → kind_of (slice_index (spelling f) 2) ≡ Some f.tag.kind
unfolding spelling
second_byte f = kind_of-byte f.tag.kind

old_second_byte : (f : Frame) → kind_of (slice_index (old_spelling f) 2) ≡ Some f.tag.kind
unfolding old_spelling
old_second_byte f = kind_of-byte f.tag.kind

-- ---- version 2

-- a spelling is read
pub frame_again : (f : Frame) → IsFrame f → frame_of_bytes Two (spelling f) ≡ Some f
unfolding frame_of_bytes
frame_again f is =
    found_is (first_broken (spelling f)) (kind_of (slice_index (spelling f) 2)) (λ kind. frame_at kind (spelling f)) f.tag.kind (first_broken-spelling f is) (second_byte f)
    ∙ ap Some (frame_at-spelling f is)

pub frame_decoded : (bytes : List ℕ) (f : Frame) → Decodes bytes (Ok f) → Some f ≡ frame_of_bytes Two bytes
frame_decoded bytes f d = sym (ap (frame_of_bytes Two) d.1 ∙ frame_again f d.0)

pub frame_refused : (bytes : List ℕ) (e : FrameError) → Decodes bytes (Err e) → None ≡ frame_of_bytes Two bytes
unfolding frame_of_bytes
frame_refused bytes e d = found_none (first_broken bytes) (kind_of (slice_index bytes 2)) (λ kind. frame_at kind bytes) e d

-- what is read is spelled so
pub frame_back : (bytes : List ℕ) (f : Frame) → IsBytes bytes → frame_of_bytes Two bytes ≡ Some f → IsFrame f × (bytes ≡ spelling f)
unfolding frame_of_bytes
frame_back bytes f small h =
    let b = found_back (first_broken bytes) (kind_of (slice_index bytes 2)) (λ kind. frame_at kind bytes) f h in
    let same : frame_at b.0 bytes ≡ f = b.3 in
    let kind : b.0 ≡ f.tag.kind = ap (λ (g : Frame). g.tag.kind) same in
    decodes (Ok f) bytes small (b.1, b.2 ∙ ap Some kind, sym same ∙ ap (λ k. frame_at k bytes) kind)

-- ---- version 1

pub old_frame_again : (f : Frame) → IsOldFrame f → frame_of_bytes One (old_spelling f) ≡ Some f
unfolding frame_of_bytes
old_frame_again f is =
    found_is (first_old_broken (old_spelling f)) (kind_of (slice_index (old_spelling f) 2)) (λ kind. old_frame_at kind (old_spelling f)) f.tag.kind (first_old_broken-spelling f is) (old_second_byte f)
    ∙ ap Some (old_frame_at-spelling f is)

pub old_frame_decoded : (bytes : List ℕ) (f : Frame) → DecodesOld bytes (Ok f) → Some f ≡ frame_of_bytes One bytes
old_frame_decoded bytes f d = sym (ap (frame_of_bytes One) d.1 ∙ old_frame_again f d.0)

pub old_frame_refused : (bytes : List ℕ) (e : OldFrameError) → DecodesOld bytes (Err e) → None ≡ frame_of_bytes One bytes
unfolding frame_of_bytes
old_frame_refused bytes e d = found_none (first_old_broken bytes) (kind_of (slice_index bytes 2)) (λ kind. old_frame_at kind bytes) e d

pub old_frame_back : (bytes : List ℕ) (f : Frame) → IsBytes bytes → frame_of_bytes One bytes ≡ Some f → IsOldFrame f × (bytes ≡ old_spelling f)
unfolding frame_of_bytes
old_frame_back bytes f small h =
    let b = found_back (first_old_broken bytes) (kind_of (slice_index bytes 2)) (λ kind. old_frame_at kind bytes) f h in
    let same : old_frame_at b.0 bytes ≡ f = b.3 in
    let kind : b.0 ≡ f.tag.kind = ap (λ (g : Frame). g.tag.kind) same in
    decodes_old (Ok f) bytes small (b.1, b.2 ∙ ap Some kind, sym same ∙ ap (λ k. old_frame_at k bytes) kind)

-- ---- digits

pub bytes_again : (n : ℕ) (bytes : List ℕ) → length bytes ≡ n → IsBytes bytes → bytes_of n (encode_lower bytes) ≡ Some bytes
unfolding bytes_of
bytes_again n bytes l b =
    let same : bytes_eq (encode_lower bytes) (encode_lower bytes) ≡ true = (bytes_eq-Decides (encode_lower bytes) (encode_lower bytes)).1 refl in
    ap (if_written (encode_lower bytes)) (decode_sized-encode_lower bytes n l b) ∙ (rw same refl)

decoded_bytes : (n : ℕ) (text bytes : List ℕ) → decode_sized text n ≡ Ok bytes → IsBytes bytes
decoded_bytes n text bytes h = elim (pick (length text % 2 == 1) (Err OddLength) (if length text / 2 == n then decode_pairs 0 text else Err InvalidStringLength) (Ok bytes) h) [
  | inl w ↦ absurd (let e = w.1 in cc)
  | inr w ↦ elim (pick (length text / 2 == n) (decode_pairs 0 text) (Err InvalidStringLength) (Ok bytes) w.1) [
    | inl v ↦ (decode_pairs-ok 0 text bytes v.1).2
    | inr v ↦ absurd (let e = v.1 in cc)
  ]
]

pub bytes_back : (n : ℕ) (text bytes : List ℕ) → bytes_of n text ≡ Some bytes → (text ≡ encode_lower bytes) × IsBytes bytes
unfolding bytes_of
bytes_back n text bytes h = by_read (decode_sized text n) refl h
  where
    by_read : (r : Result (List ℕ) FromHexError) → decode_sized text n ≡ r → if_written text r ≡ Some bytes → (text ≡ encode_lower bytes) × IsBytes bytes
    by_read (Err e) d h = absurd cc
    by_read (Ok xs) d h = by_test (bytes_eq (encode_lower xs) text) refl h
      where
        by_test : (b : Bool) → bytes_eq (encode_lower xs) text ≡ b → (if b then Some xs else None) ≡ Some bytes → (text ≡ encode_lower bytes) × IsBytes bytes
        by_test true t h =
            let e : xs ≡ bytes = cc in
            (sym ((bytes_eq-Decides (encode_lower xs) text).0 t) ∙ ap encode_lower e, subst (λ (ys : List ℕ). IsBytes ys) e (decoded_bytes n text xs d))
        by_test false t h = absurd cc

-- ---- frames in either version

old_is_frame : (f : Frame) → IsOldFrame f → IsFrame f
old_is_frame f is = record { group = is.group; round = is.round; meter = omega (arith, is.meter); set = is.set; word = is.word; fits = is.fits }

pub text_back : (version : Version) (text : List ℕ) (f : Frame) → frame_of version text ≡ Some f → (text ≡ encode_lower (frame_bytes version f)) × IsFrame f
text_back One text f h = by_bytes (bytes_of 28 text) refl h
  where
    by_bytes : (o : Option (List ℕ)) → bytes_of 28 text ≡ o → frame_of_some One o ≡ Some f → (text ≡ encode_lower (old_spelling f)) × IsFrame f
    by_bytes None b h = absurd cc
    by_bytes (Some bytes) b h =
        let t = bytes_back 28 text bytes b in
        let d = old_frame_back bytes f t.1 h in
        (t.0 ∙ ap encode_lower d.1, old_is_frame f d.0)
text_back Two text f h = by_bytes (bytes_of 52 text) refl h
  where
    by_bytes : (o : Option (List ℕ)) → bytes_of 52 text ≡ o → frame_of_some Two o ≡ Some f → (text ≡ encode_lower (spelling f)) × IsFrame f
    by_bytes None b h = absurd cc
    by_bytes (Some bytes) b h =
        let t = bytes_back 52 text bytes b in
        let d = frame_back bytes f t.1 h in
        (t.0 ∙ ap encode_lower d.1, d.0)
