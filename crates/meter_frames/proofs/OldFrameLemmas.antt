-- Frames of version 1: what is read is spelled so, and what is spelled so is read.
use Rattle.std.proofs.Common.{◌≡◌, ℕ, ◌<◌, ◌==◌, ◌&&◌, not, List, [], ◌∷◌, ◌++◌, length, get_or, drop, Option, Some, None, is_some, Result, Ok, Err, refl, sym, ap, ◌∙◌, arith, subst, ltb, true}
use Rattle.std.specs.Prelude.{if◌then◌else◌}
use Rattle.std.specs.Int.{to_be_bytes, w64}
use Rattle.std.proofs.lemmas.Bool.{and_parts, eqb-true, ltb-true, lt-ltb}
use Rattle.std.proofs.lemmas.Nat.{from_be_bytes-to_be_bytes_8}
use Rattle.missing_round.specs.Sets.{members, block_at}
use Rattle.missing_round.proofs.BlockLemmas.{block_at-lt, block_at-members, blocks-four, set-members, members-block_at, beyond-block}
use Rattle.group_plan.specs.declared.tag.Kind.{Kind}
use Rattle.group_plan.specs.declared.tag.Kind.TheVariants.{Reading, Announcement, Answer}
use Rattle.meter_frames.specs.declared.Frame.{Frame}
use Rattle.meter_frames.specs.declared.old.OldFrameError.{OldFrameError}
use Rattle.meter_frames.specs.declared.old.OldFrameError.TheVariants as errors
use Rattle.meter_frames.specs.Frames.{kind_byte, head_bytes, FitsKind, number64, kind_of, tag_at}
use Rattle.meter_frames.specs.OldFrames.{old_spelling, IsOldFrame, old_set_at, old_word_at, first_old_broken, DecodesOld, old_frame_at, ReadsOld}
use Rattle.meter_frames.proofs.FrameLemmas.{IsBytes, tag_at-head, kind_of-byte, some≢none, some-injective, kept, kept_not, kind_of-inverse, fits-kind, number16-lt, number32-lt, number64-lt, cell8, last-word, head_bytes-tag_at}

-- ---- what is spelled so is read

old_word_at-spelling : (f : Frame) → IsOldFrame f → old_word_at (old_spelling f) ≡ f.word
unfolding old_spelling number64
old_word_at-spelling f h = from_be_bytes-to_be_bytes_8 f.word h.word

old_set_at-spelling : (f : Frame) → IsOldFrame f → old_set_at (old_spelling f) ≡ f.missing
unfolding old_spelling number64
old_set_at-spelling f h =
    let a : number64 12 (old_spelling f) ≡ block_at f.missing 0 = from_be_bytes-to_be_bytes_8 (block_at f.missing 0) (block_at-lt f.missing 0) in
    (λ k. members (a k ∷ 0 ∷ 0 ∷ 0 ∷ [])) ∙ members-block_at f.missing h.set h.within

pub old_frame_at-spelling : (f : Frame) → IsOldFrame f → old_frame_at f.tag.kind (old_spelling f) ≡ f
unfolding old_spelling
old_frame_at-spelling f h =
    let t : tag_at f.tag.kind (old_spelling f) ≡ f.tag = tag_at-head 1 f.tag (to_be_bytes w64 (block_at f.missing 0) ++ to_be_bytes w64 f.word) h.group h.round in
    λ k. record { tag = t k; missing = old_set_at-spelling f h k; word = old_word_at-spelling f h k }

-- what is left of the rules for the spelling of a frame of this kind and meter
abbrev broken_of : Kind → ℕ → List ℕ → ℕ → Option OldFrameError
broken_of kind meter set word =
    if not (is_some (kind_of (kind_byte kind))) then Some errors.Kind
    else if not (ltb meter 64) then Some errors.Meter
    else if (kind_byte kind == 1) && not (length set == 0) then Some errors.SetInReading
    else if (kind_byte kind == 2) && not (word == 0) then Some errors.WordInAnnouncement
    else None

broken_of-fits : (kind : Kind) (meter : ℕ) (set : List ℕ) (word : ℕ) → ltb meter 64 ≡ true → FitsKind kind set word → broken_of kind meter set word ≡ None
broken_of-fits Reading meter set word l h = λ k. if not (l k) then Some errors.Meter else if not (length (h k) == 0) then Some errors.SetInReading else None
broken_of-fits Announcement meter set word l h = λ k. if not (l k) then Some errors.Meter else if not (h k == 0) then Some errors.WordInAnnouncement else None
broken_of-fits Answer meter set word l h = λ k. if not (l k) then Some errors.Meter else None

first_old_broken-start : (f : Frame) → first_old_broken (old_spelling f) ≡ broken_of f.tag.kind f.tag.meter (old_set_at (old_spelling f)) (old_word_at (old_spelling f))
unfolding old_spelling
first_old_broken-start f = refl

pub first_old_broken-spelling : (f : Frame) → IsOldFrame f → first_old_broken (old_spelling f) ≡ None
first_old_broken-spelling f h =
    first_old_broken-start f ∙ (λ k. broken_of f.tag.kind f.tag.meter (old_set_at-spelling f h k) (old_word_at-spelling f h k))
    ∙ broken_of-fits f.tag.kind f.tag.meter f.missing f.word (lt-ltb f.tag.meter 64 h.meter) h.fits

kind-spelling : (f : Frame) → kind_of (get_or (old_spelling f) 2 0) ≡ Some f.tag.kind
unfolding old_spelling
kind-spelling f = kind_of-byte f.tag.kind

-- what reads the spelling of a frame answers that frame
pub read_old-spelling : (r : Result Frame OldFrameError) (xs : List ℕ) → ReadsOld xs r → (f : Frame) → IsOldFrame f → xs ≡ old_spelling f → r ≡ Ok f
read_old-spelling (Ok g) xs h f w e =
    let k : g.tag.kind ≡ f.tag.kind = some-injective _ _ (sym h.1 ∙ ap (λ ys. kind_of (get_or ys 2 0)) e ∙ kind-spelling f) in
    ap Ok (h.2 ∙ (λ i. old_frame_at (k i) (e i)) ∙ old_frame_at-spelling f w)
read_old-spelling (Err x) xs h f w e = absurd (some≢none x (sym h ∙ ap first_old_broken e ∙ first_old_broken-spelling f w))

-- ---- what is read is spelled so

-- bytes that break no rule
record Passes (k : Kind) (xs : List ℕ) : Type 0 where
  long : length xs ≡ 28
  magic : get_or xs 0 0 ≡ 0x4d
  version : get_or xs 1 0 ≡ 1
  kind : get_or xs 2 0 ≡ kind_byte k
  meter : get_or xs 3 0 < 64
  sixth : get_or xs 6 0 ≡ 0
  seventh : get_or xs 7 0 ≡ 0
  fits : FitsKind k (old_set_at xs) (old_word_at xs)

passes : (k : Kind) (xs : List ℕ) → first_old_broken xs ≡ None → kind_of (get_or xs 2 0) ≡ Some k → Passes k xs
passes k xs h is =
    let a = kept (length xs == 28) (errors.Length (length xs)) _ h in
    let b = kept (get_or xs 0 0 == 0x4d) errors.Magic _ a.1 in
    let c = kept (get_or xs 1 0 == 1) errors.Version _ b.1 in
    let d = kept (is_some (kind_of (get_or xs 2 0))) errors.Kind _ c.1 in
    let m = kept (ltb (get_or xs 3 0) 64) errors.Meter _ d.1 in
    let e = kept ((get_or xs 6 0 == 0) && (get_or xs 7 0 == 0)) errors.Reserved _ m.1 in
    let zeros = and_parts (get_or xs 6 0 == 0) (get_or xs 7 0 == 0) e.0 in
    let f = kept_not ((get_or xs 2 0 == 1) && not (length (old_set_at xs) == 0)) errors.SetInReading _ e.1 in
    let g = kept_not ((get_or xs 2 0 == 2) && not (old_word_at xs == 0)) errors.WordInAnnouncement _ f.1 in
    record {
      long = eqb-true _ _ a.0;
      magic = eqb-true _ _ b.0;
      version = eqb-true _ _ c.0;
      kind = kind_of-inverse (get_or xs 2 0) k is;
      meter = ltb-true _ _ m.0;
      sixth = eqb-true _ _ zeros.0;
      seventh = eqb-true _ _ zeros.1;
      fits = fits-kind k (get_or xs 2 0) (old_set_at xs) (old_word_at xs) (kind_of-inverse (get_or xs 2 0) k is) f.0 g.0;
    }

old_spelling-frame_at : (k : Kind) (xs : List ℕ) → IsBytes xs → Passes k xs → old_spelling (old_frame_at k xs) ≡ xs
unfolding old_spelling
old_spelling-frame_at k xs h p =
    let m : ℕ = block_at (old_set_at xs) 0 in
    let s : m ≡ number64 12 xs = block_at-members (number64 12 xs ∷ 0 ∷ 0 ∷ 0 ∷ []) (blocks-four (number64 12 xs) 0 0 0 (number64-lt 12 xs h) (omega arith) (omega arith) (omega arith)).small 0 (omega arith) in
    let e20 : to_be_bytes w64 (old_word_at xs) ≡ drop 20 xs = last-word xs 20 h p.long in
    let e12 : to_be_bytes w64 m ++ drop 20 xs ≡ drop 12 xs = cell8 xs 12 20 m refl (omega (arith, p.long)) h s in
    let to12 : List ℕ → List ℕ = λ ys. head_bytes 1 (tag_at k xs) ++ ys in
    let to20 : List ℕ → List ℕ = λ ys. to12 (to_be_bytes w64 m ++ ys) in
    ap to20 e20 ∙ ap to12 e12 ∙ head_bytes-tag_at 1 k xs h (omega (arith, p.long)) p.magic p.version p.kind p.sixth p.seventh

-- what is read of bytes is the frame that they spell, or the first rule that they break
pub decodes_old : (r : Result Frame OldFrameError) (xs : List ℕ) → IsBytes xs → ReadsOld xs r → DecodesOld xs r
decodes_old (Err e) xs h reads = reads
decodes_old (Ok f) xs h reads =
    let p : Passes f.tag.kind xs = passes f.tag.kind xs reads.0 reads.1 in
    let is : IsOldFrame (old_frame_at f.tag.kind xs) = record {
      group = number16-lt 4 xs h;
      round = number32-lt 8 xs h;
      meter = p.meter;
      set = set-members (number64 12 xs ∷ 0 ∷ 0 ∷ 0 ∷ []);
      within = beyond-block (number64 12 xs);
      word = number64-lt 20 xs h;
      fits = p.fits;
    } in
    subst (λ (g : Frame). IsOldFrame g × (xs ≡ old_spelling g)) (sym reads.2) (is, sym (old_spelling-frame_at f.tag.kind xs h p))
