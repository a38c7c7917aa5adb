-- Frames of version 2: what is read is spelled so, and what is spelled so is read.
use Rattle.std.proofs.Common.{◌≡◌, ℕ, zero, suc, ◌+◌, ◌<◌, ◌≤◌, ◌^◌, ◌==◌, ◌&&◌, Bool, true, false, not, List, [], ◌∷◌, ◌++◌, length, get_or, take, drop, Option, Some, None, is_some, Result, Ok, Err, refl, sym, ap, ◌∙◌, ⊎_elim, arith, inl, inr, subst, ◌⊎◌}
use Rattle.std.specs.Prelude.{if◌then◌else◌}
use Rattle.std.specs.Int.{to_be_bytes, w16, w32, w64}
use Rattle.std.proofs.Math.ListN.{drop_of_length-le}
use Rattle.std.proofs.Math.Seq.{drop-cons}
use Rattle.std.proofs.lemmas.Bool.{false≢true, and_parts, eqb-true, cases_lt}
use Rattle.std.proofs.lemmas.List.{take-append-drop, drop-drop, get_or-drop, get_or-take, length-drop, length-take, append-nil, nil_from_length, get_or_past}
use Rattle.std.proofs.lemmas.Nat.{be_bytes_2, be_bytes_4, be_bytes_8, from_be_bytes-to_be_bytes_2, from_be_bytes-to_be_bytes_4, from_be_bytes-to_be_bytes_8}
use Rattle.missing_round.specs.Sets.{members, block_at}
use Rattle.missing_round.proofs.BlockLemmas.{block_at-lt, block_at-members, set-members, members-blocks_of}
use Rattle.group_plan.specs.declared.tag.Kind.{Kind}
use Rattle.group_plan.specs.declared.tag.Kind.TheVariants.{Reading, Announcement, Answer}
use Rattle.group_plan.specs.declared.tag.Tag.{Tag}
use Rattle.meter_frames.specs.declared.Frame.{Frame}
use Rattle.meter_frames.specs.declared.FrameError.{FrameError}
use Rattle.meter_frames.specs.declared.FrameError.TheVariants as errors
use Rattle.meter_frames.specs.Frames.{kind_byte, head_bytes, set_bytes, spelling, FitsKind, IsFrame, number16, number32, number64, kind_of, set_at, word_at, first_broken, Decodes, tag_at, frame_at, Reads}

-- ---- what is spelled so is read

word_at-spelling : (f : Frame) → IsFrame f → word_at (spelling f) ≡ f.word
unfolding spelling number64
word_at-spelling f h = from_be_bytes-to_be_bytes_8 f.word h.word

set_at-spelling : (f : Frame) → IsFrame f → set_at (spelling f) ≡ f.missing
unfolding spelling number64
set_at-spelling f h =
    let a : number64 36 (spelling f) ≡ block_at f.missing 0 = from_be_bytes-to_be_bytes_8 (block_at f.missing 0) (block_at-lt f.missing 0) in
    let b : number64 28 (spelling f) ≡ block_at f.missing 1 = from_be_bytes-to_be_bytes_8 (block_at f.missing 1) (block_at-lt f.missing 1) in
    let c : number64 20 (spelling f) ≡ block_at f.missing 2 = from_be_bytes-to_be_bytes_8 (block_at f.missing 2) (block_at-lt f.missing 2) in
    let d : number64 12 (spelling f) ≡ block_at f.missing 3 = from_be_bytes-to_be_bytes_8 (block_at f.missing 3) (block_at-lt f.missing 3) in
    (λ k. members (a k ∷ b k ∷ c k ∷ d k ∷ [])) ∙ members-blocks_of f.missing h.set

-- of either version: the tag stands in the head
pub tag_at-head : (version : ℕ) (tag : Tag) (rest : List ℕ) → tag.group < 2 ^ 16 → tag.round < 2 ^ 32 → tag_at tag.kind (head_bytes version tag ++ rest) ≡ tag
tag_at-head version tag rest group round =
    let g : number16 4 (head_bytes version tag ++ rest) ≡ tag.group = from_be_bytes-to_be_bytes_2 tag.group group in
    let r : number32 8 (head_bytes version tag ++ rest) ≡ tag.round = from_be_bytes-to_be_bytes_4 tag.round round in
    λ k. record { group = g k; round = r k; meter = tag.meter; kind = tag.kind }

pub frame_at-spelling : (f : Frame) → IsFrame f → frame_at f.tag.kind (spelling f) ≡ f
unfolding spelling
frame_at-spelling f h =
    let t : tag_at f.tag.kind (spelling f) ≡ f.tag = tag_at-head 2 f.tag (set_bytes f.missing ++ to_be_bytes w64 f.word) h.group h.round in
    λ k. record { tag = t k; missing = set_at-spelling f h k; word = word_at-spelling f h k }

pub kind_of-byte : (k : Kind) → kind_of (kind_byte k) ≡ Some k
kind_of-byte Reading = refl
kind_of-byte Announcement = refl
kind_of-byte Answer = refl

-- what is left of the rules for the spelling of a frame of this kind
abbrev broken_of : Kind → List ℕ → ℕ → Option FrameError
broken_of kind set word =
    if not (is_some (kind_of (kind_byte kind))) then Some errors.Kind
    else if (kind_byte kind == 1) && not (length set == 0) then Some errors.SetInReading
    else if (kind_byte kind == 2) && not (word == 0) then Some errors.WordInAnnouncement
    else None

broken_of-fits : (kind : Kind) (set : List ℕ) (word : ℕ) → FitsKind kind set word → broken_of kind set word ≡ None
broken_of-fits Reading set word h = ap (λ s. broken_of Reading s word) h
broken_of-fits Announcement set word h = ap (broken_of Announcement set) h
broken_of-fits Answer set word h = refl

first_broken-start : (f : Frame) → first_broken (spelling f) ≡ broken_of f.tag.kind (set_at (spelling f)) (word_at (spelling f))
unfolding spelling
first_broken-start f = refl

pub first_broken-spelling : (f : Frame) → IsFrame f → first_broken (spelling f) ≡ None
first_broken-spelling f h =
    first_broken-start f ∙ (λ k. broken_of f.tag.kind (set_at-spelling f h k) (word_at-spelling f h k)) ∙ broken_of-fits f.tag.kind f.missing f.word h.fits

kind-spelling : (f : Frame) → kind_of (get_or (spelling f) 2 0) ≡ Some f.tag.kind
unfolding spelling
kind-spelling f = kind_of-byte f.tag.kind

pub some≢none : {A : Type 0} (x : A) → Some x ≡ None → ⊥
some≢none x h = false≢true (sym (ap is_some h))

pub some-injective : {A : Type 0} (x y : A) → Some x ≡ Some y → x ≡ y
some-injective x y h = cc

-- what reads the spelling of a frame answers that frame
pub read-spelling : (r : Result Frame FrameError) (xs : List ℕ) → Reads xs r → (f : Frame) → IsFrame f → xs ≡ spelling f → r ≡ Ok f
read-spelling (Ok g) xs h f w e =
    let k : g.tag.kind ≡ f.tag.kind = some-injective _ _ (sym h.1 ∙ ap (λ ys. kind_of (get_or ys 2 0)) e ∙ kind-spelling f) in
    ap Ok (h.2 ∙ (λ i. frame_at (k i) (e i)) ∙ frame_at-spelling f w)
read-spelling (Err x) xs h f w e = absurd (some≢none x (sym h ∙ ap first_broken e ∙ first_broken-spelling f w))

-- ---- what is read is spelled so

abbrev pub IsBytes : List ℕ → Type 0
IsBytes xs = (i : ℕ) → get_or xs i 0 < 256

-- a rule that is kept, and the rules after it
pub kept : {E : Type 0} (b : Bool) (e : E) (rest : Option E) → (if not b then Some e else rest) ≡ None → (b ≡ true) × (rest ≡ None)
kept true e rest h = (refl, h)
kept false e rest h = absurd (some≢none e h)

pub kept_not : {E : Type 0} (b : Bool) (e : E) (rest : Option E) → (if b then Some e else rest) ≡ None → (b ≡ false) × (rest ≡ None)
kept_not true e rest h = absurd (some≢none e h)
kept_not false e rest h = (refl, h)

chosen : {A : Type 0} (b : Bool) (x y z : A) → (if b then x else y) ≡ z → ((b ≡ true) × (x ≡ z)) ⊎ ((b ≡ false) × (y ≡ z))
chosen true x y z h = inl (refl, h)
chosen false x y z h = inr (refl, h)

pub kind_of-inverse : (n : ℕ) (k : Kind) → kind_of n ≡ Some k → n ≡ kind_byte k
kind_of-inverse n k h = ⊎_elim
    (λ a. rw (eqb-true n 1 a.0) (ap kind_byte (some-injective Reading k a.1)))
    (λ r. ⊎_elim
    (λ b. rw (eqb-true n 2 b.0) (ap kind_byte (some-injective Announcement k b.1)))
    (λ r. ⊎_elim
    (λ c. rw (eqb-true n 3 c.0) (ap kind_byte (some-injective Answer k c.1)))
    (λ r. absurd (some≢none k (sym r.1)))
    (chosen (n == 3) (Some Answer) None (Some k) r.1))
    (chosen (n == 2) (Some Announcement) _ (Some k) r.1))
    (chosen (n == 1) (Some Reading) _ (Some k) h)

pub fits-kind : (k : Kind) (n : ℕ) (set : List ℕ) (word : ℕ) → n ≡ kind_byte k → ((n == 1) && not (length set == 0)) ≡ false → ((n == 2) && not (word == 0)) ≡ false → FitsKind k set word
fits-kind Reading n set word e a b = nil_from_length set (eqb-true _ _ (not-false (length set == 0) (sym (ap (λ m. (m == 1) && not (length set == 0)) e) ∙ a)))
  where
    not-false : (b : Bool) → not b ≡ false → b ≡ true
    not-false true h = refl
    not-false false h = absurd (false≢true (sym h))
fits-kind Announcement n set word e a b = eqb-true _ _ (not-false (word == 0) (sym (ap (λ m. (m == 2) && not (word == 0)) e) ∙ b))
  where
    not-false : (b : Bool) → not b ≡ false → b ≡ true
    not-false true h = refl
    not-false false h = absurd (false≢true (sym h))
fits-kind Answer n set word e a b = tt

-- bytes that break no rule
record Passes (k : Kind) (xs : List ℕ) : Type 0 where
  long : length xs ≡ 52
  magic : get_or xs 0 0 ≡ 0x4d
  version : get_or xs 1 0 ≡ 2
  kind : get_or xs 2 0 ≡ kind_byte k
  sixth : get_or xs 6 0 ≡ 0
  seventh : get_or xs 7 0 ≡ 0
  fits : FitsKind k (set_at xs) (word_at xs)

passes : (k : Kind) (xs : List ℕ) → first_broken xs ≡ None → kind_of (get_or xs 2 0) ≡ Some k → Passes k xs
passes k xs h is =
    let a = kept (length xs == 52) (errors.Length (length xs)) _ h in
    let b = kept (get_or xs 0 0 == 0x4d) errors.Magic _ a.1 in
    let c = kept (get_or xs 1 0 == 2) errors.Version _ b.1 in
    let d = kept (is_some (kind_of (get_or xs 2 0))) errors.Kind _ c.1 in
    let e = kept ((get_or xs 6 0 == 0) && (get_or xs 7 0 == 0)) errors.Reserved _ d.1 in
    let zeros = and_parts (get_or xs 6 0 == 0) (get_or xs 7 0 == 0) e.0 in
    let f = kept_not ((get_or xs 2 0 == 1) && not (length (set_at xs) == 0)) errors.SetInReading _ e.1 in
    let g = kept_not ((get_or xs 2 0 == 2) && not (word_at xs == 0)) errors.WordInAnnouncement _ f.1 in
    record {
      long = eqb-true _ _ a.0;
      magic = eqb-true _ _ b.0;
      version = eqb-true _ _ c.0;
      kind = kind_of-inverse (get_or xs 2 0) k is;
      sixth = eqb-true _ _ zeros.0;
      seventh = eqb-true _ _ zeros.1;
      fits = fits-kind k (get_or xs 2 0) (set_at xs) (word_at xs) (kind_of-inverse (get_or xs 2 0) k is) f.0 g.0;
    }

pub part : (xs : List ℕ) (at n to : ℕ) → at + n ≡ to → take n (drop at xs) ++ drop to xs ≡ drop at xs
part xs at n to e = ap (λ z. take n (drop at xs) ++ drop z xs) (sym e) ∙ ap (λ ys. take n (drop at xs) ++ ys) (sym (drop-drop n at xs)) ∙ take-append-drop n (drop at xs)

pub part-length : (xs : List ℕ) (at n : ℕ) → at + n ≤ length xs → length (take n (drop at xs)) ≡ n
part-length xs at n h = length-take n (drop at xs) ∙ omega (arith, h, length-drop at xs)

pub part-byte : (xs : List ℕ) (at n i : ℕ) → IsBytes xs → get_or (take n (drop at xs)) i 0 < 256
part-byte xs at n i h = ⊎_elim
    (λ lt. rw (get_or-take n (drop at xs) i 0 lt, get_or-drop at xs i 0) (h (at + i)))
    (λ ge. let e : get_or (take n (drop at xs)) i 0 ≡ 0 = get_or_past _ i 0 (omega (arith, length-take n (drop at xs))) in omega (arith, e))
    (cases_lt i n)

pub number64-lt : (at : ℕ) (xs : List ℕ) → IsBytes xs → number64 at xs < 2 ^ 64
unfolding number64
number64-lt at xs h =
    let b : (i : ℕ) → get_or (take 8 (drop at xs)) i 0 < 256 = λ i. part-byte xs at 8 i h in
    omega (arith, b 0, b 1, b 2, b 3, b 4, b 5, b 6, b 7)

pub cell8 : (xs : List ℕ) (at to n : ℕ) → at + 8 ≡ to → to ≤ length xs → IsBytes xs → n ≡ number64 at xs → to_be_bytes w64 n ++ drop to xs ≡ drop at xs
unfolding number64
cell8 xs at to n e l h s =
    ap (λ ys. ys ++ drop to xs) (be_bytes_8 (take 8 (drop at xs)) n (part-length xs at 8 (omega (arith, e, l))) (λ i. part-byte xs at 8 i h) s) ∙ part xs at 8 to e

-- the bytes of the head, before the place of the set, in either version
pub head_bytes-tag_at : (version : ℕ) (k : Kind) (xs : List ℕ) → IsBytes xs → 12 ≤ length xs → get_or xs 0 0 ≡ 0x4d → get_or xs 1 0 ≡ version → get_or xs 2 0 ≡ kind_byte k → get_or xs 6 0 ≡ 0 → get_or xs 7 0 ≡ 0
    → head_bytes version (tag_at k xs) ++ drop 12 xs ≡ xs
head_bytes-tag_at version k xs h long b0 b1 b2 b6 b7 =
    let g : ℕ = number16 4 xs in
    let r : ℕ = number32 8 xs in
    let e8 : to_be_bytes w32 r ++ drop 12 xs ≡ drop 8 xs =
    ap (λ ys. ys ++ drop 12 xs) (be_bytes_4 (take 4 (drop 8 xs)) r (part-length xs 8 4 (omega (arith, long))) (λ i. part-byte xs 8 4 i h) refl) ∙ part xs 8 4 12 refl in
    let e6 : 0 ∷ 0 ∷ drop 8 xs ≡ drop 6 xs = (λ i. sym b6 i ∷ sym b7 i ∷ drop 8 xs) ∙ ap (λ ys. get_or xs 6 0 ∷ ys) (sym (drop-cons xs 7 0 (omega (arith, long)))) ∙ sym (drop-cons xs 6 0 (omega (arith, long))) in
    let e4 : to_be_bytes w16 g ++ drop 6 xs ≡ drop 4 xs =
    ap (λ ys. ys ++ drop 6 xs) (be_bytes_2 (take 2 (drop 4 xs)) g (part-length xs 4 2 (omega (arith, long))) (λ i. part-byte xs 4 2 i h) refl) ∙ part xs 4 2 6 refl in
    let e0 : 0x4d ∷ version ∷ kind_byte k ∷ get_or xs 3 0 ∷ drop 4 xs ≡ xs =
    (λ i. sym b0 i ∷ sym b1 i ∷ sym b2 i ∷ get_or xs 3 0 ∷ drop 4 xs)
    ∙ ap (λ ys. get_or xs 0 0 ∷ get_or xs 1 0 ∷ get_or xs 2 0 ∷ ys) (sym (drop-cons xs 3 0 (omega (arith, long))))
    ∙ ap (λ ys. get_or xs 0 0 ∷ get_or xs 1 0 ∷ ys) (sym (drop-cons xs 2 0 (omega (arith, long))))
    ∙ ap (λ ys. get_or xs 0 0 ∷ ys) (sym (drop-cons xs 1 0 (omega (arith, long))))
    ∙ sym (drop-cons xs 0 0 (omega (arith, long))) in
    let head : List ℕ → List ℕ = λ ys. 0x4d ∷ version ∷ kind_byte k ∷ get_or xs 3 0 ∷ ys in
    let to6 : List ℕ → List ℕ = λ ys. head (to_be_bytes w16 g ++ ys) in
    let to8 : List ℕ → List ℕ = λ ys. to6 (0 ∷ 0 ∷ ys) in
    ap to8 e8 ∙ ap to6 e6 ∙ ap head e4 ∙ e0

blocks-lt : (xs : List ℕ) → IsBytes xs → (k : ℕ) → get_or (number64 36 xs ∷ number64 28 xs ∷ number64 20 xs ∷ number64 12 xs ∷ []) k 0 < 2 ^ 64
blocks-lt xs h zero = number64-lt 36 xs h
blocks-lt xs h (suc zero) = number64-lt 28 xs h
blocks-lt xs h (suc (suc zero)) = number64-lt 20 xs h
blocks-lt xs h (suc (suc (suc zero))) = number64-lt 12 xs h
blocks-lt xs h (suc (suc (suc (suc k)))) = omega arith

-- of either version: the last eight bytes
pub last-word : (xs : List ℕ) (at : ℕ) → IsBytes xs → length xs ≡ at + 8 → to_be_bytes w64 (number64 at xs) ≡ drop at xs
last-word xs at h long =
    sym (append-nil (to_be_bytes w64 (number64 at xs))) ∙ ap (λ ys. to_be_bytes w64 (number64 at xs) ++ ys) (sym (drop_of_length-le xs {i = at + 8} (omega (arith, long))))
    ∙ cell8 xs at (at + 8) (number64 at xs) refl (omega (arith, long)) h refl

spelling-frame_at : (k : Kind) (xs : List ℕ) → IsBytes xs → Passes k xs → spelling (frame_at k xs) ≡ xs
unfolding spelling
spelling-frame_at k xs h p =
    let m : List ℕ = set_at xs in
    let at : (j : ℕ) → j < 4 → block_at m j ≡ get_or (number64 36 xs ∷ number64 28 xs ∷ number64 20 xs ∷ number64 12 xs ∷ []) j 0 =
    λ j l. block_at-members (number64 36 xs ∷ number64 28 xs ∷ number64 20 xs ∷ number64 12 xs ∷ []) (blocks-lt xs h) j l in
    let e44 : to_be_bytes w64 (word_at xs) ≡ drop 44 xs = last-word xs 44 h p.long in
    let e36 : to_be_bytes w64 (block_at m 0) ++ drop 44 xs ≡ drop 36 xs = cell8 xs 36 44 (block_at m 0) refl (omega (arith, p.long)) h (at 0 (omega arith)) in
    let e28 : to_be_bytes w64 (block_at m 1) ++ drop 36 xs ≡ drop 28 xs = cell8 xs 28 36 (block_at m 1) refl (omega (arith, p.long)) h (at 1 (omega arith)) in
    let e20 : to_be_bytes w64 (block_at m 2) ++ drop 28 xs ≡ drop 20 xs = cell8 xs 20 28 (block_at m 2) refl (omega (arith, p.long)) h (at 2 (omega arith)) in
    let e12 : to_be_bytes w64 (block_at m 3) ++ drop 20 xs ≡ drop 12 xs = cell8 xs 12 20 (block_at m 3) refl (omega (arith, p.long)) h (at 3 (omega arith)) in
    let to12 : List ℕ → List ℕ = λ ys. head_bytes 2 (tag_at k xs) ++ ys in
    let to20 : List ℕ → List ℕ = λ ys. to12 (to_be_bytes w64 (block_at m 3) ++ ys) in
    let to28 : List ℕ → List ℕ = λ ys. to20 (to_be_bytes w64 (block_at m 2) ++ ys) in
    let to36 : List ℕ → List ℕ = λ ys. to28 (to_be_bytes w64 (block_at m 1) ++ ys) in
    let to44 : List ℕ → List ℕ = λ ys. to36 (to_be_bytes w64 (block_at m 0) ++ ys) in
    ap to44 e44 ∙ ap to36 e36 ∙ ap to28 e28 ∙ ap to20 e20 ∙ ap to12 e12 ∙ head_bytes-tag_at 2 k xs h (omega (arith, p.long)) p.magic p.version p.kind p.sixth p.seventh

pub number16-lt : (at : ℕ) (xs : List ℕ) → IsBytes xs → number16 at xs < 2 ^ 16
number16-lt at xs h = omega (arith, part-byte xs at 2 0 h, part-byte xs at 2 1 h)

pub number32-lt : (at : ℕ) (xs : List ℕ) → IsBytes xs → number32 at xs < 2 ^ 32
number32-lt at xs h = omega (arith, part-byte xs at 4 0 h, part-byte xs at 4 1 h, part-byte xs at 4 2 h, part-byte xs at 4 3 h)

-- what is read of bytes is the frame that they spell, or the first rule that they break
pub decodes : (r : Result Frame FrameError) (xs : List ℕ) → IsBytes xs → Reads xs r → Decodes xs r
decodes (Err e) xs h reads = reads
decodes (Ok f) xs h reads =
    let p : Passes f.tag.kind xs = passes f.tag.kind xs reads.0 reads.1 in
    let is : IsFrame (frame_at f.tag.kind xs) = record {
      group = number16-lt 4 xs h;
      round = number32-lt 8 xs h;
      meter = h 3;
      set = set-members (number64 36 xs ∷ number64 28 xs ∷ number64 20 xs ∷ number64 12 xs ∷ []);
      word = number64-lt 44 xs h;
      fits = p.fits;
    } in
    subst (λ (g : Frame). IsFrame g × (xs ≡ spelling g)) (sym reads.2) (is, sym (spelling-frame_at f.tag.kind xs h p))
