-- The lines that roles write are read as themselves.
use Rattle.std.proofs.Common.{◌≡◌, ℕ, ◌+◌, ◌*◌, ◌<◌, ◌≤◌, Bool, true, false, not, List, [], ◌∷◌, ◌++◌, length, take, drop, map, All, refl, sym, ap, ◌∙◌, subst, arith, decimal, length-append, append_assoc, append-nil}
use Rattle.std.specs.Prelude.{◌==◌, ◌/◌, ◌%◌, cond, codes, slice_index, if◌then◌else◌, Option, Some, None, Result, Ok, Err}
use Rattle.std.specs.List.{join_with_byte, position_or_len}
use Rattle.std.proofs.lemmas.Bool.{and_from, and_parts, le-ltb}
use Rattle.std.proofs.lemmas.List.{length-take, take-append-drop}
use Rattle.std.proofs.lemmas.Fmt.{length-decimal-le}
use Rattle.std.proofs.lemmas.List.Elements.{All-head, All-tail}
use Rattle.hex.specs.Hex.{IsBytes, decode_sized, decode_pairs, lower_digits}
use Rattle.hex.specs.declared.error.FromHexError.{FromHexError}
use Rattle.hex.specs.declared.error.FromHexError.TheVariants.{InvalidStringLength, OddLength}
use Rattle.hex.proofs.HexLemmas.{decode_pairs-ok, length-encode_with}
use Rattle.missing_round.specs.Sets.{IsSet}
use Rattle.group_plan.specs.declared.tag.Kind.{Kind}
use Rattle.meter_frames.specs.declared.Frame.{Frame}
use Rattle.meter_frames.specs.declared.FrameError.{FrameError}
use Rattle.meter_frames.specs.Frames.{IsFrame, first_broken, frame_at, kind_of, spelling}
use Rattle.meter_frames.proofs.FrameLemmas.{decodes}
use Rattle.field_texts.specs.Sets.{numbers_text}
use Rattle.field_texts.proofs.SetLaws.{Rising, clean_text, set_rising}
use Rattle.field_texts.proofs.TextLaws.{clean, clean_decimal, clean_joined}
use Rattle.head_end.specs.declared.answers.Logged.{Logged}
use Rattle.head_end.specs.declared.answers.Logged.TheVariants.{Took, Passed}
use Rattle.meter_apart.specs.declared.answers.Noted.{Noted}
use Rattle.meter_apart.specs.declared.answers.Noted.TheVariants.{Read, Kept}
use Rattle.apart_lines.specs.Frames.{digits_of, frame_by, frame_in, frame_of_bytes, frame_of_decoded}
use Rattle.apart_lines.specs.Journals.{HasLogged, HasNoted, logged_of, logged_text, noted_of, noted_text}
use Rattle.apart_lines.proofs.FrameLemmas.{clean_digits}
use Rattle.apart_lines.proofs.JournalLemmas.{logged_again, noted_again}
use Rattle.desk_outside.specs.Wire.{newline_in}
use Rattle.journal_cuts.specs.Cuts.{are_texts, bytes_by, is_text, newlines, whole_in}
use Rattle.journal_cuts.proofs.CutLemmas.{cut_lines}
use Rattle.role_restarts.specs.Restarts.{AreLines, IsLine}

-- ---- texts

clean_text_is : (text : List ℕ) → clean 10 text ≡ true → is_text text ≡ true
clean_text_is [] is = refl
clean_text_is (c ∷ text) is =
    let both = and_parts (not (c == 10)) (clean 10 text) is in
    and_from (not (c == 10)) (is_text text) both.0 (clean_text_is text both.1)

-- ---- frames

frame_of_is : (bytes : List ℕ) (f : Frame) → IsBytes bytes → frame_of_bytes bytes ≡ Ok f → IsFrame f
unfolding frame_of_bytes
frame_of_is bytes f are is = by (first_broken bytes) (kind_of (slice_index bytes 2)) refl refl is
  where
    by : (broken : Option FrameError) (kind : Option Kind) → first_broken bytes ≡ broken → kind_of (slice_index bytes 2) ≡ kind → frame_by broken kind bytes ≡ Ok f → IsFrame f
    by (Some rule) kind none is_kind found = absurd cc
    by None None none is_kind found = absurd cc
    by None (Some kind) none is_kind found =
        let e : frame_at kind bytes ≡ f = cc in
        subst (λ (g : Frame). IsFrame g) e (decodes (Ok (frame_at kind bytes)) bytes are (none, is_kind, refl)).0

sized_bytes : (text bytes : List ℕ) → decode_sized text 52 ≡ Ok bytes → IsBytes bytes
sized_bytes text bytes is = by (length text % 2 == 1) (length text / 2 == 52) is
  where
    by : (odd sized : Bool) → (if odd then Err OddLength else if sized then decode_pairs 0 text else Err InvalidStringLength) ≡ Ok bytes → IsBytes bytes
    by true sized found = absurd cc
    by false true found = (decode_pairs-ok 0 text bytes found).2
    by false false found = absurd cc

-- a frame that is read of a text has a spelling
pub frame_read : (text : List ℕ) (f : Frame) → frame_in text ≡ Some (Ok f) → IsFrame f
unfolding frame_in
frame_read text f is = by (decode_sized text 52) refl is
  where
    by : (decoded : Result (List ℕ) FromHexError) → decode_sized text 52 ≡ decoded → frame_of_decoded decoded ≡ Some (Ok f) → IsFrame f
    by (Ok bytes) sized found = let e : frame_of_bytes bytes ≡ Ok f = cc in frame_of_is bytes f (sized_bytes text bytes sized) e
    by (Err fault) sized found = absurd cc

-- ---- the head end

logged_clean : (line : Logged) → clean 10 (logged_text line) ≡ true
unfolding logged_text
logged_clean (Took f) = clean_joined 10 44 (codes "f" ∷ digits_of f ∷ []) refl (refl, (clean_digits 10 (spelling f) refl refl, tt))
logged_clean Passed = refl

spelled : (f : Frame) → length (spelling f) ≡ 52
unfolding spelling
spelled f = refl

logged_short : (line : Logged) → length (logged_text line) ≤ 4096
unfolding logged_text
logged_short (Took f) =
    let digits = length-encode_with lower_digits (spelling f) in
    let bytes = spelled f in
    let all = length-append (codes "f") (44 ∷ digits_of f) in
    omega (arith, digits, bytes, all)
logged_short Passed = omega arith

pub logged_line : (line : Logged) → HasLogged line → IsLine logged_of logged_text line
logged_line line has = record { text = clean_text_is (logged_text line) (logged_clean line); short = logged_short line; read = logged_again line has }

-- ---- the meter

decimals_short : (xs : List ℕ) → All (λ i. i < 256) xs → length (join_with_byte 43 (map decimal xs)) ≤ 4 * length xs
decimals_short [] small = omega arith
decimals_short (x ∷ []) small = let few = All-head (λ i. i < 256) x [] small in let long = length-decimal-le 3 x (omega arith) (omega (arith, few)) (omega (arith, few)) in omega (arith, long)
decimals_short (x ∷ y ∷ xs) small =
    let few = All-head (λ i. i < 256) x (y ∷ xs) small in
    let long = length-decimal-le 3 x (omega arith) (omega (arith, few)) (omega (arith, few)) in
    let rest = decimals_short (y ∷ xs) (All-tail (λ i. i < 256) x (y ∷ xs) small) in
    let all = length-append (decimal x) (43 ∷ join_with_byte 43 (map decimal (y ∷ xs))) in
    omega (arith, long, rest, all)

numbers_short : (xs : List ℕ) → All (λ i. i < 256) xs → length (numbers_text xs) ≤ 1 + 4 * length xs
numbers_short [] small = omega arith
numbers_short (x ∷ xs) small = let all = decimals_short (x ∷ xs) small in omega (arith, all)

rising_few : (low high : ℕ) (xs : List ℕ) → Rising low high xs → low ≤ high → length xs + low ≤ high
rising_few low high [] rising le = omega (arith, le)
rising_few low high (x ∷ xs) rising le =
    let at = rising.0 in
    let below = rising.1 in
    let rest = rising_few (x + 1) high xs rising.2 (omega (arith, below)) in
    omega (arith, at, rest)

set_short : (set : List ℕ) → IsSet set → length (numbers_text set) ≤ 1025
set_short set is =
    let few = rising_few 0 256 set (set_rising 256 set is is.small) (omega arith) in
    let all = numbers_short set is.small in
    omega (arith, few, all)

noted_clean : (line : Noted) → HasNoted line → clean 10 (noted_text line) ≡ true
unfolding noted_text
noted_clean (Read r reading) is =
    clean_joined 10 44 (codes "r" ∷ decimal r ∷ decimal reading ∷ []) refl (refl, (clean_decimal 10 r (omega arith) (let s = is.0 in omega (arith, s)), (clean_decimal 10 reading (omega arith) is.1, tt)))
noted_clean (Kept r set) is =
    clean_joined 10 44 (codes "s" ∷ decimal r ∷ numbers_text set ∷ []) refl
    (refl, (clean_decimal 10 r (omega arith) (let s = is.0 in omega (arith, s)), (clean_text 10 256 set (omega arith) refl refl (omega arith) (is.1).small, tt)))

noted_short : (line : Noted) → HasNoted line → length (noted_text line) ≤ 4096
unfolding noted_text
noted_short (Read r reading) is =
    let few = is.0 in
    let first = length-decimal-le 10 r (omega arith) (omega (arith, few)) (omega (arith, few)) in
    let small = is.1 in
    let second = length-decimal-le 20 reading (omega arith) (omega (arith, small)) small in
    let all = length-append (decimal r) (44 ∷ decimal reading) in
    omega (arith, first, second, all)
noted_short (Kept r set) is =
    let few = is.0 in
    let first = length-decimal-le 10 r (omega arith) (omega (arith, few)) (omega (arith, few)) in
    let second = set_short set is.1 in
    let all = length-append (decimal r) (44 ∷ numbers_text set) in
    omega (arith, first, second, all)

pub noted_line_is : (line : Noted) → HasNoted line → IsLine noted_of noted_text line
noted_line_is line has = record { text = clean_text_is (noted_text line) (noted_clean line has); short = noted_short line has; read = noted_again line has }

-- ---- lines behind lines

pub lines_join : {L : Type 0} (reads : List ℕ → Option L) (write : L → List ℕ) (can : List L → L → Bool) (before lines : List L) (line : L) → AreLines reads write can before lines → IsLine reads write line
    → can (before ++ lines) line ≡ true → AreLines reads write can before (lines ++ line ∷ [])
lines_join reads write can before [] line are is may = (is, ap (λ j. can j line) (sym (append-nil before)) ∙ may, tt)
lines_join reads write can before (first ∷ lines) line are is may =
    (are.0, are.1, lines_join reads write can (before ++ first ∷ []) lines line are.2 is (ap (λ j. can j line) (append_assoc before (first ∷ []) lines) ∙ may))

-- the first lines are such lines, and can be read
pub lines_first : {L : Type 0} (reads : List ℕ → Option L) (write : L → List ℕ) (can : List L → L → Bool) (before lines more : List L) → AreLines reads write can before (lines ++ more) → AreLines reads write can before lines
lines_first reads write can before [] more are = tt
lines_first reads write can before (first ∷ lines) more are = (are.0, are.1, lines_first reads write can (before ++ first ∷ []) lines more are.2)

-- ---- cuts

texts_of : {L : Type 0} (reads : List ℕ → Option L) (write : L → List ℕ) (can : List L → L → Bool) (before lines : List L) → AreLines reads write can before lines → are_texts write lines ≡ true
texts_of reads write can before [] are = refl
texts_of reads write can before (line ∷ lines) are =
    and_from (is_text (write line)) (are_texts write lines) (are.0).text (texts_of reads write can (before ++ line ∷ []) lines are.2)

text_long : (text : List ℕ) → is_text text ≡ true → position_or_len (λ c. c == 10) text ≡ length text
text_long [] is = refl
text_long (c ∷ text) is =
    let both = and_parts (not (c == 10)) (is_text text) is in
    let later = text_long text both.1 in
    ap (λ b. cond b (1 + position_or_len (λ d. d == 10) text) 0) both.0 ∙ omega (arith, later)

text_over : (text : List ℕ) → is_text text ≡ true → newline_in text ≡ None
text_over text is =
    let long = text_long text is in
    ap (λ b. cond b (Some (position_or_len (λ c. c == 10) text)) None) (le-ltb (position_or_len (λ c. c == 10) text) (length text) (omega (arith, long)))

-- a cut of lines is such lines, and a rest
pub record CutFits {L : Type 0} (reads : List ℕ → Option L) (write : L → List ℕ) (can : List L → L → Bool) (lines : List L) (n : ℕ) : Type 0 where
  pub rest : List ℕ
  pub bytes : take n (bytes_by write lines) ≡ bytes_by write (whole_in write lines n) ++ rest
  pub are : AreLines reads write can [] (whole_in write lines n)
  pub over : newline_in rest ≡ None
  pub fewer : length (whole_in write lines n) ≤ length lines

pub cut_fits : {L : Type 0} (reads : List ℕ → Option L) (write : L → List ℕ) (can : List L → L → Bool) (lines : List L) (n : ℕ) → AreLines reads write can [] lines → CutFits reads write can lines n
cut_fits reads write can lines n are =
    let cut = cut_lines write lines n (texts_of reads write can [] lines are) in
    let count = newlines (take n (bytes_by write lines)) in
    let few = length-take count lines in
    record {
      rest = cut.rest;
      bytes = cut.bytes;
      are = lines_first reads write can [] (take count lines) (drop count lines) (subst (λ j. AreLines reads write can [] j) (sym (take-append-drop count lines)) are);
      over = text_over cut.rest cut.no_more;
      fewer = omega (arith, few);
    }
