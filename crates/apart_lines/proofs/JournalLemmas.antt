-- The lines of journals are read again, and what is read is written so.
use Rattle.std.proofs.Common.{◌≡◌, ◌∙◌, ◌<◌, ◌≤◌, ◌^◌, ℕ, Bool, true, false, List, [], ◌∷◌, refl, sym, ap, subst, arith, decimal}
use Rattle.std.specs.Prelude.{codes, Option, Some, None, if◌then◌else◌, IfSome}
use Rattle.std.specs.Option.{option_map}
use Rattle.std.specs.Str.{bytes_eq}
use Rattle.missing_round.specs.Sets.{IsSet}
use Rattle.meter_frames.specs.declared.Frame.{Frame}
use Rattle.meter_frames.specs.Frames.{spelling}
use Rattle.field_texts.specs.Numbers.{number_of, within}
use Rattle.field_texts.specs.Sets.{numbers_text, set_of}
use Rattle.field_texts.specs.Parts.{parts}
use Rattle.field_texts.proofs.Choices.{is_word}
use Rattle.field_texts.proofs.NumberLaws.{number_again, number_back, within_again, within_back}
use Rattle.field_texts.proofs.SetLaws.{set_again, set_back, set_rising, rising_set, clean_text}
use Rattle.field_texts.proofs.TextLaws.{clean_decimal, parts_joined, joined_parts}
use Rattle.head_end.specs.declared.answers.Logged.{Logged}
use Rattle.head_end.specs.declared.answers.Logged.TheVariants.{Took, Passed}
use Rattle.meter_apart.specs.declared.answers.Noted.{Noted}
use Rattle.meter_apart.specs.declared.answers.Noted.TheVariants.{Read, Kept}
use Rattle.apart_lines.specs.Frames.{digits_of, frame_written}
use Rattle.apart_lines.specs.Journals.{logged_fields, logged_text, HasLogged, logged_by, logged_of, IsLoggedOf, noted_fields, noted_text, HasNoted, in_round, noted_by, noted_of, IsNotedOf}
use Rattle.apart_lines.proofs.FrameLemmas.{written_again, written_back, clean_digits}

-- ---- the head end

logged_cut : (logged : Logged) → parts 44 (logged_text logged) ≡ logged_fields logged
unfolding logged_text
logged_cut (Took f) = parts_joined 44 (codes "f") (digits_of f ∷ []) (refl, (clean_digits 44 (spelling f) refl refl, tt))
logged_cut Passed = refl

logged_read_again : (logged : Logged) → HasLogged logged → logged_by (logged_fields logged) ≡ Some logged
logged_read_again (Took f) is = ap (option_map Took) (written_again f is)
logged_read_again Passed is = refl

pub logged_again : (logged : Logged) → HasLogged logged → logged_of (logged_text logged) ≡ Some logged
unfolding logged_of
logged_again logged is = ap logged_by (logged_cut logged) ∙ logged_read_again logged is

logged_back : (fields : List (List ℕ)) (logged : Logged) → logged_by fields ≡ Some logged → fields ≡ logged_fields logged
logged_back [] logged is = absurd cc
logged_back (word ∷ []) logged is = by (bytes_eq word (codes "t")) refl is
  where
    by : (b : Bool) → bytes_eq word (codes "t") ≡ b → (if b then Some Passed else None) ≡ Some logged → word ∷ [] ≡ logged_fields logged
    by true same found = let e : Passed ≡ logged = cc in ap (λ w. w ∷ []) (is_word word (codes "t") same) ∙ ap logged_fields e
    by false same found = absurd cc
logged_back (word ∷ digits ∷ []) logged is = by (bytes_eq word (codes "f")) refl is
  where
    by_frame : (frame : Option Frame) → frame_written digits ≡ frame → word ≡ codes "f" → option_map Took frame ≡ Some logged → word ∷ digits ∷ [] ≡ logged_fields logged
    by_frame None read same found = absurd cc
    by_frame (Some f) read same found =
        let e : Took f ≡ logged = cc in
        ap (λ w. w ∷ digits ∷ []) same ∙ ap (λ d. codes "f" ∷ d ∷ []) (written_back digits f read) ∙ ap logged_fields e

    by : (b : Bool) → bytes_eq word (codes "f") ≡ b → (if b then option_map Took (frame_written digits) else None) ≡ Some logged → word ∷ digits ∷ [] ≡ logged_fields logged
    by true same found = by_frame (frame_written digits) refl (is_word word (codes "f") same) found
    by false same found = absurd cc
logged_back (word ∷ second ∷ third ∷ rest) logged is = absurd cc

-- what a line says is what it is the text of
pub logged_read : (line : List ℕ) (read : Option Logged) → read ≡ logged_of line → IfSome read HasLogged → IsLoggedOf line read
unfolding logged_of logged_text
logged_read line (Some logged) is sound = (sound, joined_parts 44 line (logged_fields logged) (logged_back (parts 44 line) logged (sym is)))
logged_read line None is sound = λ logged has same.
    let found : None ≡ Some logged = is ∙ ap logged_of same ∙ logged_again logged has in
    absurd cc

-- ---- the meter

noted_cut : (noted : Noted) → HasNoted noted → parts 44 (noted_text noted) ≡ noted_fields noted
unfolding noted_text
noted_cut (Read r reading) is =
    parts_joined 44 (codes "r") (decimal r ∷ decimal reading ∷ []) (refl, (clean_decimal 44 r (omega arith) (let s = is.0 in omega (arith, s)), (clean_decimal 44 reading (omega arith) is.1, tt)))
noted_cut (Kept r set) is =
    parts_joined 44 (codes "s") (decimal r ∷ numbers_text set ∷ [])
    (refl, (clean_decimal 44 r (omega arith) (let s = is.0 in omega (arith, s)), (clean_text 44 256 set (omega arith) refl refl (omega arith) (is.1).small, tt)))

noted_read_again : (noted : Noted) → HasNoted noted → noted_by (noted_fields noted) ≡ Some noted
noted_read_again (Read r reading) is =
    ap (λ n. in_round Read n (number_of (decimal reading))) (within_again 0 (2 ^ 32) r (omega arith) is.0 (omega arith))
    ∙ ap (in_round Read (Some r)) (number_again reading is.1)
noted_read_again (Kept r set) is =
    ap (λ n. in_round Kept n (set_of 256 (numbers_text set))) (within_again 0 (2 ^ 32) r (omega arith) is.0 (omega arith))
    ∙ ap (in_round Kept (Some r)) (set_again 256 set (omega arith) (set_rising 256 set is.1 (is.1).small))

pub noted_again : (noted : Noted) → HasNoted noted → noted_of (noted_text noted) ≡ Some noted
unfolding noted_of
noted_again noted is = ap noted_by (noted_cut noted is) ∙ noted_read_again noted is

-- a round and what stands behind it
in_round_back : {A : Type 0} (note : ℕ → A → Noted) (round : Option ℕ) (found : Option A) (noted : Noted) → in_round note round found ≡ Some noted
    → (r : ℕ) × (x : A) × (round ≡ Some r) × (found ≡ Some x) × (note r x ≡ noted)
in_round_back note (Some r) (Some x) noted is = (r, x, refl, refl, cc)
in_round_back note (Some r) None noted is = absurd cc
in_round_back note None found noted is = absurd cc

read_back : (word round rest : List ℕ) (noted : Noted) → word ≡ codes "r" → in_round Read (within 0 (2 ^ 32) (number_of round)) (number_of rest) ≡ Some noted
    → HasNoted noted × (word ∷ round ∷ rest ∷ [] ≡ noted_fields noted)
read_back word round rest noted same found =
    let b = in_round_back Read (within 0 (2 ^ 32) (number_of round)) (number_of rest) noted found in
    by b.0 b.1 (within_back 0 (2 ^ 32) b.0 round b.2) (number_back rest b.1 b.3) noted b.4
  where
    by : (r x : ℕ) → (round ≡ decimal r) × (0 ≤ r) × (r < 2 ^ 32) → (rest ≡ decimal x) × (x < 2 ^ 64) → (noted : Noted) → Read r x ≡ noted → HasNoted noted × (word ∷ round ∷ rest ∷ [] ≡ noted_fields noted)
    by r x first second noted e = subst (λ (n : Noted). HasNoted n × (word ∷ round ∷ rest ∷ [] ≡ noted_fields n)) e (
      (first.2, second.1),
      ap (λ w. w ∷ round ∷ rest ∷ []) same ∙ ap (λ t. codes "r" ∷ t ∷ rest ∷ []) first.0 ∙ ap (λ t. codes "r" ∷ decimal r ∷ t ∷ []) second.0,
    )

kept_back : (word round rest : List ℕ) (noted : Noted) → word ≡ codes "s" → in_round Kept (within 0 (2 ^ 32) (number_of round)) (set_of 256 rest) ≡ Some noted
    → HasNoted noted × (word ∷ round ∷ rest ∷ [] ≡ noted_fields noted)
kept_back word round rest noted same found =
    let b = in_round_back Kept (within 0 (2 ^ 32) (number_of round)) (set_of 256 rest) noted found in
    let s = set_back 256 rest b.1 b.3 in
    by b.0 b.1 (within_back 0 (2 ^ 32) b.0 round b.2) s.0 (rising_set 256 b.1 (omega arith) s.1) noted b.4
  where
    by : (r : ℕ) (set : List ℕ) → (round ≡ decimal r) × (0 ≤ r) × (r < 2 ^ 32) → rest ≡ numbers_text set → IsSet set → (noted : Noted) → Kept r set ≡ noted → HasNoted noted × (word ∷ round ∷ rest ∷ [] ≡ noted_fields noted)
    by r set first second is noted e = subst (λ (n : Noted). HasNoted n × (word ∷ round ∷ rest ∷ [] ≡ noted_fields n)) e (
      (first.2, is),
      ap (λ w. w ∷ round ∷ rest ∷ []) same ∙ ap (λ t. codes "s" ∷ t ∷ rest ∷ []) first.0 ∙ ap (λ t. codes "s" ∷ decimal r ∷ t ∷ []) second,
    )

noted_back : (fields : List (List ℕ)) (noted : Noted) → noted_by fields ≡ Some noted → HasNoted noted × (fields ≡ noted_fields noted)
noted_back [] noted is = absurd cc
noted_back (word ∷ []) noted is = absurd cc
noted_back (word ∷ second ∷ []) noted is = absurd cc
noted_back (word ∷ round ∷ rest ∷ []) noted is = by (bytes_eq word (codes "r")) refl (bytes_eq word (codes "s")) refl is
  where
    by : (b : Bool) → bytes_eq word (codes "r") ≡ b → (d : Bool) → bytes_eq word (codes "s") ≡ d
        → (if b then in_round Read (within 0 (2 ^ 32) (number_of round)) (number_of rest) else if d then in_round Kept (within 0 (2 ^ 32) (number_of round)) (set_of 256 rest) else None) ≡ Some noted
        → HasNoted noted × (word ∷ round ∷ rest ∷ [] ≡ noted_fields noted)
    by true same d other found = read_back word round rest noted (is_word word (codes "r") same) found
    by false other true same found = kept_back word round rest noted (is_word word (codes "s") same) found
    by false other false others found = absurd cc
noted_back (word ∷ second ∷ third ∷ fourth ∷ rest) noted is = absurd cc

pub noted_read : (line : List ℕ) (read : Option Noted) → read ≡ noted_of line → IsNotedOf line read
unfolding noted_of noted_text
noted_read line (Some noted) is =
    let b = noted_back (parts 44 line) noted (sym is) in
    (b.0, joined_parts 44 line (noted_fields noted) b.1)
noted_read line None is = λ noted has same.
    let found : None ≡ Some noted = is ∙ ap noted_of same ∙ noted_again noted has in
    absurd cc
