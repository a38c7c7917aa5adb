-- The whole lines of a text, one after another.
use Rattle.std.proofs.Common.{◌≡◌, ℕ, ◌+◌, ◌-◌, ◌<◌, Bool, true, false, List, [], ◌∷◌, ◌++◌, length, length-append, take, refl, sym, ap, ◌∙◌, arith}
use Rattle.std.specs.Prelude.{◌||◌, bytes_eq, codes, if◌then◌else◌}
use Rattle.std.specs.List.{join_with_byte, list_any}
use Rattle.std.proofs.Math.Seq.{take-append_seam}
use Rattle.field_texts.specs.Parts.{parts}
use Rattle.field_texts.proofs.Cutting.{parts_some}
use Rattle.field_texts.proofs.TextLaws.{joined_parts}
use Rattle.transcript_text.specs.Faults.{lines_text}
use Rattle.transcript_text.proofs.WholeLines.{joined_lines}
use Rattle.cut_resume.specs.Cut.{after_begin, but_last, is_end, whole_lines}

-- the last part
abbrev pub last_part : List (List ℕ) → List ℕ
last_part [] = []
last_part (last ∷ []) = last
last_part (part ∷ next ∷ more) = last_part (next ∷ more)

-- how many lines stand after `begin`, where so many do so far
abbrev pub after_all : Bool → ℕ → List (List ℕ) → ℕ
after_all begun count lines = count + (if begun then length lines else after_begin lines)

but_last_more : (line : List ℕ) (ps : List (List ℕ)) → 0 < length ps → but_last (line ∷ ps) ≡ line ∷ but_last ps
but_last_more line [] some = absurd (omega arith)
but_last_more line (p ∷ ps) some = refl

last_part_more : (line : List ℕ) (ps : List (List ℕ)) → 0 < length ps → last_part (line ∷ ps) ≡ last_part ps
last_part_more line [] some = absurd (omega arith)
last_part_more line (p ∷ ps) some = refl

pub split_last : (ps : List (List ℕ)) → 0 < length ps → ps ≡ but_last ps ++ last_part ps ∷ []
split_last [] some = absurd (omega arith)
split_last (p ∷ []) some = refl
split_last (p ∷ q ∷ ps) some = ap (λ l. p ∷ l) (split_last (q ∷ ps) (omega arith))

-- a text is its whole lines and its last part
pub text_is : (text : List ℕ) → text ≡ lines_text (whole_lines text) ++ last_part (parts 10 text)
text_is text =
    joined_parts 10 text (parts 10 text) refl
    ∙ ap (join_with_byte 10) (split_last (parts 10 text) (parts_some 10 text))
    ∙ joined_lines (but_last (parts 10 text)) (last_part (parts 10 text) ∷ []) (omega arith)

module _ (rest line after : List ℕ) (cut : parts 10 rest ≡ line ∷ parts 10 after) where
  pub lines_more : whole_lines rest ≡ line ∷ whole_lines after
  lines_more = ap but_last cut ∙ but_last_more line (parts 10 after) (parts_some 10 after)

  pub last_more : last_part (parts 10 rest) ≡ last_part (parts 10 after)
  last_more = ap last_part cut ∙ last_part_more line (parts 10 after) (parts_some 10 after)

  pub ended_more : (ended now : Bool) → now ≡ (ended || is_end line) → (now || list_any is_end (whole_lines after)) ≡ (ended || list_any is_end (whole_lines rest))
  ended_more ended now is =
      ap (λ b. b || list_any is_end (whole_lines after)) is ∙ both ended (is_end line) (list_any is_end (whole_lines after)) ∙ ap (λ ls. ended || list_any is_end ls) (sym lines_more)
    where
      both : (a b c : Bool) → ((a || b) || c) ≡ (a || (b || c))
      both true b c = refl
      both false b c = refl

  pub after_more : (begun now : Bool) (count new : ℕ) → now ≡ (begun || bytes_eq line (codes "begin")) → new ≡ count + (if begun then 1 else 0)
      → after_all now new (whole_lines after) ≡ after_all begun count (whole_lines rest)
  after_more begun now count new is more =
      ap (λ b. after_all b new (whole_lines after)) is ∙ by_cases begun (bytes_eq line (codes "begin")) refl more ∙ ap (after_all begun count) (sym lines_more)
    where
      by_cases : (a b : Bool) → bytes_eq line (codes "begin") ≡ b → new ≡ count + (if a then 1 else 0) → after_all (a || b) new (whole_lines after) ≡ after_all a count (line ∷ whole_lines after)
      by_cases true b is new_is = omega arith
      by_cases false true is new_is = rw is (omega arith)
      by_cases false false is new_is = rw is (omega arith)

-- a text whose parts end so
module _ (text rest : List ℕ) (none : parts 10 rest ≡ rest ∷ []) where
  pub no_lines : whole_lines rest ≡ []
  no_lines = ap but_last none

  pub bytes_are : last_part (parts 10 rest) ≡ last_part (parts 10 text) → take (length text - length rest) text ≡ lines_text (whole_lines text)
  bytes_are same =
      let is : text ≡ lines_text (whole_lines text) ++ rest = text_is text ∙ ap (λ l. lines_text (whole_lines text) ++ l) (sym same ∙ ap last_part none) in
      let long : length text ≡ length (lines_text (whole_lines text)) + length rest = ap length is ∙ length-append (lines_text (whole_lines text)) rest in
      let count : length text - length rest ≡ length (lines_text (whole_lines text)) = omega arith in
      ap (λ n. take n text) count ∙ ap (take (length (lines_text (whole_lines text)))) is ∙ take-append_seam (lines_text (whole_lines text)) rest
