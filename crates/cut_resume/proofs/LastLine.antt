-- A text cut at its last newline.
use Rattle.std.proofs.Common.{◌≡◌, ◌≢◌, ℕ, zero, suc, ◌+◌, ◌-◌, ◌<◌, ◌==◌, Bool, true, false, cond, List, [], ◌∷◌, ◌++◌, length, length-append, length-take, length-drop, take, drop, get_or, refl, sym, ap, ◌∙◌, subst, arith, add-one}
use Rattle.std.specs.List.{list_any, onto_first}
use Rattle.std.proofs.lemmas.Bool.Decides.{nat_tests}
use Rattle.std.proofs.lemmas.List.{take_rest}
use Rattle.std.proofs.Math.Seq.{take-append_seam}
use Rattle.field_texts.specs.Parts.{parts}
use Rattle.field_texts.proofs.Cutting.{cut_none, parts_some}
use Rattle.transcript_text.specs.Faults.{lines_text}
use Rattle.cut_resume.specs.Cut.{but_last, is_end, whole_lines}
use Rattle.cut_resume.proofs.Ended.{any_push, but_last_push}
use Rattle.cut_resume.proofs.WholeLines.{last_part, text_is}

pub onto_append : (c : ℕ) (xs ys : List (List ℕ)) → 0 < length xs → onto_first c (xs ++ ys) ≡ onto_first c xs ++ ys
onto_append c [] ys some = absurd (omega (arith, some))
onto_append c (x ∷ xs) ys some = refl

pub cut_last_at : (stop : ℕ) (bytes : List ℕ) (i : ℕ) → i < length bytes → get_or bytes i 0 ≡ stop → ((k : ℕ) → i < k → k < length bytes → get_or bytes k 0 ≢ stop)
    → parts stop bytes ≡ parts stop (take i bytes) ++ drop (i + 1) bytes ∷ []
cut_last_at stop [] i lt e n = absurd (omega (arith, lt))
cut_last_at stop (c ∷ cs) zero lt e n =
    let t : (c == stop) ≡ true = grind (arith, nat_tests) in
    let r = cut_none stop cs (λ k k_lt. n (suc k) (omega arith) (omega (arith, k_lt))) in
    rw (t, r) refl
cut_last_at stop (c ∷ cs) (suc i) lt e n =
    let r = cut_last_at stop cs i (omega (arith, lt)) e (λ k low k_lt. n (suc k) (omega (arith, low)) (omega (arith, k_lt))) in
    let after : drop (suc i + 1) (c ∷ cs) ≡ drop (i + 1) cs = simp add-one refl in
    by_test (c == stop) refl r ∙ ap (λ last. parts stop (take (suc i) (c ∷ cs)) ++ last ∷ []) (sym after)
  where
    by_test : (b : Bool) → (c == stop) ≡ b → parts stop cs ≡ parts stop (take i cs) ++ drop (i + 1) cs ∷ []
        → parts stop (c ∷ cs) ≡ parts stop (take (suc i) (c ∷ cs)) ++ drop (i + 1) cs ∷ []
    by_test true t r = rw (t, r) refl
    by_test false t r = rw (t, r) (onto_append c (parts stop (take i cs)) (drop (i + 1) cs ∷ []) (parts_some stop (take i cs)))

pub cut_last_here : (stop : ℕ) (bytes : List ℕ) (i : ℕ) → i < length bytes → get_or bytes i 0 ≡ stop → ((k : ℕ) → i < k → k < length bytes → get_or bytes k 0 ≢ stop)
    → (parts stop bytes ≡ parts stop (take i bytes) ++ take (length bytes - (i + 1)) (drop (i + 1) bytes) ∷ [])
    × (length bytes ≡ length (take i bytes) + 1 + length (take (length bytes - (i + 1)) (drop (i + 1) bytes)))
cut_last_here stop bytes i lt e n =
    let t = take_rest bytes (i + 1) in
    let a = length-take i bytes in
    let b = length-drop (i + 1) bytes in
    rw t (cut_last_at stop bytes i lt e n, omega (arith, a, b))

pub last_push : (ps : List (List ℕ)) (rest : List ℕ) → last_part (ps ++ rest ∷ []) ≡ rest
last_push [] rest = refl
last_push (p ∷ []) rest = refl
last_push (p ∷ q ∷ ps) rest = last_push (q ∷ ps) rest

-- ---- the whole lines of a text

module _ (text lines rest : List ℕ) (cut : parts 10 text ≡ parts 10 lines ++ rest ∷ []) where
  pub lines_are : whole_lines text ≡ parts 10 lines
  lines_are = ap but_last cut ∙ but_last_push (parts 10 lines) rest

  pub rest_is : last_part (parts 10 text) ≡ rest
  rest_is = ap last_part cut ∙ last_push (parts 10 lines) rest

  pub bytes_before : length text ≡ length lines + 1 + length rest → take (length lines + 1) text ≡ lines_text (whole_lines text)
  bytes_before long =
      let is : text ≡ lines_text (whole_lines text) ++ rest = text_is text ∙ ap (λ l. lines_text (whole_lines text) ++ l) rest_is in
      let all : length text ≡ length (lines_text (whole_lines text)) + length rest = ap length is ∙ length-append (lines_text (whole_lines text)) rest in
      let count : length lines + 1 ≡ length (lines_text (whole_lines text)) = omega (arith, long, all) in
      ap (λ n. take n text) count ∙ ap (take (length (lines_text (whole_lines text)))) is ∙ take-append_seam (lines_text (whole_lines text)) rest

  pub last_ends : (before : List (List ℕ)) (line : List ℕ) → parts 10 lines ≡ before ++ line ∷ [] → is_end line ≡ true → list_any is_end (whole_lines text) ≡ true
  last_ends before line last ends = ap (list_any is_end) (lines_are ∙ last) ∙ any_push before line ends
