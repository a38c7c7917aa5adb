-- What a cut leaves of lines.
use Rattle.std.proofs.Common.{◌≡◌, ℕ, zero, suc, ◌+◌, ◌-◌, ◌<◌, ◌≤◌, Bool, true, false, not, List, [], ◌∷◌, ◌++◌, length, take, refl, sym, ap, ◌∙◌, append_assoc, append-nil, arith, ⊎_elim, length-append}
use Rattle.std.proofs.lemmas.Bool.{and_from, and_parts, leb-false, leb-true}
use Rattle.std.proofs.lemmas.List.{take-append-le}
use Rattle.std.proofs.lemmas.List.Elements.{filter-append}
use Rattle.std.proofs.Math.Seq.{take-append-add}
use Rattle.std.specs.Prelude.{◌==◌, ◌⊎◌, nat_le, filter, cond}
use Rattle.std.proofs.Common.{inl, inr}
use Rattle.journal_cuts.specs.Cuts.{IsCut, are_texts, bytes_by, is_text, newlines, whole_in}
use Rattle.journal_cuts.specs.Statements.{CutsAreLines}

take_nil : {A : Type 0} (n : ℕ) → take {A = A} n [] ≡ []
take_nil zero = refl
take_nil (suc n) = refl

-- a beginning of a text is one
pub text_taken : (n : ℕ) (text : List ℕ) → is_text text ≡ true → is_text (take n text) ≡ true
text_taken zero text is = refl
text_taken (suc n) [] is = refl
text_taken (suc n) (c ∷ text) is =
    let both = and_parts (not (c == 10)) (is_text text) is in
    and_from (not (c == 10)) (is_text (take n text)) both.0 (text_taken n text both.1)

-- a text has no newline
pub text_newlines : (text : List ℕ) → is_text text ≡ true → newlines text ≡ 0
text_newlines [] is = refl
text_newlines (c ∷ text) is =
    let both = and_parts (not (c == 10)) (is_text text) is in
    by (c == 10) both.0 (text_newlines text both.1)
  where
    by : (b : Bool) → not b ≡ true → newlines text ≡ 0 → length (cond b (c ∷ filter (λ d. d == 10) text) (filter (λ d. d == 10) text)) ≡ 0
    by true other none = absurd cc
    by false other none = none

-- a line has one, at its end
pub line_newlines : (text more : List ℕ) → is_text text ≡ true → newlines ((text ++ 10 ∷ []) ++ more) ≡ suc (newlines more)
line_newlines text more is =
    let line : newlines (text ++ 10 ∷ []) ≡ newlines text + newlines (10 ∷ []) = ap length (filter-append (λ c. c == 10) text (10 ∷ [])) ∙ length-append (filter (λ c. c == 10) text) (10 ∷ []) in
    let all : newlines ((text ++ 10 ∷ []) ++ more) ≡ newlines (text ++ 10 ∷ []) + newlines more
    = ap length (filter-append (λ c. c == 10) (text ++ 10 ∷ []) more) ∙ length-append (filter (λ c. c == 10) (text ++ 10 ∷ [])) (filter (λ c. c == 10) more) in
    let none = text_newlines text is in
    omega (arith, line, all, none)

within_or_over : (n m : ℕ) → (n ≤ m) ⊎ (m < n)
within_or_over n m = by (nat_le n m) refl
  where
    by : (b : Bool) → nat_le n m ≡ b → (n ≤ m) ⊎ (m < n)
    by true le = inl (leb-true n m le)
    by false gt = inr (let over = leb-false n m gt in omega (arith, over))

pub cut_lines : {L : Type 0} (write : L → List ℕ) (lines : List L) (n : ℕ) → are_texts write lines ≡ true → IsCut write lines n
cut_lines write [] n all = record {
  rest = [];
  bytes = take_nil n ∙ sym (append-nil (bytes_by write (whole_in write [] n)) ∙ ap (bytes_by write) (take_nil (newlines (take n []))));
  no_more = refl;
}
cut_lines write (line ∷ lines) n all =
    let both = and_parts (is_text (write line)) (are_texts write lines) all in
    ⊎_elim
    (λ le.
    let few : take n (bytes_by write (line ∷ lines)) ≡ take n (write line)
    = take-append-le n (write line ++ 10 ∷ []) (bytes_by write lines) (let l = length-append (write line) (10 ∷ []) in omega (arith, l, le)) ∙ take-append-le n (write line) (10 ∷ []) le in
    let none : newlines (take n (bytes_by write (line ∷ lines))) ≡ 0 = ap newlines few ∙ text_newlines (take n (write line)) (text_taken n (write line) both.0) in
    record {
      rest = take n (write line);
      bytes = few ∙ ap (λ k. bytes_by write (take k (line ∷ lines)) ++ take n (write line)) (sym none);
      no_more = text_taken n (write line) both.0;
    })
    (λ lt.
    let m = n - (length (write line) + 1) in
    let long = length-append (write line) (10 ∷ []) in
    let n_is : n ≡ length (write line ++ 10 ∷ []) + m = omega (arith, lt, long) in
    let rest = cut_lines write lines m both.1 in
    let more : take n (bytes_by write (line ∷ lines)) ≡ (write line ++ 10 ∷ []) ++ take m (bytes_by write lines)
    = ap (λ k. take k (bytes_by write (line ∷ lines))) n_is ∙ take-append-add (write line ++ 10 ∷ []) (bytes_by write lines) m in
    let one : newlines (take n (bytes_by write (line ∷ lines))) ≡ suc (newlines (take m (bytes_by write lines))) = ap newlines more ∙ line_newlines (write line) (take m (bytes_by write lines)) both.0 in
    record {
      rest = rest.rest;
      bytes = more ∙ ap (λ t. (write line ++ 10 ∷ []) ++ t) rest.bytes ∙ sym (append_assoc (write line ++ 10 ∷ []) (bytes_by write (whole_in write lines m)) rest.rest)
          ∙ ap (λ k. bytes_by write (take k (line ∷ lines)) ++ rest.rest) (sym one);
      no_more = rest.no_more;
    })
    (within_or_over n (length (write line)))

pub cuts_lines : CutsAreLines
cuts_lines texts n all = cut_lines (λ text. text) texts n all
