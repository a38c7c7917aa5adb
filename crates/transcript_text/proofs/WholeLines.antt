-- Lines of a text, and the parts that they are cut into.
use Rattle.std.proofs.Common.{◌≡◌, ◌<◌, ◌≤◌, ◌+◌, ◌==◌, ℕ, Bool, true, false, cond, List, [], ◌∷◌, ◌++◌, length, length-append, All, refl, sym, ap, ◌∙◌, arith, append_assoc, subst}
use Rattle.std.specs.List.{join_with_byte, onto_first}
use Rattle.std.proofs.lemmas.List.Elements.{All-cons, All-nil}
use Rattle.std.proofs.lemmas.List.Splits.{length-slice_split}
use Rattle.std.proofs.lemmas.List.Sums.{count_by-le-length}
use Rattle.field_texts.specs.Parts.{parts}
use Rattle.field_texts.proofs.TextLaws.{AllClean, clean, parts_at, parts_clean}
use Rattle.transcript_text.specs.Spelling.{ended}
use Rattle.transcript_text.specs.Faults.{IsOneLine, lines_text}

-- ---- the parts of a text have no mark

first_clean : (mark c : ℕ) (texts : List (List ℕ)) → (c == mark) ≡ false → AllClean mark texts → AllClean mark (onto_first c texts)
first_clean mark c [] other h = ((let t : clean mark (c ∷ []) ≡ true = rw other refl in t), tt)
first_clean mark c (text ∷ texts) other h = ((let t : clean mark (c ∷ text) ≡ true = rw (other, h.0) refl in t), h.1)

pub parts_are_clean : (mark : ℕ) (text : List ℕ) → AllClean mark (parts mark text)
parts_are_clean mark [] = (refl, tt)
parts_are_clean mark (c ∷ cs) = by_test (c == mark) refl (parts_are_clean mark cs)
  where
    by_test : (b : Bool) → (c == mark) ≡ b → AllClean mark (parts mark cs) → AllClean mark (cond b ([] ∷ parts mark cs) (onto_first c (parts mark cs)))
    by_test true e h = (refl, h)
    by_test false e h = first_clean mark c (parts mark cs) e h

pub one_clean : (line : List ℕ) → IsOneLine line → clean 10 line ≡ true
one_clean line one = (subst (AllClean 10) one (parts_are_clean 10 line)).0

pub front_clean : (mark : ℕ) (xs ys : List (List ℕ)) → AllClean mark (xs ++ ys) → AllClean mark xs
front_clean mark [] ys h = tt
front_clean mark (x ∷ xs) ys h = (h.0, front_clean mark xs ys h.1)

pub back_clean : (mark : ℕ) (xs ys : List (List ℕ)) → AllClean mark (xs ++ ys) → AllClean mark ys
back_clean mark [] ys h = h
back_clean mark (x ∷ xs) ys h = back_clean mark xs ys h.1

pub are_lines : (xs : List (List ℕ)) → AllClean 10 xs → All IsOneLine xs
are_lines [] h = All-nil IsOneLine
are_lines (x ∷ xs) h = All-cons IsOneLine x xs (parts_clean 10 x h.0) (are_lines xs h.1)

-- ---- lines and their text

-- a text that begins with lines is cut into them and the parts of what follows
pub parts_lines : (xs : List (List ℕ)) (more : List ℕ) → AllClean 10 xs → parts 10 (lines_text xs ++ more) ≡ xs ++ parts 10 more
parts_lines [] more h = refl
parts_lines (x ∷ xs) more h =
    ap (parts 10) (append_assoc (ended x) (lines_text xs) more ∙ append_assoc x (10 ∷ []) (lines_text xs ++ more))
    ∙ parts_at 10 x (lines_text xs ++ more) h.0 ∙ ap (λ q. x ∷ q) (parts_lines xs more h.1)

joins : (x : List ℕ) (zs : List (List ℕ)) → 0 < length zs → join_with_byte 10 (x ∷ zs) ≡ x ++ 10 ∷ join_with_byte 10 zs
joins x [] some = absurd (omega arith)
joins x (z ∷ zs) some = refl

-- the joined parts are the text of the first lines and the other parts joined
pub joined_lines : (xs ys : List (List ℕ)) → 0 < length ys → join_with_byte 10 (xs ++ ys) ≡ lines_text xs ++ join_with_byte 10 ys
joined_lines [] ys some = refl
joined_lines (x ∷ xs) ys some =
    let long = length-append xs ys in
    joins x (xs ++ ys) (omega (arith, long, some)) ∙ ap (λ q. x ++ 10 ∷ q) (joined_lines xs ys some)
    ∙ sym (append_assoc (ended x) (lines_text xs) (join_with_byte 10 ys) ∙ append_assoc x (10 ∷ []) (lines_text xs ++ join_with_byte 10 ys))

-- a text has one part more than bytes at most
pub few_parts : (bytes : List ℕ) → length (parts 10 bytes) ≤ length bytes + 1
few_parts bytes =
    let cut = length-slice_split (λ b. b == 10) bytes in
    let few = count_by-le-length (λ b. b == 10) bytes in
    omega (arith, cut, few)
