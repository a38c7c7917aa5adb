-- Sets, read and written.
use Rattle.std.proofs.Common.{◌≡◌, ◌∙◌, ◌<◌, ◌≤◌, ◌+◌, ◌^◌, ◌==◌, ℕ, zero, suc, Bool, true, false, if◌then◌else◌, List, [], ◌∷◌, length, map, All, get_or, refl, sym, ap, arith, decimal, Option, Some, None, inl, inr, subst}
use Rattle.std.specs.Prelude.{codes}
use Rattle.std.specs.Str.{bytes_eq}
use Rattle.std.specs.List.Sorted.{IsStrictlyIncreasing}
use Rattle.std.proofs.lemmas.List.Elements.{All-cons, All-nil, All-head, All-tail}
use Rattle.missing_round.specs.Sets.{IsSet}
use Rattle.field_texts.specs.Numbers.{number_of}
use Rattle.field_texts.specs.Parts.{parts}
use Rattle.field_texts.specs.Sets.{ahead, ascending, numbers_text, set_of, with_first}
use Rattle.field_texts.proofs.NumberLaws.{within_again, within_back}
use Rattle.field_texts.proofs.Cutting.{parts_some}
use Rattle.field_texts.proofs.TextLaws.{AllClean, clean, clean_decimal, clean_joined, joined_parts, parts_joined}
use Rattle.field_texts.proofs.Choices.{is_word, pick}

-- numbers that ascend, from low on and below high
abbrev pub Rising : ℕ → ℕ → List ℕ → Type 0
Rising low high [] = Unit {0}
Rising low high (x ∷ xs) = (low ≤ x) × (x < high) × Rising (x + 1) high xs

increasing : (low high : ℕ) (xs : List ℕ) → Rising low high xs → IsStrictlyIncreasing xs
increasing low high [] r = λ k lt. absurd (omega arith)
increasing low high (x ∷ []) r = λ k lt. absurd (omega arith)
increasing low high (x ∷ y ∷ ys) r = by_place (increasing (x + 1) high (y ∷ ys) r.2)
  where
    by_place : IsStrictlyIncreasing (y ∷ ys) → (k : ℕ) → k + 1 < length (x ∷ y ∷ ys) → get_or (x ∷ y ∷ ys) k 0 < get_or (x ∷ y ∷ ys) (k + 1) 0
    by_place rest zero lt = omega (arith, r.2.0)
    by_place rest (suc k) lt =
        let e : suc k + 1 ≡ suc (k + 1) = omega arith in
        subst (λ n. get_or (y ∷ ys) k 0 < get_or (x ∷ y ∷ ys) n 0) (sym e) (rest k (omega arith))

pub rising_within : (low high : ℕ) (xs : List ℕ) → Rising low high xs → All (λ i. i < high) xs
rising_within low high [] r = All-nil (λ i. i < high)
rising_within low high (x ∷ xs) r = All-cons (λ i. i < high) x xs r.1 (rising_within (x + 1) high xs r.2)

widen : (low high top : ℕ) (xs : List ℕ) → high ≤ top → Rising low high xs → Rising low top xs
widen low high top [] h r = tt
widen low high top (x ∷ xs) h r = (r.0, omega (arith, r.1), widen (x + 1) high top xs h r.2)

pub rising_set : (high : ℕ) (xs : List ℕ) → high ≤ 256 → Rising 0 high xs → IsSet xs
rising_set high xs h r = record { ascending = increasing 0 high xs r; small = rising_within 0 256 xs (widen 0 high 256 xs h r) }

rising_from : (low high : ℕ) (xs : List ℕ) → IsStrictlyIncreasing xs → All (λ i. i < high) xs → (0 < length xs → low ≤ get_or xs 0 0) → Rising low high xs
rising_from low high [] i a l = tt
rising_from low high (x ∷ xs) i a l = (
  l (omega arith),
  All-head (λ i. i < high) x xs a,
  rising_from (x + 1) high xs
      (λ k lt. let e : suc k + 1 ≡ suc (k + 1) = omega arith in subst (λ n. get_or xs k 0 < get_or (x ∷ xs) n 0) e (i (suc k) (omega arith)))
      (All-tail (λ i. i < high) x xs a)
      (λ some. let first : x < get_or xs 0 0 = i 0 (omega arith) in omega (arith, first)),
)

-- and a set rises
pub set_rising : (high : ℕ) (xs : List ℕ) → IsSet xs → All (λ i. i < high) xs → Rising 0 high xs
set_rising high xs s w = rising_from 0 high xs s.ascending w (λ some. omega arith)

pub first_back : (o : Option ℕ) (rest : ℕ → Option (List ℕ)) (xs : List ℕ) → with_first o rest ≡ Some xs → (x : ℕ) × (ys : List ℕ) × (o ≡ Some x) × (rest x ≡ Some ys) × (xs ≡ x ∷ ys)
first_back None rest xs h = absurd cc
first_back (Some x) rest xs h = by_rest (rest x) refl h
  where
    by_rest : (r : Option (List ℕ)) → rest x ≡ r → ahead (x ∷ []) r ≡ Some xs → (y : ℕ) × (ys : List ℕ) × (Some x ≡ Some y) × (rest y ≡ Some ys) × (xs ≡ y ∷ ys)
    by_rest None e h = absurd cc
    by_rest (Some ys) e h = (x, ys, refl, e, cc)

ascending_back : (low high : ℕ) (ps : List (List ℕ)) (xs : List ℕ) → ascending low high ps ≡ Some xs → (ps ≡ map decimal xs) × Rising low high xs
unfolding ascending
ascending_back low high [] xs h = let e : xs ≡ [] = cc in rw e (refl, tt)
ascending_back low high (p ∷ ps) xs h =
    let f = first_back _ _ xs h in
    let w = within_back low high f.0 p f.2 in
    let r = ascending_back (f.0 + 1) high ps f.1 f.3 in
    rw f.4 (ap (λ q. q ∷ ps) w.0 ∙ ap (λ q. decimal f.0 ∷ q) r.0, (w.1, w.2, r.1))

pub some_numbers : (text xs : List ℕ) → parts 43 text ≡ map decimal xs → text ≡ numbers_text xs
some_numbers text [] e = let n = parts_some 43 text in let l = ap length e in absurd (omega (arith, n, l))
some_numbers text (x ∷ xs) e = joined_parts 43 text (map decimal (x ∷ xs)) e

pub set_back : (high : ℕ) (text xs : List ℕ) → set_of high text ≡ Some xs → (text ≡ numbers_text xs) × Rising 0 high xs
unfolding set_of
set_back high text xs h = elim (pick (bytes_eq text (codes "-")) (Some []) (ascending 0 high (parts 43 text)) (Some xs) h) [
  | inl w ↦ let e : [] ≡ xs = cc in (is_word text (codes "-") w.0 ∙ ap numbers_text e, subst (λ (q : List ℕ). Rising 0 high q) e tt)
  | inr w ↦ let a = ascending_back 0 high (parts 43 text) xs w.1 in (some_numbers text xs a.0, a.1)
]

ascending_again : (low high : ℕ) (xs : List ℕ) → high ≤ 2 ^ 64 → Rising low high xs → ascending low high (map decimal xs) ≡ Some xs
unfolding ascending
ascending_again low high [] b r = refl
ascending_again low high (x ∷ xs) b r =
    let w = within_again low high x r.0 r.1 b in
    let ih = ascending_again (x + 1) high xs b r.2 in
    rw (w, ih) refl

-- the numbers have no byte that stands between numbers or fields or lines
pub clean_numbers : (stop high : ℕ) (xs : List ℕ) → stop < 48 → high ≤ 2 ^ 64 → All (λ i. i < high) xs → AllClean stop (map decimal xs)
clean_numbers stop high [] s b a = tt
clean_numbers stop high (x ∷ xs) s b a =
    let small = All-head (λ i. i < high) x xs a in
    (clean_decimal stop x s (omega (arith, small, b)), clean_numbers stop high xs s b (All-tail (λ i. i < high) x xs a))

dash_no_member : (high : ℕ) → ascending 0 high (parts 43 (codes "-")) ≡ None
unfolding ascending number_of
dash_no_member high = refl

-- numbers are not `-`, where that is no number
pub not_dash : (read : List (List ℕ) → Option (List ℕ)) (text xs : List ℕ) → read (parts 43 (codes "-")) ≡ None → read (parts 43 text) ≡ Some xs → (if bytes_eq text (codes "-") then Some [] else read (parts 43 text)) ≡ Some xs
not_dash read text xs none again = by_test (bytes_eq text (codes "-")) refl
  where
    by_test : (t : Bool) → bytes_eq text (codes "-") ≡ t → (if t then Some [] else read (parts 43 text)) ≡ Some xs
    by_test false e = again
    by_test true e =
        let no : None ≡ Some xs = sym none ∙ ap (λ q. read (parts 43 q)) (sym (is_word text (codes "-") e)) ∙ again in
        absurd cc

pub set_again : (high : ℕ) (xs : List ℕ) → high ≤ 256 → Rising 0 high xs → set_of high (numbers_text xs) ≡ Some xs
unfolding set_of
set_again high [] b r = refl
set_again high (x ∷ xs) b r =
    not_dash (ascending 0 high) (numbers_text (x ∷ xs)) (x ∷ xs) (dash_no_member high)
    (ap (ascending 0 high) (parts_joined 43 (decimal x) (map decimal xs) (clean_numbers 43 high (x ∷ xs) (omega arith) (omega arith) (rising_within 0 high (x ∷ xs) r))) ∙ ascending_again 0 high (x ∷ xs) (omega arith) r)

-- the text of numbers has no comma and no newline
pub clean_text : (stop high : ℕ) (xs : List ℕ) → stop < 48 → (43 == stop) ≡ false → (45 == stop) ≡ false → high ≤ 2 ^ 64 → All (λ i. i < high) xs → clean stop (numbers_text xs) ≡ true
clean_text stop high [] s p d b a = rw d refl
clean_text stop high (x ∷ xs) s p d b a = clean_joined stop 43 (map decimal (x ∷ xs)) p (clean_numbers stop high (x ∷ xs) s b a)
