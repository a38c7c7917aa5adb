-- Sums of words modulo 2^64.
use Rattle.std.proofs.Common.{◌≡◌, ℕ, suc, ◌+◌, ◌*◌, ◌^◌, ◌<◌, ◌≤◌, Bool, not, List, [], ◌∷◌, length, refl, sym, ap, ◌∙◌, arith}
use Rattle.std.proofs.Math.Nat.{mod-add-mod, add-mod-mod, mod-mod}
use Rattle.std.specs.List.{sum_by, filter, All}
use mathlib.Core.Path.{fun_ext}
use Rattle.std.proofs.lemmas.Bool.Decides.{nat_tests}
use Rattle.std.proofs.lemmas.List.Sums.{sum_by-cons}
use Rattle.std.proofs.lemmas.List.Filters.{sum_by-filter_both}
use Rattle.missing_round.specs.Words.{word, minus, share, reading_word, answer_word, frame_total}
use Rattle.missing_round.specs.Cancellation.{Cancels, CancelsExactly}
use Rattle.missing_round.proofs.SetLemmas.{less-filter}

-- a word inside a sum
pub word-word_add : (a b : ℕ) → word (word a + b) ≡ word (a + b)
word-word_add a b = mod-add-mod a (2 ^ 64) b

pub word-add_word : (a b : ℕ) → word (a + word b) ≡ word (a + b)
word-add_word a b = add-mod-mod a b (2 ^ 64)

pub word-add_same : (a b c : ℕ) → word b ≡ word c → word (a + b) ≡ word (a + c)
word-add_same a b c e = sym (word-add_word a b) ∙ ap (λ z. word (a + z)) e ∙ word-add_word a c

pub word-same_add : (a b c : ℕ) → word b ≡ word c → word (b + a) ≡ word (c + a)
word-same_add a b c e = sym (word-word_add b a) ∙ ap (λ z. word (z + a)) e ∙ word-word_add c a

-- two sums of the same words
pub word-add_both : (a b c d : ℕ) → word a ≡ word b → word c ≡ word d → word (a + c) ≡ word (b + d)
word-add_both a b c d e f = word-same_add c a b e ∙ word-add_same b c d f

-- a sum of sums
pub sum_by-add : {X : Type 0} (f g : X → ℕ) (xs : List X) → sum_by (λ x. f x + g x) xs ≡ sum_by f xs + sum_by g xs
sum_by-add f g [] = refl
sum_by-add f g (x ∷ xs) = omega (arith, sum_by-cons (λ y. f y + g y) x xs, sum_by-cons f x xs, sum_by-cons g x xs, sum_by-add f g xs)

-- terms that are the same words
pub word-sum_by : {X : Type 0} (f g : X → ℕ) (xs : List X) → ((x : X) → word (f x) ≡ word (g x)) → word (sum_by f xs) ≡ word (sum_by g xs)
word-sum_by f g [] same = refl
word-sum_by f g (x ∷ xs) same =
    ap word (sum_by-cons f x xs) ∙ word-add_both (f x) (g x) (sum_by f xs) (sum_by g xs) (same x) (word-sum_by f g xs same) ∙ sym (ap word (sum_by-cons g x xs))

-- a number and its negative
pub word-minus : (a : ℕ) → word (a + minus a) ≡ 0
word-minus a = omega arith

-- what a pair word adds to the one meter, it takes from the other
pub word-share : (pair : ℕ → ℕ → ℕ) (i j : ℕ) → word (share pair i j + share pair j i) ≡ 0
word-share pair i j = grind (arith, nat_tests)

-- ---- cancellation

-- the shares of one meter with each of a list, and of each of the list with it
word-shares : (pair : ℕ → ℕ → ℕ) (i : ℕ) (js : List ℕ) → word (sum_by (share pair i) js + sum_by (λ j. share pair j i) js) ≡ 0
word-shares pair i js =
    ap word (sym (sum_by-add (share pair i) (λ j. share pair j i) js))
    ∙ word-sum_by (λ j. share pair i j + share pair j i) (λ _. 0) js (word-share pair i)
    ∙ ap word (sum_by-zero js)
  where
    sum_by-zero : (xs : List ℕ) → sum_by (λ _. 0) xs ≡ 0
    sum_by-zero [] = refl
    sum_by-zero (x ∷ xs) = omega (arith, sum_by-cons (λ (_ : ℕ). 0) x xs, sum_by-zero xs)

-- all the shares within a list
pub word-within : (pair : ℕ → ℕ → ℕ) (is : List ℕ) → word (sum_by (λ i. sum_by (share pair i) is) is) ≡ 0
word-within pair [] = refl
word-within pair (a ∷ rest) =
    let split : sum_by (λ i. sum_by (share pair i) (a ∷ rest)) (a ∷ rest)
    ≡ (share pair a a + (sum_by (share pair a) rest + sum_by (λ i. share pair i a) rest)) + sum_by (λ i. sum_by (share pair i) rest) rest
    = omega (
      arith,
      sum_by-cons (λ i. sum_by (share pair i) (a ∷ rest)) a rest,
      sum_by-cons (share pair a) a rest,
      ap (λ f. sum_by f rest) (fun_ext (λ i. sum_by-cons (share pair i) a rest)),
      sum_by-add (λ i. share pair i a) (λ i. sum_by (share pair i) rest) rest,
    ) in
    ap word split
    ∙ word-add_both (share pair a a + (sum_by (share pair a) rest + sum_by (λ i. share pair i a) rest)) 0 (sum_by (λ i. sum_by (share pair i) rest) rest) 0
    (word-add_both (share pair a a) 0 (sum_by (share pair a) rest + sum_by (λ i. share pair i a) rest) 0 (grind (arith, nat_tests)) (word-shares pair a rest))
    (word-within pair rest)

-- the reading words of a list are, beside its readings, the answer words to the rest of the group
pub word-reading_words : (own : ℕ → ℕ) (pair : ℕ → ℕ → ℕ) (ms : List ℕ) (x : ℕ → ℕ) (taken : ℕ → Bool) →
    let a = filter taken ms in let m = filter (λ i. not (taken i)) ms in
    word (sum_by (λ i. reading_word own pair ms i (x i)) a) ≡ word (sum_by (λ i. answer_word own pair i m) a + sum_by x a)
word-reading_words own pair ms x taken =
    let a = filter taken ms in
    let m = filter (λ i. not (taken i)) ms in
    let answer : ℕ → ℕ = λ i. own i + sum_by (share pair i) m in
    let inner : ℕ → ℕ = λ i. sum_by (share pair i) a in
    word-sum_by (λ i. reading_word own pair ms i (x i)) (λ i. (answer i + inner i) + x i) a
    (λ i. mod-mod (x i + own i + sum_by (share pair i) ms) (2 ^ 64)
    ∙ ap word (omega (arith, sum_by-filter_both taken (λ i. not (taken i)) (λ _. refl) (share pair i) ms)))
    ∙ ap word (sum_by-add (λ i. answer i + inner i) x a ∙ ap (λ z. z + sum_by x a) (sum_by-add answer inner a))
    ∙ word-same_add (sum_by x a) (sum_by answer a + sum_by inner a) (sum_by (λ i. answer_word own pair i m) a)
    (word-add_both (sum_by answer a) (sum_by (λ i. answer_word own pair i m) a) (sum_by inner a) 0
    (word-sum_by answer (λ i. answer_word own pair i m) a (λ i. sym (mod-mod (answer i) (2 ^ 64))))
    (word-within pair a)
    ∙ ap word (omega arith))

-- what is left when a part is taken away
word-taken_away : (c s x : ℕ) → word c ≡ word (s + x) → word (c + minus s) ≡ word x
word-taken_away c s x e =
    word-same_add (minus s) c (s + x) e ∙ ap word (omega arith) ∙ word-add_both (s + minus s) 0 x x (word-minus s) refl ∙ ap word (omega arith)

pub frame_total-words : (own : ℕ → ℕ) (pair : ℕ → ℕ → ℕ) (ms : List ℕ) (x : ℕ → ℕ) (taken : ℕ → Bool) →
    let a = filter taken ms in let m = filter (λ i. not (taken i)) ms in
    frame_total (λ i. reading_word own pair ms i (x i)) (λ i. answer_word own pair i m) a ≡ word (sum_by x a)
frame_total-words own pair ms x taken =
    let a = filter taken ms in
    let m = filter (λ i. not (taken i)) ms in
    word-taken_away (sum_by (λ i. reading_word own pair ms i (x i)) a) (sum_by (λ i. answer_word own pair i m) a) (sum_by x a)
    (word-reading_words own pair ms x taken)

pub cancels : Cancels
cancels own pair members reading taken =
    ap (λ missing. frame_total (λ i. reading_word own pair members i (reading i)) (λ i. answer_word own pair i missing) (filter taken members)) (less-filter taken members)
    ∙ frame_total-words own pair members reading taken

-- a sum of numbers that have a bound
pub sum_by-bound : (f : ℕ → ℕ) (xs : List ℕ) → All (λ i. f i < 2 ^ 40) xs → sum_by f xs ≤ length xs * 2 ^ 40
sum_by-bound f [] h = omega arith
sum_by-bound f (x ∷ xs) h = omega (arith, sum_by-cons f x xs, h 0 0 (omega arith), sum_by-bound f xs (λ k d u. h (suc k) d (omega arith)))

pub cancels_exactly : CancelsExactly
cancels_exactly own pair members reading taken few small = omega (arith, cancels own pair members reading taken, sum_by-bound reading (filter taken members) small)
