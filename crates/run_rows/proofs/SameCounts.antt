-- Lists in which each element stands equally often are equally long.
use Rattle.std.proofs.Common.{◌≡◌, ℕ, zero, suc, ◌+◌, ◌≤◌, Bool, true, false, cond, not, List, [], ◌∷◌, length, refl, sym, ap, ◌∙◌, arith}
use Rattle.std.specs.List.{sum_by, filter}
use Rattle.std.proofs.lemmas.Bool.{both_ways}
use Rattle.std.proofs.lemmas.List.Sums.{sum_by-cons}

module _ {Z : Type 0} (same : Z → Z → Bool) (is_same : (a b : Z) → same a b ≡ true → a ≡ b) (itself : (a : Z) → same a a ≡ true) where
  abbrev pub one : Z → Z → ℕ
  one z x = cond (same z x) 1 0

  abbrev pub times : Z → List Z → ℕ
  times z xs = sum_by (one z) xs

  abbrev others : Z → List Z → List Z
  others z xs = filter (λ x. not (same z x)) xs

  length_split : (z : Z) (xs : List Z) → length xs ≡ times z xs + length (others z xs)
  length_split z [] = refl
  length_split z (x ∷ xs) = step (same z x) (sum_by-cons (one z) x xs) (length_split z xs)
    where
      step : (c : Bool) → times z (x ∷ xs) ≡ cond c 1 0 + times z xs → length xs ≡ times z xs + length (others z xs)
          → length (x ∷ xs) ≡ times z (x ∷ xs) + length (cond (not c) (x ∷ others z xs) (others z xs))
      step true e later = omega (arith, e, later)
      step false e later = omega (arith, e, later)

  -- what is like z is no longer there, and all else is
  times_others : (z w : Z) (xs : List Z) → times w (others z xs) ≡ cond (same z w) 0 (times w xs)
  times_others z w [] = none (same z w)
    where
      none : (c : Bool) → 0 ≡ cond {A = ℕ} c 0 0
      none true = refl
      none false = refl
  times_others z w (x ∷ xs) = step (same z x) (same z w) (same w x) refl refl refl (times_others z w xs)
    where
      step : (a b c : Bool) → same z x ≡ a → same z w ≡ b → same w x ≡ c → times w (others z xs) ≡ cond (same z w) 0 (times w xs)
          → times w (cond (not a) (x ∷ others z xs) (others z xs)) ≡ cond (same z w) 0 (times w (x ∷ xs))
      step true true c ea eb ec later = later ∙ ap (λ q. cond q 0 (times w xs)) eb ∙ sym (ap (λ q. cond q 0 (times w (x ∷ xs))) eb)
      step true false true ea eb ec later =
          absurd (both_ways (same z w) eb (ap (same z) (is_same w x ec) ∙ ea))
      step true false false ea eb ec later =
          later ∙ ap (λ q. cond q 0 (times w xs)) eb
          ∙ sym (ap (λ q. cond q 0 (times w (x ∷ xs))) eb ∙ sum_by-cons (one w) x xs ∙ ap (λ q. cond q 1 0 + times w xs) ec ∙ omega arith)
      step false true true ea eb ec later =
          absurd (both_ways (same z x) ea (ap (same z) (sym (is_same w x ec)) ∙ eb))
      step false true false ea eb ec later =
          sum_by-cons (one w) x (others z xs) ∙ ap (λ q. cond q 1 0 + times w (others z xs)) ec
          ∙ omega (arith, later ∙ ap (λ q. cond q 0 (times w xs)) eb, ap (λ q. cond q 0 (times w (x ∷ xs))) eb)
      step false false c ea eb ec later =
          sum_by-cons (one w) x (others z xs) ∙ ap (λ q. one w x + q) (later ∙ ap (λ q. cond q 0 (times w xs)) eb)
          ∙ sym (ap (λ q. cond q 0 (times w (x ∷ xs))) eb ∙ sum_by-cons (one w) x xs)

  first_time : (x : Z) (xs : List Z) → times x (x ∷ xs) ≡ 1 + times x xs
  first_time x xs = sum_by-cons (one x) x xs ∙ ap (λ q. cond q 1 0 + times x xs) (itself x)

  same_length_up_to : (n : ℕ) (xs ys : List Z) → length xs ≤ n → ((z : Z) → times z xs ≡ times z ys) → length xs ≡ length ys
  same_length_up_to n [] [] few same_times = refl
  same_length_up_to n [] (y ∷ ys) few same_times = absurd (omega (arith, same_times y, first_time y ys))
  same_length_up_to zero (x ∷ xs) ys few same_times = absurd (omega arith)
  same_length_up_to (suc n) (x ∷ xs) ys few same_times =
      let later = same_length_up_to n (others x (x ∷ xs)) (others x ys)
      (omega (arith, few, length_split x (x ∷ xs), first_time x xs))
      (λ z. times_others x z (x ∷ xs) ∙ ap (λ q. cond (same x z) 0 q) (same_times z) ∙ sym (times_others x z ys)) in
      omega (arith, length_split x (x ∷ xs), length_split x ys, same_times x, later)

  pub same_length : (xs ys : List Z) → ((z : Z) → times z xs ≡ times z ys) → length xs ≡ length ys
  same_length xs ys same_times = same_length_up_to (length xs) xs ys (omega arith) same_times
