-- Numbers, digit by digit.
use Rattle.std.proofs.Common.{◌≡◌, ◌≢◌, ◌<◌, ◌≤◌, ◌+◌, ◌-◌, ◌*◌, ◌^◌, ◌&&◌, ◌==◌, nat_lt, ℕ, zero, suc, Bool, true, false, if◌then◌else◌, List, [], ◌∷◌, length, get_or, drop, Option, Some, None, refl, ap, arith, add-one}
use Rattle.std.proofs.lemmas.Bool.Decides.{nat_tests}
use Rattle.std.proofs.Math.Seq.{drop-nil}
use Rattle.std.specs.Char.{digit_value, is_ascii_digit}
use Rattle.std.specs.List.{list_all}
use Rattle.std.specs.Str.Parse.{digits_value_after}
use Rattle.field_texts.specs.Numbers.{number_of}

-- the number of digits that write n and of these behind them
unfoldable pub number_after : ℕ → List ℕ → Option ℕ
number_after n text =
    if list_all is_ascii_digit text && nat_lt (digits_value_after 10 n text) (2 ^ 64) then Some (digits_value_after 10 n text) else None

pub number_empty : (text : List ℕ) → length text ≡ 0 → number_of text ≡ None
unfolding number_of
number_empty [] h = refl
number_empty (c ∷ cs) h = absurd (omega arith)

pub number_zero : (text : List ℕ) → 1 < length text → get_or text 0 0 ≡ 48 → number_of text ≡ None
unfolding number_of
number_zero [] h z = refl
number_zero (c ∷ []) h z = absurd (omega arith)
number_zero (c ∷ d ∷ cs) h z = let t : (c == 48) ≡ true = grind (arith, nat_tests) in rw t refl

single : (c : ℕ) → number_of (c ∷ []) ≡ number_after 0 (c ∷ [])
unfolding number_of number_after
single c = by_digit (is_ascii_digit c) refl
  where
    by_digit : (b : Bool) → is_ascii_digit c ≡ b → number_of (c ∷ []) ≡ number_after 0 (c ∷ [])
    by_digit true e = rw e refl
    by_digit false e = rw e refl

pub number_start : (text : List ℕ) → 0 < length text → (1 < length text → get_or text 0 0 ≢ 48) → number_of text ≡ number_after 0 text
unfolding number_of number_after
number_start [] h z = absurd (omega arith)
number_start (c ∷ []) h z = single c
number_start (c ∷ d ∷ cs) h z = let n = z (omega arith) in let t : (c == 48) ≡ false = grind (arith, nat_tests) in rw t refl

digit_is : (c : ℕ) → is_ascii_digit c ≡ true → digit_value c ≡ c - 48
digit_is c h = grind (arith, nat_tests, h)

digits_step : (n c : ℕ) (cs : List ℕ) → is_ascii_digit c ≡ true → digits_value_after 10 n (c ∷ cs) ≡ digits_value_after 10 (n * 10 + (c - 48)) cs
digits_step n c cs digit = ap (λ (d : ℕ). digits_value_after 10 (n * 10 + d) cs) (digit_is c digit)

after_step : (n c : ℕ) (cs : List ℕ) → is_ascii_digit c ≡ true → number_after n (c ∷ cs) ≡ number_after (n * 10 + (c - 48)) cs
unfolding number_after
after_step n c cs digit = rw (digit, digits_step n c cs digit) refl

pub number_step : (n : ℕ) (text : List ℕ) (i : ℕ) → i < length text → is_ascii_digit (get_or text i 0) ≡ true
    → number_after n (drop i text) ≡ number_after (n * 10 + (get_or text i 0 - 48)) (drop (i + 1) text)
number_step n [] i h digit = absurd (omega arith)
number_step n (c ∷ cs) zero h digit = after_step n c cs digit
number_step n (c ∷ cs) (suc i) h digit = simp add-one (simp add-one at (number_step n cs i (omega arith) digit))

pub number_stop : (n : ℕ) (text : List ℕ) (i : ℕ) → i < length text → is_ascii_digit (get_or text i 0) ≡ false → number_after n (drop i text) ≡ None
unfolding number_after
number_stop n [] i h other = absurd (omega arith)
number_stop n (c ∷ cs) zero h other = rw other refl
number_stop n (c ∷ cs) (suc i) h other = number_stop n cs i (omega arith) other

-- more digits give no smaller number
digits_grow : (n : ℕ) (text : List ℕ) → n ≤ digits_value_after 10 n text
digits_grow n [] = omega arith
digits_grow n (c ∷ cs) = let more = digits_grow (n * 10 + digit_value c) cs in omega arith

pub number_large : (n : ℕ) (text : List ℕ) → 2 ^ 64 ≤ n → number_after n text ≡ None
unfolding number_after
number_large n text h =
    let more = digits_grow n text in
    let large : nat_lt (digits_value_after 10 n text) (2 ^ 64) ≡ false = grind (arith, nat_tests) in
    rw large (off (list_all is_ascii_digit text))
  where
    off : (b : Bool) → (if b && false then Some (digits_value_after 10 n text) else None) ≡ None
    off true = refl
    off false = refl

pub number_end : (n : ℕ) (text : List ℕ) (i : ℕ) → length text ≤ i → n < 2 ^ 64 → number_after n (drop i text) ≡ Some n
unfolding number_after
number_end n [] i h fits = rw (drop-nil i) (let t : nat_lt n (2 ^ 64) ≡ true = grind (arith, nat_tests) in rw t refl)
number_end n (c ∷ cs) zero h fits = absurd (omega arith)
number_end n (c ∷ cs) (suc i) h fits = number_end n cs i (omega arith) fits
