-- Numbers that a line tells.
use Rattle.std.proofs.Common.{◌≡◌, ◌^◌, ◌-◌, ◌&&◌, nat_lt, ℕ, min, Bool, true, false, if◌then◌else◌, List, Option, Some, None, refl, ap, arith, ◌∙◌}
use Rattle.std.proofs.lemmas.Bool.Decides.{nat_tests}
use Rattle.std.specs.Str.Parse.{digits_value}
use Rattle.field_texts.specs.Numbers.{is_numeral, number_of}
use Rattle.apart_lines.specs.Heard.{told_number}

-- one that is kept stands as it is
pub told_small : (text : List ℕ) (n : ℕ) → number_of text ≡ Some n → told_number text ≡ Some n
unfolding number_of told_number
told_small text n is = by (is_numeral text) (nat_lt (digits_value 10 text) (2 ^ 64)) (digits_value 10 text) refl is
  where
    by : (numeral small : Bool) (value : ℕ) → nat_lt value (2 ^ 64) ≡ small → (if numeral && small then Some value else None) ≡ Some n
        → (if numeral then Some (min value (2 ^ 64 - 1)) else None) ≡ Some n
    by true true value lt found =
        let same : value ≡ n = cc in
        let least : min value (2 ^ 64 - 1) ≡ value = grind (arith, nat_tests, lt) in
        ap Some least ∙ ap Some same
    by true false value lt found = absurd cc
    by false small value lt found = absurd cc

-- one that is not, but is a numeral, stands as the greatest
pub told_large : (text : List ℕ) → number_of text ≡ None → is_numeral text ≡ true → told_number text ≡ Some (2 ^ 64 - 1)
unfolding number_of told_number
told_large text none numeral = by (is_numeral text) (nat_lt (digits_value 10 text) (2 ^ 64)) (digits_value 10 text) refl numeral none
  where
    by : (numeral small : Bool) (value : ℕ) → nat_lt value (2 ^ 64) ≡ small → numeral ≡ true → (if numeral && small then Some value else None) ≡ None
        → (if numeral then Some (min value (2 ^ 64 - 1)) else None) ≡ Some (2 ^ 64 - 1)
    by true true value lt is found = absurd cc
    by true false value lt is found =
        let greatest : min value (2 ^ 64 - 1) ≡ 2 ^ 64 - 1 = grind (arith, nat_tests, lt) in
        ap Some greatest
    by false small value lt is found = absurd cc

-- and no numeral is no number
pub told_none : (text : List ℕ) → is_numeral text ≡ false → told_number text ≡ None
unfolding told_number
told_none text is = rw is refl
