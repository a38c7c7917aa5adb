-- A number that is written is read, and what is read was written so.
use Rattle.std.proofs.Common.{◌≡◌, ◌<◌, ◌≤◌, ◌^◌, ◌==◌, ◌&&◌, not, nat_le, nat_lt, if◌then◌else◌, ℕ, zero, suc, Bool, true, false, List, [], ◌∷◌, length, Option, Some, None, refl, sym, ap, ◌∙◌, arith, decimal, rules}
use Rattle.std.specs.Char.{is_ascii_digit}
use Rattle.std.specs.List.{list_all}
use Rattle.std.specs.Str.Parse.{digits_value}
use Rattle.std.proofs.lemmas.Bool.Decides.{nat_tests}
use Rattle.std.proofs.lemmas.Str.Parse.{IsNumeralModel, numerals_by_value}
use Rattle.std.proofs.lemmas.Fmt.{digits_decimal, digits_value-decimal, decimal-digits_value, first_decimal, decimal_nonempty, decimal_digit}
use Rattle.field_texts.specs.Numbers.{is_numeral, number_of, within}

own : IsNumeralModel (λ ds. list_all is_ascii_digit ds ≡ true) (digits_value 10)
own = numerals_by_value _ (search rules)

two_digits : (n c d : ℕ) (cs : List ℕ) → n < 2 ^ 64 → decimal n ≡ c ∷ d ∷ cs → (c == 48) ≡ false
two_digits zero c d cs fits e = absurd (let l = ap length e in let z = ap length (decimal_digit 0 (omega arith)) in omega (arith, l, z))
two_digits (suc n) c d cs fits e = let f = rw e at (first_decimal (suc n) (omega arith) fits) in grind (arith, nat_tests, f)

both : (a b : Bool) → (a && b) ≡ true → (a ≡ true) × (b ≡ true)
both true b h = (refl, h)
both false b h = absurd cc

numeral-decimal : (n : ℕ) → n < 2 ^ 64 → is_numeral (decimal n) ≡ true
numeral-decimal n fits = by_digits (decimal n) refl
  where
    by_digits : (ds : List ℕ) → decimal n ≡ ds → is_numeral ds ≡ true
    by_digits [] e = let some = decimal_nonempty n fits in let l = ap length e in absurd (omega (arith, some, l))
    by_digits (c ∷ []) e = (both (is_ascii_digit c) true (rw e at (digits_decimal own n fits))).0
    by_digits (c ∷ d ∷ cs) e =
        let first : (c == 48) ≡ false = two_digits n c d cs fits e in
        let digits = rw e at (digits_decimal own n fits) in
        rw (first, digits) refl

-- a decimal text is read
pub number_again : (n : ℕ) → n < 2 ^ 64 → number_of (decimal n) ≡ Some n
unfolding number_of
number_again n fits =
    let numeral = numeral-decimal n fits in
    let value : digits_value 10 (decimal n) ≡ n = digits_value-decimal own n fits in
    let small : nat_lt n (2 ^ 64) ≡ true = grind (arith, nat_tests) in
    rw (numeral, value, small) refl

written : (text : List ℕ) → is_numeral text ≡ true → digits_value 10 text < 2 ^ 64 → text ≡ decimal (digits_value 10 text)
written [] is fits = absurd cc
written (c ∷ []) is fits = sym (decimal-digits_value own (c ∷ []) (rw is refl) (omega arith) (λ z. refl) fits)
written (c ∷ d ∷ cs) is fits =
    let b = both (not (c == 48)) (list_all is_ascii_digit (c ∷ d ∷ cs)) is in
    sym (decimal-digits_value own (c ∷ d ∷ cs) b.1 (omega arith) (λ z. absurd (grind (arith, nat_tests, b.0, z))) fits)

-- what is read is a decimal text
pub number_back : (text : List ℕ) (n : ℕ) → number_of text ≡ Some n → (text ≡ decimal n) × (n < 2 ^ 64)
unfolding number_of
number_back text n is = by_tests (is_numeral text) refl (nat_lt v (2 ^ 64)) refl is
  where
    v : ℕ
    v = digits_value 10 text

    by_tests : (a : Bool) → is_numeral text ≡ a → (b : Bool) → nat_lt v (2 ^ 64) ≡ b → (if a && b then Some v else None) ≡ Some n → (text ≡ decimal n) × (n < 2 ^ 64)
    by_tests true numeral true small is =
        let same : v ≡ n = cc in
        let fits : v < 2 ^ 64 = grind (arith, nat_tests, small) in
        (written text numeral fits ∙ ap decimal same, omega (arith, same, fits))
    by_tests true numeral false small is = absurd cc
    by_tests false numeral b small is = absurd cc

pub within_again : (low high n : ℕ) → low ≤ n → n < high → high ≤ 2 ^ 64 → within low high (number_of (decimal n)) ≡ Some n
within_again low high n a b c =
    let t : (nat_le low n && nat_lt n high) ≡ true = grind (arith, nat_tests) in
    let a : number_of (decimal n) ≡ Some n = number_again n (omega arith) in
    rw a (rw t refl)

pub within_back : (low high n : ℕ) (text : List ℕ) → within low high (number_of text) ≡ Some n → (text ≡ decimal n) × (low ≤ n) × (n < high)
within_back low high n text h = by_number (number_of text) refl h
  where
    by_number : (o : Option ℕ) → number_of text ≡ o → within low high o ≡ Some n → (text ≡ decimal n) × (low ≤ n) × (n < high)
    by_number None e h = absurd cc
    by_number (Some m) e h = by_test m e (nat_le low m && nat_lt m high) refl h
      where
        by_test : (m : ℕ) → number_of text ≡ Some m → (b : Bool) → (nat_le low m && nat_lt m high) ≡ b → (if b then Some m else None) ≡ Some n → (text ≡ decimal n) × (low ≤ n) × (n < high)
        by_test m e true t h = let s : m ≡ n = cc in ((number_back text m e).0 ∙ ap decimal s, grind (arith, nat_tests, t, s), grind (arith, nat_tests, t, s))
        by_test m e false t h = absurd cc
