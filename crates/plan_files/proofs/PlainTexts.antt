-- The rows of both files are plain.
use Rattle.std.proofs.Common.{◌≡◌, ◌<◌, ◌+◌, ◌/◌, ◌%◌, ◌^◌, ◌==◌, ◌&&◌, nat_le, ℕ, zero, suc, Bool, true, false, List, [], ◌∷◌, length, get_or, refl, arith, decimal}
use Rattle.std.proofs.lemmas.Bool.{and_parts}
use Rattle.std.proofs.lemmas.Bool.Decides.{nat_tests}
use Rattle.std.proofs.lemmas.Fmt.{decimal_by_steps}
use Rattle.std.specs.List.{list_all}
use Rattle.hex.specs.Hex.{encode_lower, encode_with, lower_digits}
use Rattle.group_plan.specs.Names.{is_name, is_name_byte}
use Rattle.plan_files.specs.PlainRows.{is_plain, is_plain_byte, is_plain_row}
use Rattle.plan_files.proofs.DistinctLemmas.{all_append, both_true}

pub all_so : (p q : ℕ → Bool) → ((c : ℕ) → p c ≡ true → q c ≡ true) → (xs : List ℕ) → list_all p xs ≡ true → list_all q xs ≡ true
all_so p q so [] h = refl
all_so p q so (c ∷ cs) h = let b = and_parts (p c) (list_all p cs) h in both_true (q c) (list_all q cs) (so c b.0) (all_so p q so cs b.1)

-- ---- numbers

digit_plain : (d : ℕ) → d < 10 → is_plain ((48 + d) ∷ []) ≡ true
digit_plain d small = let t : is_plain_byte (48 + d) ≡ true = grind (arith, nat_tests) in rw t refl

pub plain_decimal : (n : ℕ) → n < 2 ^ 64 → is_plain (decimal n) ≡ true
plain_decimal n small = decimal_by_steps (λ m ds. is_plain ds ≡ true)
    (λ m few. digit_plain m few) (λ m ds big ih. all_append is_plain_byte ds ((48 + m % 10) ∷ []) ih (digit_plain (m % 10) (omega arith))) n small

-- ---- names

name_byte : (c : ℕ) → is_name_byte c ≡ true → is_plain_byte c ≡ true
name_byte c h = grind (arith, nat_tests, h)

pub plain_name : (name : List ℕ) → is_name name ≡ true → is_plain name ≡ true
plain_name name h =
    all_so is_name_byte is_plain_byte name_byte name (and_parts (nat_le 1 (length name) && nat_le (length name) 16) (list_all is_name_byte name) h).1

pub some_name : (name : List ℕ) → is_name name ≡ true → (length name == 0) ≡ false
some_name name h =
    let first = and_parts (nat_le 1 (length name)) (nat_le (length name) 16) (and_parts (nat_le 1 (length name) && nat_le (length name) 16) (list_all is_name_byte name) h).0 in
    grind (arith, nat_tests, first.0)

-- ---- keys

item_passes : (p : ℕ → Bool) (xs : List ℕ) (k d : ℕ) → list_all p xs ≡ true → p d ≡ true → p (get_or xs k d) ≡ true
item_passes p [] k d h other = other
item_passes p (x ∷ xs) zero d h other = (and_parts (p x) (list_all p xs) h).0
item_passes p (x ∷ xs) (suc k) d h other = item_passes p xs k d (and_parts (p x) (list_all p xs) h).1 other

hex_digit : (k : ℕ) → is_plain_byte (get_or lower_digits k 0) ≡ true
hex_digit k = item_passes is_plain_byte lower_digits k 0 refl refl

pub plain_hex : (bytes : List ℕ) → is_plain (encode_lower bytes) ≡ true
unfolding encode_with
plain_hex [] = refl
plain_hex (b ∷ bs) =
    both_true _ _ (hex_digit (b / 16)) (both_true _ _ (hex_digit (b % 16)) (plain_hex bs))

-- ---- rows

-- a row that begins with a word, and fields that are plain
pub plain_two : (word a : List ℕ) → (length word == 0) ≡ false → is_plain word ≡ true → is_plain a ≡ true → is_plain_row (word ∷ a ∷ []) ≡ true
plain_two word a some w h = rw (some, w, h) refl

pub plain_three : (word a b : List ℕ) → (length word == 0) ≡ false → is_plain word ≡ true → is_plain a ≡ true → is_plain b ≡ true → is_plain_row (word ∷ a ∷ b ∷ []) ≡ true
plain_three word a b some w h k = rw (some, w, h, k) refl

pub plain_four : (word a b c : List ℕ) → (length word == 0) ≡ false → is_plain word ≡ true → is_plain a ≡ true → is_plain b ≡ true → is_plain c ≡ true → is_plain_row (word ∷ a ∷ b ∷ c ∷ []) ≡ true
plain_four word a b c some w h k l = rw (some, w, h, k, l) refl

pub plain_five : (word a b c d : List ℕ) → (length word == 0) ≡ false → is_plain word ≡ true → is_plain a ≡ true → is_plain b ≡ true → is_plain c ≡ true → is_plain d ≡ true
    → is_plain_row (word ∷ a ∷ b ∷ c ∷ d ∷ []) ≡ true
plain_five word a b c d some w h k l m = rw (some, w, h, k, l, m) refl
