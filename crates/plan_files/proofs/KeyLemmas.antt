-- What follows from the digits of a key.
use Rattle.std.proofs.Common.{◌≡◌, ◌∙◌, ◌<◌, ◌≤◌, ◌+◌, ◌*◌, ◌%◌, ◌⊎◌, inl, inr, max, ℕ, List, Option, Some, None, Ok, Err, length, take, drop, slice_index, slice_set, unwrap_or, refl, sym, ap, arith}
use Rattle.std.proofs.lemmas.Bool.{cases_lt}
use Rattle.std.specs.Result.{result_ok}
use Rattle.hex.specs.Hex.{decode_pairs, decode_sized, digit_or_error, hex_digit_value, pair_value, value_at}
use Rattle.hex.specs.declared.error.FromHexError.{FromHexError}
use Rattle.hex.proofs.Pairs.{decode_done, decode_err, decode_sized-pairs, decode_start, decode_step, prepend}

-- the value of a digit, and 16 of another byte
abbrev pub value_of : ℕ → ℕ
value_of c = unwrap_or (hex_digit_value c) 16

-- a digit has a value below 16
some_small : (c v : ℕ) → hex_digit_value c ≡ Some v → v < 16
some_small c v h = grind (arith)

read_by : (c i : ℕ) (o : Option ℕ) → unwrap_or o 16 < 16 → digit_or_error c i o ≡ Ok (unwrap_or o 16)
read_by c i (Some v) h = refl
read_by c i None h = absurd (omega arith)

refused_by : (c i : ℕ) (o : Option ℕ) → o ≡ hex_digit_value c → 16 ≤ unwrap_or o 16 → (e : FromHexError) × (digit_or_error c i o ≡ Err e)
refused_by c i (Some v) is h = let small = some_small c v (sym is) in absurd (omega arith)
refused_by c i None is h = (_, refl)

-- two digits are read
pub pair_read : (high low i : ℕ) → value_of high < 16 → value_of low < 16 → pair_value high low i ≡ Ok (value_of high % 16 * 16 + value_of low % 16)
pair_read high low i h l =
    let same : value_of high * 16 + value_of low ≡ value_of high % 16 * 16 + value_of low % 16 = omega arith in
    rw (read_by high i (hex_digit_value high) h, read_by low (i + 1) (hex_digit_value low) l) (ap Ok same)

-- a pair with another byte is refused
first_refused : (high low i : ℕ) (e : FromHexError) → value_at high i ≡ Err e → pair_value high low i ≡ Err e
first_refused high low i e h = rw h refl

second_refused : (high low i v : ℕ) (e : FromHexError) → value_at high i ≡ Ok v → value_at low (i + 1) ≡ Err e → pair_value high low i ≡ Err e
second_refused high low i v e h l = rw (h, l) refl

pair_refused : (high low i : ℕ) → 16 ≤ value_of high ⊎ 16 ≤ value_of low → (e : FromHexError) × (pair_value high low i ≡ Err e)
pair_refused high low i (inl h) =
    let wrong = refused_by high i (hex_digit_value high) refl h in
    (wrong.0, first_refused high low i wrong.0 wrong.1)
pair_refused high low i (inr l) =
    elim (cases_lt (value_of high) 16) [
      | inl small ↦
          let wrong = refused_by low (i + 1) (hex_digit_value low) refl l in
          (wrong.0, second_refused high low i (value_of high) wrong.0 (read_by high i (hex_digit_value high) small) wrong.1)
      | inr large ↦
          let wrong = refused_by high i (hex_digit_value high) refl (omega arith) in
          (wrong.0, first_refused high low i wrong.0 wrong.1)
    ]

-- ---- the pairs in turn

-- so many pairs are read into the key, and this is the highest value of their digits
pub record IsReadTo (text key : List ℕ) (place highest : ℕ) : Type 0 where
  pub read : highest < 16 → decode_pairs 0 text ≡ prepend (take place key) (decode_pairs (2 * place) (drop (2 * place) text))
  pub refused : 16 ≤ highest → (e : FromHexError) × (decode_pairs 0 text ≡ Err e)

pub none_read : (text key : List ℕ) → IsReadTo text key 0 0
none_read text key = record { read = λ h. decode_start text key; refused = λ h. absurd (omega arith) }

pair_more : (text key : List ℕ) (place highest next : ℕ) → 2 * place + 1 < length text → place < length key
    → next ≡ max (max highest (value_of (slice_index text (2 * place)))) (value_of (slice_index text (2 * place + 1))) → IsReadTo text key place highest
    → IsReadTo text (slice_set key place (value_of (slice_index text (2 * place)) % 16 * 16 + value_of (slice_index text (2 * place + 1)) % 16)) (place + 1) next
pair_more text key place highest next fits room is before =
    let high = slice_index text (2 * place) in
    let low = slice_index text (2 * place + 1) in
    record {
      read = λ h. decode_step text key place _ fits room (pair_read high low (2 * place) (omega arith) (omega arith)) (before.read (omega arith));
      refused = λ h. elim (cases_lt highest 16) [
        | inr large ↦ before.refused (omega arith)
        | inl small ↦
            let bad : (16 ≤ value_of high) ⊎ (16 ≤ value_of low) = elim (cases_lt (value_of high) 16) [ inl below ↦ inr (omega arith) | inr above ↦ inl (omega arith) ] in
            let wrong = pair_refused high low (2 * place) bad in
            (wrong.0, decode_err text key place wrong.0 fits wrong.1 (before.read small))
      ];
    }

-- one pair more, of digits with these values
pub one_read : (text key : List ℕ) (place highest high low next : ℕ) → length text ≡ 64 → length key ≡ 32 → place < 32
    → high ≡ value_of (slice_index text (2 * place)) → low ≡ value_of (slice_index text (2 * place + 1)) → next ≡ max (max highest high) low
    → IsReadTo text key place highest → IsReadTo text (slice_set key place (high % 16 * 16 + low % 16)) (place + 1) next
one_read text key place highest high low next long room more h l is before =
    rw (h, l) (pair_more text key place highest next (omega arith) (omega arith) (rw (h, l) at is) before)

pub all_read : (text key : List ℕ) (place highest : ℕ) → length text ≡ 64 → length key ≤ place → 32 ≤ place → highest < 16 → IsReadTo text key place highest
    → Some key ≡ result_ok (decode_sized text 32)
all_read text key place highest long room enough small before =
    sym (ap result_ok (decode_sized-pairs text 32 (omega arith) (omega arith) ∙ decode_done text key place room (omega arith) (before.read small)))

pub one_refused : (text key : List ℕ) (place highest : ℕ) → length text ≡ 64 → 16 ≤ highest → IsReadTo text key place highest
    → ◌≡◌ {A = Option (List ℕ)} None (result_ok (decode_sized text 32))
one_refused text key place highest long large before =
    let wrong = before.refused large in
    sym (ap result_ok (decode_sized-pairs text 32 (omega arith) (omega arith) ∙ wrong.1))

pub other_length : (text : List ℕ) → (length text ≡ 64 → ⊥) → ◌≡◌ {A = Option (List ℕ)} None (result_ok (decode_sized text 32))
other_length text other = grind (arith)
