-- The hexadecimal digits of numbers below 16.
use Rattle.std.proofs.Common.{◌≡◌, ℕ, zero, suc, ◌+◌, ◌-◌, ◌*◌, ◌/◌, ◌%◌, ◌<◌, ◌≤◌, ◌==◌, ◌&&◌, Bool, true, List, [], ◌∷◌, ◌++◌, length, take, slice_index, slice_set, replicate, refl, sym, ap, ◌∙◌, inl, inr, ◌⊎◌, arith, add-one}
use Rattle.std.proofs.lemmas.Bool.{and_parts, cases_lt, eqb-true}
use Rattle.std.proofs.lemmas.List.{take_more_set, take_all}
use Rattle.hex.specs.Hex.{lower_digits, encode_lower, encode_with, IsBytes}
use Rattle.hex.proofs.HexLemmas.{length-encode_with}
use Rattle.transcript_text.specs.HexDigits.{IsNumberOf, AreBytesOf}

-- the test that two functions agree below n, which computes
abbrev agree : (ℕ → ℕ) → (ℕ → ℕ) → ℕ → Bool
agree f g zero = true
agree f g (suc n) = (f n == g n) && agree f g n

agree_at : (f g : ℕ → ℕ) (n k : ℕ) → agree f g n ≡ true → k < n → f k ≡ g k
agree_at f g zero k h lt = absurd (omega arith)
agree_at f g (suc n) k h lt =
    let parts = and_parts (f n == g n) (agree f g n) h in
    elim (cases_lt k n) [
      | inl below ↦ agree_at f g n k parts.1 below
      | inr top ↦
          let e : k ≡ n = omega arith in
          ap f e ∙ eqb-true (f n) (g n) parts.0 ∙ ap g (sym e)
    ]

pub digit_low : (n x : ℕ) → n < 10 → x ≡ 48 + n → x ≡ slice_index lower_digits n
digit_low n x few is = is ∙ sym (agree_at (λ k. slice_index lower_digits k) (λ k. 48 + k) 10 n refl few)

pub digit_high : (n x : ℕ) → 10 ≤ n → n < 16 → x ≡ 87 + n → x ≡ slice_index lower_digits n
digit_high n x some few is =
    let e : 10 + (n - 10) ≡ n = omega arith in
    let same = agree_at (λ k. slice_index lower_digits (10 + k)) (λ k. 97 + k) 6 (n - 10) refl (omega arith) in
    let value : x ≡ 97 + (n - 10) = omega (arith, is) in
    value ∙ sym same ∙ ap (slice_index lower_digits) e

-- ---- digits read back

digit_is : (d n : ℕ) → n < 16 → d ≡ slice_index lower_digits n → (d ≡ 48 + n) × (n < 10) ⊎ (d ≡ 87 + n) × (10 ≤ n)
digit_is d n few is = elim (cases_lt n 10) [
  | inl low ↦ inl (is ∙ sym (digit_low n (48 + n) low refl), low)
  | inr high ↦
      let some : 10 ≤ n = omega arith in
      inr (is ∙ sym (digit_high n (87 + n) some few refl), some)
]

pub low_number : (d : ℕ) → d < 97 → IsNumberOf d (d % 16)
low_number d below n few is = elim (digit_is d n few is) [
  | inl low ↦ omega (arith, low.0, low.1)
  | inr high ↦ absurd (omega (arith, high.0, high.1))
]

pub high_number : (d : ℕ) → 97 ≤ d → IsNumberOf d ((d % 16 + 9) % 16)
high_number d above n few is = elim (digit_is d n few is) [
  | inl low ↦ absurd (omega (arith, low.0, low.1))
  | inr high ↦ omega (arith, high.0, high.1)
]

encoded_at : (t bs : List ℕ) (i : ℕ) → i < length bs
    → (slice_index (encode_with t bs) (2 * i) ≡ slice_index t (slice_index bs i / 16)) × (slice_index (encode_with t bs) (2 * i + 1) ≡ slice_index t (slice_index bs i % 16))
unfolding encode_with
encoded_at t [] i h = absurd (omega arith)
encoded_at t (b ∷ bs) zero h = (refl, refl)
encoded_at t (b ∷ bs) (suc i) h =
    let r = encoded_at t bs i (omega arith) in
    let high : 2 * suc i ≡ suc (suc (2 * i)) = omega arith in
    let low : 2 * suc i + 1 ≡ suc (suc (2 * i + 1)) = omega arith in
    (rw high r.0, rw low r.1)

take_one : (xs : List ℕ) (i : ℕ) → i < length xs → take (i + 1) xs ≡ take i xs ++ slice_index xs i ∷ []
take_one [] i h = absurd (omega arith)
take_one (x ∷ xs) zero h = refl
take_one (x ∷ xs) (suc i) h = simp add-one (ap (λ (q : List ℕ). x ∷ q) (simp add-one at (take_one xs i (omega arith))))

-- where the digits are those of some bytes, the first n of these are that many of them
abbrev pub AreFirst : List ℕ → List ℕ → ℕ → Type 0
AreFirst digits out n = (bs : List ℕ) → IsBytes bs → digits ≡ encode_lower bs → take n out ≡ take n bs

pub one_more : (digits out : List ℕ) (i high low : ℕ) → i < length out → length digits ≡ 2 * length out
    → IsNumberOf (slice_index digits (2 * i)) high → IsNumberOf (slice_index digits (2 * i + 1)) low
    → AreFirst digits out i → AreFirst digits (slice_set out i (high * 16 + low)) (i + 1)
one_more digits out i high low few two h l so bs are is =
    let all : length digits ≡ 2 * length bs = ap length is ∙ length-encode_with lower_digits bs in
    let within : i < length bs = omega (arith, all, two, few) in
    let small : slice_index bs i < 256 = are i in
    let at = encoded_at lower_digits bs i within in
    let eh : high ≡ slice_index bs i / 16 = h (slice_index bs i / 16) (omega arith) (ap (λ (q : List ℕ). slice_index q (2 * i)) is ∙ at.0) in
    let el : low ≡ slice_index bs i % 16 = l (slice_index bs i % 16) (omega arith) (ap (λ (q : List ℕ). slice_index q (2 * i + 1)) is ∙ at.1) in
    let byte : high * 16 + low ≡ slice_index bs i = omega (arith, eh, el) in
    take_more_set out i (high * 16 + low) few ∙ ap (λ (q : List ℕ). q ++ (high * 16 + low) ∷ []) (so bs are is) ∙ ap (λ (b : ℕ). take i bs ++ b ∷ []) byte ∙ sym (take_one bs i within)

pub all_read : (digits out : List ℕ) (n : ℕ) → length out ≡ n → length digits ≡ 2 * n → AreFirst digits out n → AreBytesOf digits out
all_read digits out n long two so bs are is =
    let all : length digits ≡ 2 * length bs = ap length is ∙ length-encode_with lower_digits bs in
    sym (take_all n out (omega (arith, long))) ∙ so bs are is ∙ take_all n bs (omega (arith, all, two))

pub no_bytes : (n : ℕ) → IsBytes (replicate n 0)
no_bytes zero k = omega arith
no_bytes (suc n) zero = omega arith
no_bytes (suc n) (suc k) = no_bytes n k

pub byte_set : (xs : List ℕ) (i x : ℕ) → x < 256 → IsBytes xs → IsBytes (slice_set xs i x)
byte_set [] i x few are k = are k
byte_set (y ∷ ys) zero x few are zero = few
byte_set (y ∷ ys) zero x few are (suc k) = are (suc k)
byte_set (y ∷ ys) (suc i) x few are zero = are zero
byte_set (y ∷ ys) (suc i) x few are (suc k) = byte_set ys i x few (λ j. are (suc j)) k
