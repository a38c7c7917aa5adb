-- What holds of each item of a list and its number.
use Rattle.std.proofs.Common.{◌≡◌, ℕ, zero, suc, ◌+◌, ◌<◌, ◌≤◌, Bool, List, [], ◌∷◌, ◌++◌, length, get_or, refl, sym, ap, ◌∙◌, subst, arith, zero-add, ⊎_elim}
use Rattle.std.specs.Prelude.{nat_lt, if◌then◌else◌, slice_set}
use Rattle.std.specs.List.{AllZip, range_with_len}
use Rattle.std.proofs.lemmas.Bool.{cases_eq, lt-ltb, le-ltb}
use Rattle.std.proofs.lemmas.Bool.Decides.{nat_tests}

-- the place of an item beside a range
pub range_at : {Y : Type 0} (R : ℕ → Y → Type 0) (a n : ℕ) (ys : List Y) → AllZip R (range_with_len a n) ys → (k : ℕ) (d : Y) → k < length ys → (k < n) × R (a + k) (get_or ys k d)
range_at R a zero [] all k d lt = absurd (omega arith)
range_at R a zero (y ∷ ys) all k d lt = absurd all
range_at R a (suc n) [] all k d lt = absurd all
range_at R a (suc n) (y ∷ ys) all zero d lt = let same : a ≡ a + 0 = omega arith in (omega arith, subst (λ z. R z y) same all.0)
range_at R a (suc n) (y ∷ ys) all (suc k) d lt =
    let later = range_at R (a + 1) n ys all.1 k d (omega arith) in
    let below : k < n = later.0 in
    let same : a + 1 + k ≡ a + suc k = omega arith in
    (omega arith, subst (λ z. R z (get_or ys k d)) same later.1)

pub range_long : {Y : Type 0} (R : ℕ → Y → Type 0) (a n : ℕ) (ys : List Y) → AllZip R (range_with_len a n) ys → length ys ≡ n
range_long R a zero [] all = refl
range_long R a zero (y ∷ ys) all = absurd all
range_long R a (suc n) [] all = absurd all
range_long R a (suc n) (y ∷ ys) all = let later = range_long R (a + 1) n ys all.1 in omega arith

-- what holds of the item at its number
pub range_item : {Y : Type 0} (R : ℕ → Y → Type 0) (n k : ℕ) (ys : List Y) (y : Y) → y ≡ get_or ys k y → k < length ys → AllZip R (range_with_len 0 n) ys → R k y
range_item R n k ys y is lt all = subst (R k) (sym is) (subst (λ j. R j (get_or ys k y)) (zero-add k) (range_at R 0 n ys all k y lt).1)

pub range_weaker : {Y : Type 0} (R S : ℕ → Y → Type 0) (a n : ℕ) (ys : List Y) → ((j : ℕ) (y : Y) → a ≤ j → j < a + n → R j y → S j y)
    → AllZip R (range_with_len a n) ys → AllZip S (range_with_len a n) ys
range_weaker R S a zero [] each all = tt
range_weaker R S a zero (y ∷ ys) each all = absurd all
range_weaker R S a (suc n) [] each all = absurd all
range_weaker R S a (suc n) (y ∷ ys) each all = (each a y (omega arith) (omega arith) all.0, range_weaker R S (a + 1) n ys (λ j z low high. each j z (omega arith) (omega arith)) all.1)

-- one item is another, and the others stay
pub range_set : {Y : Type 0} (R S : ℕ → Y → Type 0) (a n k : ℕ) (ys : List Y) (y : Y) → ((j : ℕ) (z : Y) → (j ≡ a + k → ⊥) → R j z → S j z) → S (a + k) y
    → AllZip R (range_with_len a n) ys → AllZip S (range_with_len a n) (slice_set ys k y)
range_set R S a zero k [] y others here all = tt
range_set R S a zero k (x ∷ ys) y others here all = absurd all
range_set R S a (suc n) k [] y others here all = absurd all
range_set R S a (suc n) zero (x ∷ ys) y others here all =
    let at : a + 0 ≡ a = omega arith in
    (subst (λ j. S j y) at here, range_weaker R S (a + 1) n ys (λ j z low high. others j z (λ e. omega arith)) all.1)
range_set R S a (suc n) (suc k) (x ∷ ys) y others here all =
    let at : a + suc k ≡ a + 1 + k = omega arith in
    (others a x (λ e. omega arith) all.0, range_set R S (a + 1) n k ys y (λ j z ne. others j z (λ e. ne (omega arith))) (subst (λ j. S j y) at here) all.1)

-- one item more at the end
pub range_push : {Y : Type 0} (R : ℕ → Y → Type 0) (a n : ℕ) (ys : List Y) (y : Y) → AllZip R (range_with_len a n) ys → R (a + n) y → AllZip R (range_with_len a (n + 1)) (ys ++ y ∷ [])
range_push R a n ys y all here = let more : suc n ≡ n + 1 = omega arith in subst (λ k. AllZip R (range_with_len a k) (ys ++ y ∷ [])) more (pushed R a n ys y all here)
  where
    pushed : {Y : Type 0} (R : ℕ → Y → Type 0) (a n : ℕ) (ys : List Y) (y : Y) → AllZip R (range_with_len a n) ys → R (a + n) y → AllZip R (range_with_len a (suc n)) (ys ++ y ∷ [])
    pushed R a zero [] y all here = let at : a + 0 ≡ a = omega arith in (subst (λ j. R j y) at here, tt)
    pushed R a zero (x ∷ ys) y all here = absurd all
    pushed R a (suc n) [] y all here = absurd all
    pushed R a (suc n) (x ∷ ys) y all here = let at : a + suc n ≡ a + 1 + n = omega arith in (all.0, pushed R (a + 1) n ys y all.1 (subst (λ j. R j y) at here))

-- ---- a loop over the items

-- what is t at first is t + 1 once the loop has passed, which has come to k
abbrev pub upto : ℕ → ℕ → ℕ → ℕ
upto t k i = if nat_lt i k then t + 1 else t

upto-passed : (t k i : ℕ) → i < k → upto t k i ≡ t + 1
upto-passed t k i lt = ap (λ b. if b then t + 1 else t) (lt-ltb i k lt)

upto-ahead : (t k i : ℕ) → k ≤ i → upto t k i ≡ t
upto-ahead t k i le = ap (λ b. if b then t + 1 else t) (le-ltb i k le)

-- what is not k is below k + 1 where it is below k
pub lt-other : (k i : ℕ) → (i ≡ k → ⊥) → nat_lt i k ≡ nat_lt i (k + 1)
lt-other k i ne = same (nat_lt i k) refl
  where
    same : (b : Bool) → nat_lt i k ≡ b → nat_lt i k ≡ nat_lt i (k + 1)
    same b is = grind (arith, nat_tests)

upto-other : (t k i : ℕ) → (i ≡ k → ⊥) → upto t k i ≡ upto t (k + 1) i
upto-other t k i ne = ap (λ b. if b then t + 1 else t) (lt-other k i ne)

-- the first k of n items have R at t + 1, and the others have it at t
pub record Upto {Y : Type 0} (R : ℕ → ℕ → Y → Type 0) (t k n : ℕ) (ys : List Y) : Type 0 where
  pub each : AllZip (λ i. R (upto t k i) i) (range_with_len 0 n) ys

pub upto-none : {Y : Type 0} (R : ℕ → ℕ → Y → Type 0) (t n : ℕ) (ys : List Y) → AllZip (R t) (range_with_len 0 n) ys → Upto R t 0 n ys
upto-none R t n ys all = record { each = range_weaker (R t) (λ i. R (upto t 0 i) i) 0 n ys (λ i y low high is. subst (λ u. R u i y) (sym (upto-ahead t 0 i (omega arith))) is) all }

pub upto-long : {Y : Type 0} (R : ℕ → ℕ → Y → Type 0) (t k n : ℕ) (ys : List Y) → Upto R t k n ys → length ys ≡ n
upto-long R t k n ys so_far = range_long (λ i. R (upto t k i) i) 0 n ys so_far.each

pub upto-within : {Y : Type 0} (R : ℕ → ℕ → Y → Type 0) (t k n end : ℕ) (ys : List Y) → Upto R t k n ys → end ≡ n → k < end → k < length ys
upto-within R t k n end ys so_far same lt = omega (arith, upto-long R t k n ys so_far)

pub upto-at : {Y : Type 0} (R : ℕ → ℕ → Y → Type 0) (t k n : ℕ) (ys : List Y) (y : Y) → y ≡ get_or ys k y → k < length ys → Upto R t k n ys → R t k y
upto-at R t k n ys y is lt so_far = subst (λ u. R u k y) (upto-ahead t k k (omega arith)) (range_item (λ i. R (upto t k i) i) n k ys y is lt so_far.each)

pub upto-more : {Y : Type 0} (R : ℕ → ℕ → Y → Type 0) (t k n : ℕ) (ys : List Y) (y : Y) → R (t + 1) k y → Upto R t k n ys → Upto R t (k + 1) n (slice_set ys k y)
upto-more R t k n ys y here so_far = record {
  each = range_set (λ i. R (upto t k i) i) (λ i. R (upto t (k + 1) i) i) 0 n k ys y
      (λ j z ne is. subst (λ u. R u j z) (upto-other t k j (λ e. ne (e ∙ sym (zero-add k)))) is)
      (subst (λ i. R (upto t (k + 1) i) i y) (sym (zero-add k)) (subst (λ u. R u k y) (sym (upto-passed t (k + 1) k (omega arith))) here))
      so_far.each;
}

-- an item that needs no change
pub upto-pass : {Y : Type 0} (R : ℕ → ℕ → Y → Type 0) (t k n : ℕ) (ys : List Y) → ((y : Y) → R t k y → R (t + 1) k y) → Upto R t k n ys → Upto R t (k + 1) n ys
upto-pass {Y} R t k n ys pass so_far = record { each = range_weaker (λ i. R (upto t k i) i) (λ i. R (upto t (k + 1) i) i) 0 n ys (λ i y low high is. step i y is) so_far.each }
  where
    step : (i : ℕ) (y : Y) → R (upto t k i) i y → R (upto t (k + 1) i) i y
    step i y is = ⊎_elim
        (λ same. subst (λ u. R u i y) (sym (upto-passed t (k + 1) i (omega arith)))
        (subst (λ j. R (t + 1) j y) (sym same) (pass y (subst (λ j. R t j y) same (subst (λ u. R u i y) (upto-ahead t k i (omega arith)) is)))))
        (λ ne. subst (λ u. R u i y) (upto-other t k i ne) is)
        (cases_eq i k)

pub upto-all : {Y : Type 0} (R : ℕ → ℕ → Y → Type 0) (t k n : ℕ) (ys : List Y) → n ≤ k → Upto R t k n ys → AllZip (R (t + 1)) (range_with_len 0 n) ys
upto-all R t k n ys over so_far = range_weaker (λ i. R (upto t k i) i) (R (t + 1)) 0 n ys (λ i y low high is. subst (λ u. R u i y) (upto-passed t k i (omega arith)) is) so_far.each
