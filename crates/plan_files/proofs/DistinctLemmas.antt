-- Lists over ranges of numbers, and lists of which no two items are the same.
use Rattle.std.proofs.Common.{◌≡◌, ◌∙◌, ◌<◌, ◌≤◌, ◌+◌, ◌&&◌, ◌||◌, ℕ, zero, suc, Bool, true, false, List, [], ◌∷◌, ◌++◌, map, refl, ap, inl, inr, arith}
use Rattle.std.proofs.lemmas.Bool.{and_parts, cases_eq}
use Rattle.std.specs.List.{flat_map, list_all, list_any, range_with_len}

-- ---- truth

pub both_true : (a b : Bool) → a ≡ true → b ≡ true → (a && b) ≡ true
both_true a b h k = rw (h, k) refl

pub left_true : (a b : Bool) → a ≡ true → (a || b) ≡ true
left_true a b h = rw h refl

pub right_true : (a b : Bool) → b ≡ true → (a || b) ≡ true
right_true true b h = refl
right_true false b h = h

both_false : (a b : Bool) → a ≡ false → b ≡ false → (a || b) ≡ false
both_false a b h k = rw (h, k) refl

-- ---- tests of all items, and of some

pub all_append : {X : Type 0} (p : X → Bool) (xs ys : List X) → list_all p xs ≡ true → list_all p ys ≡ true → list_all p (xs ++ ys) ≡ true
all_append p [] ys h k = k
all_append p (x ∷ xs) ys h k = let b = and_parts (p x) (list_all p xs) h in both_true (p x) (list_all p (xs ++ ys)) b.0 (all_append p xs ys b.1 k)

pub all_flat : {X : Type 0} (p : X → Bool) (f : ℕ → List X) (a n : ℕ) → ((k : ℕ) → a ≤ k → k < a + n → list_all p (f k) ≡ true) → list_all p (flat_map f (range_with_len a n)) ≡ true
all_flat p f a zero h = refl
all_flat p f a (suc n) h =
    all_append p (f a) (flat_map f (range_with_len (a + 1) n)) (h a (omega arith) (omega arith)) (all_flat p f (a + 1) n (λ k from to. h k (omega arith) (omega arith)))

pub all_map : {X : Type 0} (p : X → Bool) (f : ℕ → X) (a n : ℕ) → ((k : ℕ) → a ≤ k → k < a + n → p (f k) ≡ true) → list_all p (map f (range_with_len a n)) ≡ true
all_map p f a zero h = refl
all_map p f a (suc n) h =
    both_true (p (f a)) (list_all p (map f (range_with_len (a + 1) n))) (h a (omega arith) (omega arith)) (all_map p f (a + 1) n (λ k from to. h k (omega arith) (omega arith)))

any_left : {X : Type 0} (p : X → Bool) (xs ys : List X) → list_any p xs ≡ true → list_any p (xs ++ ys) ≡ true
any_left p [] ys h = absurd cc
any_left p (x ∷ xs) ys h = by_test (p x) (any_left p xs ys) h
  where
    by_test : (b : Bool) → (list_any p xs ≡ true → list_any p (xs ++ ys) ≡ true) → (b || list_any p xs) ≡ true → (b || list_any p (xs ++ ys)) ≡ true
    by_test true ih h = refl
    by_test false ih h = ih h

any_right : {X : Type 0} (p : X → Bool) (xs ys : List X) → list_any p ys ≡ true → list_any p (xs ++ ys) ≡ true
any_right p [] ys h = h
any_right p (x ∷ xs) ys h = right_true (p x) (list_any p (xs ++ ys)) (any_right p xs ys h)

pub any_append_left : {X : Type 0} (p : X → Bool) (xs ys : List X) → list_any p xs ≡ true → list_any p (xs ++ ys) ≡ true
any_append_left p xs ys h = any_left p xs ys h

pub any_append_right : {X : Type 0} (p : X → Bool) (xs ys : List X) → list_any p ys ≡ true → list_any p (xs ++ ys) ≡ true
any_append_right p xs ys h = any_right p xs ys h

pub any_flat : {X : Type 0} (p : X → Bool) (f : ℕ → List X) (a n k : ℕ) → a ≤ k → k < a + n → list_any p (f k) ≡ true → list_any p (flat_map f (range_with_len a n)) ≡ true
any_flat p f a zero k from to h = absurd (omega arith)
any_flat p f a (suc n) k from to h = elim (cases_eq a k) [
  | inl same ↦ any_left p (f a) (flat_map f (range_with_len (a + 1) n)) (ap (λ j. list_any p (f j)) same ∙ h)
  | inr other ↦ any_right p (f a) (flat_map f (range_with_len (a + 1) n)) (any_flat p f (a + 1) n k (omega arith) (omega arith) h)
]

pub any_map : {X : Type 0} (p : X → Bool) (f : ℕ → X) (a n k : ℕ) → a ≤ k → k < a + n → p (f k) ≡ true → list_any p (map f (range_with_len a n)) ≡ true
any_map p f a zero k from to h = absurd (omega arith)
any_map p f a (suc n) k from to h = elim (cases_eq a k) [
  | inl same ↦ left_true (p (f a)) (list_any p (map f (range_with_len (a + 1) n))) (ap (λ j. p (f j)) same ∙ h)
  | inr other ↦ right_true (p (f a)) (list_any p (map f (range_with_len (a + 1) n))) (any_map p f (a + 1) n k (omega arith) (omega arith) h)
]

-- ---- no two the same

-- no item is the same as a later one
abbrev pub Distinct : {X : Type 0} → (X → X → Bool) → List X → Type 0
Distinct same [] = Unit {0}
Distinct same (x ∷ xs) = (list_any (same x) xs ≡ false) × Distinct same xs

-- each item has this tag
abbrev pub Tagged : {X : Type 0} → (X → ℕ) → ℕ → List X → Type 0
Tagged tag k [] = Unit {0}
Tagged tag k (x ∷ xs) = (tag x ≡ k) × Tagged tag k xs

-- each item has a tag from k on
abbrev pub TaggedFrom : {X : Type 0} → (X → ℕ) → ℕ → List X → Type 0
TaggedFrom tag k [] = Unit {0}
TaggedFrom tag k (x ∷ xs) = (k ≤ tag x) × TaggedFrom tag k xs

-- items that are the same have one tag
abbrev pub Respects : {X : Type 0} → (X → X → Bool) → (X → ℕ) → Type 0
Respects {X} same tag = (x y : X) → same x y ≡ true → tag x ≡ tag y

other_tag : {X : Type 0} (same : X → X → Bool) (tag : X → ℕ) → Respects same tag → (x y : X) → tag x < tag y → same x y ≡ false
other_tag same tag respects x y lt = by_test (same x y) refl
  where
    by_test : (b : Bool) → same x y ≡ b → same x y ≡ false
    by_test true e = let t = respects x y e in absurd (omega (arith, t, lt))
    by_test false e = e

apart : {X : Type 0} (same : X → X → Bool) (tag : X → ℕ) → Respects same tag → (x : X) (k : ℕ) → tag x < k → (ys : List X) → TaggedFrom tag k ys → list_any (same x) ys ≡ false
apart same tag respects x k lt [] h = refl
apart same tag respects x k lt (y ∷ ys) h =
    both_false (same x y) (list_any (same x) ys) (other_tag same tag respects x y (omega (arith, lt, h.0))) (apart same tag respects x k lt ys h.1)

none_append : {X : Type 0} (p : X → Bool) (xs ys : List X) → list_any p xs ≡ false → list_any p ys ≡ false → list_any p (xs ++ ys) ≡ false
none_append p [] ys h k = k
none_append p (x ∷ xs) ys h k = by_test (p x) (none_append p xs ys) h
  where
    by_test : (b : Bool) → (list_any p xs ≡ false → list_any p ys ≡ false → list_any p (xs ++ ys) ≡ false) → (b || list_any p xs) ≡ false → (b || list_any p (xs ++ ys)) ≡ false
    by_test true ih h = absurd cc
    by_test false ih h = ih h k

pub distinct_append : {X : Type 0} (same : X → X → Bool) (tag : X → ℕ) → Respects same tag → (k : ℕ) (xs ys : List X) → Tagged tag k xs → TaggedFrom tag (k + 1) ys
    → Distinct same xs → Distinct same ys → Distinct same (xs ++ ys)
distinct_append same tag respects k [] ys t u d e = e
distinct_append same tag respects k (x ∷ xs) ys t u d e = (
  none_append (same x) xs ys d.0 (apart same tag respects x (k + 1) (omega (arith, t.0)) ys u),
  distinct_append same tag respects k xs ys t.1 u d.1 e,
)

from_tagged : {X : Type 0} (tag : X → ℕ) (k j : ℕ) (xs : List X) → k ≤ j → Tagged tag j xs → TaggedFrom tag k xs
from_tagged tag k j [] le t = tt
from_tagged tag k j (x ∷ xs) le t = (omega (arith, le, t.0), from_tagged tag k j xs le t.1)

from_append : {X : Type 0} (tag : X → ℕ) (k : ℕ) (xs ys : List X) → TaggedFrom tag k xs → TaggedFrom tag k ys → TaggedFrom tag k (xs ++ ys)
from_append tag k [] ys t u = u
from_append tag k (x ∷ xs) ys t u = (t.0, from_append tag k xs ys t.1 u)

pub from_flat : {X : Type 0} (tag : X → ℕ) (f : ℕ → List X) → ((k : ℕ) → Tagged tag k (f k)) → (a n k : ℕ) → k ≤ a → TaggedFrom tag k (flat_map f (range_with_len a n))
from_flat tag f t a zero k le = tt
from_flat tag f t a (suc n) k le =
    from_append tag k (f a) (flat_map f (range_with_len (a + 1) n)) (from_tagged tag k a (f a) le (t a)) (from_flat tag f t (a + 1) n k (omega arith))

pub distinct_flat : {X : Type 0} (same : X → X → Bool) (tag : X → ℕ) → Respects same tag → (f : ℕ → List X) → ((k : ℕ) → Tagged tag k (f k)) → ((k : ℕ) → Distinct same (f k))
    → (a n : ℕ) → Distinct same (flat_map f (range_with_len a n))
distinct_flat same tag respects f t d a zero = tt
distinct_flat same tag respects f t d a (suc n) =
    distinct_append same tag respects a (f a) (flat_map f (range_with_len (a + 1) n)) (t a) (from_flat tag f t (a + 1) n (a + 1) (omega arith)) (d a) (distinct_flat same tag respects f t d (a + 1) n)

from_map : {X : Type 0} (tag : X → ℕ) (f : ℕ → X) → ((k : ℕ) → tag (f k) ≡ k) → (a n k : ℕ) → k ≤ a → TaggedFrom tag k (map f (range_with_len a n))
from_map tag f t a zero k le = tt
from_map tag f t a (suc n) k le = (omega (arith, le, t a), from_map tag f t (a + 1) n k (omega arith))

pub distinct_map : {X : Type 0} (same : X → X → Bool) (tag : X → ℕ) → Respects same tag → (f : ℕ → X) → ((k : ℕ) → tag (f k) ≡ k) → (a n : ℕ) → Distinct same (map f (range_with_len a n))
distinct_map same tag respects f t a zero = tt
distinct_map same tag respects f t a (suc n) =
    (apart same tag respects (f a) (a + 1) (omega (arith, t a)) (map f (range_with_len (a + 1) n)) (from_map tag f t (a + 1) n (a + 1) (omega arith)), distinct_map same tag respects f t (a + 1) n)

pub tagged_append : {X : Type 0} (tag : X → ℕ) (k : ℕ) (xs ys : List X) → Tagged tag k xs → Tagged tag k ys → Tagged tag k (xs ++ ys)
tagged_append tag k [] ys t u = u
tagged_append tag k (x ∷ xs) ys t u = (t.0, tagged_append tag k xs ys t.1 u)

pub tagged_map : {X : Type 0} (tag : X → ℕ) (k : ℕ) (f : ℕ → X) → ((j : ℕ) → tag (f j) ≡ k) → (a n : ℕ) → Tagged tag k (map f (range_with_len a n))
tagged_map tag k f t a zero = tt
tagged_map tag k f t a (suc n) = (t a, tagged_map tag k f t (a + 1) n)

pub tagged_flat : {X : Type 0} (tag : X → ℕ) (k : ℕ) (f : ℕ → List X) → ((j : ℕ) → Tagged tag k (f j)) → (a n : ℕ) → Tagged tag k (flat_map f (range_with_len a n))
tagged_flat tag k f t a zero = tt
tagged_flat tag k f t a (suc n) = tagged_append tag k (f a) (flat_map f (range_with_len (a + 1) n)) (t a) (tagged_flat tag k f t (a + 1) n)
