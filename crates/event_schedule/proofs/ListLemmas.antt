-- Sums, maps and tests over lists.
use Rattle.std.proofs.Common.{◌≡◌, ℕ, Bool, true, false, not, ◌&&◌, ◌||◌, List, [], ◌∷◌, refl, ap, ◌∙◌, ◌+◌, ◌<◌, sym, arith, ◌≤◌, zero, suc, ◌++◌, map}
use Rattle.std.specs.List.{filter, list_all, sum_by, flat_map, range_with_len}
use Rattle.std.proofs.lemmas.Bool.{false≢true, and_parts, and_from}
use Rattle.std.proofs.lemmas.List.Sums.{sum_by-cons, sum_by-append}

-- a test that is off adds nothing
pub or-and_not : (a b c : Bool) → b ≡ true → (a && not b || c) ≡ c
or-and_not true true c h = refl
or-and_not false true c h = refl
or-and_not true false c h = absurd (false≢true h)
or-and_not false false c h = refl

pub and_first : (x y : Bool) → (x && y) ≡ true → x ≡ true
and_first x y h = (and_parts x y h).0

pub and_last : (x y : Bool) → (x && y) ≡ true → y ≡ true
and_last x y h = (and_parts x y h).1

-- list_all of a weaker test
pub list_all-weaker : (p q : ℕ → Bool) → ((i : ℕ) → p i ≡ true → q i ≡ true) → (xs : List ℕ) → list_all p xs ≡ true → list_all q xs ≡ true
list_all-weaker p q weaker [] h = refl
list_all-weaker p q weaker (x ∷ xs) h =
    and_from (q x) (list_all q xs) (weaker x (and_first (p x) (list_all p xs) h)) (list_all-weaker p q weaker xs (and_last (p x) (list_all p xs) h))

-- none is silent where all answered
pub list_all-from_filter : (b : ℕ → Bool) (xs : List ℕ) → filter (λ k. not (b k)) xs ≡ [] → list_all b xs ≡ true
list_all-from_filter b [] e = refl
list_all-from_filter b (x ∷ xs) e = step (b x) refl e (list_all-from_filter b xs)
  where
    step : (c : Bool) → b x ≡ c → filter (λ k. not (b k)) (x ∷ xs) ≡ [] → (filter (λ k. not (b k)) xs ≡ [] → list_all b xs ≡ true) → (b x && list_all b xs) ≡ true
    step true is e' later = rw is (later (rw is at e'))
    step false is e' later = let f = rw is at e' in absurd (cc f)

-- two functions that are alike where the filter keeps have one sum
pub sum_by-filter_same : (t b : ℕ → Bool) (f h : ℕ → ℕ) → ((i : ℕ) → t i ≡ true → b i ≡ true → f i ≡ h i) → (xs : List ℕ) → list_all b (filter t xs) ≡ true → sum_by f (filter t xs) ≡ sum_by h (filter t xs)
sum_by-filter_same t b f h same [] all = refl
sum_by-filter_same t b f h same (x ∷ xs) all = step (t x) refl all (sum_by-filter_same t b f h same xs)
  where
    step : (c : Bool) → t x ≡ c → list_all b (filter t (x ∷ xs)) ≡ true → (list_all b (filter t xs) ≡ true → sum_by f (filter t xs) ≡ sum_by h (filter t xs)) → sum_by f (filter t (x ∷ xs)) ≡ sum_by h (filter t (x ∷ xs))
    step false is all' later = rw is (later (rw is at all'))
    step true is all' later =
        let both = and_parts (b x) (list_all b (filter t xs)) (rw is at all') in
        rw is (sum_by-cons f x (filter t xs) ∙ ap (λ z. z + sum_by f (filter t xs)) (same x is both.0) ∙ ap (λ z. h x + z) (later both.1) ∙ sym (sum_by-cons h x (filter t xs)))

-- ---- sums over lists of lists

pub sum_by-flat_map : {X Y : Type 0} (f : Y → ℕ) (h : X → List Y) (xs : List X) → sum_by f (flat_map h xs) ≡ sum_by (λ x. sum_by f (h x)) xs
sum_by-flat_map f h [] = refl
sum_by-flat_map f h (x ∷ xs) =
    sum_by-append f (h x) (flat_map h xs) ∙ ap (λ z. sum_by f (h x) + z) (sum_by-flat_map f h xs) ∙ sym (sum_by-cons (λ y. sum_by f (h y)) x xs)

pub sum_none : (f : ℕ → ℕ) → ((k : ℕ) → f k ≡ 0) → (xs : List ℕ) → sum_by f xs ≡ 0
sum_none f none [] = refl
sum_none f none (x ∷ xs) = omega (arith, sum_by-cons f x xs, none x, sum_none f none xs)

-- ---- the tables

pub tabulate_same : {X : Type 0} (n a : ℕ) (f h : ℕ → X) → ((i : ℕ) → a ≤ i → i < a + n → f i ≡ h i) → map f (range_with_len a n) ≡ map h (range_with_len a n)
tabulate_same zero a f h same = refl
tabulate_same (suc n) a f h same =
    ap (λ x. x ∷ map f (range_with_len (a + 1) n)) (same a (omega arith) (omega arith)) ∙ ap (λ l. h a ∷ l) (tabulate_same n (a + 1) f h (λ i above below. same i (omega arith) (omega arith)))

pub sum_by-map : {X Y : Type 0} (f : Y → ℕ) (h : X → Y) (xs : List X) → sum_by f (map h xs) ≡ sum_by (λ x. f (h x)) xs
sum_by-map f h [] = refl
sum_by-map f h (x ∷ xs) = sum_by-cons f (h x) (map h xs) ∙ ap (λ z. f (h x) + z) (sum_by-map f h xs) ∙ sym (sum_by-cons (λ y. f (h y)) x xs)

-- ---- the rows

pub flat_map_same : {X : Type 0} (n a : ℕ) (f h : ℕ → List X) → ((i : ℕ) → a ≤ i → i < a + n → f i ≡ h i) → flat_map f (range_with_len a n) ≡ flat_map h (range_with_len a n)
flat_map_same zero a f h same = refl
flat_map_same (suc n) a f h same =
    ap (λ l. l ++ flat_map f (range_with_len (a + 1) n)) (same a (omega arith) (omega arith))
    ∙ ap (λ l. h a ++ l) (flat_map_same n (a + 1) f h (λ i above below. same i (omega arith) (omega arith)))
