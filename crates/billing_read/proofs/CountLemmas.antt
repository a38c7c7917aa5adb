-- Sums over lists, where one number rises by 1 and another falls by 1.
use Rattle.std.proofs.Common.{◌≡◌, ◌≢◌, ℕ, zero, suc, ◌+◌, ◌<◌, ◌≤◌, Bool, true, false, cond, not, ◌&&◌, ◌||◌, List, [], ◌∷◌, refl, sym, ap, ◌∙◌, zero-add, arith}
use Rattle.std.specs.Prelude.{◌==◌}
use Rattle.std.specs.List.{sum_by, count_by, filter, range_with_len}
use Rattle.std.proofs.lemmas.Bool.{eqb-true, eqb-false, ne_eqb}
use Rattle.std.proofs.lemmas.List.Sums.{sum_by-cons}
use Rattle.missing_round.specs.Sets.{is_member}
use Rattle.missing_round.proofs.SetLemmas.{is_member-filter}

-- how often k stands in a list
abbrev pub count_of : ℕ → List ℕ → ℕ
count_of k xs = count_by (λ x. x == k) xs

-- k stands in a list once, or never
abbrev pub AtMostOnce : ℕ → List ℕ → Type 0
AtMostOnce k xs = count_of k xs ≡ cond (is_member k xs) 1 0

count-cons : (k x : ℕ) (xs : List ℕ) → count_of k (x ∷ xs) ≡ cond (x == k) 1 0 + count_of k xs
count-cons k x xs = sum_by-cons (λ z. cond (z == k) 1 0) x xs

-- ---- what moves

-- a number that rises by 1, or falls by 1
abbrev pub Steps : Bool → ℕ → ℕ → Type 0
Steps true v w = w ≡ v + 1
Steps false v w = v ≡ w + 1

-- from f to h the number of u steps, that of d steps the other way, and no other changes
pub record Exchanges (plus : Bool) (f h : ℕ → ℕ) (u d : ℕ) : Type 0 where
  pub apart : u ≢ d
  pub first : Steps plus (f u) (h u)
  pub second : Steps (not plus) (f d) (h d)
  pub others : (k : ℕ) → k ≢ u → k ≢ d → h k ≡ f k

-- one number, where u rises and d falls
one_up : (f h : ℕ → ℕ) (u d : ℕ) → Exchanges true f h u d → (x : ℕ) → h x + cond (x == d) 1 0 ≡ f x + cond (x == u) 1 0
one_up f h u d e x = step (x == u) (x == d) refl refl
  where
    step : (a b : Bool) → (x == u) ≡ a → (x == d) ≡ b → h x + cond (x == d) 1 0 ≡ f x + cond (x == u) 1 0
    step true true is at = absurd (e.apart (sym (eqb-true x u is) ∙ eqb-true x d at))
    step true false is at =
        let up = e.first in
        let same : x ≡ u = eqb-true x u is in
        rw (is, at) (let here : h x ≡ f x + 1 = ap h same ∙ up ∙ ap (λ k. f k + 1) (sym same) in omega arith)
    step false true is at =
        let down = e.second in
        let same : x ≡ d = eqb-true x d at in
        rw (is, at) (let here : f x ≡ h x + 1 = ap f same ∙ down ∙ ap (λ k. h k + 1) (sym same) in omega arith)
    step false false is at = rw (is, at) (let same : h x ≡ f x = e.others x (eqb-false x u is) (eqb-false x d at) in omega arith)

sum_up : (f h : ℕ → ℕ) (u d : ℕ) → Exchanges true f h u d → (xs : List ℕ) → sum_by h xs + count_of d xs ≡ sum_by f xs + count_of u xs
sum_up f h u d e [] = refl
sum_up f h u d e (x ∷ xs) =
    omega (arith, sum_by-cons h x xs, sum_by-cons f x xs, count-cons d x xs, count-cons u x xs, one_up f h u d e x, sum_up f h u d e xs)

turned : (f h : ℕ → ℕ) (u d : ℕ) → Exchanges false f h u d → Exchanges true f h d u
turned f h u d e = record { apart = λ same. e.apart (sym same); first = e.second; second = e.first; others = λ k off on. e.others k on off }

-- the sum stays over a list that has both as often
pub sum_stays : (plus : Bool) (f h : ℕ → ℕ) (u d : ℕ) → Exchanges plus f h u d → (xs : List ℕ) → count_of u xs ≡ count_of d xs → sum_by h xs ≡ sum_by f xs
sum_stays true f h u d e xs same = let both = sum_up f h u d e xs in omega (arith, both, same)
sum_stays false f h u d e xs same = let both = sum_up f h d u (turned f h u d e) xs in omega (arith, both, same)

-- ---- how often

count-same : (k x : ℕ) (xs : List ℕ) → (x == k) ≡ true → count_of k (x ∷ xs) ≡ 1 + count_of k xs
count-same k x xs is = count-cons k x xs ∙ ap (λ c. cond {A = ℕ} c 1 0 + count_of k xs) is

count-other : (k x : ℕ) (xs : List ℕ) → (x == k) ≡ false → count_of k (x ∷ xs) ≡ count_of k xs
count-other k x xs off = count-cons k x xs ∙ ap (λ c. cond {A = ℕ} c 1 0 + count_of k xs) off ∙ zero-add (count_of k xs)

count-below : (k a n : ℕ) → k < a → count_of k (range_with_len a n) ≡ 0
count-below k a zero lt = refl
count-below k a (suc n) lt = count-other k a (range_with_len (a + 1) n) (ne_eqb a k (λ same. omega (arith, same, lt))) ∙ count-below k (a + 1) n (omega arith)

-- the first of a range stands in it once
count-first : (k a n : ℕ) → (a == k) ≡ true → count_of k (range_with_len a (suc n)) ≡ 1
count-first k a n is =
    let same : a ≡ k = eqb-true a k is in
    count-same k a (range_with_len (a + 1) n) is ∙ ap (λ m. 1 + m) (count-below k (a + 1) n (omega arith))

-- each number of a range stands in it once
pub count-range : (k a n : ℕ) → a ≤ k → k < a + n → count_of k (range_with_len a n) ≡ 1
count-range k a zero from to = absurd (omega arith)
count-range k a (suc n) from to = step (a == k) refl (λ above. count-range k (a + 1) n above (omega arith))
  where
    step : (c : Bool) → (a == k) ≡ c → (a + 1 ≤ k → count_of k (range_with_len (a + 1) n) ≡ 1) → count_of k (range_with_len a (suc n)) ≡ 1
    step true is rest = count-first k a n is
    step false off rest = count-other k a (range_with_len (a + 1) n) off ∙ rest (let apart : a ≡ k → ⊥ = eqb-false a k off in omega arith)

pub once-range : (k a n : ℕ) → AtMostOnce k (range_with_len a n)
once-range k a zero = refl
once-range k a (suc n) = step (a == k) refl (once-range k (a + 1) n)
  where
    step : (c : Bool) → (a == k) ≡ c → AtMostOnce k (range_with_len (a + 1) n) → AtMostOnce k (range_with_len a (suc n))
    step true is rest = count-first k a n is ∙ sym (ap (λ c. cond {A = ℕ} (c || is_member k (range_with_len (a + 1) n)) 1 0) is)
    step false off rest = count-other k a (range_with_len (a + 1) n) off ∙ rest ∙ sym (ap (λ c. cond {A = ℕ} (c || is_member k (range_with_len (a + 1) n)) 1 0) off)

none-left : (c : Bool) → cond {A = ℕ} c 0 0 ≡ 0
none-left true = refl
none-left false = refl

count-filter : (t : ℕ → Bool) (k : ℕ) (xs : List ℕ) → count_of k (filter t xs) ≡ cond (t k) (count_of k xs) 0
count-filter t k [] = sym (none-left (t k))
count-filter t k (x ∷ xs) = step (t x) (x == k) refl refl (count-filter t k xs)
  where
    step : (c b : Bool) → t x ≡ c → (x == k) ≡ b → count_of k (filter t xs) ≡ cond (t k) (count_of k xs) 0
        → count_of k (cond (t x) (x ∷ filter t xs) (filter t xs)) ≡ cond (t k) (count_of k (x ∷ xs)) 0
    step true true takes is rest =
        let kept : t k ≡ true = ap t (sym (eqb-true x k is)) ∙ takes in
        rw (takes, kept) (count-same k x (filter t xs) is ∙ ap (λ n. 1 + n) (rest ∙ ap (λ c. cond c (count_of k xs) 0) kept) ∙ sym (count-same k x xs is))
    step false true takes is rest =
        let gone : t k ≡ false = ap t (sym (eqb-true x k is)) ∙ takes in
        rw (takes, gone) (rest ∙ ap (λ c. cond c (count_of k xs) 0) gone)
    step true false takes off rest = rw takes (count-other k x (filter t xs) off ∙ rest ∙ ap (λ n. cond (t k) n 0) (sym (count-other k x xs off)))
    step false false takes off rest = rw takes (rest ∙ ap (λ n. cond (t k) n 0) (sym (count-other k x xs off)))

-- a number that stands in a list at most once stands so among those that pass a test
pub once-filter : (t : ℕ → Bool) (k : ℕ) (xs : List ℕ) → AtMostOnce k xs → AtMostOnce k (filter t xs)
once-filter t k xs once =
    count-filter t k xs ∙ ap (λ n. cond (t k) n 0) once ∙ both (t k) (is_member k xs) ∙ sym (ap (λ c. cond {A = ℕ} c 1 0) (is_member-filter t k xs))
  where
    both : (c m : Bool) → cond {A = ℕ} c (cond m 1 0) 0 ≡ cond (m && c) 1 0
    both true true = refl
    both true false = refl
    both false true = refl
    both false false = refl
