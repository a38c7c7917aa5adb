-- Sets of meters as lists: what a test picks from a range, and what it leaves.
use Rattle.std.proofs.Common.{◌≡◌, ℕ, zero, suc, ◌+◌, ◌<◌, ◌≤◌, Bool, true, false, not, ◌&&◌, ◌||◌, cond, ltb, List, [], ◌∷◌, length, refl, sym, ap, ◌∙◌, ⊎_elim, arith, ◌==◌, slice_get, None, is_some, get_or, subst}
use Rattle.std.specs.List.{filter, range_with_len, sum_by, All}
use Rattle.std.specs.List.Sorted.{IsStrictlyIncreasing}
use Rattle.std.proofs.lemmas.Bool.{false≢true, cases_Bool, cases_lt, cond-true, cond-false, or_parts, cases_eq, eq-eqb, ne_eqb, lt-ltb, le-ltb}
use Rattle.std.proofs.lemmas.List.Sums.{sum_by-cons}
use Rattle.std.proofs.lemmas.List.Elements.{filter_agree, All-filter}
use Rattle.std.proofs.lemmas.List.FromFn.{length-range_with_len, get_or-range_with_len}
use Rattle.std.proofs.lemmas.List.Kept.{IsStrictlyIncreasing-filter}
use Rattle.missing_round.specs.Sets.{IsSet, is_member, joined, less, beyond}

-- tests that agree on a range keep the same members
pub same_picked : (p q : ℕ → Bool) (a n : ℕ) → ((i : ℕ) → a ≤ i → i < a + n → p i ≡ q i) → filter p (range_with_len a n) ≡ filter q (range_with_len a n)
same_picked p q a zero h = refl
same_picked p q a (suc n) h =
    let e : p a ≡ q a = h a (omega arith) (omega arith) in
    let rest : filter p (range_with_len (a + 1) n) ≡ filter q (range_with_len (a + 1) n) = same_picked p q (a + 1) n (λ i l u. h i (omega arith) (omega arith)) in
    λ k. cond (e k) (a ∷ rest k) (rest k)

member_cond : (b : Bool) (i a : ℕ) (xs : List ℕ) → is_member i (cond b (a ∷ xs) xs) ≡ ((b && (a == i)) || is_member i xs)
member_cond true i a xs = refl
member_cond false i a xs = refl

is_member-below : (p : ℕ → Bool) (a n i : ℕ) → i < a → is_member i (filter p (range_with_len a n)) ≡ false
is_member-below p a zero i h = refl
is_member-below p a (suc n) i h =
    member_cond (p a) i a (filter p (range_with_len (a + 1) n))
    ∙ grind (arith, ne_eqb a i (omega arith), is_member-below p (a + 1) n i (omega arith))

-- a member is what passes
pub is_member-picked : (p : ℕ → Bool) (a n i : ℕ) → a ≤ i → i < a + n → is_member i (filter p (range_with_len a n)) ≡ p i
is_member-picked p a zero i l u = absurd (omega arith)
is_member-picked p a (suc n) i l u =
    member_cond (p a) i a (filter p (range_with_len (a + 1) n))
    ∙ ⊎_elim
    (λ e. grind (arith, eq-eqb a i e, ap p e, is_member-below p (a + 1) n i (omega arith)))
    (λ ne. grind (arith, ne_eqb a i ne, is_member-picked p (a + 1) n i (omega arith) (omega arith)))
    (cases_eq a i)

joined_cond : (b : Bool) (i a : ℕ) (xs : List ℕ) → joined i (cond b (a ∷ xs) xs) ≡ cond b (cond (ltb i a) (i ∷ a ∷ xs) (cond (a == i) (a ∷ xs) (a ∷ joined i xs))) (joined i xs)
joined_cond true i a xs = refl
joined_cond false i a xs = refl

joined-below : (p : ℕ → Bool) (a n i : ℕ) → i < a → joined i (filter p (range_with_len a n)) ≡ i ∷ filter p (range_with_len a n)
joined-below p a zero i h = refl
joined-below p a (suc n) i h =
    joined_cond (p a) i a (filter p (range_with_len (a + 1) n))
    ∙ grind (arith, lt-ltb i a h, joined-below p (a + 1) n i (omega arith))

-- the set with i is picked by the test or i
pub joined-picked : (p q : ℕ → Bool) (a n i : ℕ) → a ≤ i → i < a + n → ((j : ℕ) → a ≤ j → j < a + n → q j ≡ ((j == i) || p j))
    → joined i (filter p (range_with_len a n)) ≡ filter q (range_with_len a n)
joined-picked p q a zero i l u h = absurd (omega arith)
joined-picked p q a (suc n) i l u h =
    let here : q a ≡ ((a == i) || p a) = h a (omega arith) (omega arith) in
    joined_cond (p a) i a (filter p (range_with_len (a + 1) n))
    ∙ ⊎_elim
    (λ e.
    let rest : filter p (range_with_len (a + 1) n) ≡ filter q (range_with_len (a + 1) n) = same_picked p q (a + 1) n (λ j lo hi. sym (h j (omega arith) (omega arith) ∙ grind (arith, ne_eqb j i (omega arith)))) in
    grind (arith, eq-eqb a i e, here, rest, le-ltb i a (omega arith), joined-below p (a + 1) n i (omega arith)))
    (λ ne. grind (arith, ne_eqb a i ne, here, le-ltb i a (omega arith), joined-picked p q (a + 1) n i (omega arith) (omega arith) (λ j lo hi. h j (omega arith) (omega arith))))
    (cases_eq a i)

-- the first member and the rest
pub first-picked : (p q : ℕ → Bool) (a n i : ℕ) → a ≤ i → i < a + n → p i ≡ true → ((j : ℕ) → a ≤ j → j < i → p j ≡ false) → ((j : ℕ) → a ≤ j → j < a + n → q j ≡ (p j && not (j == i)))
    → filter p (range_with_len a n) ≡ i ∷ filter q (range_with_len a n)
first-picked p q a zero i l u at below h = absurd (omega arith)
first-picked p q a (suc n) i l u at below h =
    let here : q a ≡ (p a && not (a == i)) = h a (omega arith) (omega arith) in
    ⊎_elim
    (λ e.
    let rest : filter p (range_with_len (a + 1) n) ≡ filter q (range_with_len (a + 1) n) = same_picked p q (a + 1) n (λ j lo hi. sym (h j (omega arith) (omega arith) ∙ grind (arith, ne_eqb j i (omega arith)))) in
    grind (arith, eq-eqb a i e, ap p e, at, here, rest))
    (λ ne. grind (arith, ne_eqb a i ne, here, below a (omega arith) (omega arith), first-picked p q (a + 1) n i (omega arith) (omega arith) at (λ j lo hi. below j (omega arith) hi) (λ j lo hi. h j (omega arith) (omega arith))))
    (cases_eq a i)

-- nothing passes
pub none-picked : (p : ℕ → Bool) (a n : ℕ) → ((i : ℕ) → a ≤ i → i < a + n → p i ≡ false) → filter p (range_with_len a n) ≡ []
none-picked p a zero h = refl
none-picked p a (suc n) h = grind (arith, h a (omega arith) (omega arith), none-picked p (a + 1) n (λ i l u. h i (omega arith) (omega arith)))

-- a filter of what was picked
pub filter-picked : (p q : ℕ → Bool) (a n : ℕ) → filter q (filter p (range_with_len a n)) ≡ filter (λ i. p i && q i) (range_with_len a n)
filter-picked p q a zero = refl
filter-picked p q a (suc n) = filter_cond q (p a) a (filter p (range_with_len (a + 1) n)) ∙ grind (arith, filter-picked p q (a + 1) n)
  where
    filter_cond : (q : ℕ → Bool) (b : Bool) (a : ℕ) (xs : List ℕ) → filter q (cond b (a ∷ xs) xs) ≡ cond (b && q a) (a ∷ filter q xs) (filter q xs)
    filter_cond q true a xs = refl
    filter_cond q false a xs = refl

-- how many pass, in two parts
pub length_cond : (b : Bool) (a : ℕ) (xs : List ℕ) → length (cond b (a ∷ xs) xs) ≡ cond {A = ℕ} b 1 0 + length xs
length_cond true a xs = omega arith
length_cond false a xs = omega arith

pub length-picked-more : (p : ℕ → Bool) (a m n k : ℕ) → m + n ≡ k → length (filter p (range_with_len a k)) ≡ length (filter p (range_with_len a m)) + length (filter p (range_with_len (a + m) n))
length-picked-more p a zero n k h =
    let e : k ≡ n = omega arith in
    let z : a ≡ a + 0 = omega arith in
    let zero-plus : (x : ℕ) → x ≡ 0 + x = λ x. omega arith in
    ap (λ x. length (filter p (range_with_len a x))) e ∙ ap (λ x. length (filter p (range_with_len x n))) z ∙ zero-plus _
length-picked-more p a (suc m) n zero h = absurd (omega arith)
length-picked-more p a (suc m) n (suc k) h =
    let z : a + 1 + m ≡ a + suc m = omega arith in
    let e : length (filter p (range_with_len (a + 1) k)) ≡ length (filter p (range_with_len (a + 1) m)) + length (filter p (range_with_len (a + suc m) n)) =
    length-picked-more p (a + 1) m n k (omega arith) ∙ ap (λ x. length (filter p (range_with_len (a + 1) m)) + length (filter p (range_with_len x n))) z in
    length_cond (p a) a (filter p (range_with_len (a + 1) k)) ∙ omega (arith, e, length_cond (p a) a (filter p (range_with_len (a + 1) m)))

is_member-range : (a n i : ℕ) → a ≤ i → is_member i (range_with_len a n) ≡ ltb i (a + n)
is_member-range a zero i l = sym (le-ltb i (a + 0) (omega arith))
is_member-range a (suc n) i l = ⊎_elim
    (λ e. grind (arith, eq-eqb a i e, lt-ltb i (a + suc n) (omega arith)))
    (λ ne. let z : a + 1 + n ≡ a + suc n = omega arith in grind (arith, ne_eqb a i ne, is_member-range (a + 1) n i (omega arith) ∙ ap (ltb i) z))
    (cases_eq a i)

-- the numbers below a + n of a longer range
pub below-picked : (a n m : ℕ) → n ≤ m → filter (λ j. ltb j (a + n)) (range_with_len a m) ≡ range_with_len a n
below-picked a zero m h = none-picked (λ j. ltb j (a + 0)) a m (λ i l u. le-ltb i (a + 0) (omega arith))
below-picked a (suc n) zero h = absurd (omega arith)
below-picked a (suc n) (suc m) h =
    let e : a + 1 + n ≡ a + suc n = omega arith in
    let rest : filter (λ j. ltb j (a + suc n)) (range_with_len (a + 1) m) ≡ range_with_len (a + 1) n = ap (λ x. filter (λ j. ltb j x) (range_with_len (a + 1) m)) (sym e) ∙ below-picked (a + 1) n m (omega arith) in
    grind (arith, lt-ltb a (a + suc n) (omega arith), rest)

pub none-first : (xs : List ℕ) → slice_get xs 0 ≡ None → xs ≡ []
none-first [] h = refl
none-first (x ∷ xs) h = absurd (false≢true (sym (ap is_some h)))

-- the members that are in no group of n
pub less-range : (n : ℕ) (xs : List ℕ) → less xs (range_with_len 0 n) ≡ beyond n xs
less-range n xs = filter_agree _ _ (λ j. ap not (is_member-range 0 n j (omega arith) ∙ (let z : 0 + n ≡ n = omega arith in ap (ltb j) z))) xs

-- what one test picks without what another picks
pub less-picked : (p q : ℕ → Bool) (a n : ℕ) → less (filter p (range_with_len a n)) (filter q (range_with_len a n)) ≡ filter (λ i. p i && not (q i)) (range_with_len a n)
less-picked p q a n =
    filter-picked p (λ j. not (is_member j (filter q (range_with_len a n)))) a n
    ∙ same_picked (λ i. p i && not (is_member i (filter q (range_with_len a n)))) (λ i. p i && not (q i)) a n (λ i l u. ap (λ b. p i && not b) (is_member-picked q a n i l u))

pub sum_by-joined : (i : ℕ) (xs : List ℕ) (f : ℕ → ℕ) → is_member i xs ≡ false → sum_by f (joined i xs) ≡ f i + sum_by f xs
sum_by-joined i [] f h = sum_by-cons f i []
sum_by-joined i (x ∷ xs) f h =
    let p = or_parts (x == i) (is_member i xs) h in
    ⊎_elim
    (λ lt. ap (sum_by f) (cond-true (ltb i x) (i ∷ x ∷ xs) _ lt) ∙ sum_by-cons f i (x ∷ xs))
    (λ ge. ap (sum_by f) (cond-false (ltb i x) (i ∷ x ∷ xs) _ ge ∙ cond-false (x == i) (x ∷ xs) (x ∷ joined i xs) p.0) ∙ omega (arith, sum_by-cons f x (joined i xs), sum_by-cons f x xs, sum_by-joined i xs f p.1))
    (cases_Bool (ltb i x))

-- ---- what a test passes of any list
pub is_member-filter : (p : ℕ → Bool) (i : ℕ) (xs : List ℕ) → is_member i (filter p xs) ≡ (is_member i xs && p i)
is_member-filter p i [] = refl
is_member-filter p i (x ∷ xs) = member_cond (p x) i x (filter p xs) ∙ ⊎_elim
    (λ e. grind (arith, eq-eqb x i e, ap p e, is_member-filter p i xs))
    (λ ne. grind (arith, ne_eqb x i ne, is_member-filter p i xs))
    (cases_eq x i)

-- tests that agree on the members keep the same ones
pub same_filter : (p q : ℕ → Bool) (xs : List ℕ) → ((i : ℕ) → is_member i xs ≡ true → p i ≡ q i) → filter p xs ≡ filter q xs
same_filter p q [] h = refl
same_filter p q (x ∷ xs) h =
    let here : p x ≡ q x = h x (grind (arith, eq-eqb x x refl)) in
    let rest : filter p xs ≡ filter q xs = same_filter p q xs (λ i m. h i (or_right (x == i) (is_member i xs) m)) in
    λ k. cond (here k) (x ∷ rest k) (rest k)
  where
    or_right : (a b : Bool) → b ≡ true → (a || b) ≡ true
    or_right true b h = refl
    or_right false b h = h

-- what is left where a test took its members
pub less-filter : (p : ℕ → Bool) (xs : List ℕ) → less xs (filter p xs) ≡ filter (λ i. not (p i)) xs
less-filter p xs = same_filter (λ i. not (is_member i (filter p xs))) (λ i. not (p i)) xs
    (λ i m. ap not (is_member-filter p i xs ∙ ap (λ b. b && p i) m))

-- ---- lists that ascend

-- the members ascend, each at least a and below b
Rises : ℕ → ℕ → List ℕ → Type 0
Rises a b [] = Unit {0}
Rises a b (x ∷ xs) = (a ≤ x) × (x < b) × Rises (x + 1) b xs

rises-lower : (c a b : ℕ) (xs : List ℕ) → c ≤ a → Rises a b xs → Rises c b xs
unfolding Rises
rises-lower c a b [] l h = tt
rises-lower c a b (x ∷ xs) l h = (omega (arith, h.0), h.1, h.2)

is_member-rises : (a b i : ℕ) (xs : List ℕ) → i < a → Rises a b xs → is_member i xs ≡ false
unfolding Rises
is_member-rises a b i [] l h = refl
is_member-rises a b i (x ∷ xs) l h = grind (arith, ne_eqb x i (omega (arith, h.0)), is_member-rises (x + 1) b i xs (omega (arith, h.0)) h.2)

-- a range's members of a list that ascends within it are the list
picked-rises : (a n : ℕ) (xs : List ℕ) → Rises a (a + n) xs → filter (λ i. is_member i xs) (range_with_len a n) ≡ xs
unfolding Rises
picked-rises a n [] h = none-picked (λ i. is_member i []) a n (λ i l u. refl)
picked-rises a zero (x ∷ xs) h = absurd (omega (arith, h.0, h.1))
picked-rises a (suc n) (x ∷ xs) h = ⊎_elim
    (λ e.
    let z : a + suc n ≡ a + 1 + n = omega arith in
    let next : x + 1 ≡ a + 1 = omega (arith, e) in
    let others : filter (λ i. is_member i (x ∷ xs)) (range_with_len (a + 1) n) ≡ filter (λ i. is_member i xs) (range_with_len (a + 1) n) = same_picked _ _ (a + 1) n (λ i l u. grind (arith, ne_eqb x i (omega (arith, e)))) in
    let rest : filter (λ i. is_member i xs) (range_with_len (a + 1) n) ≡ xs = picked-rises (a + 1) n xs (subst (λ b. Rises (a + 1) b xs) z (subst (λ c. Rises c (a + suc n) xs) next h.2)) in
    let some : is_member a (x ∷ xs) ≡ true = grind (arith, eq-eqb x a e) in
    ap (λ b. cond b (a ∷ filter (λ i. is_member i (x ∷ xs)) (range_with_len (a + 1) n)) (filter (λ i. is_member i (x ∷ xs)) (range_with_len (a + 1) n))) some
    ∙ (λ k. sym e k ∷ (others ∙ rest) k))
    (λ ne.
    let z : a + suc n ≡ a + 1 + n = omega arith in
    let rest : filter (λ i. is_member i (x ∷ xs)) (range_with_len (a + 1) n) ≡ x ∷ xs = picked-rises (a + 1) n (x ∷ xs) (subst (λ b. Rises (a + 1) b (x ∷ xs)) z (omega (arith, ne, h.0), h.1, h.2)) in
    let none : is_member a (x ∷ xs) ≡ false = is_member-rises x (a + suc n) a (x ∷ xs) (omega (arith, ne, h.0)) (omega arith, h.1, h.2) in
    ap (λ b. cond b (a ∷ filter (λ i. is_member i (x ∷ xs)) (range_with_len (a + 1) n)) (filter (λ i. is_member i (x ∷ xs)) (range_with_len (a + 1) n))) none ∙ rest)
    (cases_eq x a)

rises-from_increasing : (a b : ℕ) (xs : List ℕ) → IsStrictlyIncreasing xs → All (λ i. i < b) xs → (0 < length xs → a ≤ get_or xs 0 0) → Rises a b xs
unfolding Rises
rises-from_increasing a b [] h s l = tt
rises-from_increasing a b (x ∷ xs) h s l = (
  l (omega arith),
  s 0 0 (omega arith),
  rises-from_increasing (x + 1) b xs
      (λ k u. let e : suc k + 1 ≡ suc (k + 1) = omega arith in subst (λ n. get_or xs k 0 < get_or (x ∷ xs) n 0) e (h (suc k) (omega arith)))
      (λ k d u. s (suc k) d (omega arith))
      (λ u. let first : x < get_or xs 0 0 = h 0 (omega arith) in omega (arith, first)),
)

-- a set is its members among the meters 0 to 255
pub picked-set : (xs : List ℕ) → IsSet xs → filter (λ i. is_member i xs) (range_with_len 0 256) ≡ xs
picked-set xs h = picked-rises 0 256 xs (rises-from_increasing 0 256 xs h.ascending h.small (λ u. omega arith))

increasing-range : (a n : ℕ) → IsStrictlyIncreasing (range_with_len a n)
increasing-range a n k h =
    let l : length (range_with_len a n) ≡ n = length-range_with_len a n in
    omega (arith, l, get_or-range_with_len a n k 0 (omega (arith, l)), get_or-range_with_len a n (k + 1) 0 (omega (arith, l)))

-- what a test picks of a range is a set
pub set-picked : (p : ℕ → Bool) (a n : ℕ) → a + n ≤ 256 → IsSet (filter p (range_with_len a n))
set-picked p a n h =
    let l : length (range_with_len a n) ≡ n = length-range_with_len a n in
    record {
      ascending = IsStrictlyIncreasing-filter p (range_with_len a n) (increasing-range a n);
      small = All-filter p (λ i. i < 256) (range_with_len a n) (λ k d u. omega (arith, h, l, get_or-range_with_len a n k d (omega (arith, l))));
    }

-- ---- sets that are joined

pub is_member-joined : (j i : ℕ) (xs : List ℕ) → is_member j (joined i xs) ≡ ((i == j) || is_member j xs)
is_member-joined j i [] = refl
is_member-joined j i (x ∷ xs) = ⊎_elim
    (λ lt. ap (is_member j) (cond-true (ltb i x) (i ∷ x ∷ xs) _ lt))
    (λ ge. ap (is_member j) (cond-false (ltb i x) (i ∷ x ∷ xs) _ ge) ∙ ⊎_elim
    (λ same. ap (is_member j) (cond-true (x == i) (x ∷ xs) _ (eq-eqb x i same)) ∙ ap (λ y. is_member j (y ∷ xs)) same ∙ again (i == j) (is_member j xs) ∙ ap (λ y. (i == j) || is_member j (y ∷ xs)) (sym same))
    (λ ne. ap (is_member j) (cond-false (x == i) (x ∷ xs) _ (ne_eqb x i ne)) ∙ ap (λ b. (x == j) || b) (is_member-joined j i xs) ∙ swapped (x == j) (i == j) (is_member j xs))
    (cases_eq x i))
    (cases_Bool (ltb i x))
  where
    again : (a b : Bool) → (a || b) ≡ (a || (a || b))
    again true b = refl
    again false b = refl

    swapped : (a b c : Bool) → (a || (b || c)) ≡ (b || (a || c))
    swapped true true c = refl
    swapped true false c = refl
    swapped false b c = refl

joined-rises : (a b i : ℕ) (xs : List ℕ) → i < a → Rises a b xs → joined i xs ≡ i ∷ xs
unfolding Rises
joined-rises a b i [] l h = refl
joined-rises a b i (x ∷ xs) l h = cond-true (ltb i x) (i ∷ x ∷ xs) _ (lt-ltb i x (omega (arith, l, h.0)))

filter-rises : (p : ℕ → Bool) (a b : ℕ) (xs : List ℕ) → Rises a b xs → Rises a b (filter p xs)
unfolding Rises
filter-rises p a b [] h = tt
filter-rises p a b (x ∷ xs) h = ⊎_elim
    (λ is. subst (Rises a b) (sym (cond-true (p x) (x ∷ filter p xs) (filter p xs) is)) (h.0, h.1, filter-rises p (x + 1) b xs h.2))
    (λ isnt. subst (Rises a b) (sym (cond-false (p x) (x ∷ filter p xs) (filter p xs) isnt)) (rises-lower a (x + 1) b (filter p xs) (omega (arith, h.0)) (filter-rises p (x + 1) b xs h.2)))
    (cases_Bool (p x))

joined-filter_rises : (p : ℕ → Bool) (a b i : ℕ) (xs : List ℕ) → Rises a b xs → is_member i xs ≡ true → joined i (filter p xs) ≡ filter (λ j. (i == j) || p j) xs
unfolding Rises
joined-filter_rises p a b i [] h m = absurd (false≢true m)
joined-filter_rises p a b i (x ∷ xs) h m = joined_cond (p x) i x (filter p xs) ∙ ⊎_elim
    (λ same.
    let others : filter p xs ≡ filter (λ j. (i == j) || p j) xs = same_filter p (λ j. (i == j) || p j) xs
    (λ j k. ap (λ c. c || p j) (sym (ne_eqb i j (λ e. false≢true (sym (is_member-rises (x + 1) b j xs (omega (arith, same, e)) h.2) ∙ k))))) in
    let rest : joined i (filter p xs) ≡ i ∷ filter p xs = joined-rises (x + 1) b i (filter p xs) (omega (arith, same)) (filter-rises p (x + 1) b xs h.2) in
    grind (arith, eq-eqb x i same, eq-eqb i x (sym same), le-ltb i x (omega (arith, same)), rest, others, same))
    (λ ne.
    let within : is_member i xs ≡ true = sym (ap (λ c. c || is_member i xs) (ne_eqb x i ne)) ∙ m in
    let above : x < i = ⊎_elim (λ lt. lt) (λ ge. absurd (false≢true (sym (is_member-rises (x + 1) b i xs (omega (arith, ge)) h.2) ∙ within))) (cases_lt x i) in
    grind (arith, ne_eqb x i ne, ne_eqb i x (omega (arith, above)), le-ltb i x (omega (arith, above)), joined-filter_rises p (x + 1) b i xs h.2 within))
    (cases_eq x i)

-- what a test takes of a set, joined by one more member
pub joined-filter : (p : ℕ → Bool) (i : ℕ) (xs : List ℕ) → IsSet xs → is_member i xs ≡ true → joined i (filter p xs) ≡ filter (λ j. (i == j) || p j) xs
joined-filter p i xs h = joined-filter_rises p 0 256 i xs (rises-from_increasing 0 256 xs h.ascending h.small (λ u. omega arith))
