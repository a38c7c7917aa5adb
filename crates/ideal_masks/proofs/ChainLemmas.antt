-- How the pair words of one lower meter move along a chain.
use Rattle.std.proofs.Common.{◌≡◌, ℕ, zero, suc, ◌+◌, ◌-◌, ◌<◌, ◌≤◌, Bool, true, false, cond, not, ◌||◌, List, [], ◌∷◌, ◌++◌, length, take, refl, sym, ap, ◌∙◌, subst, add-zero, zero-add, ⊎_elim, arith}
use Rattle.std.specs.Prelude.{◌==◌, nat_lt, if◌then◌else◌, Some, None, slice_get}
use Rattle.std.specs.List.{sum_by, filter, range_with_len}
use Rattle.std.proofs.lemmas.Bool.{false≢true, cases_eq, cases_lt, eq-eqb, ne_eqb, lt-ltb, le-ltb, and_from}
use Rattle.std.proofs.lemmas.List.Sums.{sum_by-cons, sum_by-append}
use Rattle.missing_round.specs.Sets.{is_member, without}
use Rattle.missing_round.specs.Words.{word, minus}
use Rattle.ideal_masks.specs.Offsets.{link, pair_move}
use Rattle.ideal_masks.specs.Chains.{RisesFrom, AreBelow, IsRow, next_of, link_to, are_below}

-- ---- lists that ascend

rises-lower : (a b : ℕ) (xs : List ℕ) → a ≤ b → RisesFrom b xs → RisesFrom a xs
rises-lower a b [] le h = tt
rises-lower a b (x ∷ xs) le h = (let first = h.0 in omega arith, h.1)

pub rises-range : (a n : ℕ) → RisesFrom a (range_with_len a n)
rises-range a zero = tt
rises-range a (suc n) = (omega arith, rises-range (a + 1) n)

pub rises-filter : (p : ℕ → Bool) (a : ℕ) (xs : List ℕ) → RisesFrom a xs → RisesFrom a (filter p xs)
rises-filter p a [] h = tt
rises-filter p a (x ∷ xs) h = step (p x) (rises-filter p (x + 1) xs h.1)
  where
    step : (c : Bool) → RisesFrom (x + 1) (filter p xs) → RisesFrom a (cond c (x ∷ filter p xs) (filter p xs))
    step true rest = (h.0, rest)
    step false rest = rises-lower a (x + 1) (filter p xs) (let first = h.0 in omega arith) rest

pub below-range : (a n m : ℕ) → a + n ≤ m → AreBelow m (range_with_len a n)
below-range a zero m le = tt
below-range a (suc n) m le = (omega arith, below-range (a + 1) n m (omega arith))

pub below-filter : (p : ℕ → Bool) (n : ℕ) (xs : List ℕ) → AreBelow n xs → AreBelow n (filter p xs)
below-filter p n [] h = tt
below-filter p n (x ∷ xs) h = step (p x) (below-filter p n xs h.1)
  where
    step : (c : Bool) → AreBelow n (filter p xs) → AreBelow n (cond c (x ∷ filter p xs) (filter p xs))
    step true rest = (h.0, rest)
    step false rest = rest

pub below-tests : (n : ℕ) (xs : List ℕ) → AreBelow n xs → are_below n xs ≡ true
below-tests n [] h = refl
below-tests n (x ∷ xs) h = and_from (nat_lt x n) (are_below n xs) (lt-ltb x n h.0) (below-tests n xs h.1)

pub below-more : (m n : ℕ) (xs : List ℕ) → m ≤ n → AreBelow m xs → AreBelow n xs
below-more m n [] le h = tt
below-more m n (x ∷ xs) le h = (let first = h.0 in omega arith, below-more m n xs le h.1)

pub below-push : (n : ℕ) (xs : List ℕ) (x : ℕ) → AreBelow n xs → x < n → AreBelow n (xs ++ x ∷ [])
below-push n [] x h lt = (lt, tt)
below-push n (y ∷ ys) x h lt = (h.0, below-push n ys x h.1 lt)

pub below-last : (n : ℕ) (xs ys : List ℕ) → AreBelow n (xs ++ ys) → AreBelow n ys
below-last n [] ys h = h
below-last n (x ∷ xs) ys h = below-last n xs ys h.1

pub no_member-below : (n : ℕ) (xs : List ℕ) → AreBelow n xs → is_member n xs ≡ false
no_member-below n [] h = refl
no_member-below n (x ∷ xs) h = let first = h.0 in grind (arith, ne_eqb x n (omega arith), no_member-below n xs h.1)

no_member-above : (n a : ℕ) (xs : List ℕ) → n < a → RisesFrom a xs → is_member n xs ≡ false
no_member-above n a [] lt h = refl
no_member-above n a (x ∷ xs) lt h = let first = h.0 in grind (arith, ne_eqb x n (omega arith), no_member-above n (x + 1) xs (omega arith) h.1)

pub is_member-append : (i : ℕ) (xs ys : List ℕ) → is_member i xs ≡ false → is_member i (xs ++ ys) ≡ is_member i ys
is_member-append i [] ys out = refl
is_member-append i (x ∷ xs) ys out = grind (arith, out, is_member-append i xs ys)

without-above : (n a : ℕ) (xs : List ℕ) → n < a → RisesFrom a xs → without n xs ≡ xs
without-above n a [] lt h = refl
without-above n a (x ∷ xs) lt h =
    let first = h.0 in
    ap (λ c. cond (not c) (x ∷ without n xs) (without n xs)) (ne_eqb x n (omega arith)) ∙ ap (λ l. x ∷ l) (without-above n (x + 1) xs (omega arith) h.1)

-- the list begins with its member that is least
pub record Begins (i : ℕ) (xs : List ℕ) : Type 0 where
  pub is : xs ≡ i ∷ without i xs
  pub above : RisesFrom (i + 1) (without i xs)

pub begins : (i : ℕ) (xs : List ℕ) → RisesFrom i xs → is_member i xs ≡ true → Begins i xs
begins i [] h m = absurd (false≢true m)
begins i (x ∷ xs) h m =
    ⊎_elim
    (λ (same : x ≡ i).
    let rest : without i xs ≡ xs = without-above i (x + 1) xs (omega arith) h.1 in
    let gone : without i (x ∷ xs) ≡ xs = ap (λ c. cond (not c) (x ∷ without i xs) (without i xs)) (eq-eqb x i same) ∙ rest in
    record {
      is = ap (λ z. z ∷ xs) same ∙ ap (λ l. i ∷ l) (sym gone);
      above = rw gone (subst (λ z. RisesFrom (z + 1) xs) same h.1);
    })
    (λ ne. let first = h.0 in absurd (false≢true (sym (grind (arith, ne_eqb x i ne, no_member-above i (x + 1) xs (omega arith) h.1)) ∙ m)))
    (cases_eq x i)

pub rises-past : (i : ℕ) (xs : List ℕ) → RisesFrom i xs → is_member i xs ≡ false → RisesFrom (i + 1) xs
rises-past i [] h m = tt
rises-past i (x ∷ xs) h m =
    ⊎_elim
    (λ (same : x ≡ i). absurd (false≢true (sym m ∙ ap (λ b. b || is_member i xs) (eq-eqb x i same))))
    (λ ne. (let first = h.0 in omega arith, h.1))
    (cases_eq x i)

-- ---- links

-- no number of the list is i
abbrev pub Lacks : ℕ → List ℕ → Type 0
Lacks i [] = Unit {0}
Lacks i (x ∷ xs) = (x ≡ i → ⊥) × Lacks i xs

lacks-above : (i a : ℕ) (xs : List ℕ) → i < a → RisesFrom a xs → Lacks i xs
lacks-above i a [] lt h = tt
lacks-above i a (x ∷ xs) lt h = let first = h.0 in (λ e. omega arith, lacks-above i (x + 1) xs (omega arith) h.1)

lacks-append : (i : ℕ) (xs ys : List ℕ) → Lacks i xs → Lacks i ys → Lacks i (xs ++ ys)
lacks-append i [] ys h k = k
lacks-append i (x ∷ xs) ys h k = (h.0, lacks-append i xs ys h.1 k)

lacks-below : (i : ℕ) (xs : List ℕ) → AreBelow i xs → Lacks i xs
lacks-below i [] h = tt
lacks-below i (x ∷ xs) h = let first = h.0 in (λ e. omega arith, lacks-below i xs h.1)

link-none : (u v sum i j : ℕ) → (u ≡ i → ⊥) → (v ≡ i → ⊥) → link u v sum i j ≡ 0
link-none u v sum i j a b = grind (arith, ne_eqb u i a, ne_eqb v i b)

link-low : (u v sum i j : ℕ) → u < i → i < j → link u v sum i j ≡ 0
link-low u v sum i j a b = grind (arith, ne_eqb u i (omega arith), ne_eqb u j (omega arith))

link-first : (i v sum j : ℕ) → (v ≡ i → ⊥) → link i v sum i j ≡ (if v == j then sum else 0)
link-first i v sum j ne = grind (arith, eq-eqb i i refl, ne_eqb v i ne)

link-second : (b sum i j : ℕ) → (b ≡ i → ⊥) → link b i sum i j ≡ (if b == j then minus sum else 0)
link-second b sum i j ne = grind (arith, eq-eqb i i refl, ne_eqb b i ne)

-- a meter below both is passed over
pass_one : (d : ℕ → ℕ) (s u : ℕ) (rest : List ℕ) (i j : ℕ) → u < i → i < j → pair_move d s (u ∷ rest) i j ≡ pair_move d (s + d u) rest i j
pass_one d s u [] i j low above = refl
pass_one d s u (v ∷ rest) i j low above = ap (λ z. z + pair_move d (s + d u) (v ∷ rest) i j) (link-low u v (s + d u) i j low above) ∙ zero-add (pair_move d (s + d u) (v ∷ rest) i j)

pass_all : (d : ℕ → ℕ) (s : ℕ) (passed rest : List ℕ) (i j : ℕ) → AreBelow i passed → i < j → pair_move d s (passed ++ rest) i j ≡ pair_move d (s + sum_by d passed) rest i j
pass_all d s [] rest i j low above = ap (λ z. pair_move d z rest i j) (sym (add-zero s))
pass_all d s (u ∷ passed) rest i j low above =
    pass_one d s u (passed ++ rest) i j low.0 above
    ∙ pass_all d (s + d u) passed rest i j low.1 above
    ∙ ap (λ z. pair_move d z rest i j) (omega (arith, sum_by-cons d u passed))

pass_from_start : (d : ℕ → ℕ) (passed rest : List ℕ) (i j : ℕ) → AreBelow i passed → i < j → pair_move d 0 (passed ++ rest) i j ≡ pair_move d (sum_by d passed) rest i j
pass_from_start d passed rest i j low above = pass_all d 0 passed rest i j low above ∙ ap (λ z. pair_move d z rest i j) (zero-add (sum_by d passed))

-- where the lower meter isn't in the chain
none_there : (d : ℕ → ℕ) (s : ℕ) (xs : List ℕ) (i j : ℕ) → Lacks i xs → pair_move d s xs i j ≡ 0
none_there d s [] i j h = refl
none_there d s (u ∷ []) i j h = refl
none_there d s (u ∷ v ∷ rest) i j h = ap (λ z. z + pair_move d (s + d u) (v ∷ rest) i j) (link-none u v (s + d u) i j h.0 h.1.0) ∙ zero-add (pair_move d (s + d u) (v ∷ rest) i j) ∙ none_there d (s + d u) (v ∷ rest) i j h.1

-- where it is the first
first_there : (d : ℕ → ℕ) (s v : ℕ) (rest : List ℕ) (i j : ℕ) → Lacks i (v ∷ rest) → pair_move d s (i ∷ v ∷ rest) i j ≡ (if v == j then s + d i else 0)
first_there d s v rest i j h =
    ap (λ z. z + pair_move d (s + d i) (v ∷ rest) i j) (link-first i v (s + d i) j h.0)
    ∙ ap (λ z. (if v == j then s + d i else 0) + z) (none_there d (s + d i) (v ∷ rest) i j h)
    ∙ add-zero (if v == j then s + d i else 0)

-- where it is the last, after b
last_there : (d : ℕ → ℕ) (s : ℕ) (xs : List ℕ) (k b i j : ℕ) → Lacks i xs → suc k ≡ length xs → slice_get xs k ≡ Some b
    → pair_move d s (xs ++ i ∷ []) i j ≡ (if b == j then minus (s + sum_by d xs) else 0)
last_there d s [] k b i j h long at = absurd (omega (arith, long))
last_there d s (u ∷ []) zero b i j h long at =
    let same : u ≡ b = cc at in
    add-zero (link u i (s + d u) i j) ∙ link-second u (s + d u) i j h.0
    ∙ ap (λ z. if z == j then minus (s + d u) else 0) same
    ∙ ap (λ z. if b == j then minus z else 0) (omega (arith, sum_by-cons d u []))
last_there d s (u ∷ []) (suc k) b i j h long at = absurd (omega (arith, long))
last_there d s (u ∷ v ∷ rest) zero b i j h long at = absurd (omega (arith, long))
last_there d s (u ∷ v ∷ rest) (suc k) b i j h long at =
    ap (λ z. z + pair_move d (s + d u) (v ∷ rest ++ i ∷ []) i j) (link-none u v (s + d u) i j h.0 h.1.0)
    ∙ zero-add (pair_move d (s + d u) (v ∷ rest ++ i ∷ []) i j)
    ∙ last_there d (s + d u) (v ∷ rest) k b i j h.1 (omega (arith, long)) at
    ∙ ap (λ z. if b == j then minus z else 0) (omega (arith, sum_by-cons d u (v ∷ rest)))

-- ---- rows

one : (c : Bool) (w : ℕ) → c ≡ true → (if c then w else 0) ≡ w
one true w e = refl
one false w e = absurd (false≢true e)

other : (c : Bool) (w : ℕ) → c ≡ false → (if c then w else 0) ≡ 0
other true w e = absurd (false≢true (sym e))
other false w e = refl

-- the row of a meter whose link goes to `high`, where it is higher
link_row : (f : ℕ → ℕ) (low n high w by : ℕ) → high < n → ((j : ℕ) → low < j → f j ≡ (if high == j then w else 0)) → by ≡ word w → IsRow f low n (link_to low by (Some high))
link_row f low n high w by below is same =
    ⊎_elim
    (λ (lt : low < high).
    subst (IsRow f low n) (sym (ap (λ c. cond c (Some (record { high = high; by = by })) None) (lt-ltb low high lt))) (
      lt,
      below,
      same ∙ sym (ap word (is high lt ∙ one (high == high) w (eq-eqb high high refl))),
      λ j above ne. ap word (is j above ∙ other (high == j) w (ne_eqb high j (λ e. ne (sym e)))),
    ))
    (λ (le : high ≤ low).
    subst (IsRow f low n) (sym (ap (λ c. cond c (Some (record { high = high; by = by })) None) (le-ltb low high le)))
    (λ j above. ap word (is j above ∙ other (high == j) w (ne_eqb high j (λ e. omega arith)))))
    (cases_lt low high)

-- the row of a meter that answered: A is ahead of it, E follows
pub row-next : (d : ℕ → ℕ) (passed ahead end : List ℕ) (i n by : ℕ) → AreBelow i passed → RisesFrom (i + 1) ahead → Lacks i (take 1 end) → AreBelow n ahead → AreBelow n end
    → by ≡ word (sum_by d passed + d i)
    → IsRow (pair_move d 0 (passed ++ i ∷ (ahead ++ take 1 end)) i) i n (link_to i by (next_of ahead (slice_get end 0)))
row-next d passed [] [] i n by low above apart ahead_in end_in same = λ j higher. ap word (pass_from_start d passed (i ∷ []) i j low higher)
row-next d passed [] (z ∷ zs) i n by low above apart ahead_in end_in same =
    link_row (pair_move d 0 (passed ++ i ∷ z ∷ []) i) i n z (sum_by d passed + d i) by end_in.0
    (λ j higher. pass_from_start d passed (i ∷ z ∷ []) i j low higher ∙ first_there d (sum_by d passed) z [] i j apart) same
row-next d passed (v ∷ rest) end i n by low above apart ahead_in end_in same =
    link_row (pair_move d 0 (passed ++ i ∷ v ∷ (rest ++ take 1 end)) i) i n v (sum_by d passed + d i) by ahead_in.0
    (λ j higher.
    pass_from_start d passed (i ∷ v ∷ (rest ++ take 1 end)) i j low higher
    ∙ first_there d (sum_by d passed) v (rest ++ take 1 end) i j (lacks-append i (v ∷ rest) (take 1 end) (lacks-above i (i + 1) (v ∷ rest) (omega arith) above) apart)) same

last_in : (xs : List ℕ) (x : ℕ) → (b : ℕ) × (slice_get (x ∷ xs) (length xs) ≡ Some b)
last_in [] x = (x, refl)
last_in (y ∷ ys) x = last_in ys y

below-at : (n : ℕ) (xs : List ℕ) (k b : ℕ) → AreBelow n xs → slice_get xs k ≡ Some b → b < n
below-at n [] k b h at = absurd (cc at)
below-at n (x ∷ xs) zero b h at = let same : x ≡ b = cc at in subst (λ z. z < n) same h.0
below-at n (x ∷ xs) (suc k) b h at = below-at n xs k b h.1 at

-- the row of the silent end
pub row-last : (d : ℕ → ℕ) (passed ahead : List ℕ) (i n by : ℕ) → AreBelow i passed → RisesFrom (i + 1) ahead → AreBelow n ahead → by ≡ word (minus (sum_by d (passed ++ ahead)))
    → IsRow (pair_move d 0 (passed ++ (ahead ++ i ∷ [])) i) i n (link_to i by (slice_get ahead (length ahead - 1)))
row-last d passed [] i n by low above ahead_in same = λ j higher. ap word (pass_from_start d passed (i ∷ []) i j low higher)
row-last d passed (x ∷ xs) i n by low above ahead_in same =
    let found = last_in xs x in
    let at : slice_get (x ∷ xs) (length (x ∷ xs) - 1) ≡ Some found.0 = ap (slice_get (x ∷ xs)) (omega arith) ∙ found.1 in
    subst (λ o. IsRow (pair_move d 0 (passed ++ (x ∷ xs ++ i ∷ [])) i) i n (link_to i by o)) (sym at)
    (link_row (pair_move d 0 (passed ++ (x ∷ xs ++ i ∷ [])) i) i n found.0 (minus (sum_by d passed + sum_by d (x ∷ xs))) by (below-at n (x ∷ xs) (length xs) found.0 ahead_in found.1)
    (λ j higher.
    pass_from_start d passed (x ∷ xs ++ i ∷ []) i j low higher
    ∙ last_there d (sum_by d passed) (x ∷ xs) (length xs) found.0 i j (lacks-above i (i + 1) (x ∷ xs) (omega arith) above) (omega arith) found.1)
    (same ∙ ap (λ z. word (minus z)) (sum_by-append d passed (x ∷ xs))))

-- the row of a meter that isn't in the chain
pub row-none : (d : ℕ → ℕ) (passed ahead end : List ℕ) (i n : ℕ) → AreBelow i passed → RisesFrom (i + 1) ahead → Lacks i (take 1 end)
    → IsRow (pair_move d 0 (passed ++ (ahead ++ take 1 end)) i) i n None
row-none d passed ahead end i n low above apart = λ j higher.
    ap word (none_there d 0 (passed ++ (ahead ++ take 1 end)) i j
    (lacks-append i passed (ahead ++ take 1 end) (lacks-below i passed low) (lacks-append i ahead (take 1 end) (lacks-above i (i + 1) ahead (omega arith) above) apart)))
