-- What the rows of pair words come to at each meter.
use Rattle.std.proofs.Common.{◌≡◌, ℕ, ◌+◌, ◌<◌, true, false, IsTrue, nat_lt, List, [], ◌∷◌, length, get_or, set, sum_by, refl, sym, ap, ◌∙◌, ⊎_elim, arith, subst, AllPairs, suc}
use Rattle.std.specs.List.{list_all}
use Rattle.std.proofs.lemmas.Bool.{false≢true, cases_eq, eq-eqb, ne_eqb, lt-ltb, le-ltb, ltb-true, and_parts}
use Rattle.std.proofs.lemmas.List.{get_or-set_same, get_or-set_other, length-set}
use Rattle.std.proofs.lemmas.List.Sums.{sum_by-cons}
use Rattle.std.proofs.lemmas.List.Kept.{AllPairs-from_increasing}
use Rattle.std.specs.List.Sorted.{IsStrictlyIncreasing}
use Rattle.missing_round.specs.Sets.{is_member, without}
use Rattle.missing_round.specs.Words.{word, minus, share}
use Rattle.group_plan.specs.Plans.{PlanView, is_place}
use Rattle.blind_core.specs.Blind.{are_places}
use Rattle.blind_core.specs.Rows.{ascends, is_higher, taken_from, added_at, with_rows}
use Rattle.blind_core.proofs.PlaceLemmas.{test-member}
use Rattle.blind_core.proofs.ShareLemmas.{share-same}

-- what is above j is not j
below-not_member : (j : ℕ) (js : List ℕ) → IsTrue (list_all (nat_lt j) js) → is_member j js ≡ false
below-not_member j [] above = refl
below-not_member j (i ∷ js) above =
    let here : j < i = ltb-true j i ((and_parts (nat_lt j i) (list_all (nat_lt j) js) above).0) in
    grind (arith, ne_eqb i j (omega (arith, here)), below-not_member j js ((and_parts (nat_lt j i) (list_all (nat_lt j) js) above).1))

-- ---- one row
pub length-taken_from : (row : ℕ → ℕ) (js sums : List ℕ) → length (taken_from row js sums) ≡ length sums
unfolding taken_from
length-taken_from row [] sums = refl
length-taken_from row (j ∷ js) sums = length-taken_from row js (set sums j (word (get_or sums j 0 + minus (row j)))) ∙ length-set sums j _

-- the sums of other meters stay
pub taken_from-other : (row : ℕ → ℕ) (js sums : List ℕ) (k : ℕ) → is_member k js ≡ false → get_or (taken_from row js sums) k 0 ≡ get_or sums k 0
unfolding taken_from
taken_from-other row [] sums k other = refl
taken_from-other row (j ∷ js) sums k other = ⊎_elim
    (λ e. absurd (false≢true (sym other ∙ grind (arith, eq-eqb j k e))))
    (λ ne. taken_from-other row js _ k (grind (arith, ne_eqb j k ne, other)) ∙ get_or-set_other sums j k _ 0 (λ e. ne (sym e)))
    (cases_eq j k)

-- each of the row's words is taken away once
pub taken_from-member : (row : ℕ → ℕ) (js sums : List ℕ) (k : ℕ) → IsTrue (ascends js) → is_member k js ≡ true → k < length sums →
    get_or (taken_from row js sums) k 0 ≡ word (get_or sums k 0 + minus (row k))
unfolding taken_from
taken_from-member row [] sums k rising member inside = absurd (false≢true member)
taken_from-member row (j ∷ js) sums k rising member inside =
    let above : IsTrue (list_all (nat_lt j) js) = (and_parts (list_all (nat_lt j) js) (ascends js) rising).0 in
    let later : IsTrue (ascends js) = (and_parts (list_all (nat_lt j) js) (ascends js) rising).1 in
    let next = set sums j (word (get_or sums j 0 + minus (row j))) in
    ⊎_elim
    (λ e. subst (λ (i : ℕ). get_or (taken_from row js next) i 0 ≡ word (get_or sums i 0 + minus (row i))) e
    (taken_from-other row js next j (below-not_member j js above)
    ∙ get_or-set_same sums j _ 0 (subst (λ (i : ℕ). i < length sums) (sym e) inside)))
    (λ ne. taken_from-member row js next k later (grind (arith, ne_eqb j k ne, member)) (omega (arith, inside, length-set sums j (word (get_or sums j 0 + minus (row j)))))
    ∙ ap (λ n. word (n + minus (row k))) (get_or-set_other sums j k _ 0 (λ e. ne (sym e))))
    (cases_eq j k)

-- the shares with higher meters are the words of the row
sum_by-higher : (pair : ℕ → ℕ → ℕ) (i : ℕ) (js : List ℕ) → IsTrue (list_all (nat_lt i) js) → sum_by (share pair i) js ≡ sum_by (pair i) js
sum_by-higher pair i [] above = refl
sum_by-higher pair i (j ∷ js) above =
    sum_by-cons (share pair i) j js
    ∙ grind (arith, (and_parts (nat_lt i j) (list_all (nat_lt i) js) above).0, sum_by-higher pair i js ((and_parts (nat_lt i j) (list_all (nat_lt i) js) above).1))
    ∙ sym (sum_by-cons (pair i) j js)

share-lower : (pair : ℕ → ℕ → ℕ) (i k : ℕ) → i < k → share pair k i ≡ minus (pair i k)
share-lower pair i k h = grind (arith, le-ltb k i (omega arith), lt-ltb i k h)

word_own : (x a s t : ℕ) → x ≡ word (a + word s) → t ≡ 0 + s → word x ≡ word (a + t)
word_own x a s t e f = omega (arith, e, f)

word_other : (x y a b s t : ℕ) → word x ≡ word (y + s) → y ≡ word (a + b) → t ≡ b + s → word x ≡ word (a + t)
word_other x y a b s t e f h = omega (arith, e, f, h)

-- ---- all rows
pub length-with_rows : (pair : ℕ → ℕ → ℕ) (ms sums : List ℕ) → length (with_rows pair ms sums) ≡ length sums
unfolding with_rows
length-with_rows pair [] sums = refl
length-with_rows pair (i ∷ ms) sums =
    length-with_rows pair ms (added_at i (pair i) ms (taken_from (pair i) ms sums))
    ∙ length-set (taken_from (pair i) ms sums) i _ ∙ length-taken_from (pair i) ms sums

with_rows-other : (pair : ℕ → ℕ → ℕ) (ms sums : List ℕ) (k : ℕ) → is_member k ms ≡ false → get_or (with_rows pair ms sums) k 0 ≡ get_or sums k 0
unfolding with_rows
with_rows-other pair [] sums k other = refl
with_rows-other pair (i ∷ ms) sums k other = ⊎_elim
    (λ e. absurd (false≢true (sym other ∙ grind (arith, eq-eqb i k e))))
    (λ ne.
    let later : is_member k ms ≡ false = grind (arith, ne_eqb i k ne, other) in
    with_rows-other pair ms _ k later ∙ get_or-set_other (taken_from (pair i) ms sums) i k _ 0 (λ e. ne (sym e)) ∙ taken_from-other (pair i) ms sums k later)
    (cases_eq i k)

-- each member's sum grows by its shares with all members
pub with_rows-member : (pair : ℕ → ℕ → ℕ) (ms sums : List ℕ) (k : ℕ) → IsTrue (ascends ms) → IsTrue (list_all (λ j. nat_lt j (length sums)) ms) → is_member k ms ≡ true →
    word (get_or (with_rows pair ms sums) k 0) ≡ word (get_or sums k 0 + sum_by (share pair k) ms)
unfolding with_rows
with_rows-member pair [] sums k rising within member = absurd (false≢true member)
with_rows-member pair (i ∷ ms) sums k rising within member =
    let above : IsTrue (list_all (nat_lt i) ms) = (and_parts (list_all (nat_lt i) ms) (ascends ms) rising).0 in
    let later : IsTrue (ascends ms) = (and_parts (list_all (nat_lt i) ms) (ascends ms) rising).1 in
    let inside : i < length sums = ltb-true i (length sums) ((and_parts (nat_lt i (length sums)) (list_all (λ j. nat_lt j (length sums)) ms) within).0) in
    let taken = taken_from (pair i) ms sums in
    let next = added_at i (pair i) ms taken in
    let same : length taken ≡ length sums = length-taken_from (pair i) ms sums in
    let kept : length next ≡ length sums = length-set taken i _ ∙ same in
    let others : IsTrue (list_all (λ j. nat_lt j (length next)) ms) =
    subst (λ (n : ℕ). IsTrue (list_all (λ j. nat_lt j n) ms)) (sym kept) ((and_parts (nat_lt i (length sums)) (list_all (λ j. nat_lt j (length sums)) ms) within).1) in
    ⊎_elim
    (λ e. subst (λ (m : ℕ). word (get_or (with_rows pair ms next) m 0) ≡ word (get_or sums m 0 + sum_by (share pair m) (i ∷ ms))) e
    (word_own _ (get_or sums i 0) (sum_by (pair i) ms) _
    (with_rows-other pair ms next i (below-not_member i ms above)
    ∙ get_or-set_same taken i _ 0 (omega (arith, inside, same))
    ∙ ap (λ n. word (n + word (sum_by (pair i) ms))) (taken_from-other (pair i) ms sums i (below-not_member i ms above)))
    (sum_by-cons (share pair i) i ms ∙ omega (arith, share-same pair i, sum_by-higher pair i ms above))))
    (λ ne.
    let member_later : is_member k ms ≡ true = grind (arith, ne_eqb i k ne, member) in
    let higher : i < k = ltb-true i k (test-member (nat_lt i) k ms above member_later) in
    let room : k < length sums = ltb-true k (length sums) (test-member (λ j. nat_lt j (length sums)) k ms ((and_parts (nat_lt i (length sums)) (list_all (λ j. nat_lt j (length sums)) ms) within).1) member_later) in
    word_other _ (get_or next k 0) (get_or sums k 0) (minus (pair i k)) (sum_by (share pair k) ms) _
    (with_rows-member pair ms next k later others member_later)
    (get_or-set_other taken i k _ 0 (λ e. ne (sym e)) ∙ taken_from-member (pair i) ms sums k later member_later room)
    (sum_by-cons (share pair k) i ms ∙ ap (λ n. n + sum_by (share pair k) ms) (share-lower pair i k higher)))
    (cases_eq i k)

all_above : (x : ℕ) (xs : List ℕ) → ((m d : ℕ) → m < length xs → x < get_or xs m d) → IsTrue (list_all (nat_lt x) xs)
all_above x [] h = refl
all_above x (y ∷ ys) h = grind (arith, lt-ltb x y (h 0 0 (omega arith)), all_above x ys (λ m d l. h (suc m) d (omega arith)))

ascends-pairs : (xs : List ℕ) → AllPairs (λ x y. x < y) xs → IsTrue (ascends xs)
ascends-pairs [] h = refl
ascends-pairs (x ∷ xs) h =
    grind (arith, all_above x xs (λ m d l. h 0 (suc m) d (omega arith) (omega arith)), ascends-pairs xs (λ i j d l m. h (suc i) (suc j) d (omega arith) (omega arith)))

-- numbers that rise are each below all that follow
pub ascends-rising : (xs : List ℕ) → IsStrictlyIncreasing xs → IsTrue (ascends xs)
ascends-rising xs h = ascends-pairs xs (AllPairs-from_increasing xs h)

without-above : (i : ℕ) (xs : List ℕ) → IsTrue (list_all (nat_lt i) xs) → without i xs ≡ xs
without-above i [] above = refl
without-above i (x ∷ xs) above =
    let p = and_parts (nat_lt i x) (list_all (nat_lt i) xs) above in
    grind (arith, ne_eqb x i (omega (arith, ltb-true i x p.0)), without-above i xs p.1)

-- the first of numbers that ascend is not among the others
pub without-first : (i : ℕ) (xs : List ℕ) → IsTrue (ascends (i ∷ xs)) → without i (i ∷ xs) ≡ xs
without-first i xs rising = grind (arith, eq-eqb i i refl, without-above i xs (and_parts (list_all (nat_lt i) xs) (ascends xs) rising).0)

-- what a row of pairs asks of its higher ends
pub are_higher : (plan : PlanView) (g r n i : ℕ) (xs : List ℕ) → IsTrue (list_all (nat_lt i) xs) → IsTrue (are_places plan g r xs) → IsTrue (list_all (λ j. nat_lt j n) xs) →
    IsTrue (list_all (is_higher plan g r n i) xs)
are_higher plan g r n i [] above places within = refl
are_higher plan g r n i (x ∷ xs) above places within =
    let p = and_parts (nat_lt i x) (list_all (nat_lt i) xs) above in
    let q = and_parts (is_place plan g r x) (are_places plan g r xs) places in
    let w = and_parts (nat_lt x n) (list_all (λ j. nat_lt j n) xs) within in
    grind (arith, p.0, q.0, w.0, are_higher plan g r n i xs p.1 q.1 w.1)
