-- The shares of one meter.
use Rattle.std.proofs.Common.{◌≡◌, ℕ, zero, suc, ◌+◌, ◌<◌, false, ◌&&◌, IsTrue, nat_lt, List, [], ◌∷◌, length, drop, map, get_or, sum_by, refl, sym, ap, ◌∙◌, arith, ⊎_elim}
use Rattle.std.specs.List.{list_all}
use Rattle.std.proofs.lemmas.Bool.{false≢true, cases_eq, eq-eqb, ne_eqb, le-ltb, and_parts, ltb-true}
use Rattle.std.proofs.lemmas.List.Sums.{sum_by-cons}
use Rattle.group_plan.specs.Plans.{PlanView, is_place}
use Rattle.missing_round.specs.Sets.{is_member, without}
use Rattle.missing_round.specs.Words.{share}
use Rattle.mask_stream.specs.Ends.{is_other, between}
use Rattle.blind_core.specs.Blind.{are_places}
use Rattle.blind_core.specs.Rows.{is_higher}

-- the first of the words that are left
pub row-head : (row : List ℕ) (place x : ℕ) (xs : List ℕ) → drop place row ≡ x ∷ xs → (place < length row) × (get_or row place 0 ≡ x) × (drop (place + 1) row ≡ xs)
row-head [] zero x xs e = absurd (omega (arith, ap length e))
row-head [] (suc place) x xs e = absurd (omega (arith, ap length e))
row-head (y ∷ ys) zero x xs e = (omega arith, ap (λ l. get_or l 0 0) e, ap (drop 1) e)
row-head (y ∷ ys) (suc place) x xs e =
    let r = row-head ys place x xs e in
    let next : suc place + 1 ≡ suc (place + 1) = omega arith in
    (omega (arith, r.0), r.1, ap (λ n. drop n (y ∷ ys)) next ∙ r.2)

pub share-same : (pair : ℕ → ℕ → ℕ) (i : ℕ) → share pair i i ≡ 0
share-same pair i = grind (arith, le-ltb i i (omega arith))

-- a meter has no share with itself
pub shares-without : (pair : ℕ → ℕ → ℕ) (i : ℕ) (xs : List ℕ) → sum_by (share pair i) (without i xs) ≡ sum_by (share pair i) xs
shares-without pair i [] = refl
shares-without pair i (x ∷ xs) = ⊎_elim
    (λ e. grind (arith, eq-eqb x i e, sum_by-cons (share pair i) x xs, shares-without pair i xs, share-same pair i, ap (share pair i) e))
    (λ ne. grind (arith, ne_eqb x i ne, sum_by-cons (share pair i) x xs, sum_by-cons (share pair i) x (without i xs), shares-without pair i xs))
    (cases_eq x i)

-- places of meters that are not i can be the other ends of its pairs
pub others-are_ends : (plan : PlanView) (g r i : ℕ) (xs : List ℕ) → IsTrue (are_places plan g r xs) → is_member i xs ≡ false → IsTrue (list_all (is_other plan g r i) xs)
others-are_ends plan g r i [] places apart = refl
others-are_ends plan g r i (x ∷ xs) places apart =
    let p = and_parts (is_place plan g r x) (are_places plan g r xs) places in
    ⊎_elim
    (λ e. absurd (false≢true (sym apart ∙ grind (arith, eq-eqb x i e))))
    (λ ne. grind (arith, p.0, ne_eqb x i ne, others-are_ends plan g r i xs p.1 (grind (arith, ne_eqb x i ne, apart))))
    (cases_eq x i)

pub without-are_ends : (plan : PlanView) (g r i : ℕ) (xs : List ℕ) → IsTrue (are_places plan g r xs) → IsTrue (list_all (is_other plan g r i) (without i xs))
without-are_ends plan g r i [] places = refl
without-are_ends plan g r i (x ∷ xs) places =
    let p = and_parts (is_place plan g r x) (are_places plan g r xs) places in
    ⊎_elim
    (λ e. grind (arith, eq-eqb x i e, without-are_ends plan g r i xs p.1))
    (λ ne. grind (arith, p.0, ne_eqb x i ne, without-are_ends plan g r i xs p.1))
    (cases_eq x i)

-- higher ends are other ends
pub higher-are_ends : (plan : PlanView) (g r n i : ℕ) (xs : List ℕ) → IsTrue (list_all (is_higher plan g r n i) xs) → IsTrue (list_all (is_other plan g r i) xs)
higher-are_ends plan g r n i [] h = refl
higher-are_ends plan g r n i (x ∷ xs) h =
    let p = and_parts (is_higher plan g r n i x) (list_all (is_higher plan g r n i) xs) h in
    let q = and_parts (nat_lt i x && is_place plan g r x) (nat_lt x n) p.0 in
    let s = and_parts (nat_lt i x) (is_place plan g r x) q.0 in
    let above : i < x = ltb-true i x s.0 in
    grind (arith, s.1, ne_eqb x i (omega (arith, above)), higher-are_ends plan g r n i xs p.1)

-- with higher meters, the words are those of the row
pub between-higher : (pair : ℕ → ℕ → ℕ) (plan : PlanView) (g r n i : ℕ) (xs : List ℕ) → IsTrue (list_all (is_higher plan g r n i) xs) → map (between pair i) xs ≡ map (pair i) xs
between-higher pair plan g r n i [] h = refl
between-higher pair plan g r n i (x ∷ xs) h =
    let p = and_parts (is_higher plan g r n i x) (list_all (is_higher plan g r n i) xs) h in
    let q = and_parts (nat_lt i x && is_place plan g r x) (nat_lt x n) p.0 in
    let s = and_parts (nat_lt i x) (is_place plan g r x) q.0 in
    grind (arith, s.0, between-higher pair plan g r n i xs p.1)
