-- From the sums of shares to the words of a group.
use Rattle.std.proofs.Common.{◌≡◌, ℕ, ◌+◌, ◌<◌, true, IsTrue, nat_lt, List, [], ◌∷◌, ◌++◌, length, take, drop, get_or, set, sum_by, Option, Some, None, refl, sym, ap, ◌∙◌, subst, arith, ⊎_elim, slice_index_or}
use Rattle.std.specs.List.{list_all}
use Rattle.std.proofs.lemmas.Bool.{false≢true, and_parts, cases_eq, ne_eqb, ltb-true}
use Rattle.std.proofs.lemmas.List.{get_or-set_same, get_or-set_other, length-set}
use Rattle.std.proofs.lemmas.Grind.{common_steps}
use Rattle.group_plan.specs.Plans.{PlanView, is_place, size}
use Rattle.missing_round.specs.Sets.{IsSet, is_member}
use Rattle.missing_round.specs.Words.{word, share}
use Rattle.blind_core.specs.Blind.{are_places, word_or_0, AreReadings}
use Rattle.blind_core.specs.Rows.{with_rows, with_owns, AreHidingSums, hidden_or_0}
use Rattle.blind_core.proofs.PlaceLemmas.{test-member}
use Rattle.blind_core.proofs.RowLemmas.{ascends-rising, length-with_rows, with_rows-member}

-- places are within the group
pub places-within : (plan : PlanView) (g r n : ℕ) (xs : List ℕ) → n ≡ size plan.groups g → IsTrue (are_places plan g r xs) → IsTrue (list_all (λ j. nat_lt j n) xs)
places-within plan g r n [] e places = refl
places-within plan g r n (x ∷ xs) e places =
    let p = and_parts (is_place plan g r x) (are_places plan g r xs) places in
    let q = and_parts (nat_lt r plan.rounds) (nat_lt x (size plan.groups g)) p.0 in
    let here : IsTrue (nat_lt x n) = subst (λ (m : ℕ). IsTrue (nat_lt x m)) (sym e) q.1 in
    grind (arith, here, places-within plan g r n xs e p.1)

-- ---- own words
pub length-with_owns : (own : ℕ → ℕ) (ms sums : List ℕ) → length (with_owns own ms sums) ≡ length sums
unfolding with_owns
length-with_owns own [] sums = refl
length-with_owns own (m ∷ ms) sums = length-with_owns own ms (set sums m (own m)) ∙ length-set sums m (own m)

-- an own word that is there stays
with_owns-kept : (own : ℕ → ℕ) (ms sums : List ℕ) (k : ℕ) → k < length sums → get_or sums k 0 ≡ own k → get_or (with_owns own ms sums) k 0 ≡ own k
unfolding with_owns
with_owns-kept own [] sums k inside there = there
with_owns-kept own (m ∷ ms) sums k inside there =
    with_owns-kept own ms (set sums m (own m)) k (omega (arith, inside, length-set sums m (own m))) (⊎_elim
    (λ e. subst (λ (i : ℕ). get_or (set sums m (own m)) i 0 ≡ own i) e (get_or-set_same sums m (own m) 0 (subst (λ (i : ℕ). i < length sums) (sym e) inside)))
    (λ ne. get_or-set_other sums m k (own m) 0 (λ e. ne (sym e)) ∙ there)
    (cases_eq m k))

-- each member has its own word
pub with_owns-member : (own : ℕ → ℕ) (ms sums : List ℕ) (k : ℕ) → k < length sums → is_member k ms ≡ true → get_or (with_owns own ms sums) k 0 ≡ own k
unfolding with_owns
with_owns-member own [] sums k inside member = absurd (false≢true member)
with_owns-member own (m ∷ ms) sums k inside member =
    let same : length (set sums m (own m)) ≡ length sums = length-set sums m (own m) in
    ⊎_elim
    (λ e. with_owns-kept own ms (set sums m (own m)) k (omega (arith, inside, same))
    (subst (λ (i : ℕ). get_or (set sums m (own m)) i 0 ≡ own i) e (get_or-set_same sums m (own m) 0 (subst (λ (i : ℕ). i < length sums) (sym e) inside))))
    (λ ne. with_owns-member own ms (set sums m (own m)) k (omega (arith, inside, same)) (grind (arith, ne_eqb m k ne, member)))
    (cases_eq m k)

-- what hides each member, from the own words and the rows
pub hiding-from_rows : (own : ℕ → ℕ) (pair : ℕ → ℕ → ℕ) (members zeros sums : List ℕ) (n : ℕ) → IsSet members → IsTrue (list_all (λ j. nat_lt j n) members) →
    length zeros ≡ n → sums ≡ with_rows pair members (with_owns own members zeros) → AreHidingSums own pair members n sums
hiding-from_rows own pair members zeros sums n is_set within long e =
    let owns = with_owns own members zeros in
    let long_owns : length owns ≡ n = length-with_owns own members zeros ∙ long in
    let inside : IsTrue (list_all (λ j. nat_lt j (length owns)) members) = subst (λ (m : ℕ). IsTrue (list_all (λ j. nat_lt j m) members)) (sym long_owns) within in
    subst (λ (l : List ℕ). AreHidingSums own pair members n l) (sym e) (record {
      long = length-with_rows pair members owns ∙ long_owns;
      each = λ i member. with_rows-member pair members owns i (ascends-rising members is_set.ascending) inside member
          ∙ ap (λ m. word (m + sum_by (share pair i) members)) (with_owns-member own members zeros i
          (ltb-true i (length zeros) (test-member (λ j. nat_lt j (length zeros)) i members (subst (λ (m : ℕ). IsTrue (list_all (λ j. nat_lt j m) members)) (sym long) within) member)) member);
    })

-- what a slice writes back into the list that lent it
pub written : {A : Type 0} (xs ys : List A) (n : ℕ) → length xs ≡ n → length ys ≡ n → take n (xs ++ drop (length xs) ys) ≡ xs
written xs ys n e f = grind (arith, common_steps, e, f)

-- hidden by its sum, a reading has its reading word
pub hidden-is : (own : ℕ → ℕ) (pair : ℕ → ℕ → ℕ) (members sums : List ℕ) (n : ℕ) (readings : List (Option ℕ)) →
    AreHidingSums own pair members n sums → AreReadings members readings → (i : ℕ) (o : Option ℕ) → slice_index_or readings i None ≡ o →
    hidden_or_0 (get_or sums i 0) o ≡ word_or_0 own pair members i o
hidden-is own pair members sums n readings are_sums are i None e = refl
hidden-is own pair members sums n readings are_sums are i (Some x) e =
    let same : word (get_or sums i 0) ≡ word (own i + sum_by (share pair i) members) = are_sums.each i (are.member i x e) in
    omega (arith, same)

-- one word more
pub more-each : (f : ℕ → ℕ) (words : List ℕ) (w n : ℕ) → length words ≡ n → ((i : ℕ) → i < n → get_or words i 0 ≡ f i) → w ≡ f n →
    (i : ℕ) → i < n + 1 → get_or (words ++ w ∷ []) i 0 ≡ f i
more-each f words w n long each last i h = ⊎_elim
    (λ e. subst (λ (j : ℕ). get_or (words ++ w ∷ []) j 0 ≡ f j) (sym e) (grind (arith, common_steps, long, last)))
    (λ ne. grind (arith, common_steps, long, each i (omega arith)))
    (cases_eq i n)
