-- The meters above one, and the words of its pairs with them.
use Rattle.std.proofs.Common.{◌≡◌, ℕ, zero, suc, ◌+◌, ◌-◌, ◌^◌, ◌<◌, ◌≤◌, true, cond, not, List, [], ◌∷◌, ◌++◌, length, get_or, take, map, refl, sym, ap, ◌∙◌, ⊎_elim, arith}
use Rattle.std.specs.Prelude.{◌==◌, nat_lt}
use Rattle.std.specs.List.{All, list_all, range_with_len}
use Rattle.std.proofs.lemmas.Bool.{ne_eqb, lt-ltb, le-ltb, and_from, cases_lt}
use Rattle.std.proofs.lemmas.List.{take_more, take_all}
use Rattle.std.proofs.lemmas.List.Elements.{All-push, All-nil}
use Rattle.std.proofs.lemmas.List.FromFn.{length-map-range_with_len, get_or-map-range_with_len}
use Rattle.missing_round.specs.Sets.{less, beyond}
use Rattle.missing_round.proofs.SetLemmas.{less-range}
use Rattle.missing_round.specs.Words.{group}
use Rattle.group_plan.specs.Plans.{PlanView, size, is_place}
use Rattle.mask_stream.specs.Ends.{is_other, between}
use Rattle.event_schedule.specs.Tables.{Masks}
use Rattle.ideal_masks.specs.KeptMasks.{higher_of}
use Rattle.ideal_masks.proofs.TableLemmas.{tabulate_is}

beyond-high : (m a n : ℕ) → m ≤ a → beyond m (range_with_len a n) ≡ range_with_len a n
beyond-high m a zero le = refl
beyond-high m a (suc n) le =
    ap (λ c. cond (not c) (a ∷ beyond m (range_with_len (a + 1) n)) (beyond m (range_with_len (a + 1) n))) (le-ltb a m le) ∙ ap (λ l. a ∷ l) (beyond-high m (a + 1) n (omega arith))

beyond-range : (m a n : ℕ) → a ≤ m → beyond m (range_with_len a n) ≡ range_with_len m (a + n - m)
beyond-range m a zero le = let none : 0 ≡ a + 0 - m = omega arith in ap (range_with_len m) none
beyond-range m a (suc n) le =
    ⊎_elim
    (λ (lt : a < m).
    let same : a + 1 + n - m ≡ a + suc n - m = omega arith in
    ap (λ c. cond (not c) (a ∷ beyond m (range_with_len (a + 1) n)) (beyond m (range_with_len (a + 1) n))) (lt-ltb a m lt)
    ∙ beyond-range m (a + 1) n (omega arith) ∙ ap (range_with_len m) same)
    (λ (ge : m ≤ a).
    let at : a ≡ m = omega arith in
    let all : suc n ≡ a + suc n - m = omega arith in
    beyond-high m a (suc n) ge ∙ ap (λ z. range_with_len z (suc n)) at ∙ ap (range_with_len m) all)
    (cases_lt a m)

-- the numbers below n without those below m
pub above-is : (n m : ℕ) → less (group n) (group m) ≡ range_with_len m (n - m)
above-is n m = let same : 0 + n - m ≡ n - m = omega arith in less-range m (group n) ∙ beyond-range m 0 n (omega arith) ∙ ap (range_with_len m) same

-- each of them is another meter of the round
pub others-above : (plan : PlanView) (g r low n a k : ℕ) → r < plan.rounds → n ≡ size plan.groups g → low < a → a + k ≤ n → list_all (is_other plan g r low) (range_with_len a k) ≡ true
others-above plan g r low n a zero round same above fits = refl
others-above plan g r low n a (suc k) round same above fits =
    and_from (is_other plan g r low a) (list_all (is_other plan g r low) (range_with_len (a + 1) k))
    (and_from (is_place plan g r a) (not (a == low))
    (and_from (nat_lt r plan.rounds) (nat_lt a (size plan.groups g)) (lt-ltb r plan.rounds round) (lt-ltb a (size plan.groups g) (omega (arith, same, fits))))
    (ap not (ne_eqb a low (λ e. omega arith))))
    (others-above plan g r low n (a + 1) k round same (omega arith) (omega arith))

-- the words of the pairs with them
pub higher-is : (m : Masks) (g r n low : ℕ) → map (between (m.pair g r) low) (range_with_len (low + 1) (n - (low + 1))) ≡ higher_of m g r n low
higher-is m g r n low =
    sym (tabulate_is (map (between (m.pair g r) low) (range_with_len (low + 1) (n - (low + 1)))) (n - suc low) (λ k. m.pair g r low (suc low + k)) 0
    (length-map-range_with_len (between (m.pair g r) low) (low + 1) (n - (low + 1)) ∙ omega arith)
    (λ k lt.
    let place : low + 1 + k ≡ suc low + k = omega arith in
    sym (get_or-map-range_with_len (between (m.pair g r) low) (low + 1) (n - (low + 1)) k (suc low + k) 0 (omega arith) place
    ∙ ap (λ c. cond c (m.pair g r low (suc low + k)) (m.pair g r (suc low + k) low)) (lt-ltb low (suc low + k) (omega arith)))))

-- the words so far
pub record Copied (row : List ℕ) (k : ℕ) (words : List ℕ) : Type 0 where
  pub is : words ≡ take k row
  pub small : All (λ w. w < 2 ^ 64) words

pub copied-none : (row words : List ℕ) → words ≡ [] → Copied row 0 words
copied-none row words is = record { is = is; small = rw is (All-nil (λ w. w < 2 ^ 64)) }

pub copied-more : (row : List ℕ) (k : ℕ) (words next : List ℕ) → k < length row → get_or row k 0 < 2 ^ 64 → next ≡ words ++ get_or row k 0 ∷ [] → Copied row k words → Copied row (k + 1) next
copied-more row k words next lt small pushed before = record {
  is = pushed ∙ ap (λ l. l ++ get_or row k 0 ∷ []) before.is ∙ sym (take_more row k 0 lt);
  small = rw pushed (All-push (λ z. z < 2 ^ 64) words (get_or row k 0) before.small small);
}

pub copied-all : (row : List ℕ) (k : ℕ) (words : List ℕ) → length row ≤ k → Copied row k words → words ≡ row
copied-all row k words past before = before.is ∙ take_all k row past
