-- The loops over the meters of a row and their words.
use Rattle.std.proofs.Common.{◌≡◌, ℕ, ◌+◌, Bool, IsTrue, nat_lt, List, ◌∷◌, length, drop, map, get_or, set, sum_by, refl, sym, ap, ◌∙◌, arith, subst}
use Rattle.std.specs.List.{list_all}
use Rattle.std.proofs.lemmas.Bool.{and_parts}
use Rattle.std.proofs.lemmas.List.{length-set}
use Rattle.missing_round.specs.Words.{word}
use Rattle.blind_core.specs.Rows.{taken_from, with_owns}
use Rattle.blind_core.proofs.ShareLemmas.{row-head}

-- the meters that are left, their words, and what they still do
pub record Row (row : ℕ → ℕ) (is_end : ℕ → Bool) (all sums left now words : List ℕ) (total : ℕ) : Type 0 where
  pub ends : IsTrue (list_all is_end left)
  pub of_left : words ≡ map row left
  pub taken : taken_from row left now ≡ taken_from row all sums
  pub sum : word (total + sum_by row left) ≡ word (sum_by row all)

pub row_begins : (row : ℕ → ℕ) (is_end : ℕ → Bool) (all sums left words : List ℕ) → left ≡ all → IsTrue (list_all is_end all) → words ≡ map row all →
    Row row is_end all sums left sums words 0
row_begins row is_end all sums left words e ends of_all =
    subst (λ (l : List ℕ). Row row is_end all sums l sums words 0) (sym e) (record { ends = ends; of_left = of_all; taken = refl; sum = omega arith })

-- the members that are left, their words, and what they still put
pub record Owns (own : ℕ → ℕ) (all sums left now words : List ℕ) : Type 0 where
  pub within : IsTrue (list_all (λ j. nat_lt j (length now)) left)
  pub of_left : words ≡ map own left
  pub put : with_owns own left now ≡ with_owns own all sums

-- the next own word is put
pub owns_next : (own : ℕ → ℕ) (all sums left now row : List ℕ) (place i : ℕ) (rest : List ℕ) →
    Owns own all sums left now (drop place row) → left ≡ i ∷ rest → Owns own all sums rest (set now i (get_or row place 0)) (drop (place + 1) row)
unfolding with_owns
owns_next own all sums left now row place i rest owns e =
    let head = row-head row place (own i) (map own rest) (owns.of_left ∙ ap (map own) e) in
    let within : IsTrue (list_all (λ j. nat_lt j (length now)) (i ∷ rest)) = subst (λ (l : List ℕ). IsTrue (list_all (λ j. nat_lt j (length now)) l)) e owns.within in
    record {
      within = subst (λ (n : ℕ). IsTrue (list_all (λ j. nat_lt j n) rest)) (sym (length-set now i (get_or row place 0))) (and_parts _ _ within).1;
      of_left = head.2;
      put = ap (λ w. with_owns own rest (set now i w)) head.1 ∙ sym (ap (λ l. with_owns own l now) e) ∙ owns.put;
    }
