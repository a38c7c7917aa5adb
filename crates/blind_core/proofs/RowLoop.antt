-- The loop over the rows of a group.
use Rattle.std.proofs.Common.{◌≡◌, ℕ, ◌+◌, IsTrue, nat_lt, List, ◌∷◌, length, sum_by, set, get_or, refl, sym, ap, ◌∙◌, subst}
use Rattle.std.specs.List.{list_all}
use Rattle.std.proofs.lemmas.Bool.{and_parts}
use Rattle.std.proofs.lemmas.List.{length-set}
use Rattle.group_plan.specs.Plans.{PlanView}
use Rattle.missing_round.specs.Sets.{IsSet, without}
use Rattle.missing_round.specs.Words.{word}
use Rattle.blind_core.specs.Blind.{are_places}
use Rattle.blind_core.specs.Rows.{ascends, is_higher, taken_from, with_rows}
use Rattle.blind_core.proofs.RowLemmas.{are_higher, ascends-rising, length-taken_from, without-first}

-- the members that are left, and what their rows still do
pub record Rows (plan : PlanView) (g r : ℕ) (pair : ℕ → ℕ → ℕ) (all sums left now higher : List ℕ) : Type 0 where
  pub same : higher ≡ left
  pub rising : IsTrue (ascends left)
  pub places : IsTrue (are_places plan g r left)
  pub within : IsTrue (list_all (λ j. nat_lt j (length now)) left)
  pub rows : with_rows pair left now ≡ with_rows pair all sums

pub rows_begin : (plan : PlanView) (g r : ℕ) (pair : ℕ → ℕ → ℕ) (all sums left : List ℕ) → left ≡ all → IsSet all →
    IsTrue (are_places plan g r all) → IsTrue (list_all (λ j. nat_lt j (length sums)) all) → Rows plan g r pair all sums left sums all
rows_begin plan g r pair all sums left e is_set places within =
    subst (λ (l : List ℕ). Rows plan g r pair all sums l sums all) (sym e)
    (record { same = refl; rising = ascends-rising all is_set.ascending; places = places; within = within; rows = refl })

others-are : (plan : PlanView) (g r : ℕ) (pair : ℕ → ℕ → ℕ) (all sums left now higher : List ℕ) (i : ℕ) (rest : List ℕ) →
    Rows plan g r pair all sums left now higher → left ≡ i ∷ rest → without i higher ≡ rest
others-are plan g r pair all sums left now higher i rest rows e =
    ap (without i) (rows.same ∙ e) ∙ without-first i rest (subst (λ (l : List ℕ). IsTrue (ascends l)) e rows.rising)

-- the others can be the higher ends of the next row
pub rows_ends : (plan : PlanView) (g r : ℕ) (pair : ℕ → ℕ → ℕ) (all sums left now higher : List ℕ) (i : ℕ) (rest others : List ℕ) →
    Rows plan g r pair all sums left now higher → left ≡ i ∷ rest → others ≡ without i higher →
    IsTrue (list_all (is_higher plan g r (length now) i) others)
rows_ends plan g r pair all sums left now higher i rest others rows e o =
    let rising : IsTrue (ascends (i ∷ rest)) = subst (λ (l : List ℕ). IsTrue (ascends l)) e rows.rising in
    let places : IsTrue (are_places plan g r (i ∷ rest)) = subst (λ (l : List ℕ). IsTrue (are_places plan g r l)) e rows.places in
    let within : IsTrue (list_all (λ j. nat_lt j (length now)) (i ∷ rest)) = subst (λ (l : List ℕ). IsTrue (list_all (λ j. nat_lt j (length now)) l)) e rows.within in
    subst (λ (l : List ℕ). IsTrue (list_all (is_higher plan g r (length now) i) l)) (sym (o ∙ others-are plan g r pair all sums left now higher i rest rows e))
    (are_higher plan g r (length now) i rest (and_parts _ _ rising).0 (and_parts _ _ places).1 (and_parts _ _ within).1)

-- the next row is done
pub rows_next : (plan : PlanView) (g r : ℕ) (pair : ℕ → ℕ → ℕ) (all sums left now higher : List ℕ) (i : ℕ) (rest others taken : List ℕ) (row : ℕ) →
    Rows plan g r pair all sums left now higher → left ≡ i ∷ rest → others ≡ without i higher →
    taken ≡ taken_from (pair i) others now → row ≡ word (sum_by (pair i) others) →
    Rows plan g r pair all sums rest (set taken i (word (get_or taken i 0 + row))) others
unfolding with_rows
rows_next plan g r pair all sums left now higher i rest others taken row rows e o t w =
    let same : others ≡ rest = o ∙ others-are plan g r pair all sums left now higher i rest rows e in
    let rising : IsTrue (ascends (i ∷ rest)) = subst (λ (l : List ℕ). IsTrue (ascends l)) e rows.rising in
    let places : IsTrue (are_places plan g r (i ∷ rest)) = subst (λ (l : List ℕ). IsTrue (are_places plan g r l)) e rows.places in
    let within : IsTrue (list_all (λ j. nat_lt j (length now)) (i ∷ rest)) = subst (λ (l : List ℕ). IsTrue (list_all (λ j. nat_lt j (length now)) l)) e rows.within in
    let is_taken : taken ≡ taken_from (pair i) rest now = t ∙ ap (λ l. taken_from (pair i) l now) same in
    let is_row : row ≡ word (sum_by (pair i) rest) = w ∙ ap (λ l. word (sum_by (pair i) l)) same in
    let long : length (set taken i (word (get_or taken i 0 + row))) ≡ length now = length-set taken i _ ∙ ap length is_taken ∙ length-taken_from (pair i) rest now in
    record {
      same = same;
      rising = (and_parts _ _ rising).1;
      places = (and_parts _ _ places).1;
      within = subst (λ (n : ℕ). IsTrue (list_all (λ j. nat_lt j n) rest)) (sym long) (and_parts _ _ within).1;
      rows = ap (with_rows pair rest) (ap (λ l. set l i (word (get_or l i 0 + row))) is_taken ∙ ap (λ n. set (taken_from (pair i) rest now) i (word (get_or (taken_from (pair i) rest now) i 0 + n))) is_row)
          ∙ sym (ap (λ l. with_rows pair l now) e) ∙ rows.rows;
    }
