-- The columns of rows, and the loops over the rows of eight rounds, column by column.
use Rattle.std.proofs.Common.{◌≡◌, ℕ, ◌+◌, ◌<◌, ◌&&◌, IsTrue, nat_lt, List, [], ◌∷◌, length, get_or, set, sum_by, Option, None, refl, sym, ap, ◌∙◌, arith, subst, slice_index_or}
use Rattle.std.specs.List.{list_all}
use Rattle.std.proofs.lemmas.Bool.{and_parts, ltb-true}
use Rattle.std.proofs.lemmas.List.{length-map, get_or-map, map-set}
use Rattle.std.proofs.lemmas.List.Sums.{sum_by-cons}
use Rattle.group_plan.specs.Plans.{PlanView, is_place}
use Rattle.missing_round.specs.Sets.{without}
use Rattle.missing_round.specs.Words.{word, minus}
use Rattle.blind_core.specs.Blind.{AreReadings, AreGroupWords}
use Rattle.blind_core.specs.Columns.{column}
use Rattle.blind_core.specs.Rows.{is_higher, taken_from, with_rows, with_owns, AreHidingSums, hidden_or_0}
use Rattle.blind_core.proofs.GroupLemmas.{hidden-is}
use Rattle.blind_core.proofs.RowLoop.{Rows, rows_ends, rows_next}

-- a column has a place for each row
pub length-column : {A : Type 0} (none : A) (j : ℕ) (rows : List (List A)) → length (column none j rows) ≡ length rows
length-column none j rows = length-map rows (λ row. slice_index_or row j none)

-- a place of a column is one of its row
pub column-at : {A : Type 0} (none : A) (j : ℕ) (rows : List (List A)) (i : ℕ) → i < length rows → get_or (column none j rows) i none ≡ get_or (get_or rows i []) j none
column-at none j rows i inside = get_or-map (λ row. slice_index_or row j none) rows i [] none inside

-- another row changes one place of a column
pub column-set : (j : ℕ) (rows : List (List ℕ)) (i : ℕ) (row : List ℕ) → column 0 j (set rows i row) ≡ set (column 0 j rows) i (get_or row j 0)
column-set j rows i row = map-set (λ row. slice_index_or row j 0) rows i row

-- ---- one row of pairs

-- the meters that are left of a column, and what their words still do
pub record Taken (row : ℕ → ℕ) (all sums left now : List ℕ) (total : ℕ) : Type 0 where
  pub taken : taken_from row left now ≡ taken_from row all sums
  pub sum : word (total + sum_by row left) ≡ word (sum_by row all)

start : (total all : ℕ) → total ≡ 0 → word (total + all) ≡ word all
start total all none = omega (arith, none)

pub taken_begins : (row : ℕ → ℕ) (all sums left : List ℕ) (total : ℕ) → left ≡ all → total ≡ 0 → Taken row all sums left sums total
taken_begins row all sums left total e none =
    subst (λ (l : List ℕ). Taken row all sums l sums total) (sym e) (record { taken = refl; sum = start total (sum_by row all) none })

-- what is known of the next higher end
pub first-higher : (plan : PlanView) (g r n i x : ℕ) (left rest : List ℕ) → IsTrue (list_all (is_higher plan g r n i) left) → left ≡ x ∷ rest →
    (i < x) × IsTrue (is_place plan g r x) × (x < n) × IsTrue (list_all (is_higher plan g r n i) rest)
first-higher plan g r n i x left rest ends e =
    let p = and_parts (is_higher plan g r n i x) (list_all (is_higher plan g r n i) rest) (subst (λ (l : List ℕ). IsTrue (list_all (is_higher plan g r n i) l)) e ends) in
    let q = and_parts (nat_lt i x && is_place plan g r x) (nat_lt x n) p.0 in
    let s = and_parts (nat_lt i x) (is_place plan g r x) q.0 in
    (ltb-true i x s.0, s.1, ltb-true x n q.1, p.1)

total_of : (total none : ℕ) → none ≡ 0 → word (total + none) ≡ word total
total_of total none e = omega (arith, e)

sum_next : (total next word_now rest all : ℕ) → next ≡ word (total + word_now) → word (total + (word_now + rest)) ≡ word all → word (next + rest) ≡ word all
sum_next total next word_now rest all n e = omega (arith, n, e)

-- the next word is taken away
taken_next : (row : ℕ → ℕ) (all sums left now : List ℕ) (total i : ℕ) (rest : List ℕ) (sum next : ℕ) →
    Taken row all sums left now total → left ≡ i ∷ rest → next ≡ word (total + row i) → sum ≡ word (get_or now i 0 + minus (row i)) →
    Taken row all sums rest (set now i sum) next
unfolding taken_from
taken_next row all sums left now total i rest sum next taken e n s = record {
  taken = ap (λ w. taken_from row rest (set now i w)) s ∙ sym (ap (λ l. taken_from row l now) e) ∙ taken.taken;
  sum = sum_next total next (row i) (sum_by row rest) (sum_by row all) n (ap (λ m. word (total + m)) (sym (sum_by-cons row i rest)) ∙ ap (λ l. word (total + sum_by row l)) (sym e) ∙ taken.sum);
}

-- the next words are taken away in each column
pub columns_taken : (row : ℕ → ℕ → ℕ) (all left : List ℕ) (sums now : List (List ℕ)) (total : List ℕ) (i : ℕ) (rest words sum next : List ℕ) →
    ((j : ℕ) → j < 8 → Taken (row j) all (column 0 j sums) left (column 0 j now) (get_or total j 0)) → left ≡ i ∷ rest → i < length now →
    ((j : ℕ) → j < 8 → get_or words j 0 ≡ row j i) →
    ((j : ℕ) → j < 8 → get_or next j 0 ≡ word (get_or total j 0 + get_or words j 0)) →
    ((j : ℕ) → j < 8 → get_or sum j 0 ≡ word (get_or (get_or now i []) j 0 + minus (get_or words j 0))) →
    (j : ℕ) → j < 8 → Taken (row j) all (column 0 j sums) rest (column 0 j (set now i sum)) (get_or next j 0)
columns_taken row all left sums now total i rest words sum next taken e inside w n s j h =
    subst (λ (l : List ℕ). Taken (row j) all (column 0 j sums) rest l (get_or next j 0)) (sym (column-set j now i sum))
    (taken_next (row j) all (column 0 j sums) left (column 0 j now) (get_or total j 0) i rest (get_or sum j 0) (get_or next j 0) (taken j h) e
    (n j h ∙ ap (λ m. word (get_or total j 0 + m)) (w j h))
    (s j h ∙ ap (λ m. word (m + minus (get_or words j 0))) (sym (column-at 0 j now i inside)) ∙ ap (λ m. word (get_or (column 0 j now) i 0 + minus m)) (w j h)))

-- no meter is left: all words are taken away
pub taken_ends : (row : ℕ → ℕ) (all sums left now : List ℕ) (total : ℕ) → Taken row all sums left now total → left ≡ [] → now ≡ taken_from row all sums
unfolding taken_from
taken_ends row all sums left now total taken e = sym (ap (λ l. taken_from row l now) e) ∙ taken.taken

-- and the total is that of all
pub taken_all : (row : ℕ → ℕ) (all sums left now : List ℕ) (total : ℕ) → Taken row all sums left now total → left ≡ [] → word total ≡ word (sum_by row all)
taken_all row all sums left now total taken e = sym (total_of total (sum_by row left) (ap (sum_by row) e)) ∙ taken.sum

-- ---- all rows of pairs

-- the others can be the higher ends of the next row
pub columns_end : (plan : PlanView) (g r : ℕ) (pair : ℕ → ℕ → ℕ → ℕ) (all left higher : List ℕ) (sums now : List (List ℕ)) (i : ℕ) (rest others : List ℕ) →
    ((j : ℕ) → j < 8 → Rows plan g r (pair j) all (column 0 j sums) left (column 0 j now) higher) → left ≡ i ∷ rest → others ≡ without i higher →
    IsTrue (list_all (is_higher plan g r (length now) i) others)
columns_end plan g r pair all left higher sums now i rest others rows e o =
    subst (λ (n : ℕ). IsTrue (list_all (is_higher plan g r n i) others)) (length-column 0 0 now)
    (rows_ends plan g r (pair 0) all (column 0 0 sums) left (column 0 0 now) higher i rest others (rows 0 (omega arith)) e o)

-- the next meter is within the sums
pub next_within : (plan : PlanView) (g r : ℕ) (pair : ℕ → ℕ → ℕ → ℕ) (all left higher : List ℕ) (sums now : List (List ℕ)) (i : ℕ) (rest : List ℕ) →
    ((j : ℕ) → j < 8 → Rows plan g r (pair j) all (column 0 j sums) left (column 0 j now) higher) → left ≡ i ∷ rest → i < length now
next_within plan g r pair all left higher sums now i rest rows e =
    let within : IsTrue (list_all (λ k. nat_lt k (length (column 0 0 now))) (i ∷ rest)) =
    subst (λ (l : List ℕ). IsTrue (list_all (λ k. nat_lt k (length (column 0 0 now))) l)) e (rows 0 (omega arith)).within in
    omega (arith, ltb-true i (length (column 0 0 now)) (and_parts _ _ within).0, length-column 0 0 now)

word-sum : (sum row : ℕ) → word (sum + row) ≡ word (sum + word row)
word-sum sum row = omega arith

-- the next row is done in each column
pub columns_next : (plan : PlanView) (g r : ℕ) (pair : ℕ → ℕ → ℕ → ℕ) (all left higher : List ℕ) (sums now : List (List ℕ)) (i : ℕ) (rest others : List ℕ)
    (taken : List (List ℕ)) (row sum : List ℕ) →
    ((j : ℕ) → j < 8 → Rows plan g r (pair j) all (column 0 j sums) left (column 0 j now) higher) → left ≡ i ∷ rest → others ≡ without i higher → i < length taken →
    ((j : ℕ) → j < 8 → column 0 j taken ≡ taken_from (pair j i) others (column 0 j now)) →
    ((j : ℕ) → j < 8 → word (get_or row j 0) ≡ word (sum_by (pair j i) others)) →
    ((j : ℕ) → j < 8 → get_or sum j 0 ≡ word (get_or (get_or taken i []) j 0 + get_or row j 0)) →
    (j : ℕ) → j < 8 → Rows plan g r (pair j) all (column 0 j sums) rest (column 0 j (set taken i sum)) others
columns_next plan g r pair all left higher sums now i rest others taken row sum rows e o inside t w s j h =
    subst (λ (l : List ℕ). Rows plan g r (pair j) all (column 0 j sums) rest l others)
    (sym (column-set j taken i sum ∙ ap (λ m. set (column 0 j taken) i m) (s j h ∙ ap (λ m. word (m + get_or row j 0)) (sym (column-at 0 j taken i inside)) ∙ word-sum (get_or (column 0 j taken) i 0) (get_or row j 0))))
    (rows_next plan g r (pair j) all (column 0 j sums) left (column 0 j now) higher i rest others (column 0 j taken) (word (get_or row j 0)) (rows j h) e o (t j h) (w j h))

-- no member is left: all rows are done
pub rows_done : (plan : PlanView) (g r : ℕ) (pair : ℕ → ℕ → ℕ) (all sums left now higher : List ℕ) → Rows plan g r pair all sums left now higher → left ≡ [] → now ≡ with_rows pair all sums
unfolding with_rows
rows_done plan g r pair all sums left now higher rows e = sym (ap (λ l. with_rows pair l now) e) ∙ rows.rows

-- ---- own words

-- no member is left: all own words are put
pub put_ends : (own : ℕ → ℕ) (all sums left now : List ℕ) → with_owns own left now ≡ with_owns own all sums → left ≡ [] → now ≡ with_owns own all sums
unfolding with_owns
put_ends own all sums left now put e = sym (ap (λ l. with_owns own l now) e) ∙ put

-- the next own words are put in each column
pub columns_put : (own : ℕ → ℕ → ℕ) (all left : List ℕ) (sums now : List (List ℕ)) (i : ℕ) (rest words : List ℕ) →
    ((j : ℕ) → j < 8 → with_owns (own j) left (column 0 j now) ≡ with_owns (own j) all (column 0 j sums)) → left ≡ i ∷ rest →
    ((j : ℕ) → j < 8 → get_or words j 0 ≡ own j i) →
    (j : ℕ) → j < 8 → with_owns (own j) rest (column 0 j (set now i words)) ≡ with_owns (own j) all (column 0 j sums)
unfolding with_owns
columns_put own all left sums now i rest words put e w j h =
    ap (with_owns (own j) rest) (column-set j now i words ∙ ap (λ m. set (column 0 j now) i m) (w j h))
    ∙ sym (ap (λ l. with_owns (own j) l (column 0 j now)) e) ∙ put j h

-- ---- readings

-- readings hidden by the sums of their column have their words
pub column-hidden : (own : ℕ → ℕ) (pair : ℕ → ℕ → ℕ) (members : List ℕ) (readings : List (List (Option ℕ))) (sums words : List (List ℕ)) (j : ℕ) →
    length sums ≡ length readings → length words ≡ length readings →
    AreHidingSums own pair members (length readings) (column 0 j sums) → AreReadings members (column None j readings) →
    ((i : ℕ) → i < length readings → get_or (get_or words i []) j 0 ≡ hidden_or_0 (get_or (get_or sums i []) j 0) (slice_index_or (slice_index_or readings i []) j None)) →
    AreGroupWords own pair members (column None j readings) (column 0 j words)
column-hidden own pair members readings sums words j long long_words are_sums are hidden = record {
  long = length-column 0 j words ∙ long_words ∙ sym (length-column None j readings);
  each = λ i h.
      let inside : i < length readings = omega (arith, h, length-column None j readings) in
      column-at 0 j words i (omega (arith, inside, long_words)) ∙ hidden i inside
      ∙ ap (λ m. hidden_or_0 m (slice_index_or (slice_index_or readings i []) j None)) (sym (column-at 0 j sums i (omega (arith, inside, long))))
      ∙ ap (hidden_or_0 (get_or (column 0 j sums) i 0)) (sym (column-at None j readings i inside))
      ∙ hidden-is own pair members (column 0 j sums) (length readings) (column None j readings) are_sums are i (slice_index_or (column None j readings) i None) refl;
}
