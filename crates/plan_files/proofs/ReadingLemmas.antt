-- Readings, field by field and row by row.
use Rattle.std.proofs.Common.{◌≡◌, ◌∙◌, ◌<◌, ◌≤◌, ◌+◌, ◌*◌, ◌/◌, ◌%◌, ℕ, zero, suc, Bool, true, false, ◌&&◌, ◌==◌, nat_lt, if◌then◌else◌, List, [], ◌∷◌, length, get_or, drop, Option, Some, None, Ok, Err, refl, sym, ap, subst, inl, inr, arith, add-one}
use Rattle.std.specs.Option.{option_map, option_or}
use Rattle.std.specs.Result.{result_err}
use Rattle.std.proofs.lemmas.Bool.{and_parts, cases_Bool, cases_eq, eq-eqb, eqb-true, lt-ltb}
use Rattle.std.proofs.Math.Nat.{div-lt_iff_lt-mul, mod-add-div, mul_comm, mul-zero}
use Rattle.std.proofs.lemmas.Nat.{div-mul-add, mod-mul-add, mul-add-lt}
use Rattle.std.proofs.lemmas.Bool.Decides.{nat_tests}
use Rattle.group_plan.specs.Plans.{PlanView, size, is_member, is_place}
use Rattle.group_plan.specs.Tables.{IsTable, PutsReading, ReadingsView, Table, absent, is_same_place, reading, table_of}
use Rattle.group_plan.proofs.TableLemmas.{entry-table_of, is_table-table_of, same_tables}
use Rattle.group_plan.proofs.MeterNumbers.{group-lt, in_place}
use Rattle.plan_files.specs.Faults.{in_row}
use Rattle.plan_files.specs.Filling.{FillsRow}
use Rattle.plan_files.specs.Readings.{Says, fields_fault, reading_at, reading_in, readings_by, row_fault, rows_due, rows_fault}
use Rattle.plan_files.specs.declared.fault.FileCause.{FileCause}
use Rattle.plan_files.specs.declared.fault.FileCause.TheVariants as cause

-- ---- fields

-- the items from a place on
pub drop_at : {A : Type 0} (xs : List A) (i : ℕ) (d : A) → i < length xs → drop i xs ≡ get_or xs i d ∷ drop (i + 1) xs
drop_at [] i d h = absurd (omega arith)
drop_at (x ∷ xs) zero d h = refl
drop_at (x ∷ xs) (suc i) d h = simp add-one (simp add-one at (drop_at xs i d (omega arith)))

pub drop_end : {A : Type 0} (xs : List A) (i : ℕ) → length xs ≤ i → drop i xs ≡ []
drop_end [] zero h = refl
drop_end [] (suc i) h = refl
drop_end (x ∷ xs) zero h = absurd (omega arith)
drop_end (x ∷ xs) (suc i) h = drop_end xs i (omega arith)

fault_step : (says : Says) (plan : PlanView) (g r i : ℕ) (fields : List (List ℕ)) → 2 + i < length fields
    → fields_fault says plan g r i (drop (2 + i) fields)
    ≡ option_or (result_err (says (is_member plan.groups g r i) (get_or fields (2 + i) []))) (fields_fault says plan g r (i + 1) (drop (2 + i + 1) fields))
unfolding fields_fault
fault_step says plan g r i fields h = rw (drop_at fields (2 + i) [] h) refl

pub fault_more : (says : Says) (plan : PlanView) (g r i : ℕ) (fields : List (List ℕ)) (value : Option ℕ) → 2 + i < length fields
    → says (is_member plan.groups g r i) (get_or fields (2 + i) []) ≡ Ok value
    → fields_fault says plan g r i (drop (2 + i) fields) ≡ fields_fault says plan g r (i + 1) (drop (2 + (i + 1)) fields)
fault_more says plan g r i fields value h read =
    let same : 2 + i + 1 ≡ 2 + (i + 1) = omega arith in
    fault_step says plan g r i fields h ∙ rw read (ap (λ n. fields_fault says plan g r (i + 1) (drop n fields)) same)

pub fault_found : (says : Says) (plan : PlanView) (g r i : ℕ) (fields : List (List ℕ)) (what : FileCause) → 2 + i < length fields
    → says (is_member plan.groups g r i) (get_or fields (2 + i) []) ≡ Err what
    → fields_fault says plan g r i (drop (2 + i) fields) ≡ Some what
fault_found says plan g r i fields what h read = fault_step says plan g r i fields h ∙ rw read refl

pub fault_none : (says : Says) (plan : PlanView) (g r i : ℕ) (fields : List (List ℕ)) → length fields ≤ 2 + i → fields_fault says plan g r i (drop (2 + i) fields) ≡ None
unfolding fields_fault
fault_none says plan g r i fields h = rw (drop_end fields (2 + i) h) refl

-- ---- the readings of a row

one_more : (p : Bool) (c i : ℕ) → (p && (c == i)) ≡ false → (p && nat_lt c (i + 1)) ≡ (p && nat_lt c i)
one_more true c i h = grind (arith, nat_tests)
one_more false c i h = refl

no_more : (p : Bool) (c : ℕ) → (p && nat_lt c 0) ≡ false
no_more true c = grind (arith, nat_tests)
no_more false c = refl

pub fills_none : (says : Says) (plan : PlanView) (g r : ℕ) (fields : List (List ℕ)) (table : Table (Option ℕ)) → FillsRow says plan g r fields 0 table table
fills_none says plan g r fields table a b c = rw (no_more ((a == g) && (b == r)) c) refl

filled_here : (says : Says) (plan : PlanView) (g r i : ℕ) (fields : List (List ℕ)) (value other : Option ℕ) → says (is_member plan.groups g r i) (get_or fields (2 + i) []) ≡ Ok value
    → value ≡ (if (g == g) && (r == r) && nat_lt i (i + 1) then reading_in says plan g r fields i else other)
unfolding reading_in
filled_here says plan g r i fields value other read =
    let t : ((g == g) && (r == r) && nat_lt i (i + 1)) ≡ true = grind (arith, nat_tests) in
    rw (t, read) refl

pub fills_more : (says : Says) (plan : PlanView) (g r i : ℕ) (fields : List (List ℕ)) (value : Option ℕ) (old : Table (Option ℕ)) (mid new : ReadingsView)
    → says (is_member plan.groups g r i) (get_or fields (2 + i) []) ≡ Ok value
    → FillsRow says plan g r fields i old mid.table → PutsReading mid g r i value new → FillsRow says plan g r fields (i + 1) old new.table
fills_more says plan g r i fields value old mid new read filled puts a b c =
    elim (cases_Bool (is_same_place g r i a b c)) [
      | inl here ↦
          let both = and_parts ((a == g) && (b == r)) (c == i) here in
          let place = and_parts (a == g) (b == r) both.0 in
          rw (eqb-true a g place.0, eqb-true b r place.1, eqb-true c i both.1) (puts.here ∙ filled_here says plan g r i fields value (reading old g r i) read)
      | inr apart ↦ puts.elsewhere a b c apart ∙ filled a b c ∙ rw (one_more ((a == g) && (b == r)) c i apart) refl
    ]

-- ---- the rows of a file

-- the places of the first n rows have their readings, and no other place has one
abbrev pub FillsRows : Says → PlanView → List (List (List ℕ)) → ℕ → Table (Option ℕ) → Type 0
FillsRows says plan rows n table =
    (a b c : ℕ) → is_place plan a b c ≡ true → reading table a b c ≡ (if nat_lt (a * plan.rounds + b) n then reading_at says plan rows a b c else None)

rows_step : (says : Says) (plan : PlanView) (rows : List (List (List ℕ))) (k : ℕ) → k < length rows → k < rows_due plan
    → rows_fault says plan k (drop k rows) ≡ option_or (option_map (in_row (k + 1)) (row_fault says plan (k / plan.rounds) (k % plan.rounds) (get_or rows k []))) (rows_fault says plan (k + 1) (drop (k + 1) rows))
unfolding rows_fault
rows_step says plan rows k h due =
    let t : nat_lt k (rows_due plan) ≡ true = grind (arith, nat_tests) in
    rw (drop_at rows k [] h) (rw t refl)

pub rows_more : (says : Says) (plan : PlanView) (rows : List (List (List ℕ))) (k : ℕ) → k < length rows → k < rows_due plan
    → row_fault says plan (k / plan.rounds) (k % plan.rounds) (get_or rows k []) ≡ None
    → rows_fault says plan k (drop k rows) ≡ rows_fault says plan (k + 1) (drop (k + 1) rows)
rows_more says plan rows k h due none = rows_step says plan rows k h due ∙ rw none refl

pub rows_found : (says : Says) (plan : PlanView) (rows : List (List (List ℕ))) (k : ℕ) (what : FileCause) → k < length rows → k < rows_due plan
    → row_fault says plan (k / plan.rounds) (k % plan.rounds) (get_or rows k []) ≡ Some what
    → rows_fault says plan k (drop k rows) ≡ Some (in_row (k + 1) what)
rows_found says plan rows k what h due some = rows_step says plan rows k h due ∙ rw some refl

pub rows_extra : (says : Says) (plan : PlanView) (rows : List (List (List ℕ))) (k : ℕ) → k < length rows → rows_due plan ≤ k
    → rows_fault says plan k (drop k rows) ≡ Some (in_row (k + 1) cause.Extra)
unfolding rows_fault
rows_extra says plan rows k h past =
    let t : nat_lt k (rows_due plan) ≡ false = grind (arith, nat_tests) in
    rw (drop_at rows k [] h) (rw t refl)

pub rows_short : (says : Says) (plan : PlanView) (rows : List (List (List ℕ))) (k : ℕ) → length rows ≤ k → k < rows_due plan
    → rows_fault says plan k (drop k rows) ≡ Some (in_row (k + 1) cause.Short)
unfolding rows_fault
rows_short says plan rows k h due =
    let t : nat_lt k (rows_due plan) ≡ true = grind (arith, nat_tests) in
    rw (drop_end rows k h) (rw t refl)

pub rows_whole : (says : Says) (plan : PlanView) (rows : List (List (List ℕ))) (k : ℕ) → length rows ≤ k → rows_due plan ≤ k
    → rows_fault says plan k (drop k rows) ≡ None
unfolding rows_fault
rows_whole says plan rows k h past =
    let t : nat_lt k (rows_due plan) ≡ false = grind (arith, nat_tests) in
    rw (drop_end rows k h) (rw t refl)

-- the first of the rows that are left is the one at this place
first_same : {A : Type 0} (x y : A) (xs ys : List A) → x ∷ xs ≡ y ∷ ys → x ≡ y
first_same {A = A} x y xs ys same = ap (λ (l : List A). get_or l 0 x) same

pub row_at : (rows left : List (List (List ℕ))) (at : ℕ) (fields : List (List ℕ)) → left ≡ drop at rows → at + length left ≡ length rows → left ≡ fields ∷ drop 1 left
    → (at < length rows) × (get_or rows at [] ≡ fields)
row_at rows left at fields rest long first =
    let some = ap length first in
    let inside : at < length rows = omega (arith, some, long) in
    (inside, first_same (get_or rows at []) fields (drop (at + 1) rows) (drop 1 left) (sym (drop_at rows at [] inside) ∙ sym rest ∙ first))

-- what holds of a plan, a number and a row holds of equal ones
pub moved : (P : PlanView → ℕ → List (List ℕ) → Type 0) (p q : PlanView) (m n : ℕ) (x y : List (List ℕ)) → p ≡ q → m ≡ n → x ≡ y → P p m x → P q n y
moved P p q m n x y plans numbers rows holds = subst (λ (z : PlanView). P z n y) plans (subst (λ (z : ℕ). P p z y) numbers (subst (λ (z : List (List ℕ)). P p m z) rows holds))

-- ---- the places of the rows

-- there are rounds where a row is due
some_rounds : (groups rounds k : ℕ) → k < groups * rounds → 0 < rounds
some_rounds groups zero k due = absurd (omega (arith, mul-zero groups))
some_rounds groups (suc rounds) k due = omega arith

-- a row's group and round are the plan's
pub row_group : (plan : PlanView) (k : ℕ) → k < rows_due plan → k / plan.rounds < length plan.groups
row_group plan k due = (div-lt_iff_lt-mul (some_rounds (length plan.groups) plan.rounds k due)).1 due

pub row_round : (plan : PlanView) (k : ℕ) → k < rows_due plan → k % plan.rounds < plan.rounds
row_round plan k due = let some = some_rounds (length plan.groups) plan.rounds k due in omega arith

absent_none : (plan : PlanView) (a b c : ℕ) → is_place plan a b c ≡ true → ◌≡◌ {A = Option ℕ} (reading (absent plan).table a b c) None
absent_none plan a b c is = entry-table_of plan (λ g r i. None) None a b c is

pub fills_no_rows : (says : Says) (plan : PlanView) (rows : List (List (List ℕ))) → FillsRows says plan rows 0 (absent plan).table
fills_no_rows says plan rows a b c is = absent_none plan a b c is ∙ rw (no_more true (a * plan.rounds + b)) refl

-- a place is in row k where its group and round are the row's
same_row : (n a b k : ℕ) → b < n → a ≡ k / n → b ≡ k % n → a * n + b ≡ k
same_row n a b k round group rest = rw (group, rest) (let whole = mod-add-div k n in omega (arith, mul_comm n (k / n)))

other_row : (n a b k : ℕ) → b < n → a * n + b ≡ k → (a ≡ k / n) × (b ≡ k % n)
other_row n a b k round same =
    (sym (div-mul-add a n b round) ∙ ap (λ m. m / n) same, sym (mod-mul-add a n b round) ∙ ap (λ m. m % n) same)

both_true : (a b g r : ℕ) → a ≡ g → b ≡ r → ((a == g) && (b == r)) ≡ true
both_true a b g r p q = rw (eq-eqb a g p, eq-eqb b r q) refl

both_false : (a b g r : ℕ) → (a ≡ g → b ≡ r → ⊥) → ((a == g) && (b == r)) ≡ false
both_false a b g r apart = elim (cases_Bool ((a == g) && (b == r))) [
  | inl same ↦ let both = and_parts (a == g) (b == r) same in absurd (apart (eqb-true a g both.0) (eqb-true b r both.1))
  | inr other ↦ other
]

-- what row k leaves at a place that is in it
next_here : (says : Says) (plan : PlanView) (rows : List (List (List ℕ))) (k : ℕ) (old new : Table (Option ℕ)) (a b c : ℕ) → c < size plan.groups a → a ≡ k / plan.rounds → b ≡ k % plan.rounds → a * plan.rounds + b ≡ k
    → FillsRow says plan (k / plan.rounds) (k % plan.rounds) (get_or rows k []) (size plan.groups (k / plan.rounds)) old new
    → reading new a b c ≡ reading_at says plan rows a b c
next_here says plan rows k old new a b c meter group round same row =
    let within : nat_lt c (size plan.groups (k / plan.rounds)) ≡ true = lt-ltb c (size plan.groups (k / plan.rounds)) (subst (λ g. c < size plan.groups g) group meter) in
    row a b c ∙ rw (both_true a b (k / plan.rounds) (k % plan.rounds) group round, within) refl
    ∙ ap (λ n. reading_in says plan (k / plan.rounds) (k % plan.rounds) (get_or rows n []) c) (sym same)
    ∙ ap (λ g. reading_in says plan g (k % plan.rounds) (get_or rows (a * plan.rounds + b) []) c) (sym group)
    ∙ ap (λ r. reading_in says plan a r (get_or rows (a * plan.rounds + b) []) c) (sym round)

-- row k leaves a place as it was that is in another
next_there : (says : Says) (plan : PlanView) (k : ℕ) (fields : List (List ℕ)) (old new : Table (Option ℕ)) (a b c : ℕ) → (a ≡ k / plan.rounds → b ≡ k % plan.rounds → ⊥)
    → FillsRow says plan (k / plan.rounds) (k % plan.rounds) fields (size plan.groups (k / plan.rounds)) old new → reading new a b c ≡ reading old a b c
next_there says plan k fields old new a b c apart row = row a b c ∙ rw (both_false a b (k / plan.rounds) (k % plan.rounds) apart) refl

pub fills_next_row : (says : Says) (plan : PlanView) (rows : List (List (List ℕ))) (k : ℕ) (old new : Table (Option ℕ)) → k < rows_due plan
    → FillsRows says plan rows k old → FillsRow says plan (k / plan.rounds) (k % plan.rounds) (get_or rows k []) (size plan.groups (k / plan.rounds)) old new
    → FillsRows says plan rows (k + 1) new
fills_next_row says plan rows k old new due before row a b c is =
    let place = in_place plan a b c is in
    let n = a * plan.rounds + b in
    elim (cases_eq n k) [
      | inl same ↦
          let both = other_row plan.rounds a b k place.0 same in
          let t : nat_lt n (k + 1) ≡ true = grind (arith, nat_tests) in
          next_here says plan rows k old new a b c place.1 both.0 both.1 same row ∙ rw t refl
      | inr other ↦
          let t : nat_lt n (k + 1) ≡ nat_lt n k = grind (arith, nat_tests) in
          next_there says plan k (get_or rows k []) old new a b c (λ group round. other (same_row plan.rounds a b k place.0 group round)) row ∙ before a b c is ∙ rw t refl
    ]

pub filled : (says : Says) (plan : PlanView) (rows : List (List (List ℕ))) (k : ℕ) (readings : ReadingsView) → readings.plan ≡ plan → rows_due plan ≤ k
    → IsTable plan readings.table → FillsRows says plan rows k readings.table → readings ≡ readings_by says plan rows
filled says plan rows k readings of past shape fills =
    let made : PlanView → Table (Option ℕ) → ReadingsView = λ p t. record { plan = p; table = t } in
    let tables : readings.table ≡ table_of plan (reading_at says plan rows) =
    same_tables plan None readings.table (table_of plan (reading_at says plan rows)) shape (is_table-table_of plan (reading_at says plan rows)) (λ g r i is.
    let place = in_place plan g r i is in
    let before : g * plan.rounds + r < rows_due plan = omega (arith, mul-add-lt g plan.rounds r (length plan.groups) (group-lt plan.groups g i place.1) place.0, mul_comm plan.rounds (length plan.groups)) in
    let t : nat_lt (g * plan.rounds + r) k ≡ true = lt-ltb (g * plan.rounds + r) k (omega arith) in
    fills g r i is ∙ rw t refl ∙ sym (entry-table_of plan (reading_at says plan rows) None g r i is)) in
    ap (λ p. made p readings.table) of ∙ ap (λ t. made plan t) tables
