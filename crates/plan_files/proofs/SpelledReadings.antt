-- The readings file that is spelled from a reading table is read as this table.
use Rattle.std.proofs.Common.{◌≡◌, ◌∙◌, ◌<◌, ◌≤◌, ◌+◌, ◌*◌, ◌/◌, ◌%◌, ◌^◌, ◌==◌, nat_lt, not, ℕ, zero, suc, Bool, true, false, List, [], ◌++◌, length, map, drop, get_or, Option, Some, None, Ok, is_some, refl, ap, arith, bytes_eq, decimal, length-append}
use Rattle.std.proofs.Math.Nat.{mod-add-div, mul_comm, suc-mul}
use Rattle.std.proofs.lemmas.Bool.Decides.{nat_tests}
use Rattle.std.proofs.lemmas.Fmt.{decimal_nonempty}
use Rattle.std.proofs.lemmas.List.{get_or-append-add, get_or_append_left}
use Rattle.std.proofs.lemmas.List.FromFn.{get_or-map-range_with_len, length-map-range_with_len}
use Rattle.std.proofs.lemmas.Slice.Eq.{bytes_eq-Decides}
use Rattle.std.specs.List.{flat_map, list_all, range_with_len}
use Rattle.field_texts.specs.Numbers.{number_of, within}
use Rattle.field_texts.proofs.NumberLaws.{number_again, within_again}
use Rattle.group_plan.specs.Plans.{IsWithinLimits, PlanView, is_member, is_place, name_of, size}
use Rattle.group_plan.specs.Tables.{IsReadingTable, ReadingsView, Table, reading, table_of}
use Rattle.group_plan.proofs.MeterNumbers.{group-lt, in_place}
use Rattle.group_plan.proofs.TableLemmas.{entry-table_of, is_table-table_of, same_tables}
use Rattle.plan_files.specs.Faults.{unless}
use Rattle.plan_files.specs.PlainRows.{file_text, is_plain, is_plain_row}
use Rattle.plan_files.specs.Readings.{fields_fault, is_number, is_row_of, reading_at, reading_in, reading_of, reading_or_none, readings_by, readings_of, row_fault, rows_due, rows_fault}
use Rattle.plan_files.specs.Rows.{file_rows}
use Rattle.plan_files.specs.SpelledFiles.{ReadingsFileIsRead}
use Rattle.plan_files.specs.Spelling.{reading_field, readings_row, readings_rows}
use Rattle.plan_files.proofs.DistinctLemmas.{all_flat, all_map, both_true}
use Rattle.plan_files.proofs.PlainRowLemmas.{plain_rows}
use Rattle.plan_files.proofs.PlainTexts.{plain_decimal, plain_name, some_name}
use Rattle.plan_files.proofs.ReadingLemmas.{drop_end, rows_more}

-- ---- lists in blocks of one length

-- n blocks of m items each, from block a on
abbrev pub blocks : {X : Type 0} → (ℕ → ℕ → X) → (m a n : ℕ) → List X
blocks f m a n = flat_map (λ g. map (f g) (range_with_len 0 m)) (range_with_len a n)

suc_times : (k m : ℕ) → suc k * m ≡ m + k * m
suc_times k m = let e = suc-mul k m in omega (arith, e)

pub length_blocks : {X : Type 0} (f : ℕ → ℕ → X) (m a n : ℕ) → length (blocks f m a n) ≡ n * m
length_blocks f m a zero = omega arith
length_blocks f m a (suc n) =
    let first = length-map-range_with_len (f a) 0 m in
    let rest = length_blocks f m (a + 1) n in
    let both = length-append (map (f a) (range_with_len 0 m)) (blocks f m (a + 1) n) in
    omega (arith, first, rest, both, suc_times n m)

pub block_at : {X : Type 0} (f : ℕ → ℕ → X) (m a n k r : ℕ) (d : X) → k < n → r < m → get_or (blocks f m a n) (k * m + r) d ≡ f (a + k) r
block_at f m a zero k r d lt within = absurd (omega (arith, lt))
block_at f m a (suc n) zero r d lt within =
    let place : zero * m + r ≡ r = omega arith in
    let long = length-map-range_with_len (f a) 0 m in
    ap (λ p. get_or (map (f a) (range_with_len 0 m) ++ blocks f m (a + 1) n) p d) place
    ∙ (get_or_append_left (map (f a) (range_with_len 0 m)) (blocks f m (a + 1) n) d r (omega (arith, long, within))
    ∙ (get_or-map-range_with_len (f a) 0 m r r d within (omega arith) ∙ ap (λ g. f g r) (let e : a ≡ a + 0 = omega arith in e)))
block_at f m a (suc n) (suc k) r d lt within =
    let long = length-map-range_with_len (f a) 0 m in
    let place : suc k * m + r ≡ length (map (f a) (range_with_len 0 m)) + (k * m + r) = omega (arith, suc_times k m, long) in
    ap (λ p. get_or (map (f a) (range_with_len 0 m) ++ blocks f m (a + 1) n) p d) place
    ∙ (get_or-append-add (map (f a) (range_with_len 0 m)) (blocks f m (a + 1) n) (k * m + r) d
    ∙ (block_at f m (a + 1) n k r d (omega (arith, lt)) within ∙ ap (λ g. f g r) (let e : a + 1 + k ≡ a + suc k = omega arith in e)))

-- ---- a field

reading_read : (member : Bool) (value : Option ℕ) → (is_some value ≡ true → member ≡ true) → ((v : ℕ) → value ≡ Some v → v < 2 ^ 40) → reading_of member (reading_field value) ≡ Ok value
unfolding reading_of
reading_read member None of_member small = refl
reading_read member (Some v) of_member small =
    let few : v < 2 ^ 40 = small v refl in
    let some = decimal_nonempty v (omega (arith, few)) in
    let a : (length (decimal v) == 0) ≡ false = grind (arith, nat_tests, some) in
    let b : nat_lt v (2 ^ 40) ≡ true = grind (arith, nat_tests, few) in
    rw (a, of_member refl, number_again v (omega (arith, few)), b) refl

field_read : (plan : PlanView) (table : Table (Option ℕ)) → IsReadingTable plan table → (g r i : ℕ)
    → reading_of (is_member plan.groups g r i) (reading_field (reading table g r i)) ≡ Ok (reading table g r i)
field_read plan table is g r i = reading_read (is_member plan.groups g r i) (reading table g r i) (is.of_members g r i) (is.small g r i)

-- ---- a row

no_fault : (plan : PlanView) (table : Table (Option ℕ)) → IsReadingTable plan table → (g r a n : ℕ) → fields_fault reading_of plan g r a (map (λ i. reading_field (reading table g r i)) (range_with_len a n)) ≡ None
unfolding fields_fault
no_fault plan table is g r a zero = refl
no_fault plan table is g r a (suc n) = rw (field_read plan table is g r a) (no_fault plan table is g r (a + 1) n)

same_bytes : (name : List ℕ) → bytes_eq name name ≡ true
same_bytes name = grind (arith, bytes_eq-Decides)

row_right : (plan : PlanView) (table : Table (Option ℕ)) → IsReadingTable plan table → (g r : ℕ) → r < 2 ^ 32 → row_fault reading_of plan g r (readings_row plan table g r) ≡ None
unfolding row_fault is_row_of
row_right plan table is g r small =
    let number : is_number r (within 0 (2 ^ 32) (number_of (decimal r))) ≡ true = ap (is_number r) (within_again 0 (2 ^ 32) r (omega arith) small (omega arith)) ∙ (let e : (r == r) ≡ true = grind (arith, nat_tests) in e) in
    let fields = length-map-range_with_len (λ i. reading_field (reading table g r i)) 0 (size plan.groups g) in
    let long : (suc (suc (length (map (λ i. reading_field (reading table g r i)) (range_with_len 0 (size plan.groups g))))) == 2 + size plan.groups g) ≡ true = grind (arith, nat_tests, fields) in
    rw (same_bytes (name_of plan.groups g), number, long) (no_fault plan table is g r 0 (size plan.groups g))

-- ---- all rows

rows_at : (readings : ReadingsView) (g r : ℕ) → g < length readings.plan.groups → r < readings.plan.rounds
    → get_or (readings_rows readings) (g * readings.plan.rounds + r) [] ≡ readings_row readings.plan readings.table g r
unfolding readings_rows
rows_at readings g r lt within =
    block_at (readings_row readings.plan readings.table) readings.plan.rounds 0 (length readings.plan.groups) g r [] lt within
    ∙ ap (λ h. readings_row readings.plan readings.table h r) (let e : 0 + g ≡ g = omega arith in e)

rows_long : (readings : ReadingsView) → length (readings_rows readings) ≡ rows_due readings.plan
unfolding readings_rows
rows_long readings = length_blocks (readings_row readings.plan readings.table) readings.plan.rounds 0 (length readings.plan.groups)

quotient : (k n m : ℕ) → k < n * m → 1 ≤ m → (k / m < n) × (k % m < m) × (k ≡ k / m * m + k % m)
quotient k n m lt some =
    let parts = mod-add-div k m in
    let turn = mul_comm m (k / m) in
    (grind (arith, lt, some), grind (arith, some), omega (arith, parts, turn))

row_at_right : (readings : ReadingsView) → IsWithinLimits readings.plan → IsReadingTable readings.plan readings.table → (k : ℕ) → k < rows_due readings.plan
    → row_fault reading_of readings.plan (k / readings.plan.rounds) (k % readings.plan.rounds) (get_or (readings_rows readings) k []) ≡ None
row_at_right readings limits is k lt =
    let plan = readings.plan in
    let q = quotient k (length plan.groups) plan.rounds lt limits.some_round in
    let few = limits.rounds in
    let row = ap (λ p. get_or (readings_rows readings) p []) q.2 ∙ rows_at readings (k / plan.rounds) (k % plan.rounds) q.0 q.1 in
    ap (row_fault reading_of plan (k / plan.rounds) (k % plan.rounds)) row ∙ row_right plan readings.table is (k / plan.rounds) (k % plan.rounds) (let small = q.1 in omega (arith, small, few))

right_from : (readings : ReadingsView) → IsWithinLimits readings.plan → IsReadingTable readings.plan readings.table → (j k : ℕ) → k + j ≡ rows_due readings.plan
    → rows_fault reading_of readings.plan k (drop k (readings_rows readings)) ≡ None
unfolding rows_fault
right_from readings limits is zero k all =
    let long = rows_long readings in
    let none : drop k (readings_rows readings) ≡ [] = drop_end (readings_rows readings) k (omega (arith, all, long)) in
    let t : nat_lt k (rows_due readings.plan) ≡ false = grind (arith, nat_tests, all) in
    rw none (rw t refl)
right_from readings limits is (suc j) k all =
    let long = rows_long readings in
    let lt : k < rows_due readings.plan = omega (arith, all) in
    rows_more reading_of readings.plan (readings_rows readings) k (omega (arith, lt, long)) lt (row_at_right readings limits is k lt)
    ∙ right_from readings limits is j (k + 1) (omega (arith, all))

rows_right : (readings : ReadingsView) → IsWithinLimits readings.plan → IsReadingTable readings.plan readings.table → rows_fault reading_of readings.plan 0 (readings_rows readings) ≡ None
rows_right readings limits is = right_from readings limits is (rows_due readings.plan) 0 (omega arith)

-- ---- the table

read_at : (readings : ReadingsView) → IsReadingTable readings.plan readings.table → (g r i : ℕ) → is_place readings.plan g r i ≡ true
    → reading_at reading_of readings.plan (readings_rows readings) g r i ≡ reading readings.table g r i
unfolding reading_in
read_at readings is g r i place =
    let plan = readings.plan in
    let both = in_place plan g r i place in
    let row = rows_at readings g r (group-lt plan.groups g i both.1) both.0 in
    let f : ℕ → List ℕ = λ j. reading_field (reading readings.table g r j) in
    let field : get_or (readings_row plan readings.table g r) (2 + i) [] ≡ f i =
    ap (λ p. get_or (readings_row plan readings.table g r) p []) (let e : 2 + i ≡ suc (suc i) = omega arith in e)
    ∙ get_or-map-range_with_len f 0 (size plan.groups g) i i [] both.1 (omega arith) in
    ap (λ (fields : List (List ℕ)). reading_or_none (reading_of (is_member plan.groups g r i) (get_or fields (2 + i) []))) row
    ∙ (ap (λ (t : List ℕ). reading_or_none (reading_of (is_member plan.groups g r i) t)) field
    ∙ ap reading_or_none (field_read plan readings.table is g r i))

table_again : (readings : ReadingsView) → IsReadingTable readings.plan readings.table → table_of readings.plan (reading_at reading_of readings.plan (readings_rows readings)) ≡ readings.table
table_again readings is =
    let plan = readings.plan in
    let f = reading_at reading_of plan (readings_rows readings) in
    same_tables plan None (table_of plan f) readings.table (is_table-table_of plan f) is.shape
    (λ g r i place. entry-table_of plan f None g r i place ∙ read_at readings is g r i place)

-- ---- its text

plain_field : (value : Option ℕ) → ((v : ℕ) → value ≡ Some v → v < 2 ^ 40) → is_plain (reading_field value) ≡ true
plain_field None small = refl
plain_field (Some v) small = let few = small v refl in plain_decimal v (omega (arith, few))

plain_row : (readings : ReadingsView) → IsWithinLimits readings.plan → IsReadingTable readings.plan readings.table → (g r : ℕ) → g < length readings.plan.groups → r < readings.plan.rounds
    → is_plain_row (readings_row readings.plan readings.table g r) ≡ true
plain_row readings limits is g r lt within =
    let plan = readings.plan in
    let named = limits.names g lt in
    let few = limits.rounds in
    let some = some_name (name_of plan.groups g) named in
    let first : not (length (name_of plan.groups g) == 0) ≡ true = rw some refl in
    both_true (not (length (name_of plan.groups g) == 0)) (list_all is_plain (readings_row plan readings.table g r)) first
    (both_true (is_plain (name_of plan.groups g)) _ (plain_name (name_of plan.groups g) named)
    (both_true (is_plain (decimal r)) _ (plain_decimal r (omega (arith, within, few)))
    (all_map is_plain (λ i. reading_field (reading readings.table g r i)) 0 (size plan.groups g) (λ i from to. plain_field (reading readings.table g r i) (is.small g r i)))))

all_plain : (readings : ReadingsView) → IsWithinLimits readings.plan → IsReadingTable readings.plan readings.table → list_all is_plain_row (readings_rows readings) ≡ true
unfolding readings_rows
all_plain readings limits is =
    let plan = readings.plan in
    all_flat is_plain_row (λ g. map (readings_row plan readings.table g) (range_with_len 0 plan.rounds)) 0 (length plan.groups)
    (λ g from to. all_map is_plain_row (readings_row plan readings.table g) 0 plan.rounds (λ r a b. plain_row readings limits is g r (omega (arith, to)) (omega (arith, b))))

pub spelled_readings : ReadingsFileIsRead
unfolding readings_of
spelled_readings readings limits is =
    let plan = readings.plan in
    let rows = readings_rows readings in
    let read : file_rows (file_text rows) ≡ rows = plain_rows rows (all_plain readings limits is) in
    let made : Table (Option ℕ) → ReadingsView = λ t. record { plan = plan; table = t } in
    ap (λ (r : List (List (List ℕ))). unless (rows_fault reading_of plan 0 r) (readings_by reading_of plan r)) read
    ∙ rw (rows_right readings limits is) (ap (λ t. Ok (made t)) (table_again readings is))
