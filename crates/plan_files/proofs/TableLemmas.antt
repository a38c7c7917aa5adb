-- Tables of registers, filled in row by row and field by field.
use Rattle.std.proofs.Common.{◌≡◌, ◌∙◌, ◌<◌, ◌≤◌, ◌+◌, ◌++◌, ◌^◌, ◌/◌, ◌%◌, ◌==◌, nat_lt, if◌then◌else◌, ℕ, zero, suc, Bool, true, false, List, [], ◌∷◌, length, get_or, map, replicate, Option, Some, None, is_some, Result, Ok, Err, refl, sym, ap, subst, arith, inl, inr, length-append}
use Rattle.std.specs.List.{list_all, range_with_len}
use Rattle.std.specs.Prelude.{slice_index, slice_set}
use Rattle.std.proofs.lemmas.Bool.{cases_eq}
use Rattle.std.proofs.lemmas.List.{ext_get_or, get_or-map, get_or-set_other, get_or-set_same, length-map, length-replicate, length-set}
use Rattle.std.proofs.lemmas.List.FromFn.{get_or-map-range_with_len, length-map-range_with_len}
use Rattle.arrayvec.specs.ArrayVec.{ArrayVec}
use Rattle.group_plan.specs.Plans.{PlanView, size, is_place, is_member}
use Rattle.group_plan.specs.Tables.{IsReadingTable, IsTable, PutsReading, ReadingsView, Table, absent, reading, table_of}
use Rattle.std.specs.Result.{result_err}
use Rattle.plan_files.specs.Faults.{Ends, Fails, unless}
use Rattle.plan_files.specs.Filling.{FillsRow}
use Rattle.plan_files.specs.Readings.{Says, readings_by, readings_of, reading_of, reading_or_none, reading_at, reading_in, rows_due, rows_fault}
use Rattle.plan_files.specs.RegisterParts.{AreOfPlan, AreReadings, AreTables, FillsTables, KeepsRegisters, PutsFirst, ReadsField, nth, of_register, view_of}
use Rattle.plan_files.specs.Registers.{register_of, registers_by, tables_of, table, within_ranges, numbers_of}
use Rattle.plan_files.specs.Rows.{file_rows}
use Rattle.plan_files.specs.declared.fault.Failed.{Failed}
use Rattle.plan_files.specs.declared.fault.FileCause.TheVariants as cause
use Rattle.plan_files.specs.declared.fault.FileFault.{FileFault}
use Rattle.group_plan.proofs.TableLemmas.{entry-table_of, entry_outside, is_table-table_of}
use Rattle.plan_files.proofs.AcceptedFiles.{table_read}
use Rattle.plan_files.proofs.FormLemmas.{fails_too}
use Rattle.plan_files.proofs.ReadingLemmas.{FillsRows, filled, fills_more, fills_next_row, fills_no_rows, fills_none}
use Rattle.plan_files.proofs.RegisterLemmas.{says_one, small_numbers}

-- ---- the item at a place

pub get_or_any : {X : Type 0} (xs : List X) (k : ℕ) (d e : X) → k < length xs → get_or xs k d ≡ get_or xs k e
get_or_any [] k d e lt = absurd (omega (arith, lt))
get_or_any (x ∷ xs) zero d e lt = refl
get_or_any (x ∷ xs) (suc k) d e lt = get_or_any xs k d e (omega (arith, lt))

-- ---- a place of each table

pub puts_none : (plan : PlanView) (old : List ReadingsView) (g r i : ℕ) (values : Option (ArrayVec ℕ)) → PutsFirst plan 0 old g r i values old
puts_none plan old g r i values = record { long = refl; here = λ k lt. absurd (omega (arith, lt)); others = λ k le. refl }

pub puts_more : (plan : PlanView) (n : ℕ) (old mid : List ReadingsView) (g r i : ℕ) (values : Option (ArrayVec ℕ)) (before after : ReadingsView) → n < length old
    → PutsFirst plan n old g r i values mid → before ≡ get_or mid n before → PutsReading before g r i (of_register values n) after
    → PutsFirst plan (n + 1) old g r i values (slice_set mid n after)
puts_more plan n old mid g r i values before after lt puts is one =
    let long = puts.long in
    let within : n < length mid = omega (arith, lt, long) in
    let was : before ≡ nth plan old n = is ∙ get_or_any mid n before (absent plan) within ∙ puts.others n (omega arith) in
    record {
      long = length-set mid n after ∙ puts.long;
      here = λ k less. elim (cases_eq k n) [
        | inl same ↦ subst (λ m. PutsReading (nth plan old m) g r i (of_register values m) (nth plan (slice_set mid n after) m)) (sym same)
            (subst (PutsReading (nth plan old n) g r i (of_register values n)) (sym (get_or-set_same mid n after (absent plan) within))
            (subst (λ (t : ReadingsView). PutsReading t g r i (of_register values n) after) was one))
        | inr other ↦ subst (PutsReading (nth plan old k) g r i (of_register values k)) (sym (get_or-set_other mid n k after (absent plan) other)) (puts.here k (omega (arith, less, other)))
      ];
      others = λ k le. get_or-set_other mid n k after (absent plan) (λ e. omega (arith, le, e)) ∙ puts.others k (omega (arith, le));
    }

-- ---- the fields of a row

-- what is read of a field is what it says of each register
pub reads_each : (count : ℕ) (member : Bool) (text : List ℕ) (values : Option (ArrayVec ℕ)) → ReadsField count member text (Ok values)
    → (k : ℕ) → register_of count k member text ≡ Ok (of_register values k)
reads_each count member text None read k = read k
reads_each count member text (Some numbers) read k = read.3 k

pub are_readings : (count : ℕ) (member : Bool) (text : List ℕ) (values : Option (ArrayVec ℕ)) → ReadsField count member text (Ok values) → AreReadings count member values
are_readings count member text None read = tt
are_readings count member text (Some numbers) read = (read.0, read.1, read.2)

pub tables_none : (plan : PlanView) (g r : ℕ) (fields : List (List ℕ)) (old : List ReadingsView) → AreOfPlan plan old → FillsTables plan g r fields 0 old old
tables_none plan g r fields old of_plan =
    record { long = refl; of_plan = of_plan; each = λ k lt. fills_none (register_of (length old) k) plan g r fields (nth plan old k).table }

pub tables_more : (plan : PlanView) (g r i : ℕ) (fields : List (List ℕ)) (values : Option (ArrayVec ℕ)) (old mid new : List ReadingsView)
    → ((k : ℕ) → register_of (length old) k (is_member plan.groups g r i) (get_or fields (2 + i) []) ≡ Ok (of_register values k))
    → FillsTables plan g r fields i old mid → PutsFirst plan (length mid) mid g r i values new → FillsTables plan g r fields (i + 1) old new
tables_more plan g r i fields values old mid new read filled puts =
    let same = filled.long in
    let long = puts.long in
    record {
      long = puts.long ∙ filled.long;
      of_plan = λ k lt. (puts.here k (omega (arith, lt, long))).plan ∙ filled.of_plan k (omega (arith, lt, long));
      each = λ k lt. fills_more (register_of (length old) k) plan g r i fields (of_register values k) (nth plan old k).table (nth plan mid k) (nth plan new k) (read k) (filled.each k lt)
          (puts.here k (omega (arith, lt, same)));
    }

-- ---- the rows of a file

-- the places of the first n rows have in each table their register's readings, and no other place has one
pub record FillsAll (plan : PlanView) (rows : List (List (List ℕ))) (n count : ℕ) (tables : List ReadingsView) : Type 0 where
  pub long : length tables ≡ count
  pub of_plan : AreOfPlan plan tables
  pub each : (k : ℕ) → k < count → FillsRows (register_of count k) plan rows n (nth plan tables k).table

nth_new : (plan : PlanView) (count k : ℕ) → nth plan (replicate count (absent plan)) k ≡ absent plan
nth_new plan zero k = refl
nth_new plan (suc count) zero = refl
nth_new plan (suc count) (suc k) = nth_new plan count k

pub all_none : (plan : PlanView) (rows : List (List (List ℕ))) (count : ℕ) → FillsAll plan rows 0 count (replicate count (absent plan))
all_none plan rows count = record {
  long = length-replicate count (absent plan);
  of_plan = λ k lt. ap (λ (t : ReadingsView). t.plan) (nth_new plan count k);
  each = λ k lt. subst (λ (t : ReadingsView). FillsRows (register_of count k) plan rows 0 t.table) (sym (nth_new plan count k)) (fills_no_rows (register_of count k) plan rows);
}

pub all_next : (plan : PlanView) (rows : List (List (List ℕ))) (k count : ℕ) (old new : List ReadingsView) → k < rows_due plan → FillsAll plan rows k count old
    → FillsTables plan (k / plan.rounds) (k % plan.rounds) (get_or rows k []) (size plan.groups (k / plan.rounds)) old new → FillsAll plan rows (k + 1) count new
all_next plan rows k count old new due before row =
    let same = before.long in
    record {
      long = row.long ∙ before.long;
      of_plan = row.of_plan;
      each = λ j lt. fills_next_row (register_of count j) plan rows k (nth plan old j).table (nth plan new j).table due (before.each j lt)
          (subst (λ n. FillsRow (register_of n j) plan (k / plan.rounds) (k % plan.rounds) (get_or rows k []) (size plan.groups (k / plan.rounds)) (nth plan old j).table (nth plan new j).table) same
          (row.each j (omega (arith, lt, same))));
    }

registers_long : (plan : PlanView) (count : ℕ) (rows : List (List (List ℕ))) → length (registers_by plan count rows) ≡ count
registers_long plan count rows = length-map-range_with_len (λ k. readings_by (register_of count k) plan rows) 0 count

pub nth_register : (plan : PlanView) (count : ℕ) (rows : List (List (List ℕ))) (k : ℕ) → k < count → nth plan (registers_by plan count rows) k ≡ readings_by (register_of count k) plan rows
nth_register plan count rows k lt = get_or-map-range_with_len (λ k. readings_by (register_of count k) plan rows) 0 count k k (absent plan) lt (omega arith)

pub all_filled : (plan : PlanView) (rows : List (List (List ℕ))) (n count : ℕ) (tables : List ReadingsView) → rows_due plan ≤ n
    → ((k : ℕ) → k < count → IsTable plan (nth plan tables k).table) → FillsAll plan rows n count tables → tables ≡ registers_by plan count rows
all_filled plan rows n count tables past shape all =
    let long = all.long in
    ext_get_or (absent plan) tables (registers_by plan count rows) (all.long ∙ sym (registers_long plan count rows)) (λ k lt.
    let within : k < count = omega (arith, lt, long) in
    filled (register_of count k) plan rows n (nth plan tables k) (all.of_plan k lt) past (shape k within) (all.each k within) ∙ sym (nth_register plan count rows k within))

-- ---- what is read of registers

by_place : (plan : PlanView) (f h : ℕ → ℕ → ℕ → Option ℕ) → ((g r i : ℕ) → is_some (f g r i) ≡ is_some (h g r i))
    → (g r i : ℕ) → is_some (reading (table_of plan f) g r i) ≡ is_some (reading (table_of plan h) g r i)
by_place plan f h same g r i = by (is_place plan g r i) refl
  where
    by : (t : Bool) → is_place plan g r i ≡ t → is_some (reading (table_of plan f) g r i) ≡ is_some (reading (table_of plan h) g r i)
    by true place = ap is_some (entry-table_of plan f None g r i place) ∙ same g r i ∙ sym (ap is_some (entry-table_of plan h None g r i place))
    by false place =
        ap is_some (entry_outside plan (table_of plan f) (is_table-table_of plan f) None g r i place)
        ∙ sym (ap is_some (entry_outside plan (table_of plan h) (is_table-table_of plan h) None g r i place))

ranges_small : (k : ℕ) (ns : Option (List ℕ)) (v : ℕ) → reading_or_none (within_ranges k ns) ≡ Some v → v < 2 ^ 40
ranges_small k None v h = absurd cc
ranges_small k (Some ns) v h = by (list_all (λ n. nat_lt n (2 ^ 40)) ns) refl h
  where
    by : (t : Bool) → list_all (λ n. nat_lt n (2 ^ 40)) ns ≡ t → reading_or_none (if t then Ok (Some (slice_index ns k)) else Err cause.Range) ≡ Some v → v < 2 ^ 40
    by true e h = let same : slice_index ns k ≡ v = cc in subst (λ n. n < 2 ^ 40) same (small_numbers ns k e)
    by false e h = absurd cc

says_small : (count k : ℕ) (member : Bool) (field : List ℕ) (v : ℕ) → reading_or_none (register_of count k member field) ≡ Some v → v < 2 ^ 40
unfolding register_of
says_small count k member field v h = by (length field == 0) member h
  where
    by : (a b : Bool) → reading_or_none (if a then Ok None else if b then within_ranges k (numbers_of count field) else Err cause.NotMember) ≡ Some v → v < 2 ^ 40
    by true b h = absurd cc
    by false true h = ranges_small k (numbers_of count field) v h
    by false false h = absurd cc

says_member : (count k : ℕ) (member : Bool) (field : List ℕ) → is_some (reading_or_none (register_of count k member field)) ≡ true → member ≡ true
unfolding register_of
says_member count k member field h = by (length field == 0) member h
  where
    by : (a b : Bool) → is_some (reading_or_none (if a then Ok None else if b then within_ranges k (numbers_of count field) else Err cause.NotMember)) ≡ true → b ≡ true
    by true b h = absurd cc
    by false true h = refl
    by false false h = absurd cc

ranges_alike : (j k : ℕ) (ns : Option (List ℕ)) → is_some (reading_or_none (within_ranges j ns)) ≡ is_some (reading_or_none (within_ranges k ns))
ranges_alike j k None = refl
ranges_alike j k (Some ns) = by (list_all (λ n. nat_lt n (2 ^ 40)) ns)
  where
    by : (t : Bool) → is_some (reading_or_none (if t then Ok (Some (slice_index ns j)) else Err cause.Range)) ≡ is_some (reading_or_none (if t then Ok (Some (slice_index ns k)) else Err cause.Range))
    by true = refl
    by false = refl

says_alike : (count j k : ℕ) (member : Bool) (field : List ℕ) → is_some (reading_or_none (register_of count j member field)) ≡ is_some (reading_or_none (register_of count k member field))
unfolding register_of
says_alike count j k member field = by (length field == 0) member
  where
    by : (a b : Bool) → is_some (reading_or_none (if a then Ok None else if b then within_ranges j (numbers_of count field) else Err cause.NotMember))
        ≡ is_some (reading_or_none (if a then Ok None else if b then within_ranges k (numbers_of count field) else Err cause.NotMember))
    by true b = refl
    by false true = ranges_alike j k (numbers_of count field)
    by false false = refl

alike_at : (plan : PlanView) (rows : List (List (List ℕ))) (count j k g r i : ℕ)
    → is_some (reading_at (register_of count j) plan rows g r i) ≡ is_some (reading_at (register_of count k) plan rows g r i)
unfolding reading_in
alike_at plan rows count j k g r i = says_alike count j k (is_member plan.groups g r i) _

tables_long : (plan : PlanView) (count : ℕ) (rows : List (List (List ℕ))) → length (view_of plan (registers_by plan count rows)).tables ≡ count
tables_long plan count rows = length-map (registers_by plan count rows) (λ (t : ReadingsView). t.table) ∙ registers_long plan count rows

table_is : (plan : PlanView) (count : ℕ) (rows : List (List (List ℕ))) (k : ℕ) → k < count → table (view_of plan (registers_by plan count rows)) k ≡ table_of plan (reading_at (register_of count k) plan rows)
table_is plan count rows k lt =
    let long = registers_long plan count rows in
    get_or-map (λ (t : ReadingsView). t.table) (registers_by plan count rows) k (absent plan) [] (omega (arith, lt, long)) ∙ ap (λ (t : ReadingsView). t.table) (nth_register plan count rows k lt)

-- what is read is kept as registers
pub keeps : (plan : PlanView) (count : ℕ) (rows : List (List (List ℕ))) → 2 ≤ count → count ≤ 8 → KeepsRegisters plan (registers_by plan count rows)
keeps plan count rows least most =
    let long = tables_long plan count rows in
    let short = registers_long plan count rows in
    record {
      of_plan = λ k lt. ap (λ (t : ReadingsView). t.plan) (nth_register plan count rows k (omega (arith, lt, short)));
      are = record {
        least = omega (arith, least, long);
        most = omega (arith, most, long);
        tables = λ k lt. subst (IsReadingTable plan) (sym (table_is plan count rows k (omega (arith, lt, long)))) (table_read (register_of count k) (says_small count k) (says_member count k) plan rows);
        presence = λ j k g r i first second.
            ap (λ t. is_some (reading t g r i)) (table_is plan count rows j (omega (arith, first, long)))
            ∙ by_place plan (reading_at (register_of count j) plan rows) (reading_at (register_of count k) plan rows) (alike_at plan rows count j k) g r i
            ∙ sym (ap (λ t. is_some (reading t g r i)) (table_is plan count rows k (omega (arith, second, long))));
      };
    }

abbrev read_as : PlanView → Table (Option ℕ) → ReadingsView
read_as plan t = record { plan = plan; table = t }

again : (plan : PlanView) (f : ℕ → Table (Option ℕ)) (ks : List ℕ) → map (read_as plan) (map (λ (t : ReadingsView). t.table) (map (λ k. read_as plan (f k)) ks)) ≡ map (λ k. read_as plan (f k)) ks
again plan f [] = refl
again plan f (k ∷ ks) = ap (λ (l : List ReadingsView). read_as plan (f k) ∷ l) (again plan f ks)

-- tables that are read are those that the view has
pub view_again : (plan : PlanView) (count : ℕ) (rows : List (List (List ℕ))) → map (λ t. record { plan = plan; table = t }) (view_of plan (registers_by plan count rows)).tables ≡ registers_by plan count rows
view_again plan count rows = again plan (λ k. table_of plan (reading_at (register_of count k) plan rows)) (range_with_len 0 count)

well : {X : Type 0} (fault : Option FileFault) (value other : X) → unless fault value ≡ Ok other → value ≡ other
well None value other h = cc
well (Some e) value other h = absurd cc

-- tables that are read are the rows'
pub tables_read : (plan : PlanView) (count : ℕ) (bytes : List ℕ) (tables : List ReadingsView) → tables_of plan count bytes ≡ Ok tables → registers_by plan count (file_rows bytes) ≡ tables
unfolding tables_of
tables_read plan count bytes tables is = well (rows_fault (register_of count 0) plan 0 (file_rows bytes)) (registers_by plan count (file_rows bytes)) tables is

-- ---- one register

one_table : {X : Type 0} (fault : Option FileFault) (value : X) (tables : List X) → unless fault (value ∷ []) ≡ Ok tables → (tables ≡ value ∷ []) × (unless fault value ≡ Ok value)
one_table None value tables h = (cc, refl)
one_table (Some e) value tables h = absurd cc

one_fault : {X : Type 0} (fault : Option FileFault) (value : X) (e : FileFault) → unless fault (value ∷ []) ≡ Err e → unless fault value ≡ Err e
one_fault None value e h = absurd cc
one_fault (Some f) value e h = cc

single : (plan : PlanView) (bytes : List ℕ) → tables_of plan 1 bytes ≡ unless (rows_fault reading_of plan 0 (file_rows bytes)) (readings_by reading_of plan (file_rows bytes) ∷ [])
unfolding tables_of
single plan bytes = ap (λ (s : Says). unless (rows_fault s plan 0 (file_rows bytes)) (readings_by s plan (file_rows bytes) ∷ [])) says_one

-- the table of one register is the readings
pub one_register : (plan : PlanView) (bytes : List ℕ) (tables : List ReadingsView) (readings : ReadingsView) → tables_of plan 1 bytes ≡ Ok tables → readings ≡ get_or tables 0 readings
    → readings_of plan bytes ≡ Ok readings
unfolding readings_of
one_register plan bytes tables readings is first =
    let one = one_table (rows_fault reading_of plan 0 (file_rows bytes)) (readings_by reading_of plan (file_rows bytes)) tables (sym (single plan bytes) ∙ is) in
    one.1 ∙ ap Ok (sym (first ∙ ap (λ (l : List ReadingsView). get_or l 0 readings) one.0))

pub one_long : (plan : PlanView) (bytes : List ℕ) (tables : List ReadingsView) → tables_of plan 1 bytes ≡ Ok tables → length tables ≡ 1
one_long plan bytes tables is =
    ap length (one_table (rows_fault reading_of plan 0 (file_rows bytes)) (readings_by reading_of plan (file_rows bytes)) tables (sym (single plan bytes) ∙ is)).0

pub one_fault_is : (plan : PlanView) (bytes : List ℕ) (e : FileFault) → tables_of plan 1 bytes ≡ Err e → readings_of plan bytes ≡ Err e
unfolding readings_of
one_fault_is plan bytes e is = one_fault (rows_fault reading_of plan 0 (file_rows bytes)) (readings_by reading_of plan (file_rows bytes)) e (sym (single plan bytes) ∙ is)

-- what holds of a count, a number and a row holds of equal ones
pub at_row : (P : ℕ → ℕ → List (List ℕ) → Type 0) (a b m n : ℕ) (x y : List (List ℕ)) → a ≡ b → m ≡ n → x ≡ y → P a m x → P b n y
at_row P a b m n x y counts numbers rows holds = subst (λ (z : ℕ). P z n y) counts (subst (λ (z : ℕ). P a z y) numbers (subst (λ (z : List (List ℕ)). P a m z) rows holds))

-- the tables are ones of the plan
pub shapes : (plan : PlanView) (rows : List (List (List ℕ))) (n count : ℕ) (tables : List ReadingsView) → FillsAll plan rows n count tables → AreTables tables
    → (k : ℕ) → k < count → IsTable plan (nth plan tables k).table
shapes plan rows n count tables all are k lt =
    let long = all.long in
    let within : k < length tables = omega (arith, lt, long) in
    subst (λ (p : PlanView). IsTable p (nth plan tables k).table) (all.of_plan k within) (are (absent plan) k within).shape

-- the readings are refused as the tables are
pub readings_fail : (plan : PlanView) (bytes : List ℕ) (failed : Failed FileFault) (read : Result ReadingsView (Failed FileFault)) → Some failed ≡ result_err read → Fails (tables_of plan 1 bytes) failed
    → Ends (readings_of plan bytes) read
readings_fail plan bytes failed (Ok readings) is wrong = cc is
readings_fail plan bytes failed (Err e) is wrong =
    let same : failed ≡ e = cc in
    subst (λ (x : Failed FileFault). Fails (readings_of plan bytes) x) same (fails_too (tables_of plan 1 bytes) (readings_of plan bytes) failed (one_fault_is plan bytes) wrong)

-- the last of one table is the first
pub single_table : (tables rest : List ReadingsView) (last : ReadingsView) → tables ≡ rest ++ last ∷ [] → length tables ≡ 1 → last ≡ get_or tables 0 last
single_table tables [] last made one = ap (λ (l : List ReadingsView). get_or l 0 last) (sym made)
single_table tables (x ∷ rest) last made one = absurd (let long = ap length made in let more = length-append rest (last ∷ []) in omega (arith, long, more, one))

-- tables that are read are kept as registers
pub read_keeps : (plan copy : PlanView) (count : ℕ) (bytes : List ℕ) (tables : List ReadingsView) → copy ≡ plan → 2 ≤ count → count ≤ 8 → tables_of plan count bytes ≡ Ok tables → KeepsRegisters copy tables
read_keeps plan copy count bytes tables same least most is =
    subst (λ (p : PlanView). KeepsRegisters p tables) (sym same) (subst (KeepsRegisters plan) (tables_read plan count bytes tables is) (keeps plan count (file_rows bytes) least most))

-- and seen as they are
pub read_again : (plan : PlanView) (count : ℕ) (bytes : List ℕ) (tables : List ReadingsView) → tables_of plan count bytes ≡ Ok tables
    → tables_of plan count bytes ≡ Ok (map (λ t. record { plan = plan; table = t }) (view_of plan tables).tables)
read_again plan count bytes tables is =
    is ∙ ap Ok (sym (subst (λ (ts : List ReadingsView). map (read_as plan) (view_of plan ts).tables ≡ ts) (tables_read plan count bytes tables is) (view_again plan count (file_rows bytes))))
