-- Records read in turn, until there is no more, are all records of the text; and there are few of them.
use Rattle.std.proofs.Common.{◌≡◌, ◌<◌, ◌≤◌, ◌+◌, ◌-◌, ◌==◌, ℕ, zero, suc, Bool, true, false, List, [], ◌∷◌, ◌++◌, length, Option, Some, None, sym, refl, ap, arith, if◌then◌else◌}
use Rattle.csv.specs.Machine.{Read, step, ends_with, in_field, start_field, start_record, after_end, next_record, is_end, ends_at_end, fields_after, field_after}
use Rattle.csv.specs.Reading.{strip_bom, is_bom, Reached, AreRecords, default_config, records, records_from, records_next}
use Rattle.csv.specs.declared.parser.Action.{Action}
use Rattle.csv.specs.declared.parser.Action.TheVariants as act
use Rattle.csv.specs.declared.parser.State.{State}
use Rattle.csv.specs.declared.parser.State.TheVariants as st
use Rattle.csv.specs.declared.parser.Terminator.TheVariants as term
use Rattle.plan_files.specs.Rows.{file_rows}

-- a state between records: the text may end here
abbrev pub IsBetween : State → Type 0
IsBetween s = ends_at_end s ≡ false

-- where the action ends a record, the state is between records
abbrev pub EndsBetween : State × Action → Type 0
EndsBetween q = is_end q.1 ≡ true → IsBetween q.0

between_if : (b : Bool) (x y : State) → IsBetween x → IsBetween y → IsBetween (if b then x else y)
between_if true x y p q = p
between_if false x y p q = q

ends_if : (b : Bool) (x y : State × Action) → EndsBetween x → EndsBetween y → EndsBetween (if b then x else y)
ends_if true x y p q = p
ends_if false x y p q = q

in_field_ends : (c : ℕ) → EndsBetween (in_field default_config c)
in_field_ends c =
    ends_if (c == 44) (st.StartField, act.EndField) (if ends_with term.CRLF c then (after_end term.CRLF c, act.EndRecord) else (st.InField, act.Copy)) (λ h. sym h)
    (ends_if (ends_with term.CRLF c) (after_end term.CRLF c, act.EndRecord) (st.InField, act.Copy) (λ h. between_if (c == 13) st.AfterCr st.StartRecord refl refl) (λ h. sym h))

start_field_ends : (c : ℕ) → EndsBetween (start_field default_config c)
start_field_ends c = ends_if (c == 34) (st.InQuoted, act.Skip) (in_field default_config c) (λ h. sym h) (in_field_ends c)

start_record_ends : (c : ℕ) → EndsBetween (start_record default_config c)
start_record_ends c = ends_if (ends_with term.CRLF c) (st.StartRecord, act.Skip) (start_field default_config c) (λ h. refl) (start_field_ends c)

step_ends : (s : State) (c : ℕ) → EndsBetween (step default_config s c)
step_ends st.StartRecord c = start_record_ends c
step_ends st.StartField c = start_field_ends c
step_ends st.InField c = in_field_ends c
step_ends st.InQuoted c = ends_if (c == 34) (st.AfterQuote, act.Skip) (st.InQuoted, act.Copy) (λ h. sym h) (λ h. sym h)
step_ends st.AfterQuote c = ends_if (c == 34) (st.InQuoted, act.Copy) (in_field default_config c) (λ h. sym h) (in_field_ends c)
step_ends st.InEscape c = λ h. sym h
step_ends st.InComment c = ends_if (c == 10) (st.StartRecord, act.Skip) (st.InComment, act.Skip) (λ h. refl) (λ h. sym h)
step_ends st.AfterCr c = ends_if (c == 10) (st.StartRecord, act.Skip) (start_record default_config c) (λ h. refl) (start_record_ends c)

-- a record that was read leaves the machine between records, and at most n bytes
abbrev pub LeavesAtMost : ℕ → Option Read → Type 0
LeavesAtMost n None = Unit {0}
LeavesAtMost n (Some p) = IsBetween p.1 × (length p.2 ≤ n)

leaves_more : (m n : ℕ) (o : Option Read) → m ≤ n → LeavesAtMost m o → LeavesAtMost n o
leaves_more m n None h l = tt
leaves_more m n (Some p) h l = (l.0, omega arith)

leaves_if : (n : ℕ) (b : Bool) (x y : Option Read) → (b ≡ true → LeavesAtMost n x) → LeavesAtMost n y → LeavesAtMost n (if b then x else y)
leaves_if n true x y p q = p refl
leaves_if n false x y p q = q

next_leaves : (s : State) (fields : List (List ℕ)) (field text : List ℕ) → LeavesAtMost (length text - 1) (next_record default_config s fields field text)
unfolding next_record
next_leaves s fields field [] = leaves_if 0 (ends_at_end s) (Some (fields ++ field ∷ [], st.StartRecord, [])) None (λ h. (refl, omega arith)) tt
next_leaves s fields field (c ∷ rest) =
    let q = step default_config s c in
    let more = next_record default_config q.0 (fields_after q.1 fields field) (field_after q.1 c field) rest in
    leaves_if (length (c ∷ rest) - 1) (is_end q.1) (Some (fields_after q.1 fields field, q.0, rest)) more (λ h. (step_ends s c h, omega arith))
    (leaves_more (length rest - 1) (length (c ∷ rest) - 1) more (omega arith) (next_leaves q.0 (fields_after q.1 fields field) (field_after q.1 c field) rest))

-- between records an empty text has no record
next_in_empty : (s : State) → IsBetween s → next_record default_config s [] [] [] ≡ None
unfolding next_record
next_in_empty s h = rw h refl

-- so each record takes a byte
pub next_shrinks : (n : ℕ) (s : State) (text : List ℕ) (p : Read) → IsBetween s → length text < suc n → next_record default_config s [] [] text ≡ Some p → IsBetween p.1 × (length p.2 < n)
next_shrinks n s [] p h lt e = absurd (let none = next_in_empty s h in cc)
next_shrinks n s (c ∷ rest) p h lt e = let l = rw e at (next_leaves s [] [] (c ∷ rest)) in (l.0, omega arith)

reached_all : (n : ℕ) (s : State) (text : List ℕ) (rows : List (List (List ℕ))) (last : State) (left : List ℕ)
    → IsBetween s → length text < n → Reached default_config s text rows last left → next_record default_config last [] [] left ≡ None → rows ≡ records_from default_config n s text
unfolding Reached records_from
reached_all zero s text rows last left h lt r none = absurd (omega arith)
reached_all (suc n) s text [] last left h lt r none = rw (r.0, r.1, none) refl
reached_all (suc n) s text (row ∷ rows) last left h lt r none =
    let l = next_shrinks n s text r.0 h lt r.1 in
    rw (r.1, r.2) (ap (λ (t : List (List (List ℕ))). r.0.0 ∷ t) (reached_all n r.0.1 r.0.2 rows last left l.0 l.1 r.3 none))

-- records in turn until there is none are the text's records
pub all_records : (text : List ℕ) (rows : List (List (List ℕ))) → AreRecords default_config st.StartRecord text rows → rows ≡ records default_config text
all_records text rows r = reached_all (length text + 1) st.StartRecord text rows r.0 r.1 refl (omega arith) r.2 r.3

few_next : (n : ℕ) (more : State → List ℕ → List (List (List ℕ))) → ((s : State) (text : List ℕ) → length (more s text) ≤ n) → (o : Option Read) → length (records_next more o) ≤ suc n
few_next n more h None = omega arith
few_next n more h (Some p) = let k = h p.1 p.2 in omega arith

few_from : (n : ℕ) (s : State) (text : List ℕ) → length (records_from default_config n s text) ≤ n
unfolding records_from
few_from zero s text = omega arith
few_from (suc n) s text = few_next n (records_from default_config n) (few_from n) (next_record default_config s [] [] text)

length-strip_bom : (text : List ℕ) → length (strip_bom text) ≤ length text
unfolding strip_bom
length-strip_bom [] = omega arith
length-strip_bom (a ∷ []) = omega arith
length-strip_bom (a ∷ b ∷ []) = omega arith
length-strip_bom (a ∷ b ∷ c ∷ rest) = elim (is_bom a b c) as (λ t. length (if t then rest else a ∷ b ∷ c ∷ rest) ≤ length (a ∷ b ∷ c ∷ rest)) [ true ↦ omega arith | false ↦ omega arith ]

-- a file has at most one row for each of its bytes, and one
pub few_rows : (bytes : List ℕ) → length (file_rows bytes) ≤ length bytes + 1
few_rows bytes =
    let few = few_from (length (strip_bom bytes) + 1) st.StartRecord (strip_bom bytes) in
    let short = length-strip_bom bytes in
    omega arith
