-- The text of plain rows is read as these rows.
use Rattle.std.proofs.Common.{◌≡◌, ◌∙◌, ◌==◌, ◌&&◌, ℕ, Bool, true, false, not, nat_lt, List, [], ◌∷◌, ◌++◌, length, Some, sym, refl, ap, subst, arith, append_assoc}
use Rattle.std.proofs.lemmas.Bool.{and_parts}
use Rattle.std.proofs.lemmas.Bool.Decides.{nat_tests}
use Rattle.std.specs.List.{list_all, list_any}
use Rattle.csv.specs.Machine.{next_record}
use Rattle.csv.specs.Reading.{Reached, default_config, records, strip_bom}
use Rattle.csv.specs.Writing.{default_writer, field_text, fields_text, is_blank, needs_byte}
use Rattle.csv.specs.Writing as csv
use Rattle.csv.specs.declared.parser.State.TheVariants as st
use Rattle.csv.proofs.RoundTrip.{read-write-many, read-write-one}
use Rattle.plan_files.specs.PlainRows.{PlainRowsAreRead, file_text, is_plain, is_plain_byte, is_plain_row, rest_text, row_text}
use Rattle.plan_files.proofs.AllRecords.{all_records}

-- ---- fields

not_true : (b : Bool) → not b ≡ true → b ≡ false
not_true true h = cc
not_true false h = cc

record IsPlainByte (c : ℕ) : Type 0 where
  small : nat_lt c 128 ≡ true
  comma : (c == 44) ≡ false
  quote : (c == 34) ≡ false
  return : (c == 13) ≡ false
  newline : (c == 10) ≡ false

parts_of : (c : ℕ) → is_plain_byte c ≡ true → IsPlainByte c
parts_of c plain =
    let newline = and_parts (nat_lt c 128 && not (c == 44) && not (c == 34) && not (c == 13)) (not (c == 10)) plain in
    let back = and_parts (nat_lt c 128 && not (c == 44) && not (c == 34)) (not (c == 13)) newline.0 in
    let quote = and_parts (nat_lt c 128 && not (c == 44)) (not (c == 34)) back.0 in
    let comma = and_parts (nat_lt c 128) (not (c == 44)) quote.0 in
    record { small = comma.0; comma = not_true _ comma.1; quote = not_true _ quote.1; return = not_true _ back.1; newline = not_true _ newline.1 }

plain_byte : (c : ℕ) → is_plain_byte c ≡ true → needs_byte default_writer c ≡ false
plain_byte c plain = let parts = parts_of c plain in rw (parts.comma, parts.quote, parts.return, parts.newline) refl

plain_bytes : (field : List ℕ) → is_plain field ≡ true → list_any (needs_byte default_writer) field ≡ false
plain_bytes [] plain = refl
plain_bytes (c ∷ cs) plain =
    let both = and_parts (is_plain_byte c) (is_plain cs) plain in
    rw (plain_byte c both.0, plain_bytes cs both.1) refl

plain_field : (field : List ℕ) → is_plain field ≡ true → field_text default_writer field ≡ field
plain_field field plain = rw (plain_bytes field plain) refl

plain_fields : (fields : List (List ℕ)) (tail : List ℕ) → list_all is_plain fields ≡ true → fields_text default_writer fields ++ (10 ∷ tail) ≡ rest_text fields ++ tail
unfolding fields_text
plain_fields [] tail plain = refl
plain_fields (f ∷ fs) tail plain =
    let both = and_parts (is_plain f) (list_all is_plain fs) plain in
    ap (λ (l : List ℕ). 44 ∷ l)
    (ap (λ (l : List ℕ). (l ++ fields_text default_writer fs) ++ (10 ∷ tail)) (plain_field f both.0)
    ∙ (append_assoc f (fields_text default_writer fs) (10 ∷ tail) ∙ (ap (λ (l : List ℕ). f ++ l) (plain_fields fs tail both.1) ∙ sym (append_assoc f (rest_text fs) tail))))

-- ---- rows

-- the text of a row that isn't blank
text_is : (first : List ℕ) (rest : List (List ℕ)) (tail : List ℕ) → is_blank default_writer (first ∷ rest) ≡ false → list_all is_plain (first ∷ rest) ≡ true
    → csv.row_text default_writer (first ∷ rest) ++ tail ≡ row_text (first ∷ rest) ++ tail
text_is first rest tail some plain =
    let both = and_parts (is_plain first) (list_all is_plain rest) plain in
    let F : List ℕ = fields_text default_writer rest in
    rw some (append_assoc (field_text default_writer first ++ F) (10 ∷ []) tail
    ∙ (append_assoc (field_text default_writer first) F (10 ∷ tail) ∙ (ap (λ (l : List ℕ). l ++ (F ++ (10 ∷ tail))) (plain_field first both.0)
    ∙ (ap (λ (l : List ℕ). first ++ l) (plain_fields rest tail both.1) ∙ sym (append_assoc first (rest_text rest) tail)))))

not_blank : (first : List ℕ) (rest : List (List ℕ)) → is_plain_row (first ∷ rest) ≡ true → is_blank default_writer (first ∷ rest) ≡ false
unfolding is_blank
not_blank first [] plain =
    let both = and_parts (not (length first == 0)) (list_all is_plain (first ∷ [])) plain in
    let fields = and_parts (is_plain first) true both.1 in
    rw (plain_field first fields.0) (not_true _ both.0)
not_blank first (second ∷ rest) plain = refl

reads_written : (first : List ℕ) (rest : List (List ℕ)) (tail : List ℕ)
    → next_record default_config st.StartRecord [] [] (csv.row_text default_writer (first ∷ rest) ++ tail) ≡ Some (first ∷ rest, st.StartRecord, tail)
reads_written first [] tail = read-write-one first tail
reads_written first (second ∷ rest) tail = read-write-many first second rest tail

-- the text of a plain row is read as this row
pub reads_row : (row : List (List ℕ)) (tail : List ℕ) → is_plain_row row ≡ true → next_record default_config st.StartRecord [] [] (row_text row ++ tail) ≡ Some (row, st.StartRecord, tail)
reads_row [] tail plain = cc
reads_row (first ∷ rest) tail plain =
    let both = and_parts (not (length first == 0)) (list_all is_plain (first ∷ rest)) plain in
    subst (λ (l : List ℕ). next_record default_config st.StartRecord [] [] l ≡ Some (first ∷ rest, st.StartRecord, tail)) (text_is first rest tail (not_blank first rest plain) both.1)
    (reads_written first rest tail)

reached : (rows : List (List (List ℕ))) → list_all is_plain_row rows ≡ true → Reached default_config st.StartRecord (file_text rows) rows st.StartRecord []
unfolding Reached
reached [] plain = (refl, refl)
reached (row ∷ rows) plain =
    let both = and_parts (is_plain_row row) (list_all is_plain_row rows) plain in
    ((row, st.StartRecord, file_text rows), reads_row row (file_text rows) both.0, refl, reached rows both.1)

reads_rows : (rows : List (List (List ℕ))) → list_all is_plain_row rows ≡ true → records default_config (file_text rows) ≡ rows
unfolding next_record
reads_rows rows plain = sym (all_records (file_text rows) rows (st.StartRecord, [], reached rows plain, refl))

-- ---- no byte order mark

pub small_start : (c : ℕ) (text : List ℕ) → nat_lt c 128 ≡ true → strip_bom (c ∷ text) ≡ c ∷ text
unfolding strip_bom
small_start c [] small = refl
small_start c (d ∷ []) small = refl
small_start c (d ∷ e ∷ text) small = let other : (c == 0xEF) ≡ false = grind (arith, nat_tests) in rw other refl

no_mark : (rows : List (List (List ℕ))) → list_all is_plain_row rows ≡ true → strip_bom (file_text rows) ≡ file_text rows
unfolding strip_bom
no_mark [] plain = refl
no_mark ([] ∷ rows) plain = cc
no_mark (([] ∷ rest) ∷ rows) plain = cc
no_mark (((c ∷ cs) ∷ rest) ∷ rows) plain =
    let row = and_parts (is_plain_row ((c ∷ cs) ∷ rest)) (list_all is_plain_row rows) plain in
    let fields = and_parts (not (length (c ∷ cs) == 0)) (list_all is_plain ((c ∷ cs) ∷ rest)) row.0 in
    let first = and_parts (is_plain (c ∷ cs)) (list_all is_plain rest) fields.1 in
    let byte = and_parts (is_plain_byte c) (is_plain cs) first.0 in
    small_start c _ (parts_of c byte.0).small

pub plain_rows : PlainRowsAreRead
plain_rows rows plain = ap (records default_config) (no_mark rows plain) ∙ reads_rows rows plain
