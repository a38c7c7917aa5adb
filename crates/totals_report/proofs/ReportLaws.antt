-- A report that is written is read, and a report that is read was written so.
use Rattle.std.proofs.Common.{◌≡◌, ◌+◌, ℕ, suc, List, [], ◌∷◌, ◌++◌, refl, sym, ap, ◌∙◌, arith, Option, Some, None, Result, Ok, Err, append_assoc, inl, inr, subst}
use Rattle.std.specs.Prelude.{bytes_eq, IfOk}
use Rattle.std.specs.List.{join_with_byte}
use Rattle.std.proofs.lemmas.List.Elements.{All-cons, All-nil}
use Rattle.std.proofs.lemmas.Slice.Eq.{bytes_eq-Decides}
use Rattle.field_texts.specs.Parts.{parts}
use Rattle.totals_report.specs.declared.row.ReportRow.{ReportRow}
use Rattle.totals_report.specs.Rows.{AreRows, IsRow}
use Rattle.totals_report.specs.Texts.{heading, lines_text, row_line, rows_text}
use Rattle.totals_report.specs.Reading.{before, no_rest, row_of, rows_below, rows_from, rows_of_text}
use Rattle.field_texts.proofs.Cutting.{parts_some}
use Rattle.totals_report.proofs.LineLemmas.{heading_read, opens}
use Rattle.totals_report.proofs.RowLaws.{line_clean, line_fields, row_again, row_back}
use Rattle.field_texts.proofs.Choices.{pick}
use Rattle.field_texts.proofs.TextLaws.{joined_parts, parts_at}

pub lines_cons : (row : ReportRow) (rows : List ReportRow) → lines_text (row ∷ rows) ≡ row_line row ++ 10 ∷ lines_text rows
unfolding lines_text
lines_cons row rows = append_assoc (row_line row) (10 ∷ []) (lines_text rows)

pub first_row : (row : ReportRow) (rows : List ReportRow) → AreRows (row ∷ rows) → IsRow row
first_row row rows are = are 0 row (omega arith)

pub other_rows : (row : ReportRow) (rows : List ReportRow) → AreRows (row ∷ rows) → AreRows rows
other_rows row rows are = λ k d lt. are (suc k) d (omega arith)

lines_again : (n : ℕ) (rows : List ReportRow) → AreRows rows → rows_from n (parts 10 (lines_text rows)) ≡ Ok rows
unfolding lines_text rows_from
lines_again n [] are = refl
lines_again n (row ∷ rows) are =
    let is = first_row row rows are in
    let rest = lines_text rows in
    ap (λ q. rows_from n (parts 10 q)) (lines_cons row rows)
    ∙ ap (rows_from n) (parts_at 10 (row_line row) rest (line_clean row is))
    ∙ opens n (row_line row) (parts 10 rest) (parts_some 10 rest)
    ∙ ap (λ q. before n q (rows_from (n + 1) (parts 10 rest))) (ap row_of (line_fields row is) ∙ row_again row is)
    ∙ ap (before n (Some row)) (lines_again (n + 1) rows (other_rows row rows are))

-- what is written is read
pub report_again : (bytes : List ℕ) (rows : List ReportRow) → AreRows rows → bytes ≡ rows_text rows → rows_of_text bytes ≡ Ok rows
report_again bytes rows are text =
    let cut : parts 10 bytes ≡ heading ∷ parts 10 (lines_text rows) = ap (parts 10) (text ∙ append_assoc heading (10 ∷ []) (lines_text rows)) ∙ parts_at 10 heading (lines_text rows) refl in
    heading_read bytes heading (lines_text rows) cut refl ∙ lines_again 2 rows are

-- where a text was written, it is read
pub if_read_again : {V E : Type 0} (items : V → List ℕ) (written : Result V E) (rows : List ReportRow) → AreRows rows → IfOk written (λ text. items text ≡ rows_text rows) → IfOk written (λ text. rows_of_text (items text) ≡ Ok rows)
if_read_again items (Ok text) rows are is = report_again (items text) rows are is
if_read_again items (Err e) rows are is = tt

-- ---- back

before_back : (n : ℕ) (row : Option ReportRow) (more : Result (List ReportRow) ℕ) (rows : List ReportRow) → before n row more ≡ Ok rows
    → (first : ReportRow) × (others : List ReportRow) × (row ≡ Some first) × (more ≡ Ok others) × (first ∷ others ≡ rows)
before_back n None more rows h = absurd cc
before_back n (Some row) (Ok others) rows h = (row, others, refl, refl, cc)
before_back n (Some row) (Err m) rows h = absurd cc

-- these rows are those of the text
abbrev AreOf : List ℕ → List ReportRow → Type 0
AreOf text rows = (text ≡ lines_text rows) × AreRows rows

rest_back : (n : ℕ) (rest : List ℕ) (rows : List ReportRow) → no_rest n rest ≡ Ok rows → AreOf rest rows
unfolding lines_text
rest_back n [] rows h = let e : [] ≡ rows = cc in let P : List ReportRow → Type 0 = AreOf [] in subst P e (refl, All-nil IsRow)
rest_back n (c ∷ cs) rows h = absurd cc

lines_back : (n : ℕ) (texts : List (List ℕ)) (rows : List ReportRow) → rows_from n texts ≡ Ok rows → AreOf (join_with_byte 10 texts) rows
unfolding lines_text rows_from
lines_back n [] rows h = let e : [] ≡ rows = cc in let P : List ReportRow → Type 0 = AreOf [] in subst P e (refl, All-nil IsRow)
lines_back n (rest ∷ []) rows h = rest_back n rest rows h
lines_back n (line ∷ next ∷ more) rows h =
    let b = before_back n (row_of (parts 44 line)) (rows_from (n + 1) (next ∷ more)) rows h in
    let row = row_back line b.0 b.2 in
    let others = lines_back (n + 1) (next ∷ more) b.1 b.3 in
    let text : join_with_byte 10 (line ∷ next ∷ more) ≡ lines_text (b.0 ∷ b.1) =
    ap (λ q. q ++ 10 ∷ join_with_byte 10 (next ∷ more)) row.0 ∙ ap (λ q. row_line b.0 ++ 10 ∷ q) others.0 ∙ sym (lines_cons b.0 b.1) in
    let P : List ReportRow → Type 0 = AreOf (join_with_byte 10 (line ∷ next ∷ more)) in
    subst P b.4 (text, All-cons IsRow b.0 b.1 row.1 others.1)

below_back : (texts : List (List ℕ)) (rows : List ReportRow) → rows_below texts ≡ Ok rows → (join_with_byte 10 texts ≡ rows_text rows) × AreRows rows
unfolding rows_below
below_back [] rows h = absurd cc
below_back (rest ∷ []) rows h = absurd cc
below_back (line ∷ next ∷ more) rows h = elim (pick (bytes_eq line heading) _ _ _ h) [
  | inl w ↦
      let b = lines_back 2 (next ∷ more) rows w.1 in
      let first : line ≡ heading = (bytes_eq-Decides line heading).0 w.0 in
      (ap (λ q. q ++ 10 ∷ join_with_byte 10 (next ∷ more)) first ∙ ap (λ q. heading ++ 10 ∷ q) b.0 ∙ sym (append_assoc heading (10 ∷ []) (lines_text rows)), b.1)
  | inr w ↦ absurd cc
]

-- what is read was written so
pub report_back : (bytes : List ℕ) (rows : List ReportRow) → rows_of_text bytes ≡ Ok rows → (bytes ≡ rows_text rows) × AreRows rows
unfolding rows_of_text
report_back bytes rows h = let b = below_back (parts 10 bytes) rows h in (joined_parts 10 bytes (parts 10 bytes) refl ∙ b.0, b.1)
