-- The first faulty line of a text.
use Rattle.std.proofs.Common.{◌≡◌, ◌≢◌, ◌<◌, ◌+◌, ℕ, true, false, List, [], ◌∷◌, ◌++◌, length, length-append, refl, sym, ap, ◌∙◌, arith, Option, Some, None, Result, Ok, Err, append_assoc, inl, inr, subst}
use Rattle.std.specs.Prelude.{bytes_eq}
use Rattle.std.specs.List.{join_with_byte}
use Rattle.std.proofs.lemmas.List.Elements.{All-cons, All-nil}
use Rattle.std.proofs.lemmas.Slice.Eq.{bytes_eq-Decides}
use Rattle.field_texts.specs.Parts.{parts}
use Rattle.totals_report.specs.declared.row.ReportRow.{ReportRow}
use Rattle.totals_report.specs.declared.row.ReportError.{ReportError}
use Rattle.totals_report.specs.declared.row.ReportError.TheVariants.{Line, Memory}
use Rattle.totals_report.specs.Rows.{AreRows, IsRow}
use Rattle.transcript_text.specs.Spelling.{ended}
use Rattle.totals_report.specs.Texts.{heading, lines_text, row_line, rows_text}
use Rattle.totals_report.specs.Reading.{Gives, before, no_rest, row_of, rows_below, rows_from, rows_of_text}
use Rattle.totals_report.specs.Faults.{Begins, IsFirstFault, ReadEnds}
use Rattle.field_texts.proofs.Cutting.{parts_some}
use Rattle.totals_report.proofs.RowLaws.{line_clean, line_fields, row_again, row_back}
use Rattle.totals_report.proofs.ReportLaws.{lines_cons, report_back}
use Rattle.field_texts.proofs.Choices.{pick}
use Rattle.field_texts.proofs.TextLaws.{AllClean, clean, joined_parts, parts_at, parts_clean}
use Rattle.transcript_text.proofs.WholeLines.{parts_are_clean}

-- ---- what does not begin with a row

-- a line with a newline behind it is not whole
one_part : (line rest more : List ℕ) → clean 10 line ≡ true → parts 10 rest ≡ rest ∷ [] → rest ≢ ended line ++ more
one_part line rest more whole one text =
    let cut : rest ∷ [] ≡ line ∷ parts 10 more = sym one ∙ ap (parts 10) (text ∙ append_assoc line (10 ∷ []) more) ∙ parts_at 10 line more whole in
    let l = ap length cut in
    let some = parts_some 10 more in
    omega (arith, l, some)

-- the first line of a text is its only first line
same_line : (line other rest more : List ℕ) → clean 10 line ≡ true → clean 10 other ≡ true → line ++ 10 ∷ rest ≡ ended other ++ more → line ≡ other
same_line line other rest more a b text =
    let cut : line ∷ parts 10 rest ≡ other ∷ parts 10 more = sym (parts_at 10 line rest a) ∙ ap (parts 10) (text ∙ append_assoc other (10 ∷ []) more) ∙ parts_at 10 other more b in
    cc

no_row : (line rest : List ℕ) → clean 10 line ≡ true → row_of (parts 44 line) ≡ None → (row : ReportRow) → IsRow row → ¬ Begins (row_line row) (line ++ 10 ∷ rest)
no_row line rest a none row is begins =
    let same = same_line line (row_line row) rest begins.0 a (line_clean row is) begins.1 in
    let read : row_of (parts 44 line) ≡ Some row = ap (λ q. row_of (parts 44 q)) same ∙ ap row_of (line_fields row is) ∙ row_again row is in
    absurd cc

some_byte : (line rest : List ℕ) → line ++ 10 ∷ rest ≢ []
some_byte line rest e = let l = ap length e in let m = length-append line (10 ∷ rest) in omega (arith, l, m)

-- ---- lines

-- the lines of these rows are right, and m is the number of the faulty line behind them
pub record Stops (n m : ℕ) (text : List ℕ) (rows : List ReportRow) (rest : List ℕ) : Type 0 where
  pub number : m ≡ n + length rows
  pub right : AreRows rows
  pub spelled : text ≡ lines_text rows ++ rest
  pub more : rest ≢ []
  pub faulty : (row : ReportRow) → IsRow row → ¬ Begins (row_line row) rest

abbrev Stop : ℕ → ℕ → List ℕ → Type 0
Stop n m text = (rows : List ReportRow) × (rest : List ℕ) × Stops n m text rows rest

stop_here : (n m : ℕ) (text : List ℕ) → m ≡ n → text ≢ [] → ((row : ReportRow) → IsRow row → ¬ Begins (row_line row) text) → Stop n m text
unfolding lines_text
stop_here n m text here some none = ([], text, record { number = omega (arith, here); right = All-nil IsRow; spelled = refl; more = some; faulty = none })

rest_stops : (n m : ℕ) (rest : List ℕ) → clean 10 rest ≡ true → no_rest n rest ≡ Err m → Stop n m rest
rest_stops n m [] whole e = absurd cc
rest_stops n m (c ∷ cs) whole e =
    let number : m ≡ n = cc in
    stop_here n m (c ∷ cs) number (λ none. absurd cc) (λ row is begins. one_part (row_line row) (c ∷ cs) begins.0 (line_clean row is) (parts_clean 10 (c ∷ cs) whole) begins.1)

stop_later : (n m : ℕ) (line text : List ℕ) (row : ReportRow) → line ≡ row_line row → IsRow row → Stop (n + 1) m text → Stop n m (line ++ 10 ∷ text)
stop_later n m line text row same is s =
    let joined : line ++ 10 ∷ text ≡ lines_text (row ∷ s.0) ++ s.1 =
    ap (λ q. q ++ 10 ∷ text) same ∙ ap (λ q. row_line row ++ 10 ∷ q) s.2.spelled ∙ sym (ap (λ q. q ++ s.1) (lines_cons row s.0) ∙ append_assoc (row_line row) (10 ∷ lines_text s.0) s.1) in
    (row ∷ s.0, s.1, record { number = omega (arith, s.2.number); right = All-cons IsRow row s.0 is s.2.right; spelled = joined; more = s.2.more; faulty = s.2.faulty })

lines_stop : (n m : ℕ) (texts : List (List ℕ)) → AllClean 10 texts → rows_from n texts ≡ Err m → Stop n m (join_with_byte 10 texts)
unfolding rows_from
lines_stop n m [] whole e = absurd cc
lines_stop n m (rest ∷ []) whole e = rest_stops n m rest whole.0 e
lines_stop n m (line ∷ next ∷ more) whole e = by_row (row_of (parts 44 line)) refl (rows_from (n + 1) (next ∷ more)) refl e (λ k f. lines_stop (n + 1) k (next ∷ more) whole.1 f)
  where
    by_row : (row : Option ReportRow) → row_of (parts 44 line) ≡ row → (read : Result (List ReportRow) ℕ) → rows_from (n + 1) (next ∷ more) ≡ read → before n row read ≡ Err m
        → ((k : ℕ) → rows_from (n + 1) (next ∷ more) ≡ Err k → Stop (n + 1) k (join_with_byte 10 (next ∷ more))) → Stop n m (line ++ 10 ∷ join_with_byte 10 (next ∷ more))
    by_row None is read of e later =
        let number : m ≡ n = cc in
        stop_here n m _ number (some_byte line (join_with_byte 10 (next ∷ more))) (no_row line (join_with_byte 10 (next ∷ more)) whole.0 is)
    by_row (Some row) is (Ok rows) of e later = absurd cc
    by_row (Some row) is (Err k) of e later =
        let number : k ≡ m = cc in
        let b = row_back line row is in
        stop_later n m line (join_with_byte 10 (next ∷ more)) row b.0 b.1 (let P : ℕ → Type 0 = λ q. Stop (n + 1) q (join_with_byte 10 (next ∷ more)) in subst P number (later k of))

-- ---- the heading

no_heading : (line rest : List ℕ) → clean 10 line ≡ true → line ≢ heading → ¬ Begins heading (line ++ 10 ∷ rest)
no_heading line rest whole other begins = other (same_line line heading rest begins.0 whole refl begins.1)

behind_heading : (bytes rest : List ℕ) (m : ℕ) → bytes ≡ heading ++ 10 ∷ rest → Stop 2 m rest → IsFirstFault bytes m
behind_heading bytes rest m text s =
    let joined : bytes ≡ rows_text s.0 ++ s.1 =
    text ∙ ap (λ q. heading ++ 10 ∷ q) s.2.spelled ∙ sym (append_assoc (ended heading) (lines_text s.0) s.1 ∙ append_assoc heading (10 ∷ []) (lines_text s.0 ++ s.1)) in
    inr (s.0, s.1, omega (arith, s.2.number), record { right = s.2.right; text = joined; more = s.2.more; faulty = s.2.faulty })

below_stops : (m : ℕ) (texts : List (List ℕ)) → AllClean 10 texts → rows_below texts ≡ Err m → 0 < length texts → IsFirstFault (join_with_byte 10 texts) m
unfolding rows_below
below_stops m [] whole e some = absurd (omega arith)
below_stops m (rest ∷ []) whole e some =
    let number : m ≡ 1 = cc in
    inl (number, λ begins. one_part heading rest begins.0 refl (parts_clean 10 rest whole.0) begins.1)
below_stops m (line ∷ next ∷ more) whole e some = elim (pick (bytes_eq line heading) _ _ _ e) [
  | inl w ↦
      let first : line ≡ heading = (bytes_eq-Decides line heading).0 w.0 in
      behind_heading (line ++ 10 ∷ join_with_byte 10 (next ∷ more)) (join_with_byte 10 (next ∷ more)) m (ap (λ q. q ++ 10 ∷ join_with_byte 10 (next ∷ more)) first) (lines_stop 2 m (next ∷ more) whole.1 w.1)
  | inr w ↦
      let number : m ≡ 1 = cc in
      inl (number, no_heading line (join_with_byte 10 (next ∷ more)) whole.0 (λ same. (let clash : true ≡ false = sym ((bytes_eq-Decides line heading).1 same) ∙ w.0 in absurd cc)))
]

report_stops : (bytes : List ℕ) (m : ℕ) → rows_of_text bytes ≡ Err m → IsFirstFault bytes m
unfolding rows_of_text
report_stops bytes m e =
    let s = below_stops m (parts 10 bytes) (parts_are_clean 10 bytes) e (parts_some 10 bytes) in
    let P : List ℕ → Type 0 = λ q. IsFirstFault q m in
    subst P (sym (joined_parts 10 bytes (parts 10 bytes) refl)) s

-- what reading gives, in the words of texts
pub reading_ends : (bytes : List ℕ) (answer : Result (List ReportRow) ReportError) → Gives (rows_of_text bytes) answer → ReadEnds bytes answer
reading_ends bytes (Ok rows) h = report_back bytes rows h
reading_ends bytes (Err (Line n)) h = report_stops bytes n h
reading_ends bytes (Err Memory) h = tt
