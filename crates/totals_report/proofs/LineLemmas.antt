-- Lines read one after another.
use Rattle.std.proofs.Common.{◌≡◌, ◌<◌, ◌+◌, ℕ, true, false, List, [], ◌∷◌, ◌++◌, length, refl, ap, arith, sym, ◌∙◌, Option, Some, None, Result, Ok, Err, append_assoc, append-nil, if◌then◌else◌}
use Rattle.std.specs.Prelude.{bytes_eq}
use Rattle.field_texts.specs.Parts.{parts}
use Rattle.totals_report.specs.declared.row.ReportRow.{ReportRow}
use Rattle.totals_report.specs.Texts.{heading}
use Rattle.totals_report.specs.Reading.{before, no_rest, row_of, rows_from, rows_below, rows_of_text}
use Rattle.field_texts.proofs.Cutting.{parts_some}

-- these rows before what more there is
abbrev pub onto : List ReportRow → Result (List ReportRow) ℕ → Result (List ReportRow) ℕ
onto front (Ok more) = Ok (front ++ more)
onto front (Err n) = Err n

pub none_onto : (more : Result (List ReportRow) ℕ) → onto [] more ≡ more
none_onto (Ok rows) = refl
none_onto (Err n) = refl

pub opens : (n : ℕ) (line : List ℕ) (next : List (List ℕ)) → 0 < length next → rows_from n (line ∷ next) ≡ before n (row_of (parts 44 line)) (rows_from (n + 1) next)
unfolding rows_from
opens n line [] some = absurd (omega arith)
opens n line (second ∷ more) some = refl

onto_onto : (front : List ReportRow) (n : ℕ) (row : ReportRow) (more : Result (List ReportRow) ℕ) → onto front (before n (Some row) more) ≡ onto (front ++ row ∷ []) more
onto_onto front n row (Ok rows) = ap Ok (sym (append_assoc front (row ∷ []) rows))
onto_onto front n row (Err m) = refl

module _ (n : ℕ) (front : List ReportRow) (line after : List ℕ) (all : List (List ℕ)) (whole : Result (List ReportRow) ℕ)
    (cut : all ≡ line ∷ parts 10 after) (so : onto front (rows_from n all) ≡ whole) where
  goes : (read : Option ReportRow) → read ≡ row_of (parts 44 line) → onto front (before n read (rows_from (n + 1) (parts 10 after))) ≡ whole
  goes read is =
      ap (λ r. onto front (before n r (rows_from (n + 1) (parts 10 after)))) is
      ∙ ap (onto front) (sym (opens n line (parts 10 after) (parts_some 10 after))) ∙ ap (λ q. onto front (rows_from n q)) (sym cut) ∙ so

  -- a row more
  pub row_more : (row : ReportRow) → Some row ≡ row_of (parts 44 line) → onto (front ++ row ∷ []) (rows_from (n + 1) (parts 10 after)) ≡ whole
  row_more row is = sym (onto_onto front n row (rows_from (n + 1) (parts 10 after))) ∙ goes (Some row) is

  -- a line that is no row
  pub row_none : None ≡ row_of (parts 44 line) → whole ≡ Err n
  row_none is = sym (goes None is)

module _ (n : ℕ) (front : List ReportRow) (rest : List ℕ) (all : List (List ℕ)) (whole : Result (List ReportRow) ℕ)
    (cut : all ≡ rest ∷ []) (so : onto front (rows_from n all) ≡ whole) where
  last : whole ≡ onto front (no_rest n rest)
  unfolding rows_from
  last = sym (ap (λ q. onto front (rows_from n q)) (sym cut) ∙ so)

  -- a line without its newline
  pub rest_left : 0 < length rest → whole ≡ Err n
  rest_left some = last ∙ by_rest rest some
    where
      by_rest : (rest : List ℕ) → 0 < length rest → onto front (no_rest n rest) ≡ Err n
      by_rest [] h = absurd (omega arith)
      by_rest (c ∷ cs) h = refl

  -- nothing is left
  pub rest_none : length rest ≡ 0 → whole ≡ Ok front
  rest_none none = last ∙ by_rest rest none
    where
      by_rest : (rest : List ℕ) → length rest ≡ 0 → onto front (no_rest n rest) ≡ Ok front
      by_rest [] h = ap Ok (append-nil front)
      by_rest (c ∷ cs) h = absurd (omega arith)

-- ---- the heading

-- a text without a newline
pub no_line : (bytes : List ℕ) → parts 10 bytes ≡ bytes ∷ [] → rows_of_text bytes ≡ Err 1
unfolding rows_of_text rows_below
no_line bytes cut = ap rows_below cut

below : (line : List ℕ) (next : List (List ℕ)) → 0 < length next → rows_below (line ∷ next) ≡ (if bytes_eq line heading then rows_from 2 next else Err 1)
unfolding rows_below
below line [] some = absurd (omega arith)
below line (second ∷ more) some = refl

-- another first line
pub heading_wrong : (bytes line after : List ℕ) → parts 10 bytes ≡ line ∷ parts 10 after → bytes_eq line heading ≡ false → rows_of_text bytes ≡ Err 1
unfolding rows_of_text
heading_wrong bytes line after cut other = ap rows_below cut ∙ below line (parts 10 after) (parts_some 10 after) ∙ (rw other refl)

-- the heading, and the lines below it
pub heading_read : (bytes line after : List ℕ) → parts 10 bytes ≡ line ∷ parts 10 after → bytes_eq line heading ≡ true → rows_of_text bytes ≡ rows_from 2 (parts 10 after)
unfolding rows_of_text
heading_read bytes line after cut same = ap rows_below cut ∙ below line (parts 10 after) (parts_some 10 after) ∙ (rw same refl)
