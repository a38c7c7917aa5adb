-- A line that is written is read, and a line that is read was written so.
use Rattle.std.proofs.Common.{◌≡◌, ◌<◌, ◌==◌, ◌&&◌, nat_le, ℕ, Bool, true, false, List, [], ◌∷◌, length, refl, sym, ap, subst, ◌∙◌, arith, Option, Some, None, inl, inr, IsTrue}
use Rattle.std.specs.Prelude.{codes, bytes_eq}
use Rattle.std.specs.List.{list_all}
use Rattle.std.specs.Option.{option_map}
use Rattle.std.proofs.lemmas.Bool.Decides.{nat_tests}
use Rattle.group_plan.specs.Names.{is_name, is_name_byte}
use Rattle.field_texts.specs.Numbers.{number_of, within}
use Rattle.field_texts.specs.Parts.{parts}
use Rattle.totals_report.specs.declared.row.ReportRow.{ReportRow}
use Rattle.totals_report.specs.declared.row.RowOutcome.{RowOutcome}
use Rattle.totals_report.specs.declared.row.RowOutcome.TheVariants.{Total, Lacking, Thin, Running}
use Rattle.totals_report.specs.Rows.{IsRow, IsSmallTotal}
use Rattle.totals_report.specs.Texts.{fields_of, outcome_word, row_line, total_text}
use Rattle.totals_report.specs.Reading.{◌>>=◌, name_spelled, outcome_spelled, row_of, without_total}
use Rattle.field_texts.specs.Sets.{set_of}
use Rattle.field_texts.proofs.NumberLaws.{number_again, number_back, within_again, within_back}
use Rattle.field_texts.proofs.SetLaws.{clean_text, rising_set, set_again, set_back, set_rising}
use Rattle.field_texts.proofs.Choices.{is_word, pick}
use Rattle.field_texts.proofs.TextLaws.{AllClean, clean, clean_decimal, clean_joined, joined_parts, parts_joined}

-- ---- forth

outcome_again : (outcome : RowOutcome) → IsSmallTotal outcome → outcome_spelled (outcome_word outcome) (total_text outcome) ≡ Some outcome
unfolding outcome_spelled
outcome_again (Total total) small = let n = number_again total small in rw n refl
outcome_again Lacking small = refl
outcome_again Thin small = refl
outcome_again Running small = refl

pub row_again : (row : ReportRow) → IsRow row → row_of (fields_of row) ≡ Some row
unfolding row_of
row_again row is =
    let round = within_again 0 4096 row.round (omega arith) is.round (omega arith) in
    let survivors = within_again 0 257 row.survivors (omega arith) (omega (arith, is.survivors)) (omega arith) in
    let missing = set_again 256 row.missing (omega arith) (set_rising 256 row.missing is.missing is.missing.small) in
    let outcome = outcome_again row.outcome is.total in
    rw (is.named, round, survivors, missing, outcome) refl

-- ---- no mark in a field

name_byte : (mark c : ℕ) → is_name_byte mark ≡ false → is_name_byte c ≡ true → (c == mark) ≡ false
name_byte mark c apart here = by_test (c == mark) refl
  where
    by_test : (b : Bool) → (c == mark) ≡ b → b ≡ false
    by_test false e = refl
    by_test true e =
        let same : c ≡ mark = grind (arith, nat_tests, e) in
        let clash : true ≡ false = sym here ∙ ap is_name_byte same ∙ apart in
        absurd cc

both : (a b : Bool) → (a && b) ≡ true → (a ≡ true) × (b ≡ true)
both true b h = (refl, h)
both false b h = absurd cc

name_clean : (mark : ℕ) (text : List ℕ) → is_name_byte mark ≡ false → list_all is_name_byte text ≡ true → clean mark text ≡ true
name_clean mark [] apart h = refl
name_clean mark (c ∷ cs) apart h =
    let b = both (is_name_byte c) (list_all is_name_byte cs) h in
    let t = name_byte mark c apart b.0 in
    rw t (name_clean mark cs apart b.1)

word_clean : (mark : ℕ) → mark < 48 → (outcome : RowOutcome) → clean mark (outcome_word outcome) ≡ true
word_clean mark low (Total total) = grind (arith, nat_tests)
word_clean mark low Lacking = grind (arith, nat_tests)
word_clean mark low Thin = grind (arith, nat_tests)
word_clean mark low Running = grind (arith, nat_tests)

total_clean : (mark : ℕ) (outcome : RowOutcome) → mark < 48 → IsSmallTotal outcome → clean mark (total_text outcome) ≡ true
total_clean mark (Total total) low small = clean_decimal mark total low small
total_clean mark Lacking low small = refl
total_clean mark Thin low small = refl
total_clean mark Running low small = refl

pub row_clean : (mark : ℕ) (row : ReportRow) → mark < 48 → is_name_byte mark ≡ false → (43 == mark) ≡ false → (45 == mark) ≡ false → IsRow row → AllClean mark (fields_of row)
row_clean mark row low apart plus dash is =
    let name = both (nat_le 1 (length row.name) && nat_le (length row.name) 16) (list_all is_name_byte row.name) is.named in
    all_six (name_clean mark row.name apart name.1) (clean_decimal mark row.round low (omega (arith, is.round))) (clean_decimal mark row.survivors low (omega (arith, is.survivors)))
    (clean_text mark 256 row.missing low plus dash (omega arith) is.missing.small) (word_clean mark low row.outcome) (total_clean mark row.outcome low is.total)
  where
    all_six : {a b c d e f : Type 0} → a → b → c → d → e → f → a × (b × (c × (d × (e × (f × Unit {0})))))
    all_six a b c d e f = (a, (b, (c, (d, (e, (f, tt))))))

-- the fields of a row's line
pub line_fields : (row : ReportRow) → IsRow row → parts 44 (row_line row) ≡ fields_of row
unfolding row_line
line_fields row is = parts_joined 44 row.name _ (row_clean 44 row (omega arith) refl refl refl is)

-- a row's line has no newline
pub line_clean : (row : ReportRow) → IsRow row → clean 10 (row_line row) ≡ true
unfolding row_line
line_clean row is = clean_joined 10 44 (fields_of row) refl (row_clean 10 row (omega arith) refl refl refl is)

-- ---- back

-- a step that gave something
bound : {A B : Type 0} (first : Option A) (next : A → Option B) (y : B) → (first >>= next) ≡ Some y → (x : A) × (first ≡ Some x) × (next x ≡ Some y)
bound (Some x) next y h = (x, refl, h)
bound None next y h = absurd cc

name_back : (text name : List ℕ) → name_spelled text ≡ Some name → (text ≡ name) × IsTrue (is_name name)
name_back text name h = elim (pick (is_name text) (Some text) None (Some name) h) [
  | inl w ↦ let same : text ≡ name = cc in (same, ap is_name (sym same) ∙ w.0)
  | inr w ↦ absurd cc
]

-- an outcome that was read
abbrev IsRead : List ℕ → List ℕ → RowOutcome → Type 0
IsRead word total outcome = (word ≡ outcome_word outcome) × (total ≡ total_text outcome) × IsSmallTotal outcome

mapped : {A B : Type 0} (f : A → B) (o : Option A) (y : B) → option_map f o ≡ Some y → (x : A) × (o ≡ Some x) × (f x ≡ y)
mapped f None y h = absurd cc
mapped f (Some x) y h = (x, refl, cc)

total_back : (word total : List ℕ) (outcome : RowOutcome) → word ≡ codes "total" → option_map Total (number_of total) ≡ Some outcome → IsRead word total outcome
total_back word total outcome w h =
    let m = mapped Total (number_of total) outcome h in
    let n = number_back total m.0 m.1 in
    let P : RowOutcome → Type 0 = IsRead word total in
    subst P m.2 (w, n.0, n.1)

word_back : (word total : List ℕ) (plain outcome : RowOutcome) → word ≡ outcome_word plain → total_text plain ≡ [] → IsSmallTotal plain → without_total plain total ≡ Some outcome → IsRead word total outcome
word_back word total plain outcome w none small h = elim (pick (bytes_eq total []) (Some plain) None (Some outcome) h) [
  | inl p ↦
      let same : plain ≡ outcome = cc in
      let P : RowOutcome → Type 0 = IsRead word total in
      subst P same (w, is_word total [] p.0 ∙ sym none, small)
  | inr p ↦ absurd cc
]

outcome_back : (word total : List ℕ) (outcome : RowOutcome) → outcome_spelled word total ≡ Some outcome → IsRead word total outcome
unfolding outcome_spelled
outcome_back word total outcome h = elim (pick (bytes_eq word (codes "total")) _ _ _ h) [
  | inl w ↦ total_back word total outcome (is_word word _ w.0) w.1
  | inr w ↦ elim (pick (bytes_eq word (codes "none")) _ _ _ w.1) [
    | inl w ↦ word_back word total Lacking outcome (is_word word _ w.0) refl tt w.1
    | inr w ↦ elim (pick (bytes_eq word (codes "thin")) _ _ _ w.1) [
      | inl w ↦ word_back word total Thin outcome (is_word word _ w.0) refl tt w.1
      | inr w ↦ elim (pick (bytes_eq word (codes "open")) _ _ _ w.1) [
        | inl w ↦ word_back word total Running outcome (is_word word _ w.0) refl tt w.1
        | inr w ↦ absurd cc
      ]
    ]
  ]
]

six : {a b c d e f p q r s t u : List ℕ} → a ≡ p → b ≡ q → c ≡ r → d ≡ s → e ≡ t → f ≡ u → a ∷ b ∷ c ∷ d ∷ e ∷ f ∷ [] ≡ p ∷ q ∷ r ∷ s ∷ t ∷ u ∷ []
six h i j k l m = cc

-- the row of fields that were read
abbrev pub IsOfRow : List (List ℕ) → ReportRow → Type 0
IsOfRow texts row = (texts ≡ fields_of row) × IsRow row

six_back : (name round survivors missing outcome total : List ℕ) (row : ReportRow) → row_of (name ∷ round ∷ survivors ∷ missing ∷ outcome ∷ total ∷ []) ≡ Some row → IsOfRow (name ∷ round ∷ survivors ∷ missing ∷ outcome ∷ total ∷ []) row
unfolding row_of
six_back name round survivors missing outcome total row h =
    let a = bound (name_spelled name) _ row h in
    let b = bound (within 0 4096 (number_of round)) _ row a.2 in
    let d = bound (within 0 257 (number_of survivors)) _ row b.2 in
    let e = bound (set_of 256 missing) _ row d.2 in
    let f = bound (outcome_spelled outcome total) _ row e.2 in
    let same : record { name = a.0; round = b.0; survivors = d.0; missing = e.0; outcome = f.0 } ≡ row = cc in
    let named = name_back name a.0 a.1 in
    let rounds = within_back 0 4096 b.0 round b.1 in
    let counted = within_back 0 257 d.0 survivors d.1 in
    let set = set_back 256 missing e.0 e.1 in
    let read = outcome_back outcome total f.0 f.1 in
    let P : ReportRow → Type 0 = IsOfRow (name ∷ round ∷ survivors ∷ missing ∷ outcome ∷ total ∷ []) in
    subst P same (six named.0 rounds.0 counted.0 set.0 read.0 read.1, record { named = named.1; round = rounds.2; survivors = omega (arith, counted.2); missing = rising_set 256 e.0 (omega arith) set.1; total = read.2 })

fields_back : (texts : List (List ℕ)) (row : ReportRow) → row_of texts ≡ Some row → IsOfRow texts row
unfolding row_of
fields_back [] row h = absurd cc
fields_back (a ∷ []) row h = absurd cc
fields_back (a ∷ b ∷ []) row h = absurd cc
fields_back (a ∷ b ∷ c ∷ []) row h = absurd cc
fields_back (a ∷ b ∷ c ∷ d ∷ []) row h = absurd cc
fields_back (a ∷ b ∷ c ∷ d ∷ e ∷ []) row h = absurd cc
fields_back (a ∷ b ∷ c ∷ d ∷ e ∷ f ∷ []) row h = six_back a b c d e f row h
fields_back (a ∷ b ∷ c ∷ d ∷ e ∷ f ∷ g ∷ texts) row h = absurd cc

-- what is read is the line of a row
pub row_back : (line : List ℕ) (row : ReportRow) → row_of (parts 44 line) ≡ Some row → (line ≡ row_line row) × IsRow row
unfolding row_line
row_back line row h = let b = fields_back (parts 44 line) row h in (joined_parts 44 line (fields_of row) b.0, b.1)
