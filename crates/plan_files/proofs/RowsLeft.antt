-- What reading one more row leaves of the rows of a file.
use Rattle.std.proofs.Common.{◌≡◌, ◌<◌, ◌+◌, ◌==◌, ◌||◌, ℕ, zero, suc, Bool, true, false, List, [], ◌∷◌, drop, length, Option, Some, None, sym, refl, ap, arith, ◌∙◌, if◌then◌else◌}
use Rattle.csv.specs.Machine.{Read, next_record, start_field, step}
use Rattle.csv.specs.Reading.{default_config, records_from, records_next}
use Rattle.csv.specs.declared.parser.Action.{Action}
use Rattle.csv.specs.declared.parser.Action.TheVariants as act
use Rattle.csv.specs.declared.parser.State.{State}
use Rattle.csv.specs.declared.parser.State.TheVariants as st
use Rattle.plan_files.specs.KeptRows.{next_row, rows_in}
use Rattle.plan_files.proofs.AllRecords.{IsBetween, next_shrinks}

same_next : (n m : ℕ) (o : Option Read) → ((p : Read) → o ≡ Some p → records_from default_config n p.1 p.2 ≡ records_from default_config m p.1 p.2)
    → records_next (records_from default_config n) o ≡ records_next (records_from default_config m) o
same_next n m None h = refl
same_next n m (Some p) h = ap (λ (rows : List (List (List ℕ))). p.0 ∷ rows) (h p refl)

-- the count of turns makes no difference where there are more turns than bytes
same_rows : (n m : ℕ) (s : State) (text : List ℕ) → IsBetween s → length text < n → length text < m → records_from default_config n s text ≡ records_from default_config m s text
unfolding records_from
same_rows zero m s text h l k = absurd (omega arith)
same_rows (suc n) zero s text h l k = absurd (omega arith)
same_rows (suc n) (suc m) s text h l k =
    same_next n m (next_record default_config s [] [] text)
    (λ p e.
    let here = next_shrinks n s text p h l e in
    let there = next_shrinks m s text p h k e in
    same_rows n m p.1 p.2 here.0 here.1 there.1)

one_row : (n m : ℕ) (s : State) (text : List ℕ) (p : Read) → IsBetween s → length text < n → length p.2 < m → next_record default_config s [] [] text ≡ Some p
    → IsBetween p.1 × (records_from default_config n s text ≡ p.0 ∷ records_from default_config m p.1 p.2)
unfolding records_from
one_row zero m s text p h l k e = absurd (omega arith)
one_row (suc n) m s text p h l k e =
    let rest = next_shrinks n s text p h l e in
    (rest.0, rw e (ap (λ (rows : List (List (List ℕ))). p.0 ∷ rows) (same_rows n m p.1 p.2 rest.0 rest.1 k)))

-- behind a carriage return a row begins as elsewhere
as_at_start : (c : ℕ) → step default_config st.AfterCr c ≡ step default_config st.StartRecord c
as_at_start c = same (c == 10) (c == 13) (st.StartRecord, act.Skip) (start_field default_config c)
  where
    same : (a b : Bool) (x y : State × Action) → (if a then x else (if b || a then x else y)) ≡ (if b || a then x else y)
    same true true x y = refl
    same true false x y = refl
    same false b x y = refl

next_at_start : (s : State) (text : List ℕ) → IsBetween s → next_record default_config s [] [] text ≡ next_record default_config st.StartRecord [] [] text
unfolding next_record
next_at_start st.StartRecord text h = refl
next_at_start st.AfterCr [] h = refl
next_at_start st.AfterCr (c ∷ cs) h = rw (as_at_start c) refl
next_at_start st.StartField text h = cc h
next_at_start st.InField text h = cc h
next_at_start st.InQuoted text h = cc h
next_at_start st.AfterQuote text h = cc h
next_at_start st.InEscape text h = cc h
next_at_start st.InComment text h = cc h

rows_at_start : (n : ℕ) (s : State) (text : List ℕ) → IsBetween s → records_from default_config n s text ≡ records_from default_config n st.StartRecord text
unfolding records_from
rows_at_start zero s text h = refl
rows_at_start (suc n) s text h = ap (records_next (records_from default_config n)) (next_at_start s text h)

-- a row that is read is the first of those that the bytes hold
pub row_first : (bytes : List ℕ) (fields : List (List ℕ)) (s : State) (rest : List ℕ) → IsBetween s → next_row bytes ≡ Some (fields, s, rest) → rows_in bytes ≡ fields ∷ rows_in rest
row_first bytes fields s rest between is =
    (one_row (length bytes + 1) (length rest + 1) st.StartRecord bytes (fields, s, rest) refl (omega arith) (omega arith) is).1
    ∙ ap (λ (rows : List (List (List ℕ))). fields ∷ rows) (rows_at_start (length rest + 1) s rest between)

no_rows : (n : ℕ) (s : State) (text : List ℕ) → next_record default_config s [] [] text ≡ None → records_from default_config n s text ≡ []
unfolding records_from
no_rows zero s text e = refl
no_rows (suc n) s text e = rw e refl

-- the first of the rows is the one that is read first
pub row_leads : (bytes : List ℕ) (read : Read) → next_row bytes ≡ Some read → rows_in bytes ≡ read.0 ∷ drop 1 (rows_in bytes)
row_leads bytes read is =
    let one = (one_row (length bytes + 1) (length read.2 + 1) st.StartRecord bytes read refl (omega arith) (omega arith) is).1 in
    one ∙ ap (λ (rows : List (List (List ℕ))). read.0 ∷ rows) (sym (ap (drop 1) one))

-- where no row is first, there is none
pub row_none : (bytes : List ℕ) → next_row bytes ≡ None → rows_in bytes ≡ []
row_none bytes is = no_rows (length bytes + 1) st.StartRecord bytes is

-- the same row first, the same rows
pub rows_same : (a b : List ℕ) → next_row a ≡ next_row b → rows_in a ≡ rows_in b
rows_same a b same = by (next_row b) same refl
  where
    by : (o : Option Read) → next_row a ≡ o → next_row b ≡ o → rows_in a ≡ rows_in b
    by None p q = row_none a p ∙ sym (row_none b q)
    by (Some read) p q =
        (one_row (length a + 1) (length read.2 + 1) st.StartRecord a read refl (omega arith) (omega arith) p).1
        ∙ sym (one_row (length b + 1) (length read.2 + 1) st.StartRecord b read refl (omega arith) (omega arith) q).1

-- no bytes hold no row
pub none_in_nothing : rows_in [] ≡ []
unfolding next_record
none_in_nothing = row_none [] refl
