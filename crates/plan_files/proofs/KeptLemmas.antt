-- What is kept of a field says what the whole of it says, where a right one is short.
use Rattle.std.proofs.Common.{◌≡◌, ◌∙◌, ◌<◌, ◌≤◌, ◌+◌, ◌/◌, ◌%◌, ◌==◌, ◌&&◌, ◌++◌, nat_lt, nat_le, if◌then◌else◌, ℕ, zero, suc, Bool, true, false, List, [], ◌∷◌, length, get_or, take, drop, map, min, bytes_eq, Option, Some, None, Result, Ok, Err, refl, sym, ap, subst, arith, inl, inr, take_all, length-append}
use Rattle.std.proofs.lemmas.Bool.{cases_Bool, cases_lt, and_parts, eq-eqb, eqb-true}
use Rattle.std.proofs.lemmas.Bool.Decides.{nat_tests}
use Rattle.std.proofs.lemmas.List.{length-map, length-take, map-append, take-append-le}
use Rattle.std.proofs.lemmas.Fmt.{length-decimal-le}
use Rattle.std.proofs.Math.ListN.{get_or-append}
use Rattle.std.specs.Cmp.Lexicographic.{pointwise}
use Rattle.std.specs.List.{list_all}
use Rattle.std.specs.Result.{result_ok}
use Rattle.csv.specs.Machine.{Read}
use Rattle.csv.specs.Records.{fields_of}
use Rattle.csv.specs.Records as csv
use Rattle.field_texts.specs.Numbers.{number_of}
use Rattle.field_texts.proofs.NumberLaws.{number_back}
use Rattle.group_plan.specs.Names.{is_name, is_name_byte}
use Rattle.hex.specs.Hex.{decode_pairs, decode_sized}
use Rattle.hex.specs.declared.error.FromHexError.{FromHexError}
use Rattle.hex.specs.declared.error.FromHexError.TheVariants.{OddLength, InvalidStringLength}
use Rattle.plan_files.specs.Fields.{behind_fields, cut_text_with, first_field}
use Rattle.plan_files.specs.KeptRows.{IsBegun, KeepsField, fields_in, fields_or_none, goes_on, is_at_comma, kept_of, kept_with, most_bytes, most_fields, next_row, rows_in, starts_row}
use Rattle.plan_files.specs.PlanRows.{arg_in, has_fields}
use Rattle.plan_files.specs.declared.fault.FileCause.TheVariants as cause
use Rattle.plan_files.specs.declared.kept_row.FileRow.{FileRow}
use Rattle.plan_files.proofs.FieldLemmas.{behind_comma, behind_found, behind_row, row_begins, row_goes_on}
use Rattle.plan_files.proofs.RowsLeft.{row_first, row_leads}

-- ---- fields

cons_if : {A : Type 0} (b : Bool) (x : A) (xs ys : List A) → x ∷ (if b then xs else ys) ≡ (if b then x ∷ xs else x ∷ ys)
cons_if true x xs ys = refl
cons_if false x xs ys = refl

less_suc : (m n : ℕ) → nat_lt (suc m) (suc n) ≡ nat_lt m n
less_suc m n = grind (arith, nat_tests)

-- the first n of some with one more
pub take_more : {A : Type 0} (n : ℕ) (xs : List A) (x : A) → take n (xs ++ (x ∷ [])) ≡ (if nat_lt (length (take n xs)) n then take n xs ++ (x ∷ []) else take n xs)
take_more zero xs x = refl
take_more {A = A} (suc n) [] x =
    let some : nat_lt 0 (suc n) ≡ true = grind (arith, nat_tests) in
    rw some (ap (λ (l : List A). x ∷ l) (take_all {A = A} n [] (omega arith)))
take_more {A = A} (suc n) (y ∷ ys) x =
    let less : nat_lt (suc (length (take n ys))) (suc n) ≡ nat_lt (length (take n ys)) n = less_suc (length (take n ys)) n in
    rw less (ap (λ (l : List A). y ∷ l) (take_more n ys x) ∙ cons_if (nat_lt (length (take n ys)) n) y (take n ys ++ (x ∷ [])) (take n ys))

kept_if : {A B : Type 0} (f : A → B) (b : Bool) (xs : List A) (x : A) → map f (if b then xs ++ (x ∷ []) else xs) ≡ (if b then map f xs ++ (f x ∷ []) else map f xs)
kept_if f true xs x = map-append f xs (x ∷ [])
kept_if f false xs x = refl

-- what is kept of one field more
kept_more : {A B : Type 0} (f : A → B) (n : ℕ) (xs : List A) (x : A)
    → map f (take n (xs ++ (x ∷ []))) ≡ (if nat_lt (length (map f (take n xs))) n then map f (take n xs) ++ (f x ∷ []) else map f (take n xs))
kept_more f n xs x =
    ap (map f) (take_more n xs x) ∙ kept_if f (nat_lt (length (take n xs)) n) (take n xs) x
    ∙ ap (λ m. if nat_lt m n then map f (take n xs) ++ (f x ∷ []) else map f (take n xs)) (sym (length-map (take n xs) f))

pub keeps_more : (fields : List (List ℕ)) (text : List ℕ) → kept_with (kept_of fields) text ≡ kept_of (fields ++ text ∷ [])
keeps_more fields text = sym (kept_more (take most_bytes) most_fields fields text)

-- the field at a place
kept_place : (n place : ℕ) (fields : List (List ℕ)) → place < n → get_or (map (take most_bytes) (take n fields)) place [] ≡ take most_bytes (get_or fields place [])
kept_place zero place fields h = absurd (omega arith)
kept_place (suc n) zero [] h = refl
kept_place (suc n) (suc place) [] h = refl
kept_place (suc n) zero (f ∷ fs) h = refl
kept_place (suc n) (suc place) (f ∷ fs) h = kept_place n place fs (omega arith)

pub kept_at : (place : ℕ) (fields : List (List ℕ)) → place < most_fields → get_or (kept_of fields) place [] ≡ take most_bytes (get_or fields place [])
kept_at place fields h = kept_place most_fields place fields h

-- how many there are
same_count : (n count long : ℕ) → count < n → (min n long == count) ≡ (long == count)
same_count n count long h = elim (cases_lt long n) [
  | inl few ↦ let m : min n long ≡ long = omega arith in rw m refl
  | inr many ↦
      let m : min n long ≡ n = omega arith in
      let a : (n == count) ≡ false = grind (arith, nat_tests) in
      let b : (long == count) ≡ false = grind (arith, nat_tests) in
      rw (m, a, b) refl
]

pub kept_long : (count : ℕ) (fields : List (List ℕ)) → count < most_fields → (length (kept_of fields) == count) ≡ (length fields == count)
kept_long count fields h =
    ap (λ n. n == count) (length-map (take most_fields fields) (take most_bytes) ∙ length-take most_fields fields) ∙ same_count most_fields count (length fields) h

-- ---- texts

-- a word
word_cut : (n : ℕ) (text word : List ℕ) → length word < n → bytes_eq (take n text) word ≡ bytes_eq text word
word_cut zero text word h = absurd (omega arith)
word_cut (suc n) [] word h = refl
word_cut (suc n) (c ∷ cs) [] h = refl
word_cut (suc n) (c ∷ cs) (d ∷ ds) h = ap (λ b. (c == d) && b) (word_cut n cs ds (omega arith))

pub same_word : (text word : List ℕ) → length word < most_bytes → bytes_eq (take most_bytes text) word ≡ bytes_eq text word
same_word text word h = word_cut most_bytes text word h

-- a text of at most so many bytes, with a byte more
pub cut_more : (most : ℕ) (text : List ℕ) (is_text : Bool) (c : ℕ) → cut_text_with most (take most text) is_text c ≡ take most (if is_text then text ++ (c ∷ []) else text)
cut_more most text true c = sym (take_more most text c)
cut_more most text false c = refl

pub cut_twice : (most : ℕ) (text : List ℕ) → take most (take most text) ≡ take most text
cut_twice most text = take_all most (take most text) (let l = length-take most text in omega (arith, l))

-- what holds of what is kept of a long text and of the whole holds of both
pub same_if_long : {A : Type 0} (f : List ℕ → A) (x : A) (text : List ℕ) → ((t : List ℕ) → most_bytes ≤ length t → f t ≡ x) → f (take most_bytes text) ≡ f text
same_if_long f x text h = elim (cases_lt (length text) most_bytes) [
  | inl short ↦ ap f (take_all most_bytes text (omega (arith, short)))
  | inr long ↦ h (take most_bytes text) (let l = length-take most_bytes text in omega (arith, l)) ∙ sym (h text (omega arith))
]

-- a number
long_number : (text : List ℕ) → most_bytes ≤ length text → number_of text ≡ None
long_number text long = by (number_of text) refl
  where
    by : (n : Option ℕ) → number_of text ≡ n → n ≡ None
    by None is = refl
    by (Some n) is =
        let back = number_back text n is in
        let few = length-decimal-le 20 n (omega arith) (omega (arith, back.1)) back.1 in
        let long_too = ap length back.0 in
        absurd (omega arith)

pub same_number : (text : List ℕ) → number_of (take most_bytes text) ≡ number_of text
same_number text = same_if_long number_of None text long_number

-- a name
long_name : (text : List ℕ) → most_bytes ≤ length text → is_name text ≡ false
long_name text long = let t : nat_le (length text) 16 ≡ false = grind (arith, nat_tests) in rw t (by (nat_le 1 (length text)) (list_all is_name_byte text))
  where
    by : (a b : Bool) → (a && false && b) ≡ false
    by true b = refl
    by false b = refl

pub same_name : (text : List ℕ) → is_name (take most_bytes text) ≡ is_name text
same_name text = same_if_long is_name false text long_name

-- a key
long_key : (text : List ℕ) → most_bytes ≤ length text → result_ok (decode_sized text 32) ≡ None
long_key text long =
    no_pairs (length text % 2 == 1) (length text / 2 == 32) (decode_pairs 0 text)
    (λ is. let half : length text / 2 ≡ 32 = eqb-true _ _ is in eq-eqb (length text % 2) 1 (omega arith))
  where
    no_pairs : (a b : Bool) (pairs : Result (List ℕ) FromHexError) → (b ≡ true → a ≡ true)
        → result_ok (if a then Err OddLength else if b then pairs else Err InvalidStringLength) ≡ None
    no_pairs true b pairs h = refl
    no_pairs false false pairs h = refl
    no_pairs false true pairs h = let no = h refl in cc

pub same_key : (text : List ℕ) → result_ok (decode_sized (take most_bytes text) 32) ≡ result_ok (decode_sized text 32)
same_key text = same_if_long (λ t. result_ok (decode_sized t 32)) None text long_key

-- the first row of a plan
pub two_words : (fields : List (List ℕ)) (a b : List ℕ) → pointwise bytes_eq fields (a ∷ b ∷ []) ≡ ((length fields == 2) && bytes_eq (get_or fields 0 []) a && bytes_eq (get_or fields 1 []) b)
two_words [] a b = refl
two_words (f ∷ []) a b = no_more (bytes_eq f a)
  where
    no_more : (x : Bool) → (x && false) ≡ false
    no_more true = refl
    no_more false = refl
two_words (f ∷ g ∷ []) a b = both (bytes_eq f a) (bytes_eq g b)
  where
    both : (x y : Bool) → (x && (y && true)) ≡ (x && y)
    both true true = refl
    both true false = refl
    both false y = refl
two_words (f ∷ g ∷ h ∷ more) a b =
    let other : (length (f ∷ g ∷ h ∷ more) == 2) ≡ false = grind (arith, nat_tests) in
    rw other (none (bytes_eq f a) (bytes_eq g b))
  where
    none : (x y : Bool) → (x && (y && false)) ≡ false
    none true true = refl
    none true false = refl
    none false y = refl

-- ---- what the fields say

pub name_whole : (text : List ℕ) → is_name (take most_bytes text) ≡ true → take most_bytes text ≡ text
name_whole text named = elim (cases_lt (length text) most_bytes) [
  | inl short ↦ take_all most_bytes text (omega arith)
  | inr long ↦ absurd (let no = long_name text long in let same = same_name text in cc)
]

pub same_arg : (fields : List (List ℕ)) (text : List ℕ) → text ≡ get_or fields 2 [] → arg_in (text ∷ []) 0 ≡ arg_in fields 2
unfolding arg_in
same_arg fields text is = rw is refl

pub has_long : (count : ℕ) (fields : List (List ℕ)) (value : Unit {0}) → has_fields count fields ≡ Ok value → length fields ≡ count
unfolding has_fields
has_long count fields value is = by (length fields == count) refl is
  where
    by : (b : Bool) → (length fields == count) ≡ b → (if b then Ok tt else Err cause.Fields) ≡ Ok value → length fields ≡ count
    by true e h = eqb-true (length fields) count e
    by false e h = cc h

-- at most so many bytes of a text
pub take_few : (n : ℕ) (text : List ℕ) → take (min (length text) n) text ≡ take n text
take_few n text = elim (cases_lt (length text) n) [
  | inl few ↦ take_all (min (length text) n) text (omega arith) ∙ sym (take_all n text (omega arith))
  | inr many ↦ let m : min (length text) n ≡ n = omega arith in rw m refl
]

pub long_if : (is_text : Bool) (text : List ℕ) (c n : ℕ) → length text ≤ n → length (if is_text then text ++ (c ∷ []) else text) ≤ n + 1
long_if true text c n h = let l = length-append text (c ∷ []) in omega (arith, l)
long_if false text c n h = omega arith

-- ---- rows

-- a row is read so far, to the end of a field
pub record IsReadTo (start left : List ℕ) (kept : List (List ℕ)) (third : List ℕ) : Type 0 where
  pub fields : List (List ℕ)
  pub row : next_row start ≡ behind_fields fields left
  pub cut : kept ≡ kept_of fields
  pub noted : 2 < length fields → (first_field third).0 ≡ get_or fields 2 []

pub row_started : (start left : List ℕ) (old new : csv.Row) (third : List ℕ) → starts_row start ≡ true → 0 < length start → fields_of old ≡ []
    → KeepsField start (fields_of old) new left → IsReadTo start left (fields_of new) third
row_started start left old new third starts some none read = record {
  fields = read.text ∷ [];
  row = row_begins start read.text left starts some read.field;
  cut = read.added ∙ ap (λ (l : List (List ℕ)). kept_with l read.text) none;
  noted = λ lt. absurd (omega (arith, lt));
}

-- where the third field begins is noted
third_more : (fields : List (List ℕ)) (text third next : List ℕ) → (2 < length fields → (first_field third).0 ≡ get_or fields 2 []) → (first_field next).0 ≡ text
    → 2 < length (fields ++ (text ∷ [])) → (first_field (if length (kept_of fields) == 2 then next else third)).0 ≡ get_or (fields ++ (text ∷ [])) 2 []
third_more [] text third next noted is lt = absurd (omega (arith, lt))
third_more (a ∷ []) text third next noted is lt = absurd (omega (arith, lt))
third_more (a ∷ b ∷ []) text third next noted is lt = is
third_more (a ∷ b ∷ d ∷ more) text third next noted is lt =
    let other : (length (kept_of (a ∷ b ∷ d ∷ more)) == 2) ≡ false = kept_long 2 (a ∷ b ∷ d ∷ more) (omega arith) ∙ grind (arith, nat_tests) in
    rw other (noted (omega arith))

pub comma_some : (left : List ℕ) → is_at_comma left ≡ true → 0 < length left
comma_some [] h = cc h
comma_some (c ∷ cs) h = omega arith

pub goes_on_comma : (count : ℕ) (left : List ℕ) → goes_on count left ≡ true → is_at_comma left ≡ true
goes_on_comma count left h = (and_parts (nat_lt count most_fields) (is_at_comma left) h).1

pub row_continued : (start left next : List ℕ) (old new : csv.Row) (third : List ℕ) → goes_on (length (fields_of old)) left ≡ true
    → IsReadTo start left (fields_of old) third → KeepsField (drop 1 left) (fields_of old) new next
    → IsReadTo start next (fields_of new) (if length (fields_of old) == 2 then drop 1 left else third)
row_continued start left next old new third more so_far read =
    let comma = goes_on_comma (length (fields_of old)) left more in
    record {
      fields = so_far.fields ++ (read.text ∷ []);
      row = so_far.row ∙ behind_comma so_far.fields left comma ∙ row_goes_on so_far.fields read.text (drop 1 left) next read.field;
      cut = read.added ∙ ap (λ (l : List (List ℕ)). kept_with l read.text) so_far.cut ∙ keeps_more so_far.fields read.text;
      noted = λ lt.
          ap (λ (l : List (List ℕ)). (first_field (if length l == 2 then drop 1 left else third)).0) so_far.cut
          ∙ third_more so_far.fields read.text third (drop 1 left) so_far.noted (ap (λ (f : List ℕ × List ℕ). f.0) read.field) lt;
    }

-- all that is kept of a row is read
begun_by : (row : FileRow) (left : List ℕ) (fields : List (List ℕ)) (read : Read) → next_row row.start.now ≡ behind_fields fields left → next_row row.start.now ≡ Some read
    → fields_of row.kept ≡ kept_of read.0 → (2 < length read.0 → (first_field row.third.now).0 ≡ get_or read.0 2 []) → IsBegun row left
begun_by row left fields read behind found kept third =
    let own : fields_in row ≡ read.0 = ap fields_or_none found in
    record {
      kept = record { kept = kept ∙ ap kept_of (sym own); third = subst (λ (f : List (List ℕ)). 2 < length f → (first_field row.third.now).0 ≡ get_or f 2 []) (sym own) third };
      first = row_leads row.start.now read found ∙ ap (λ (f : List (List ℕ)). f ∷ drop 1 (rows_in row.start.now)) (sym own);
      fields = fields;
      behind = behind;
    }

-- as many fields as are kept, whatever follows
kept_full : (fields more : List (List ℕ)) → nat_lt (length (kept_of fields)) most_fields ≡ false → kept_of fields ≡ kept_of (fields ++ more)
kept_full fields more full =
    let long = length-map (take most_fields fields) (take most_bytes) ∙ length-take most_fields fields in
    let many : most_fields ≤ length fields = grind (arith, nat_tests, long, full) in
    ap (map (take most_bytes)) (sym (take-append-le most_fields fields more many))

full_long : (fields : List (List ℕ)) → nat_lt (length (kept_of fields)) most_fields ≡ false → 2 < length fields
full_long fields full =
    let long = length-map (take most_fields fields) (take most_bytes) ∙ length-take most_fields fields in
    grind (arith, nat_tests, long, full)

pub row_begun : (row : FileRow) (start left : List ℕ) → row.start.now ≡ start → goes_on (length (fields_of row.kept)) left ≡ false
    → IsReadTo start left (fields_of row.kept) row.third.now → IsBegun row left
row_begun row start left is stops so_far =
    let behind : next_row row.start.now ≡ behind_fields so_far.fields left = ap next_row is ∙ so_far.row in
    elim (cases_Bool (is_at_comma left)) [
      | inr ends ↦
          let row_ends = behind_row so_far.fields left ends in
          begun_by row left so_far.fields (so_far.fields, row_ends.0, drop 1 left) behind (behind ∙ row_ends.1) so_far.cut so_far.noted
      | inl comma ↦
          let found = behind_found so_far.fields left comma in
          let full : nat_lt (length (kept_of so_far.fields)) most_fields ≡ false = rw so_far.cut at (not_both (nat_lt (length (fields_of row.kept)) most_fields) (is_at_comma left) comma stops) in
          let same : found.0.0 ≡ so_far.fields ++ found.2.0 = found.2.1 in
          let many = full_long so_far.fields full in
          begun_by row left so_far.fields found.0 behind (behind ∙ found.1) (so_far.cut ∙ kept_full so_far.fields found.2.0 full ∙ ap kept_of (sym same))
          (λ lt. so_far.noted many ∙ sym (get_or-append so_far.fields found.2.0 [] 2 many) ∙ ap (λ (f : List (List ℕ)). get_or f 2 []) (sym same))
    ]
  where
    not_both : (a b : Bool) → b ≡ true → (a && b) ≡ false → a ≡ false
    not_both true b h stops = cc
    not_both false b h stops = refl

-- a row that goes on where these bytes begin goes on where those do
pub row_skipped : (fields : List (List ℕ)) (left next : List ℕ) → is_at_comma left ≡ true → (first_field (drop 1 left)).1 ≡ next
    → (more : List (List ℕ)) × (behind_fields fields left ≡ behind_fields more next)
row_skipped fields left next comma is =
    let field = first_field (drop 1 left) in
    (fields ++ (field.0 ∷ []), behind_comma fields left comma ∙ row_goes_on fields field.0 (drop 1 left) next (ap (λ (rest : List ℕ). (field.0, rest)) is))

-- behind its end are the rows after it
pub row_left : (start left : List ℕ) (fields : List (List ℕ)) → is_at_comma left ≡ false → next_row start ≡ behind_fields fields left → rows_in (drop 1 left) ≡ drop 1 (rows_in start)
row_left start left fields ends is =
    let row_ends = behind_row fields left ends in
    sym (ap (drop 1) (row_first start fields row_ends.0 (drop 1 left) row_ends.2 (is ∙ row_ends.1)))

-- of a text that was cut before as much is kept
pub cut_kept : (before : List (List ℕ)) (text : List ℕ) → kept_with before (take most_bytes text) ≡ kept_with before text
cut_kept before text = ap (λ (t : List ℕ). if nat_lt (length before) most_fields then before ++ (t ∷ []) else before) (cut_twice most_bytes text)
