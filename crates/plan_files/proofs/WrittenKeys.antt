-- Rows of keys that stand as they are written are read as what they say.
use Rattle.std.proofs.Common.{◌≡◌, ◌∙◌, ◌<◌, ◌≤◌, ◌+◌, ◌-◌, ◌*◌, ◌/◌, ◌%◌, ◌^◌, ℕ, suc, true, List, [], ◌∷◌, ◌++◌, length, get_or, take, drop, Option, Some, None, IfSome, Result, Ok, Err, sym, refl, ap, arith, append_assoc, append-nil, take-append-drop, drop-cons, length-append, codes, decimal}
use Rattle.std.proofs.lemmas.Bool.Decides.{nat_tests}
use Rattle.std.proofs.lemmas.Fmt.{decimal_digit, decimal_step}
use Rattle.std.proofs.lemmas.List.Sums.{list_all-from_AllPass}
use Rattle.std.specs.Char.{is_ascii_digit}
use Rattle.std.specs.Result.{result_ok}
use Rattle.hex.specs.Hex.{decode_pairs, decode_sized, is_hex_digit}
use Rattle.hex.specs.declared.error.FromHexError.{FromHexError}
use Rattle.hex.proofs.HexLemmas.{decode_pairs-ok, decode_sized-ok}
use Rattle.hex.proofs.Pairs.{decode_sized-pairs}
use Rattle.plan_files.specs.Faults.{◌>>=◌}
use Rattle.plan_files.specs.KeptRows.{rows_in}
use Rattle.plan_files.specs.PlainRows.{is_plain, is_plain_byte, is_plain_row, rest_text, row_text}
use Rattle.plan_files.specs.PlanForms.{after, entries_from}
use Rattle.plan_files.specs.PlanRows.{entry_of, has_fields, key_in, key_or_lane, own_row, pair_row, text}
use Rattle.plan_files.specs.WrittenKeys.{AddsRows, IsKeyPart, IsKeyRow, IsNumberPart}
use Rattle.plan_files.specs.declared.entry.PlanRow.{PlanRow}
use Rattle.plan_files.specs.declared.entry.PlanRow.TheVariants as entry
use Rattle.plan_files.specs.declared.fault.FileFault.{FileFault}
use Rattle.plan_files.specs.declared.form.PlanForm.{PlanForm}
use Rattle.plan_files.specs.declared.form.PlanForm.TheVariants.{Whole}
use Rattle.plan_files.proofs.PlainRowLemmas.{reads_row}
use Rattle.plan_files.proofs.PlainTexts.{all_so, plain_decimal, plain_five, plain_four}
use Rattle.plan_files.proofs.RowsLeft.{row_first}
use Rattle.plan_files.proofs.SpelledForms.{number_at}

-- ---- the text of a row

-- the text of a row with one field more in front
field_more : (field : List ℕ) (fields : List (List ℕ)) (rest : List ℕ) → rest_text (field ∷ fields) ++ rest ≡ 44 ∷ (field ++ (rest_text fields ++ rest))
field_more field fields rest = ap (λ (l : List ℕ). 44 ∷ l) (append_assoc field (rest_text fields) rest)

number_plain : (n : ℕ) → n < 2 ^ 32 → is_plain (decimal n) ≡ true
number_plain n small = plain_decimal n (omega arith)

key_at : (fields : List (List ℕ)) (place : ℕ) (digits key : List ℕ) → text fields place ≡ digits → result_ok (decode_sized digits 32) ≡ Some key → key_in fields place ≡ Ok key
unfolding key_in
key_at fields place digits key is read = rw (is, read) refl

-- the rows of bytes that begin with the text of a plain row
rows_behind : (bytes : List ℕ) (fields : List (List ℕ)) (rest : List ℕ) → is_plain_row fields ≡ true → bytes ≡ row_text fields ++ rest → rows_in bytes ≡ fields ∷ rows_in rest
rows_behind bytes fields rest plain is = ap rows_in is ∙ row_first (row_text fields ++ rest) fields _ rest refl (reads_row fields rest plain)

-- ---- the parts of a row

-- one digit
pub digit_written : (digit n : ℕ) → is_ascii_digit digit ≡ true → n ≡ digit - 48 → decimal n ≡ digit ∷ []
digit_written digit n h is =
    let low : 48 ≤ digit = grind (arith, nat_tests, h) in
    let high : digit ≤ 57 = grind (arith, nat_tests, h) in
    let same : 48 + n ≡ digit = omega (arith, low, is) in
    decimal_digit n (omega (arith, low, high, is)) ∙ ap (λ (c : ℕ). c ∷ []) same

-- one digit more
pub digit_more : (digit n more : ℕ) → is_ascii_digit digit ≡ true → 0 < n → more < 2 ^ 32 → more ≡ 10 * n + (digit - 48) → decimal more ≡ decimal n ++ digit ∷ []
digit_more digit n more h some small is =
    let low : 48 ≤ digit = grind (arith, nat_tests, h) in
    let high : digit ≤ 57 = grind (arith, nat_tests, h) in
    let before : more / 10 ≡ n = omega (arith, low, high, is) in
    let last : 48 + more % 10 ≡ digit = omega (arith, low, high, is) in
    decimal_step more (omega (arith, some, is)) (omega (arith, small)) ∙ (ap (λ (k : ℕ). decimal k ++ (48 + more % 10) ∷ []) before ∙ ap (λ (c : ℕ). decimal n ++ c ∷ []) last)

-- a number before a comma, and what is behind it
pub comma_there : (bytes rest : List ℕ) (place n : ℕ) → n < 2 ^ 32 → place < length bytes → take place bytes ≡ decimal n → get_or bytes place 0 ≡ 44 → rest ≡ drop (place + 1) bytes → IsNumberPart bytes n rest
comma_there bytes rest place n small inside so_far comma is =
    let next : suc place ≡ place + 1 = omega arith in
    let behind : drop (suc place) bytes ≡ rest = ap (λ (k : ℕ). drop k bytes) next ∙ sym is in
    record {
      text = sym (take-append-drop place bytes)
          ∙ (ap (λ (l : List ℕ). l ++ drop place bytes) so_far
          ∙ ap (λ (l : List ℕ). decimal n ++ l)
          (drop-cons bytes place 0 inside ∙ (ap (λ (c : ℕ). c ∷ drop (suc place) bytes) comma ∙ ap (λ (l : List ℕ). 44 ∷ l) behind)));
      small = small;
    }

key_first : (bytes key : List ℕ) → 65 ≤ length bytes → get_or bytes 64 0 ≡ 10 → Some key ≡ result_ok (decode_sized (take 64 bytes) 32) → IsKeyPart bytes key (drop 65 bytes)
key_first bytes key long newline read = record {
  digits = take 64 bytes;
  text = sym (take-append-drop 64 bytes) ∙ ap (λ (l : List ℕ). take 64 bytes ++ l) (drop-cons bytes 64 0 (omega arith) ∙ ap (λ (c : ℕ). c ∷ drop 65 bytes) newline);
  read = sym read;
}

pub key_there : (bytes : List ℕ) (key : Option (List ℕ)) → 65 ≤ length bytes → get_or bytes 64 0 ≡ 10 → key ≡ result_ok (decode_sized (take 64 bytes) 32)
    → IfSome key (λ it. IsKeyPart bytes it (drop 65 bytes))
key_there bytes None long newline read = tt
key_there bytes (Some key) long newline read = key_first bytes key long newline read

pub long_there : (bytes : List ℕ) (key : Option (List ℕ)) → 65 ≤ length bytes → IfSome key (λ it. 65 ≤ length bytes)
long_there bytes None long = tt
long_there bytes (Some key) long = long

-- ---- the digits of a key are plain

digit_plain : (c : ℕ) → is_hex_digit c ≡ true → is_plain_byte c ≡ true
digit_plain c h = grind (arith, nat_tests, h)

decoded : (text key : List ℕ) (r : Result (List ℕ) FromHexError) → result_ok r ≡ Some key → r ≡ Ok key
decoded text key (Ok other) h = cc
decoded text key (Err e) h = cc

pairs_decoded : (text key : List ℕ) → decode_sized text 32 ≡ Ok key → decode_pairs 0 text ≡ Ok key
pairs_decoded text key h = let long = decode_sized-ok text 32 key h in sym (decode_sized-pairs text 32 (omega arith) (omega arith)) ∙ h

digits_plain : (digits key : List ℕ) → result_ok (decode_sized digits 32) ≡ Some key → is_plain digits ≡ true
digits_plain digits key read =
    all_so is_hex_digit is_plain_byte digit_plain digits
    (list_all-from_AllPass is_hex_digit digits (decode_pairs-ok 0 digits key (pairs_decoded digits key (decoded digits key (decode_sized digits 32) read))).0)

-- ---- rows

own_says : (n g i : ℕ) (digits key : List ℕ) → g < 2 ^ 32 → i < 2 ^ 32 → result_ok (decode_sized digits 32) ≡ Some key
    → entry_of Whole n (codes "own" ∷ decimal g ∷ decimal i ∷ digits ∷ []) ≡ Ok (entry.Own g i key)
unfolding entry_of key_or_lane own_row has_fields
own_says n g i digits key a b read =
    let fields = codes "own" ∷ decimal g ∷ decimal i ∷ digits ∷ [] in
    rw (number_at fields 1 g refl a, number_at fields 2 i refl b, key_at fields 3 digits key refl read) refl

pair_says : (n g low high : ℕ) (digits key : List ℕ) → g < 2 ^ 32 → low < 2 ^ 32 → high < 2 ^ 32 → result_ok (decode_sized digits 32) ≡ Some key
    → entry_of Whole n (codes "pair" ∷ decimal g ∷ decimal low ∷ decimal high ∷ digits ∷ []) ≡ Ok (entry.Pair g low high key)
unfolding entry_of key_or_lane pair_row has_fields
pair_says n g low high digits key a b c read =
    let fields = codes "pair" ∷ decimal g ∷ decimal low ∷ decimal high ∷ digits ∷ [] in
    rw (number_at fields 1 g refl a, number_at fields 2 low refl b, number_at fields 3 high refl c, key_at fields 4 digits key refl read) refl

-- what a part and those behind it are as the text of fields
number_text : (bytes rest behind : List ℕ) (n : ℕ) (fields : List (List ℕ)) → IsNumberPart bytes n rest → 44 ∷ rest ≡ rest_text fields ++ behind → 44 ∷ bytes ≡ rest_text (decimal n ∷ fields) ++ behind
number_text bytes rest behind n fields part more =
    ap (λ (l : List ℕ). 44 ∷ l) (part.text ∙ ap (λ (l : List ℕ). decimal n ++ l) more) ∙ sym (field_more (decimal n) fields behind)

key_text : (bytes key rest : List ℕ) (part : IsKeyPart bytes key rest) → 44 ∷ bytes ≡ rest_text (part.digits ∷ []) ++ rest
key_text bytes key rest part = ap (λ (l : List ℕ). 44 ∷ l) part.text ∙ sym (field_more part.digits [] rest)

number_short : (bytes rest : List ℕ) (n : ℕ) → IsNumberPart bytes n rest → length rest < length bytes
number_short bytes rest n part = let l = ap length part.text ∙ length-append (decimal n) (44 ∷ rest) in omega (arith, l)

key_short : (bytes key rest : List ℕ) → IsKeyPart bytes key rest → length rest < length bytes
key_short bytes key rest part = let l = ap length part.text ∙ length-append part.digits (10 ∷ rest) in omega (arith, l)

pub own_read : (bytes behind_group behind_meter key rest : List ℕ) (g i : ℕ) → IsNumberPart bytes g behind_group → IsNumberPart behind_group i behind_meter
    → IsKeyPart behind_meter key rest → IsKeyRow (codes "own," ++ bytes) (entry.Own g i key) rest
own_read bytes behind_group behind_meter key rest g i group meter last =
    let fields = codes "own" ∷ decimal g ∷ decimal i ∷ last.digits ∷ [] in
    let a = number_short bytes behind_group g group in
    let b = number_short behind_group behind_meter i meter in
    let c = key_short behind_meter key rest last in
    record {
      fields = fields;
      rows = rows_behind (codes "own," ++ bytes) fields rest
          (plain_four (codes "own") (decimal g) (decimal i) last.digits refl refl (number_plain g group.small) (number_plain i meter.small) (digits_plain last.digits key last.read))
          (ap (λ (l : List ℕ). codes "own" ++ l)
          (number_text bytes behind_group rest g (decimal i ∷ last.digits ∷ []) group
          (number_text behind_group behind_meter rest i (last.digits ∷ []) meter (key_text behind_meter key rest last))));
      says = λ n. own_says n g i last.digits key group.small meter.small last.read;
      short = omega (arith, a, b, c);
    }

pub pair_read : (bytes behind_group behind_low behind_high key rest : List ℕ) (g low high : ℕ) → IsNumberPart bytes g behind_group → IsNumberPart behind_group low behind_low
    → IsNumberPart behind_low high behind_high → IsKeyPart behind_high key rest → IsKeyRow (codes "pair," ++ bytes) (entry.Pair g low high key) rest
pair_read bytes behind_group behind_low behind_high key rest g low high group first second last =
    let fields = codes "pair" ∷ decimal g ∷ decimal low ∷ decimal high ∷ last.digits ∷ [] in
    let a = number_short bytes behind_group g group in
    let b = number_short behind_group behind_low low first in
    let c = number_short behind_low behind_high high second in
    let d = key_short behind_high key rest last in
    record {
      fields = fields;
      rows = rows_behind (codes "pair," ++ bytes) fields rest
          (plain_five (codes "pair") (decimal g) (decimal low) (decimal high) last.digits refl refl (number_plain g group.small) (number_plain low first.small) (number_plain high second.small)
          (digits_plain last.digits key last.read))
          (ap (λ (l : List ℕ). codes "pair" ++ l)
          (number_text bytes behind_group rest g (decimal low ∷ decimal high ∷ last.digits ∷ []) group
          (number_text behind_group behind_low rest low (decimal high ∷ last.digits ∷ []) first
          (number_text behind_low behind_high rest high (last.digits ∷ []) second (key_text behind_high key rest last)))));
      says = λ n. pair_says n g low high last.digits key group.small first.small second.small last.read;
      short = omega (arith, a, b, c, d);
    }

-- ---- rows in turn

after_one : (x : PlanRow) (r : Result (List PlanRow) FileFault) → r >>= (λ more. Ok (x ∷ more)) ≡ after (x ∷ []) r
after_one x (Ok more) = refl
after_one x (Err fault) = refl

after_none : (r : Result (List PlanRow) FileFault) → r ≡ after [] r
after_none (Ok more) = refl
after_none (Err fault) = refl

after_twice : (xs ys : List PlanRow) (r : Result (List PlanRow) FileFault) → after xs (after ys r) ≡ after (xs ++ ys) r
after_twice xs ys (Ok more) = ap Ok (sym (append_assoc xs ys more))
after_twice xs ys (Err fault) = refl

pub adds_none : (form : PlanForm) (rows : List (List (List ℕ))) (entries : List PlanRow) → AddsRows form rows rows entries entries
adds_none form rows entries = record {
  more = [];
  added = sym (append-nil entries);
  says = λ n. after_none (entries_from form n rows) ∙ ap (λ (k : ℕ). after {A = PlanRow} [] (entries_from form k rows)) (omega arith);
  long = omega arith;
}

pub adds_one : (form : PlanForm) (rows rest : List (List (List ℕ))) (fields : List (List ℕ)) (entries : List PlanRow) (entry : PlanRow) → rows ≡ fields ∷ rest
    → ((n : ℕ) → entry_of form n fields ≡ Ok entry) → AddsRows form rows rest entries (entries ++ entry ∷ [])
unfolding entries_from
adds_one form rows rest fields entries entry is says = record {
  more = entry ∷ [];
  added = refl;
  says = λ n. rw (is, says n) (after_one entry (entries_from form (n + 1) rest));
  long = let l = ap length is in omega (arith, l);
}

pub adds_then : (form : PlanForm) (rows middle rest : List (List (List ℕ))) (a b c : List PlanRow) → AddsRows form rows middle a b → AddsRows form middle rest b c → AddsRows form rows rest a c
adds_then form rows middle rest a b c first second =
    let count = length-append first.more second.more in
    let p = first.long in
    let q = second.long in
    record {
      more = first.more ++ second.more;
      added = second.added ∙ (ap (λ (l : List PlanRow). l ++ second.more) first.added ∙ append_assoc a first.more second.more);
      says = λ n.
          first.says n
          ∙ (ap (after first.more) (second.says (n + length first.more))
          ∙ (after_twice first.more second.more (entries_from form (n + length first.more + length second.more) rest)
          ∙ ap (λ (k : ℕ). after (first.more ++ second.more) (entries_from form k rest)) (omega (arith, count))));
      long = omega (arith, count, p, q);
    }

no_more : (entries more : List PlanRow) → length (entries ++ more) ≡ length entries → more ≡ []
no_more entries [] same = refl
no_more entries (x ∷ xs) same = absurd (let l = length-append entries (x ∷ xs) in omega (arith, l, same))

-- where none are added, they are as before
pub adds_nothing : (form : PlanForm) (rows rest : List (List (List ℕ))) (old new : List PlanRow) → AddsRows form rows rest old new → length new ≡ length old → new ≡ old
adds_nothing form rows rest old new adds same =
    let none = no_more old adds.more (sym (ap length adds.added) ∙ same) in
    adds.added ∙ (ap (λ (l : List PlanRow). old ++ l) none ∙ append-nil old)

-- how many are added
pub adds_long : (form : PlanForm) (rows rest : List (List (List ℕ))) (old new : List PlanRow) → AddsRows form rows rest old new → length new + length rest ≡ length old + length rows
adds_long form rows rest old new adds =
    let l = ap length adds.added ∙ length-append old adds.more in
    let m = adds.long in
    omega (arith, l, m)

-- what the rows from row `first` on say goes on behind what is added
pub adds_on : (form : PlanForm) (rows rest : List (List (List ℕ))) (old new : List PlanRow) (first : ℕ) → AddsRows form rows rest old new
    → after old (entries_from form (first + length old) rows) ≡ after new (entries_from form (first + length new) rest)
adds_on form rows rest old new first adds =
    let count = length-append old adds.more in
    let next : first + length old + length adds.more ≡ first + length (old ++ adds.more) = omega (arith, count) in
    ap (after old) (adds.says (first + length old))
    ∙ (after_twice old adds.more (entries_from form (first + length old + length adds.more) rest)
    ∙ (ap (λ (k : ℕ). after (old ++ adds.more) (entries_from form k rest)) next ∙ ap (λ (l : List PlanRow). after l (entries_from form (first + length l) rest)) (sym adds.added)))
