-- Fields that say a number for each register.
use Rattle.std.proofs.Common.{◌≡◌, ◌∙◌, ◌<◌, ◌≤◌, ◌+◌, ◌*◌, ◌-◌, ◌^◌, ◌==◌, ◌&&◌, ◌++◌, nat_lt, if◌then◌else◌, ℕ, zero, suc, Bool, true, false, List, [], ◌∷◌, length, get_or, take, append_assoc, Option, Some, None, Result, Ok, Err, refl, sym, ap, arith, length-append}
use Rattle.std.specs.List.{join_with_byte, list_all}
use Rattle.std.specs.Prelude.{slice_index, option_map}
use Rattle.std.proofs.lemmas.Bool.{and_parts, eqb-true}
use Rattle.std.proofs.lemmas.Bool.Decides.{nat_tests}
use Rattle.std.proofs.lemmas.Fmt.{length-decimal-le}
use mathlib.Core.Path.{fun_ext}
use Rattle.arrayvec.specs.ArrayVec.{ArrayVec}
use Rattle.field_texts.specs.Numbers.{number_of}
use Rattle.field_texts.specs.Parts.{parts}
use Rattle.field_texts.specs.Sets.{ahead, with_first}
use Rattle.field_texts.proofs.NumberLaws.{number_back}
use Rattle.field_texts.proofs.TextLaws.{clean, clean_decimal, joined_parts, parts_clean}
use Rattle.plan_files.specs.KeptRows.{most_bytes}
use Rattle.plan_files.specs.Readings.{reading_of, within_range}
use Rattle.plan_files.specs.RegisterParts.{ReadsField}
use Rattle.plan_files.specs.Registers.{numbers_in, numbers_of, register_of, within_ranges}
use Rattle.plan_files.specs.declared.fault.FileCause.{FileCause}
use Rattle.plan_files.specs.declared.fault.FileCause.TheVariants as cause
use Rattle.plan_files.proofs.KeptLemmas.{same_if_long}

-- ---- numbers joined by `+`

pub ahead_ahead : (xs ys : List ℕ) (z : Option (List ℕ)) → ahead xs (ahead ys z) ≡ ahead (xs ++ ys) z
ahead_ahead xs ys None = refl
ahead_ahead xs ys (Some zs) = ap Some (sym (append_assoc xs ys zs))

if_ahead : (m : ℕ) (b : Bool) (x : Option (List ℕ)) → (if b then ahead (m ∷ []) x else None) ≡ ahead (m ∷ []) (if b then x else None)
if_ahead m true x = refl
if_ahead m false x = refl

if_none : {X : Type 0} (b : Bool) → ◌≡◌ {A = Option X} (if b then None else None) None
if_none true = refl
if_none false = refl

-- a number, and so many more
pub numbers_more : (n m : ℕ) (text part after : List ℕ) → parts 43 text ≡ part ∷ parts 43 after → number_of part ≡ Some m
    → numbers_of (suc n) text ≡ ahead (m ∷ []) (numbers_of n after)
unfolding numbers_of numbers_in
numbers_more n m text part after cut is =
    let one : (suc (length (parts 43 after)) == suc n) ≡ (length (parts 43 after) == n) = grind (arith, nat_tests) in
    ap (λ (ps : List (List ℕ)). if length ps == suc n then numbers_in ps else None) cut
    ∙ rw (one, is) (if_ahead m (length (parts 43 after) == n) (numbers_in (parts 43 after)))

-- a part that is no number
pub numbers_bad : (n : ℕ) (text part : List ℕ) (more : List (List ℕ)) → parts 43 text ≡ part ∷ more → number_of part ≡ None → numbers_of n text ≡ None
unfolding numbers_of numbers_in
numbers_bad n text part more cut is =
    ap (λ (ps : List (List ℕ)). if length ps == n then numbers_in ps else None) cut ∙ rw is (if_none (suc (length more) == n))

-- a text without `+` is no two numbers
pub numbers_few : (n : ℕ) (text : List ℕ) → parts 43 text ≡ text ∷ [] → numbers_of (suc (suc n)) text ≡ None
unfolding numbers_of
numbers_few n text cut =
    let other : (1 == suc (suc n)) ≡ false = grind (arith, nat_tests) in
    ap (λ (ps : List (List ℕ)). if length ps == suc (suc n) then numbers_in ps else None) cut ∙ rw other refl

one_part : (text : List ℕ) (ps : List (List ℕ)) → parts 43 text ≡ ps → number_of text ≡ None → (if length ps == 1 then numbers_in ps else None) ≡ None
unfolding numbers_in
one_part text [] cut is = refl
one_part text (p ∷ []) cut is =
    let same : text ≡ p = joined_parts 43 text (p ∷ []) cut in
    rw (ap number_of (sym same) ∙ is) refl
one_part text (p ∷ q ∷ ps) cut is =
    let other : (suc (suc (length ps)) == 1) ≡ false = grind (arith, nat_tests) in
    rw other refl

-- one number
pub numbers_one : (text : List ℕ) → numbers_of 1 text ≡ option_map (λ n. n ∷ []) (number_of text)
unfolding numbers_of numbers_in
numbers_one text = by (number_of text) refl
  where
    by : (n : Option ℕ) → number_of text ≡ n → (if length (parts 43 text) == 1 then numbers_in (parts 43 text) else None) ≡ option_map (λ n. n ∷ []) n
    by None is = one_part text (parts 43 text) refl is
    by (Some n) is =
        let back = number_back text n is in
        let whole : parts 43 text ≡ text ∷ [] = parts_clean 43 text (ap (clean 43) back.0 ∙ clean_decimal 43 n (omega arith) back.1) in
        ap (λ (ps : List (List ℕ)). if length ps == 1 then numbers_in ps else None) whole ∙ rw is refl

-- ---- what is kept of a field is enough

number_short : (text : List ℕ) (n : ℕ) → number_of text ≡ Some n → length text ≤ 20
number_short text n is =
    let back = number_back text n is in
    let few = length-decimal-le 20 n (omega arith) (let small = back.1 in omega (arith, small)) back.1 in
    let same = ap length back.0 in
    omega (arith, few, same)

last_short : (p : List ℕ) (n : Option ℕ) (ns : List ℕ) → number_of p ≡ n → with_first n (λ m. Some []) ≡ Some ns → length p + 1 ≤ 21 * 1
last_short p None ns e h = absurd cc
last_short p (Some n) ns e h = let short = number_short p n e in omega (arith, short)

more_short : (p q : List ℕ) (ps : List (List ℕ)) (n : Option ℕ) (more : Option (List ℕ)) (ns : List ℕ) → number_of p ≡ n
    → ((ms : List ℕ) → more ≡ Some ms → length (join_with_byte 43 (q ∷ ps)) + 1 ≤ 21 * length (q ∷ ps)) → with_first n (λ m. more) ≡ Some ns
    → length (p ++ 43 ∷ join_with_byte 43 (q ∷ ps)) + 1 ≤ 21 * length (p ∷ q ∷ ps)
more_short p q ps None more ns e rest h = absurd cc
more_short p q ps (Some n) None ns e rest h = absurd cc
more_short p q ps (Some n) (Some ms) ns e rest h =
    let short = number_short p n e in
    let after = rest ms refl in
    let long = length-append p (43 ∷ join_with_byte 43 (q ∷ ps)) in
    omega (arith, short, after, long)

-- numbers that are joined are short
joined_short : (ps : List (List ℕ)) (ns : List ℕ) → 0 < length ps → numbers_in ps ≡ Some ns → length (join_with_byte 43 ps) + 1 ≤ 21 * length ps
unfolding numbers_in
joined_short [] ns some is = absurd (omega (arith, some))
joined_short (p ∷ []) ns some is = last_short p (number_of p) ns refl is
joined_short (p ∷ q ∷ ps) ns some is = more_short p q ps (number_of p) (numbers_in (q ∷ ps)) ns refl (λ ms e. joined_short (q ∷ ps) ms (omega arith) e) is

long_numbers : (count : ℕ) (text : List ℕ) → 1 ≤ count → count ≤ 8 → most_bytes ≤ length text → numbers_of count text ≡ None
unfolding numbers_of
long_numbers count text some few long = by (length (parts 43 text) == count) refl (numbers_in (parts 43 text)) refl
  where
    by : (b : Bool) → (length (parts 43 text) == count) ≡ b → (ns : Option (List ℕ)) → numbers_in (parts 43 text) ≡ ns → (if b then ns else None) ≡ None
    by false e ns f = refl
    by true e None f = refl
    by true e (Some ns) f =
        let same : length (parts 43 text) ≡ count = eqb-true (length (parts 43 text)) count e in
        let short = joined_short (parts 43 text) ns (omega (arith, same, some)) f in
        let whole = ap length (joined_parts 43 text (parts 43 text) refl) in
        absurd (omega (arith, same, few, short, whole, long))

same_numbers : (count : ℕ) (text : List ℕ) → 1 ≤ count → count ≤ 8 → numbers_of count (take most_bytes text) ≡ numbers_of count text
same_numbers count text some few = same_if_long (numbers_of count) None text (λ t long. long_numbers count t some few long)

pub same_field : (count k : ℕ) (member : Bool) (text : List ℕ) → 1 ≤ count → count ≤ 8
    → register_of count k member (take most_bytes text) ≡ register_of count k member text
unfolding register_of
same_field count k member [] some few = refl
same_field count k member (c ∷ cs) some few =
    let kept : (length (take most_bytes (c ∷ cs)) == 0) ≡ false = grind (arith, nat_tests) in
    let whole : (length (c ∷ cs) == 0) ≡ false = grind (arith, nat_tests) in
    rw (kept, whole, same_numbers count (c ∷ cs) some few) refl

-- ---- one register

one_range : (n : Option ℕ) → within_ranges 0 (option_map (λ m. m ∷ []) n) ≡ within_range n
one_range None = refl
one_range (Some n) = by (nat_lt n (2 ^ 40))
  where
    by : (b : Bool) → (if b && true then Ok (Some n) else Err cause.Range) ≡ (if b then Ok (Some n) else Err cause.Range)
    by true = refl
    by false = refl

one_says : (member : Bool) (text : List ℕ) → register_of 1 0 member text ≡ reading_of member text
unfolding register_of reading_of
one_says member text = rw (numbers_one text, one_range (number_of text)) refl

-- of one register a field says what it says of a reading
pub says_one : register_of 1 0 ≡ reading_of
says_one = fun_ext (λ member. fun_ext (λ text. one_says member text))

-- ---- number by number

-- a text that has no more `+`, and two numbers or more to come
pub numbers_cut : (count done : ℕ) (text rest before : List ℕ) → done < count - 1 → parts 43 rest ≡ rest ∷ [] → ahead before (numbers_of (count - done) rest) ≡ numbers_of count text
    → numbers_of count text ≡ None
numbers_cut count done text rest before lt cut so_far =
    let two : count - done ≡ suc (suc (count - done - 2)) = omega (arith, lt) in
    sym so_far ∙ ap (λ n. ahead before (numbers_of n rest)) two ∙ ap (ahead before) (numbers_few (count - done - 2) rest cut)

-- a part that is no number
pub numbers_wrong : (count left : ℕ) (text rest before part : List ℕ) (more : List (List ℕ)) → parts 43 rest ≡ part ∷ more → number_of part ≡ None
    → ahead before (numbers_of left rest) ≡ numbers_of count text → numbers_of count text ≡ None
numbers_wrong count left text rest before part more cut is so_far = sym so_far ∙ ap (ahead before) (numbers_bad left rest part more cut is)

-- one number more
pub numbers_next : (count done m : ℕ) (text rest before part after new : List ℕ) → done < count - 1 → parts 43 rest ≡ part ∷ parts 43 after → number_of part ≡ Some m → new ≡ before ++ m ∷ []
    → ahead before (numbers_of (count - done) rest) ≡ numbers_of count text → ahead new (numbers_of (count - (done + 1)) after) ≡ numbers_of count text
numbers_next count done m text rest before part after new lt cut is made so_far =
    let one : count - done ≡ suc (count - (done + 1)) = omega (arith, lt) in
    ap (λ l. ahead l (numbers_of (count - (done + 1)) after)) made ∙ sym (ahead_ahead before (m ∷ []) (numbers_of (count - (done + 1)) after))
    ∙ ap (ahead before) (sym (numbers_more (count - (done + 1)) m rest part after cut is)) ∙ ap (λ n. ahead before (numbers_of n rest)) (sym one) ∙ so_far

-- the last is no number
pub numbers_left : (count done : ℕ) (text rest before : List ℕ) → done + 1 ≤ count → count - 1 ≤ done → number_of rest ≡ None → ahead before (numbers_of (count - done) rest) ≡ numbers_of count text
    → numbers_of count text ≡ None
numbers_left count done text rest before le ge is so_far =
    let one : count - done ≡ 1 = omega (arith, le, ge) in
    sym so_far ∙ ap (λ n. ahead before (numbers_of n rest)) one ∙ ap (ahead before) (numbers_one rest ∙ ap (option_map (λ n. n ∷ [])) is)

-- the last is one
pub numbers_whole : (count done m : ℕ) (text rest before new : List ℕ) → done + 1 ≤ count → count - 1 ≤ done → number_of rest ≡ Some m → new ≡ before ++ m ∷ []
    → ahead before (numbers_of (count - done) rest) ≡ numbers_of count text → numbers_of count text ≡ Some new
numbers_whole count done m text rest before new le ge is made so_far =
    let one : count - done ≡ 1 = omega (arith, le, ge) in
    sym so_far ∙ ap (λ n. ahead before (numbers_of n rest)) one ∙ ap (ahead before) (numbers_one rest ∙ ap (option_map (λ n. n ∷ [])) is) ∙ ap Some (sym made)

-- ---- a field

pub field_absent : (count : ℕ) (member : Bool) (text : List ℕ) → (length text == 0) ≡ true → (k : ℕ) → register_of count k member text ≡ Ok None
unfolding register_of
field_absent count member text none k = rw none refl

pub field_alien : (count : ℕ) (text : List ℕ) → (length text == 0) ≡ false → (k : ℕ) → register_of count k false text ≡ Err cause.NotMember
unfolding register_of
field_alien count text some k = rw some refl

pub field_bad : (count : ℕ) (text : List ℕ) → (length text == 0) ≡ false → numbers_of count text ≡ None → (k : ℕ) → register_of count k true text ≡ Err cause.Number
unfolding register_of
field_bad count text some is k = rw (some, is) refl

pub field_far : (count : ℕ) (text numbers : List ℕ) → (length text == 0) ≡ false → numbers_of count text ≡ Some numbers → list_all (λ n. nat_lt n (2 ^ 40)) numbers ≡ false → (k : ℕ)
    → register_of count k true text ≡ Err cause.Range
unfolding register_of
field_far count text numbers some is far k = rw (some, is, far) refl

pub field_read : (count : ℕ) (text numbers : List ℕ) → (length text == 0) ≡ false → numbers_of count text ≡ Some numbers → list_all (λ n. nat_lt n (2 ^ 40)) numbers ≡ true → (k : ℕ)
    → register_of count k true text ≡ Ok (Some (slice_index numbers k))
unfolding register_of
field_read count text numbers some is near k = rw (some, is, near) refl

small_item : (ns : List ℕ) (k : ℕ) → list_all (λ n. nat_lt n (2 ^ 40)) ns ≡ true → get_or ns k 0 < 2 ^ 40
small_item [] k h = omega arith
small_item (n ∷ ns) zero h = let b = (and_parts (nat_lt n (2 ^ 40)) (list_all (λ n. nat_lt n (2 ^ 40)) ns) h).0 in grind (arith, nat_tests, b)
small_item (n ∷ ns) (suc k) h = small_item ns k (and_parts (nat_lt n (2 ^ 40)) (list_all (λ n. nat_lt n (2 ^ 40)) ns) h).1

pub small_numbers : (ns : List ℕ) (k : ℕ) → list_all (λ n. nat_lt n (2 ^ 40)) ns ≡ true → slice_index ns k < 2 ^ 40
small_numbers ns k h = small_item ns k h

-- the numbers of a member's field, where all are readings
pub reads_numbers : (count : ℕ) (text : List ℕ) (numbers : ArrayVec ℕ) → (length text == 0) ≡ false → numbers_of count text ≡ Some numbers.items → length numbers.items ≡ count
    → list_all (λ n. nat_lt n (2 ^ 40)) numbers.items ≡ true → ReadsField count true text (Ok (Some numbers))
reads_numbers count text numbers some is long near = (long, refl, λ k lt. small_numbers numbers.items k near, λ k. field_read count text numbers.items some is near k)

-- what is kept of a field says what the whole of it says
pub reads_whole : (count : ℕ) (member : Bool) (text kept : List ℕ) (read : Result (Option (ArrayVec ℕ)) FileCause) → 1 ≤ count → count ≤ 8 → kept ≡ take most_bytes text
    → ReadsField count member kept read → ReadsField count member text read
reads_whole count member text kept (Ok None) some few is read = λ k. sym (same_field count k member text some few) ∙ ap (register_of count k member) (sym is) ∙ read k
reads_whole count member text kept (Ok (Some numbers)) some few is read =
    (read.0, read.1, read.2, λ k. sym (same_field count k member text some few) ∙ ap (register_of count k member) (sym is) ∙ read.3 k)
reads_whole count member text kept (Err what) some few is read = λ k. sym (same_field count k member text some few) ∙ ap (register_of count k member) (sym is) ∙ read k
