-- The rows of a meter file that is spelled are read, in any place of the file.
use Rattle.std.proofs.Common.{◌≡◌, ◌<◌, ◌+◌, ◌^◌, ℕ, zero, suc, Bool, true, false, cond, List, [], ◌∷◌, ◌++◌, map, filter, codes, decimal, Some, Ok, refl, arith, if◌then◌else◌}
use Rattle.std.specs.List.{flat_map, range_with_len}
use Rattle.group_plan.specs.Names.{is_name}
use Rattle.group_plan.specs.declared.plan.members.Span.{Span}
use Rattle.plan_files.specs.PlanRows.{has_fields}
use Rattle.plan_files.specs.SpelledFiles.{IsKey}
use Rattle.plan_files.proofs.SpelledForms.{key_at, name_at, number_at, rounds_read}
use Rattle.meter_files.specs.PartRows.{entries_from, entry_in, head_of, home_in, member_in, own_in, pair_in, self_in, title_in}
use Rattle.meter_files.specs.Spelling.{member_row, own_row, pair_row, self_row, title_row}
use Rattle.meter_files.specs.declared.part_row.HomeGroup.{HomeGroup}
use Rattle.meter_files.specs.declared.part_row.PartEntry.{PartEntry}
use Rattle.meter_files.specs.declared.part_row.PartEntry.TheVariants.{Own, Pair, Member}

-- ---- the first rows

title_read : title_in title_row ≡ Ok tt
unfolding title_in
title_read = refl

-- the fields of a group's row
abbrev pub home_fields : (g : ℕ) (name : List ℕ) (meters floor : ℕ) → List (List ℕ)
home_fields g name meters floor = codes "group" ∷ decimal g ∷ name ∷ decimal meters ∷ decimal floor ∷ []

abbrev pub home_by : (g : ℕ) (name : List ℕ) (meters floor : ℕ) → HomeGroup
home_by g name meters floor = record { number = g; group = record { name = name; meters = meters; floor = floor } }

home_read : (g : ℕ) (name : List ℕ) (meters floor : ℕ) → g < 2 ^ 32 → is_name name ≡ true → meters < 2 ^ 32 → floor < 2 ^ 32 → home_in (home_fields g name meters floor) ≡ Ok (home_by g name meters floor)
unfolding home_in has_fields
home_read g name meters floor small named few low =
    let fields = home_fields g name meters floor in
    rw (number_at fields 1 g refl small, name_at fields 2 name refl named, number_at fields 3 meters refl few, number_at fields 4 floor refl low) refl

self_read : (i : ℕ) → i < 2 ^ 32 → self_in (self_row i) ≡ Ok i
unfolding self_in has_fields
self_read i small = number_at (self_row i) 1 i refl small

pub head_read : (rounds g : ℕ) (name : List ℕ) (meters floor i : ℕ) (rest : List (List (List ℕ))) → rounds < 2 ^ 32 → g < 2 ^ 32 → is_name name ≡ true → meters < 2 ^ 32 → floor < 2 ^ 32 → i < 2 ^ 32
    → head_of (title_row ∷ (codes "rounds" ∷ decimal rounds ∷ []) ∷ home_fields g name meters floor ∷ self_row i ∷ rest) ≡ Ok (record { rounds = rounds; home = home_by g name meters floor; meter = i })
unfolding head_of
head_read rounds g name meters floor i rest a b c d e f = rw (title_read, rounds_read rounds a, home_read g name meters floor b c d e, self_read i f) refl

-- ---- the rows behind them

pub own_read : (key : List ℕ) → IsKey key → entry_in (own_row (Some key)) ≡ Ok (Own key)
unfolding entry_in own_in has_fields
own_read key good = rw (key_at (own_row (Some key)) 1 key refl good) refl

pub pair_read : (j : ℕ) (key : List ℕ) → j < 2 ^ 32 → IsKey key → entry_in (pair_row j (Some key)) ≡ Ok (Pair j key)
unfolding entry_in pair_in has_fields
pair_read j key small good = rw (number_at (pair_row j (Some key)) 1 j refl small, key_at (pair_row j (Some key)) 2 key refl good) refl

pub member_read : (span : Span) → span.meter < 2 ^ 32 → span.from < 2 ^ 32 → span.until < 2 ^ 32
    → entry_in (member_row span) ≡ Ok (Member (record { group = 0; meter = span.meter; from = span.from; until = span.until }))
unfolding entry_in member_in has_fields
member_read span a b c = rw (number_at (member_row span) 1 span.meter refl a, number_at (member_row span) 2 span.from refl b, number_at (member_row span) 3 span.until refl c) refl

-- the rows say these, wherever the first of them is
abbrev pub Says : List (List (List ℕ)) → List PartEntry → Type 0
Says rows entries = (n : ℕ) → entries_from n rows ≡ Ok entries

pub says_none : Says [] []
unfolding entries_from
says_none n = refl

pub says_more : (row : List (List ℕ)) (rows : List (List (List ℕ))) (entry : PartEntry) (entries : List PartEntry) → entry_in row ≡ Ok entry → Says rows entries → Says (row ∷ rows) (entry ∷ entries)
unfolding entries_from
says_more row rows entry entries read more n = rw (read, more (n + 1)) refl

-- a row for each number that passes a test
abbrev pub rows_where : (ℕ → Bool) → (ℕ → List (List ℕ)) → ℕ → List (List (List ℕ))
rows_where test row j = if test j then row j ∷ [] else []

pub members_say : (test : ℕ → Bool) (row : ℕ → List (List ℕ)) (p : Span → Bool) (s : ℕ → Span) (a k : ℕ) → ((j : ℕ) → p (s j) ≡ test j) → ((j : ℕ) → j < a + k → entry_in (row j) ≡ Ok (Member (s j)))
    → Says (flat_map (rows_where test row) (range_with_len a k)) (map Member (filter p (map s (range_with_len a k))))
members_say test row p s a zero same read = says_none
members_say test row p s a (suc k) same read = by_test (test a) (p (s a)) (same a) (members_say test row p s (a + 1) k same (λ j lt. read j (omega (arith, lt))))
  where
    by_test : (t u : Bool) → u ≡ t → Says (flat_map (rows_where test row) (range_with_len (a + 1) k)) (map Member (filter p (map s (range_with_len (a + 1) k))))
        → Says ((if t then row a ∷ [] else []) ++ flat_map (rows_where test row) (range_with_len (a + 1) k))
        (map Member (cond u (s a ∷ filter p (map s (range_with_len (a + 1) k))) (filter p (map s (range_with_len (a + 1) k)))))
    by_test true true e ih = says_more (row a) _ (Member (s a)) _ (read a (omega arith)) ih
    by_test false false e ih = ih
    by_test true false e ih = absurd cc
    by_test false true e ih = absurd cc

-- one for each number that doesn't
abbrev pub one_unless : {X : Type 0} → (ℕ → Bool) → (ℕ → X) → ℕ → List X
one_unless test x j = if test j then [] else x j ∷ []

pub pairs_say : (test : ℕ → Bool) (row : ℕ → List (List ℕ)) (entry : ℕ → PartEntry) (rows : List (List (List ℕ))) (more : List PartEntry) (a k : ℕ)
    → ((j : ℕ) → test j ≡ false → j < a + k → entry_in (row j) ≡ Ok (entry j)) → Says rows more
    → Says (flat_map (one_unless test row) (range_with_len a k) ++ rows) (flat_map (one_unless test entry) (range_with_len a k) ++ more)
pairs_say test row entry rows more a zero read rest = rest
pairs_say test row entry rows more a (suc k) read rest = by_test (test a) (read a) (pairs_say test row entry rows more (a + 1) k (λ j t lt. read j t (omega (arith, lt))) rest)
  where
    by_test : (t : Bool) → (t ≡ false → a < a + suc k → entry_in (row a) ≡ Ok (entry a))
        → Says (flat_map (one_unless test row) (range_with_len (a + 1) k) ++ rows) (flat_map (one_unless test entry) (range_with_len (a + 1) k) ++ more)
        → Says (((if t then [] else row a ∷ []) ++ flat_map (one_unless test row) (range_with_len (a + 1) k)) ++ rows)
        (((if t then [] else entry a ∷ []) ++ flat_map (one_unless test entry) (range_with_len (a + 1) k)) ++ more)
    by_test true here ih = ih
    by_test false here ih = says_more (row a) _ (entry a) _ (here refl (omega arith)) ih
