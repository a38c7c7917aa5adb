-- The rows of a plan file that is spelled from a value have their form, and say this value.
use Rattle.std.proofs.Common.{◌≡◌, ◌∙◌, ◌<◌, ◌+◌, ◌^◌, nat_lt, not, ℕ, suc, Bool, true, false, List, [], ◌∷◌, ◌++◌, length, map, Option, Some, None, Result, Ok, Err, is_some, refl, ap, arith, codes, decimal}
use Rattle.std.proofs.lemmas.Bool.{and_parts}
use Rattle.std.proofs.lemmas.Bool.Decides.{nat_tests}
use Rattle.std.proofs.lemmas.List.Elements.{All-head, All-tail}
use Rattle.std.specs.List.{All, list_all}
use Rattle.std.specs.Result.{result_ok}
use Rattle.field_texts.proofs.NumberLaws.{within_again}
use Rattle.group_plan.specs.Names.{is_name}
use Rattle.group_plan.specs.NewPlans.{stated}
use Rattle.group_plan.specs.Plans.{Group, PlanView}
use Rattle.group_plan.specs.declared.plan.members.Span.{Span}
use Rattle.hex.specs.Hex.{decode_pairs, decode_sized, encode_lower, lower_digits}
use Rattle.hex.proofs.HexLemmas.{IsDigits-lower_digits, decode_pairs-encode_with, length-encode_with}
use Rattle.link_lanes.specs.ArgBytes.{is_arg_byte}
use Rattle.link_lanes.specs.declared.row.LaneRow.{LaneRow}
use Rattle.pair_keys.specs.Keys.{Keys}
use Rattle.pair_keys.specs.declared.KeyId.{KeyId}
use Rattle.pair_keys.specs.declared.KeyId.TheVariants.{Own, Pair}
use Rattle.plan_files.specs.Faults.{◌>>=◌}
use Rattle.plan_files.specs.PlanForms.{after, entries_from, groups_from, head_of, row_due}
use Rattle.plan_files.specs.PlanRows.{arg_in, entry_of, group_row, has_fields, key_in, key_or_lane, lane_row, member_row, name_in, number_in, or_cause, own_row, pair_row, rounds_row, starts_with, text, title, version_row, windows_row}
use Rattle.plan_files.specs.SpelledFiles.{AreInRows, IsKey, IsLaneOf}
use Rattle.plan_files.specs.Spelling.{first_rows, group_fields, key_fields, lane_fields, member_fields}
use Rattle.plan_files.specs.declared.entry.PlanRow.{PlanRow}
use Rattle.plan_files.specs.declared.entry.PlanRow.TheVariants as entry
use Rattle.plan_files.specs.declared.fault.FileCause.TheVariants as cause
use Rattle.plan_files.specs.declared.fault.FileFault.{FileFault}
use Rattle.plan_files.specs.declared.form.PlanForm.{PlanForm}
use Rattle.plan_files.specs.declared.form.PlanForm.TheVariants.{Whole, Public}
use Rattle.plan_files.specs.declared.head.PlanHead.{PlanHead}

-- ---- fields

pub number_at : (fields : List (List ℕ)) (place n : ℕ) → text fields place ≡ decimal n → n < 2 ^ 32 → number_in fields place ≡ Ok n
unfolding number_in
number_at fields place n is small =
    rw is (ap (or_cause cause.Number) (within_again 0 (2 ^ 32) n (omega arith) small (omega arith)))

sized : (digits : List ℕ) → length digits ≡ 64 → decode_sized digits 32 ≡ decode_pairs 0 digits
sized digits long = rw long refl

key_read : (key : List ℕ) → IsKey key → decode_sized (encode_lower key) 32 ≡ Ok key
key_read key is =
    let long = length-encode_with lower_digits key in
    let size = is.long in
    sized (encode_lower key) (omega (arith, long, size)) ∙ decode_pairs-encode_with lower_digits IsDigits-lower_digits 0 key is.bytes

pub key_at : (fields : List (List ℕ)) (place : ℕ) (key : List ℕ) → text fields place ≡ encode_lower key → IsKey key → key_in fields place ≡ Ok key
unfolding key_in
key_at fields place key is good = rw is (ap (λ r. or_cause cause.Hex (result_ok r)) (key_read key good))

pub name_at : (fields : List (List ℕ)) (place : ℕ) (name : List ℕ) → text fields place ≡ name → is_name name ≡ true → name_in fields place ≡ Ok name
unfolding name_in
name_at fields place name is good = rw is (rw good refl)

arg_at : (fields : List (List ℕ)) (place : ℕ) (arg : List ℕ) → text fields place ≡ arg → list_all is_arg_byte arg ≡ true → arg_in fields place ≡ Ok arg
unfolding arg_in
arg_at fields place arg is good = rw is (rw good refl)

-- ---- the first rows

-- what the first rows say
abbrev pub head_by : PlanView → PlanHead
head_by plan = record { rounds = plan.rounds; windows = record { reading = plan.w1; recovery = plan.w2 } }

pub rounds_read : (n : ℕ) → n < 2 ^ 32 → rounds_row (codes "rounds" ∷ decimal n ∷ []) ≡ Ok n
unfolding rounds_row has_fields
rounds_read n small = number_at (codes "rounds" ∷ decimal n ∷ []) 1 n refl small

windows_read : (a b : ℕ) → a < 2 ^ 32 → b < 2 ^ 32 → windows_row (codes "windows" ∷ decimal a ∷ decimal b ∷ []) ≡ Ok (record { reading = a; recovery = b })
unfolding windows_row has_fields
windows_read a b small few =
    let fields = codes "windows" ∷ decimal a ∷ decimal b ∷ [] in
    rw (number_at fields 1 a refl small, number_at fields 2 b refl few) refl

version_read : (form : PlanForm) → version_row form (title form ∷ codes "1" ∷ []) ≡ Ok tt
unfolding version_row
version_read Whole = refl
version_read Public = refl

long_enough : (k n : ℕ) → k < n → nat_lt k n ≡ true
long_enough k n lt = grind (arith, nat_tests)

pub head_read : (form : PlanForm) (plan : PlanView) (rest : List (List (List ℕ))) → plan.rounds < 2 ^ 32 → plan.w1 < 2 ^ 32 → plan.w2 < 2 ^ 32
    → head_of form (first_rows form plan ++ rest) ≡ Ok (head_by plan)
unfolding head_of row_due
head_read form plan rest a b c =
    let n = length rest in
    rw (
      long_enough 0 (suc (suc (suc n))) (omega arith),
      long_enough 1 (suc (suc (suc n))) (omega arith),
      long_enough 2 (suc (suc (suc n))) (omega arith),
      version_read form,
      rounds_read plan.rounds a,
      windows_read plan.w1 plan.w2 b c,
    ) refl

-- ---- groups

-- a group whose name has the right form, and whose numbers can be read
pub record IsReadable (group : Group) : Type 0 where
  pub named : is_name group.name ≡ true
  pub meters : length group.spans < 2 ^ 32
  pub few : group.floor < 2 ^ 32

group_read : (group : Group) → IsReadable group → group_row (group_fields group) ≡ Ok (stated group)
unfolding group_row has_fields
group_read group is =
    let fields = group_fields group in
    rw (name_at fields 1 group.name refl is.named, number_at fields 2 (length group.spans) refl is.meters, number_at fields 3 group.floor refl is.few) refl

-- whether a row isn't a group's
abbrev pub is_other : List (List ℕ) → Bool
is_other row = not (starts_with (codes "group") row)

not_true : (b : Bool) → not b ≡ true → b ≡ false
not_true true h = absurd cc
not_true false h = refl

groups_stop : (n : ℕ) (rest : List (List (List ℕ))) → list_all is_other rest ≡ true → groups_from n rest ≡ Ok []
unfolding groups_from
groups_stop n [] h = refl
groups_stop n (row ∷ rows) h = let other = not_true (starts_with (codes "group") row) (and_parts (is_other row) (list_all is_other rows) h).0 in rw other refl

pub groups_read : (n : ℕ) (groups : List Group) (rest : List (List (List ℕ))) → All IsReadable groups → list_all is_other rest ≡ true
    → groups_from n (map group_fields groups ++ rest) ≡ Ok (map stated groups)
unfolding groups_from
groups_read n [] rest good other = groups_stop n rest other
groups_read n (g ∷ gs) rest good other =
    rw (group_read g (All-head IsReadable g gs good), groups_read (n + 1) gs rest (All-tail IsReadable g gs good) other) refl

-- ---- keys

-- the key, or no bytes where there is none
abbrev pub key_or : Option (List ℕ) → List ℕ
key_or None = []
key_or (Some key) = key

-- what the row of a key says
abbrev pub key_entry : KeyId → List ℕ → PlanRow
key_entry (Own g i) key = entry.Own g i key
key_entry (Pair g low high) key = entry.Pair g low high key

-- the numbers of a key can be read
abbrev pub SmallId : KeyId → Type 0
SmallId (Own g i) = (g < 2 ^ 32) × (i < 2 ^ 32)
SmallId (Pair g low high) = (g < 2 ^ 32) × (low < 2 ^ 32) × (high < 2 ^ 32)

key_row_read : (n : ℕ) (which : KeyId) (key : List ℕ) → SmallId which → IsKey key → entry_of Whole n (key_fields which (Some key)) ≡ Ok (key_entry which key)
unfolding entry_of key_or_lane own_row pair_row has_fields
key_row_read n (Own g i) key small good =
    let fields = key_fields (Own g i) (Some key) in
    rw (number_at fields 1 g refl small.0, number_at fields 2 i refl small.1, key_at fields 3 key refl good) refl
key_row_read n (Pair g low high) key small good =
    let fields = key_fields (Pair g low high) (Some key) in
    rw (number_at fields 1 g refl small.0, number_at fields 2 low refl small.1, number_at fields 3 high refl small.2, key_at fields 4 key refl good) refl

-- the keys are there, and their numbers can be read
pub record CanSpell (keys : Keys) (which : KeyId) : Type 0 where
  pub small : SmallId which
  pub there : is_some (keys.key which) ≡ true

some_read : (n : ℕ) (which : KeyId) (key : Option (List ℕ)) → SmallId which → is_some key ≡ true → ((k : List ℕ) → key ≡ Some k → IsKey k)
    → entry_of Whole n (key_fields which key) ≡ Ok (key_entry which (key_or key))
some_read n which None small there good = absurd cc
some_read n which (Some key) small there good = key_row_read n which key small (good key refl)

after_nil : {A : Type 0} (r : Result (List A) FileFault) → r ≡ after [] r
after_nil (Ok xs) = refl
after_nil (Err e) = refl

after_cons : {A : Type 0} (x : A) (xs : List A) (r : Result (List A) FileFault) → (after xs r >>= (λ more. Ok (x ∷ more))) ≡ after (x ∷ xs) r
after_cons x xs (Ok ys) = refl
after_cons x xs (Err e) = refl

-- the entries of keys
abbrev pub key_entries : Keys → List KeyId → List PlanRow
key_entries keys ids = map (λ which. key_entry which (key_or (keys.key which))) ids

-- each can be spelled
abbrev pub AllCanSpell : Keys → List KeyId → Type 0
AllCanSpell keys [] = Unit {0}
AllCanSpell keys (x ∷ xs) = CanSpell keys x × AllCanSpell keys xs

pub keys_read : (keys : Keys) → ((which : KeyId) (key : List ℕ) → keys.key which ≡ Some key → IsKey key) → (n m : ℕ) (ids : List KeyId) (rest : List (List (List ℕ))) → AllCanSpell keys ids → m ≡ n + length ids
    → entries_from Whole n (map (λ which. key_fields which (keys.key which)) ids ++ rest) ≡ after (key_entries keys ids) (entries_from Whole m rest)
unfolding entries_from
keys_read keys good n m [] rest can same =
    let here : n ≡ m = omega (arith, same) in ap (λ k. entries_from Whole k rest) here ∙ after_nil (entries_from Whole m rest)
keys_read keys good n m (x ∷ xs) rest can same =
    rw (some_read n x (keys.key x) can.0.small can.0.there (good x))
    (ap (λ (r : Result (List PlanRow) FileFault). r >>= (λ more. Ok (key_entry x (key_or (keys.key x)) ∷ more))) (keys_read keys good (n + 1) m xs rest can.1 (omega (arith, same)))
    ∙ after_cons (key_entry x (key_or (keys.key x))) (key_entries keys xs) (entries_from Whole m rest))

-- ---- lanes

lane_read : (n : ℕ) (plan : PlanView) (lane : LaneRow) → lane.row ≡ n → IsLaneOf plan lane → lane.from < 2 ^ 32 → lane.to < 2 ^ 32 → entry_of Whole n (lane_fields lane) ≡ Ok (entry.Lane lane)
unfolding entry_of key_or_lane lane_row has_fields
lane_read n plan lane row is from to =
    let fields = lane_fields lane in
    rw (name_at fields 1 lane.name refl is.name, arg_at fields 2 lane.arg refl is.arg, number_at fields 3 lane.from refl from, number_at fields 4 lane.to refl to, ← row) refl

pub lanes_read : (plan : PlanView) (n m : ℕ) (lanes : List LaneRow) (rest : List (List (List ℕ))) → ((lane : LaneRow) → IsLaneOf plan lane → lane.to < 2 ^ 32)
    → All (IsLaneOf plan) lanes → AreInRows n lanes → m ≡ n + length lanes
    → entries_from Whole n (map lane_fields lanes ++ rest) ≡ after (map entry.Lane lanes) (entries_from Whole m rest)
unfolding entries_from
lanes_read plan n m [] rest few good rows same =
    let here : n ≡ m = omega (arith, same) in ap (λ k. entries_from Whole k rest) here ∙ after_nil (entries_from Whole m rest)
lanes_read plan n m (x ∷ xs) rest few good rows same =
    let first = All-head (IsLaneOf plan) x xs good in
    let to : x.to < 2 ^ 32 = few x first in
    let from : x.from < 2 ^ 32 = let o = first.order in omega (arith, o, to) in
    rw (lane_read n plan x rows.0 first from to)
    (ap (λ (r : Result (List PlanRow) FileFault). r >>= (λ more. Ok (entry.Lane x ∷ more))) (lanes_read plan (n + 1) m xs rest few (All-tail (IsLaneOf plan) x xs good) rows.2 (omega (arith, same)))
    ∙ after_cons (entry.Lane x) (map entry.Lane xs) (entries_from Whole m rest))

-- ---- members

-- the numbers of a span can be read
abbrev pub SmallSpan : Span → Type 0
SmallSpan span = (span.group < 2 ^ 32) × (span.meter < 2 ^ 32) × (span.from < 2 ^ 32) × (span.until < 2 ^ 32)

abbrev pub AllSmall : List Span → Type 0
AllSmall [] = Unit {0}
AllSmall (s ∷ ss) = SmallSpan s × AllSmall ss

member_read : (form : PlanForm) (n : ℕ) (span : Span) → SmallSpan span → entry_of form n (member_fields span) ≡ Ok (entry.Member span)
unfolding entry_of member_row has_fields
member_read form n span small =
    let fields = member_fields span in
    rw (number_at fields 1 span.group refl small.0, number_at fields 2 span.meter refl small.1, number_at fields 3 span.from refl small.2, number_at fields 4 span.until refl small.3) refl

pub members_read : (form : PlanForm) (n : ℕ) (spans : List Span) → AllSmall spans → entries_from form n (map member_fields spans) ≡ Ok (map entry.Member spans)
unfolding entries_from
members_read form n [] small = refl
members_read form n (s ∷ ss) small = rw (member_read form n s small.0, members_read form (n + 1) ss small.1) refl
