-- The pair words of a group, row by row: each pair word is added at the lower end and taken away at the higher one.
use Rattle.std.specs.Prelude.{◌≡◌, ℕ, ◌+◌, Bool, true, ◌&&◌, nat_lt, List, [], ◌∷◌, sum_by, slice_index, slice_set, length, Option, Some, None}
use Rattle.std.specs.List.{list_all}
use Rattle.group_plan.specs.Plans.{PlanView, is_place}
use Rattle.missing_round.specs.Words.{word, minus, share}
use Rattle.missing_round.specs.Sets.{is_member}

-- whether each number is below all that follow it
abbrev pub ascends : List ℕ → Bool
ascends [] = true
ascends (x ∷ xs) = list_all (nat_lt x) xs && ascends xs

-- whether meter j can be the higher end of a pair with i: it is above i, has a place in the round, and is one of n sums
abbrev pub is_higher : PlanView → ℕ → ℕ → ℕ → ℕ → ℕ → Bool
is_higher plan g r n i j = nat_lt i j && is_place plan g r j && nat_lt j n

-- the sums with the words of one row taken away, each from the sum of its meter
unfoldable pub taken_from : (ℕ → ℕ) → List ℕ → List ℕ → List ℕ
taken_from row [] sums = sums
taken_from row (j ∷ meters) sums = taken_from row meters (slice_set sums j (word (slice_index sums j + minus (row j))))

-- the sum of a row added at its own meter
abbrev pub added_at : ℕ → (ℕ → ℕ) → List ℕ → List ℕ → List ℕ
added_at i row meters sums = slice_set sums i (word (slice_index sums i + word (sum_by row meters)))

-- the sums with the rows of all these meters, each of its pairs with the later ones
unfoldable pub with_rows : (ℕ → ℕ → ℕ) → List ℕ → List ℕ → List ℕ
with_rows pair [] sums = sums
with_rows pair (i ∷ meters) sums = with_rows pair meters (added_at i (pair i) meters (taken_from (pair i) meters sums))

-- the sums with the own word of each of these meters in the place of its sum
unfoldable pub with_owns : (ℕ → ℕ) → List ℕ → List ℕ → List ℕ
with_owns own [] sums = sums
with_owns own (i ∷ meters) sums = with_owns own meters (slice_set sums i (own i))

-- sums for n meters: of a member, its own word and the sum of its shares with all members, modulo 2^64
pub record AreHidingSums (own : ℕ → ℕ) (pair : ℕ → ℕ → ℕ) (members : List ℕ) (n : ℕ) (sums : List ℕ) : Type 0 where
  pub long : length sums ≡ n
  pub each : (i : ℕ) → is_member i members ≡ true → word (slice_index sums i) ≡ word (own i + sum_by (share pair i) members)

-- a reading hidden by what is added to it, or 0 where there is none
abbrev pub hidden_or_0 : ℕ → Option ℕ → ℕ
hidden_or_0 sum None = 0
hidden_or_0 sum (Some reading) = word (reading + sum)
