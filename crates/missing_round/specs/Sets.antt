-- Sets of meters: as lists, and as the four blocks of 64 bits that keep one.
use Rattle.std.specs.Prelude.{◌≡◌, ℕ, zero, suc, ◌+◌, ◌*◌, ◌/◌, ◌%◌, ◌^◌, ◌<◌, ◌≤◌, Bool, false, not, ◌||◌, if◌then◌else◌, nat_lt, ◌==◌, List, [], ◌∷◌, length, All, filter, slice_index, slice_get, Some, Ok, Err, Result}
use Rattle.std.specs.Int.{bit_at}
use Rattle.std.specs.List.Sorted.{IsStrictlyIncreasing}
use Rattle.missing_round.specs.Words.{group}
use Rattle.missing_round.specs.declared.SetError.{SetError}
use Rattle.missing_round.specs.declared.SetError.TheVariants.{OutOfGroup}

-- a set of meters is a list of numbers below 256 that ascends
pub record IsSet (xs : List ℕ) : Type 0 where
  pub ascending : IsStrictlyIncreasing xs
  pub small : All (λ i. i < 256) xs

-- whether i is in the set
abbrev pub is_member : ℕ → List ℕ → Bool
is_member i [] = false
is_member i (x ∷ xs) = (x == i) || is_member i xs

-- the set with i
abbrev pub joined : ℕ → List ℕ → List ℕ
joined i [] = i ∷ []
joined i (x ∷ xs) = if nat_lt i x then i ∷ x ∷ xs else if x == i then x ∷ xs else x ∷ joined i xs

-- the set without i
abbrev pub without : ℕ → List ℕ → List ℕ
without i xs = filter (λ j. not (j == i)) xs

-- the members of xs that are not in ys
abbrev pub less : List ℕ → List ℕ → List ℕ
less xs ys = filter (λ j. not (is_member j ys)) xs

-- the members at or above n
abbrev pub beyond : ℕ → List ℕ → List ℕ
beyond n xs = filter (λ j. not (nat_lt j n)) xs

-- whether bit i of the blocks is set: bit i % 64 of block i / 64
abbrev pub has_bit : List ℕ → ℕ → Bool
has_bit blocks i = bit_at (slice_index blocks (i / 64)) (i % 64) == 1

-- the most meters that a group has; opaque, since a goal would write out a list of 256
unfoldable pub max_meters : ℕ
max_meters = 256

-- the set that the blocks keep: the meters whose bit is set
unfoldable pub members : List ℕ → List ℕ
members blocks = filter (has_bit blocks) (group max_meters)

-- the number of n bits in which bit i is set where test i holds
unfoldable pub number_by : (ℕ → Bool) → ℕ → ℕ
number_by test zero = 0
number_by test (suc n) = (if test n then 1 else 0) * 2 ^ n + number_by test n

-- block k of a set: its bit j is meter 64 k + j
abbrev pub block_at : List ℕ → ℕ → ℕ
block_at xs k = number_by (λ j. is_member (64 * k + j) xs) 64

-- the blocks that keep a set
abbrev pub blocks_of : List ℕ → List ℕ
blocks_of xs = block_at xs 0 ∷ block_at xs 1 ∷ block_at xs 2 ∷ block_at xs 3 ∷ []

-- the bits are a set of a group of n; or there is one at or above n, and this is the least such
abbrev pub FromBits : ℕ → List ℕ → Result (List ℕ) SetError → Type 0
FromBits n bits (Ok set) = (set ≡ members bits) × (beyond n set ≡ [])
FromBits n bits (Err (OutOfGroup bit)) = slice_get (beyond n (members bits)) 0 ≡ Some bit

-- four blocks of 64 bits, which their set gives back
pub record IsBlocks (blocks : List ℕ) : Type 0 where
  pub long : length blocks ≡ 4
  pub small : (k : ℕ) → slice_index blocks k < 2 ^ 64
  pub kept : blocks_of (members blocks) ≡ blocks

-- four blocks of 64 bits, with no bit left below block at
pub record IsFrom (at : ℕ) (blocks : List ℕ) : Type 0 where
  pub long : length blocks ≡ 4
  pub small : (k : ℕ) → slice_index blocks k < 2 ^ 64
  pub within : at ≤ 4
  pub done : (k : ℕ) → k < at → slice_index blocks k ≡ 0
