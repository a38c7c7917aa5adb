-- The words of one round, over plain numbers: own i is the own word of meter i,
-- and pair i j, for i < j, the pair word of meters i and j.
use Rattle.std.specs.Prelude.{ℕ, ◌+◌, ◌-◌, ◌%◌, ◌^◌, nat_lt, List, sum_by, if◌then◌else◌}
use Rattle.std.specs.List.{range_with_len}

-- the word of a number: the number modulo 2^64
abbrev pub word : ℕ → ℕ
word n = n % 2 ^ 64

-- what is added in order to take a number away modulo 2^64
abbrev pub minus : ℕ → ℕ
minus n = 2 ^ 64 - word n

-- what the pair word of i and j adds to the words of i: plus for the lower meter,
-- minus for the higher, and nothing where i is j
abbrev pub share : (ℕ → ℕ → ℕ) → ℕ → ℕ → ℕ
share pair i j = if nat_lt i j then pair i j else if nat_lt j i then minus (pair j i) else 0

-- the meters of a group of n: 0 to n - 1
abbrev pub group : ℕ → List ℕ
group n = range_with_len 0 n

-- the word that hides the reading of meter i, one of the members of a round
abbrev pub reading_word : (ℕ → ℕ) → (ℕ → ℕ → ℕ) → List ℕ → ℕ → ℕ → ℕ
reading_word own pair members i reading = word (reading + own i + sum_by (share pair i) members)

-- the word that meter i answers to a missing set
abbrev pub answer_word : (ℕ → ℕ) → (ℕ → ℕ → ℕ) → ℕ → List ℕ → ℕ
answer_word own pair i missing = word (own i + sum_by (share pair i) missing)

-- the sum of the reading words of these meters less the sum of their answer words
abbrev pub frame_total : (ℕ → ℕ) → (ℕ → ℕ) → List ℕ → ℕ
frame_total readings answers meters = word (sum_by readings meters + minus (sum_by answers meters))
