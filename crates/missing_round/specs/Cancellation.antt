-- The law of the words: over the survivors of a round the masks cancel.
use Rattle.std.specs.Prelude.{◌≡◌, ℕ, ◌^◌, ◌<◌, ◌≤◌, Bool, List, length, All, filter, sum_by}
use Rattle.missing_round.specs.Words.{word, reading_word, answer_word, frame_total}
use Rattle.missing_round.specs.Sets.{less}

-- for any words, any members of a round and any survivors among them, the reading words of the survivors
-- less their answers to the missing set are the sum of their readings modulo 2^64
abbrev pub Cancels : Type 0
Cancels = (own : ℕ → ℕ) (pair : ℕ → ℕ → ℕ) (members : List ℕ) (reading : ℕ → ℕ) (taken : ℕ → Bool) →
    let survivors = filter taken members in
    let missing = less members survivors in
    frame_total (λ i. reading_word own pair members i (reading i)) (λ i. answer_word own pair i missing) survivors
    ≡ word (sum_by reading survivors)

-- with readings below 2^40 and at most 256 survivors nothing is lost: it is the plain sum itself
abbrev pub CancelsExactly : Type 0
CancelsExactly = (own : ℕ → ℕ) (pair : ℕ → ℕ → ℕ) (members : List ℕ) (reading : ℕ → ℕ) (taken : ℕ → Bool) →
    let survivors = filter taken members in
    let missing = less members survivors in
    length survivors ≤ 256 → All (λ i. reading i < 2 ^ 40) survivors →
    frame_total (λ i. reading_word own pair members i (reading i)) (λ i. answer_word own pair i missing) survivors
    ≡ sum_by reading survivors
