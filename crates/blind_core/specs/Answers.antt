-- The shares of the pair words with missing meters, missing meter by missing meter.
use Rattle.std.specs.Prelude.{ℕ, ◌+◌, List, [], ◌∷◌}
use Rattle.missing_round.specs.Words.{word, share}

-- the sums of these meters, each with its share with meter j
unfoldable pub with_shares : (ℕ → ℕ → ℕ) → ℕ → List ℕ → List ℕ → List ℕ
with_shares pair j [] sums = []
with_shares pair j (i ∷ meters) [] = []
with_shares pair j (i ∷ meters) (sum ∷ sums) = word (sum + share pair i j) ∷ with_shares pair j meters sums

-- the sums of these meters with their shares with all missing meters
unfoldable pub with_all_shares : (ℕ → ℕ → ℕ) → List ℕ → List ℕ → List ℕ → List ℕ
with_all_shares pair [] meters sums = sums
with_all_shares pair (j ∷ missing) meters sums = with_all_shares pair missing meters (with_shares pair j meters sums)
