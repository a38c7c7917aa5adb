-- Sets whose members are below a bound.
use Rattle.std.proofs.Common.{◌≡◌, ◌==◌, ◌&&◌, ℕ, Bool, true, false, nat_lt, List, [], ◌∷◌, length, refl, ap, arith, ◌∙◌, cond, not}
use Rattle.std.proofs.lemmas.Bool.Decides.{nat_tests}
use Rattle.missing_round.specs.Sets.{beyond, less}
use Rattle.missing_round.specs.Words.{group}
use Rattle.missing_round.proofs.SetLemmas.{less-range}
use Rattle.transcript_text.specs.Reading.{is_within}

-- no member is at or above n where each is below
pub all_within : (n : ℕ) (set : List ℕ) → (length (less set (group n)) == 0) ≡ is_within n set
all_within n set = ap (λ q. length q == 0) (less-range n set) ∙ by_member set
  where
    by_member : (xs : List ℕ) → (length (beyond n xs) == 0) ≡ is_within n xs
    by_member [] = refl
    by_member (x ∷ xs) = by_test (nat_lt x n) (by_member xs)
      where
        by_test : (b : Bool) → (length (beyond n xs) == 0) ≡ is_within n xs → (length (cond (not b) (x ∷ beyond n xs) (beyond n xs)) == 0) ≡ (b && is_within n xs)
        by_test true ih = ih
        by_test false ih = let t : (length (x ∷ beyond n xs) == 0) ≡ false = grind (arith, nat_tests) in t
