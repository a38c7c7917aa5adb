-- The loop over the words of a row.
use Rattle.std.proofs.Common.{◌≡◌, ℕ, ◌+◌, ◌≤◌, Bool, IsTrue, List, [], ◌++◌, length, map, refl, sym, ap, subst, arith}
use Rattle.std.specs.List.{list_all, filter, range_with_len}
use Rattle.std.proofs.lemmas.List.Sums.{length-filter, count_by-le-length}
use Rattle.std.proofs.lemmas.List.FromFn.{length-range_with_len}
use Rattle.missing_round.specs.Sets.{IsSet, is_member}
use Rattle.missing_round.proofs.SetLemmas.{picked-set}

-- the words so far, and the meters that are left
pub record Words (is_end : ℕ → Bool) (f : ℕ → ℕ) (all left made : List ℕ) : Type 0 where
  pub ends : IsTrue (list_all is_end left)
  pub words : made ++ map f left ≡ map f all
  pub few : length made + length left ≤ 256

few_of : (n : ℕ) (p : ℕ → Bool) (xs : List ℕ) → filter p (range_with_len 0 n) ≡ xs → length xs ≤ n
few_of n p xs e =
    omega (arith, ap length e, length-filter p (range_with_len 0 n), count_by-le-length p (range_with_len 0 n), length-range_with_len 0 n)

-- a set has at most 256 members
few : (xs : List ℕ) → IsSet xs → length xs ≤ 256
few xs h = few_of 256 (λ i. is_member i xs) xs (picked-set xs h)

-- no word is made yet
pub begins : (is_end : ℕ → Bool) (f : ℕ → ℕ) (all left made : List ℕ) → left ≡ all → made ≡ [] → IsSet all → IsTrue (list_all is_end all) →
    Words is_end f all left made
begins is_end f all left made e none is_set ends =
    subst (λ (l : List ℕ). Words is_end f all l made) (sym e)
    (subst (λ (m : List ℕ). Words is_end f all all m) (sym none) (record { ends = ends; words = refl; few = omega (arith, few all is_set) }))
