-- Members of a list whose members all pass a test.
use Rattle.std.proofs.Common.{◌≡◌, ℕ, Bool, true, IsTrue, List, [], ◌∷◌, ap, ⊎_elim, arith}
use Rattle.std.specs.List.{list_all}
use Rattle.std.proofs.lemmas.Bool.{false≢true, cases_eq, eq-eqb, ne_eqb}
use Rattle.missing_round.specs.Sets.{is_member}

-- each member passes
pub test-member : (p : ℕ → Bool) (i : ℕ) (xs : List ℕ) → IsTrue (list_all p xs) → is_member i xs ≡ true → IsTrue (p i)
test-member p i [] all member = absurd (false≢true member)
test-member p i (x ∷ xs) all member = ⊎_elim
    (λ e. grind (arith, eq-eqb x i e, ap p e, all))
    (λ ne. test-member p i xs (grind (arith, all)) (grind (arith, ne_eqb x i ne, member)))
    (cases_eq x i)
