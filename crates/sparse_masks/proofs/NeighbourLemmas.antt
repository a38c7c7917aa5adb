-- Neighbours by the ways around the ring.
use Rattle.std.proofs.Common.{◌≡◌, ℕ, ◌+◌, ◌-◌, ◌%◌, ◌<◌, ◌≤◌, Bool, true, false, not, ◌&&◌, ◌||◌, refl, sym, ap, ◌∙◌, arith, ⊎_elim}
use Rattle.std.specs.Prelude.{◌==◌, nat_le, if◌then◌else◌}
use Rattle.std.proofs.Math.Nat.{mod-eq_of_lt}
use Rattle.std.proofs.lemmas.Nat.{mod-mul-add}
use Rattle.std.proofs.lemmas.Bool.{cases_order, eq-eqb, lt-ltb, le-ltb}
use Rattle.std.proofs.lemmas.Bool.Decides.{nat_tests}
use Rattle.sparse_masks.specs.Neighbours.{apart, are_neighbours}

or-back : (a b : Bool) → (a || b) ≡ (b || a)
or-back true true = refl
or-back true false = refl
or-back false true = refl
or-back false false = refl

-- the way that doesn't lead over the ring's end, and the one that does
short : (n i j : ℕ) → i < j → j < n → (j + n - i) % n ≡ j - i
short n i j lt below = ap (λ k. k % n) (omega (arith, lt)) ∙ mod-mul-add 1 n (j - i) (omega (arith, lt, below))

long : (n i j : ℕ) → i < j → j < n → (i + n - j) % n ≡ n - (j - i)
long n i j lt below = ap (λ k. k % n) (omega (arith, lt, below)) ∙ mod-eq_of_lt (omega (arith, lt, below))

reach : (w n a : ℕ) → a ≤ n → nat_le n (a + w) ≡ nat_le (n - a) w
reach w n a le = grind (arith, nat_tests, le)

pub near : (w n i j : ℕ) → i < n → j < n → are_neighbours w n i j ≡ (not (i == j) && (nat_le ((i + n - j) % n) w || nat_le ((j + n - i) % n) w))
near w n i j i_in j_in =
    ⊎_elim
    (λ e. ap (λ b. not b && (nat_le (apart i j) w || nat_le n (apart i j + w))) (eq-eqb i j e) ∙ sym (ap (λ b. not b && (nat_le ((i + n - j) % n) w || nat_le ((j + n - i) % n) w)) (eq-eqb i j e)))
    (λ o. ⊎_elim
    (λ lt.
    ap (λ b. not (i == j) && (nat_le (if b then j - i else i - j) w || nat_le n ((if b then j - i else i - j) + w))) (lt-ltb i j lt)
    ∙ ap (λ b. not (i == j) && (nat_le (j - i) w || b)) (reach w n (j - i) (omega (arith, j_in)))
    ∙ ap (λ b. not (i == j) && b) (or-back (nat_le (j - i) w) (nat_le (n - (j - i)) w))
    ∙ ap (λ k. not (i == j) && (nat_le k w || nat_le (j - i) w)) (sym (long n i j lt j_in))
    ∙ ap (λ k. not (i == j) && (nat_le ((i + n - j) % n) w || nat_le k w)) (sym (short n i j lt j_in)))
    (λ lt.
    ap (λ b. not (i == j) && (nat_le (if b then j - i else i - j) w || nat_le n ((if b then j - i else i - j) + w))) (le-ltb i j (omega (arith, lt)))
    ∙ ap (λ b. not (i == j) && (nat_le (i - j) w || b)) (reach w n (i - j) (omega (arith, i_in)))
    ∙ ap (λ k. not (i == j) && (nat_le k w || nat_le (n - (i - j)) w)) (sym (short n j i lt i_in))
    ∙ ap (λ k. not (i == j) && (nat_le ((i + n - j) % n) w || nat_le k w)) (sym (long n j i lt i_in)))
    o)
    (cases_order i j)
