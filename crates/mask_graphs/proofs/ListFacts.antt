-- Members of lists, and sums over them.
use Rattle.std.proofs.Common.{◌≡◌, ℕ, ◌+◌, Bool, true, false, cond, not, ◌&&◌, ◌||◌, List, [], ◌∷◌, ◌++◌, refl, sym, ap, ◌∙◌, arith, ⊎_elim}
use Rattle.std.specs.Prelude.{◌==◌, if◌then◌else◌, Option, Some, None, is_some}
use Rattle.std.specs.List.{sum_by, filter, find}
use Rattle.std.proofs.lemmas.Bool.{false≢true, cases_eq, ne_eqb, eq-eqb, eqb-true, or_cases}
use Rattle.std.proofs.lemmas.Bool.Decides.{nat_tests}
use Rattle.std.proofs.lemmas.List.Sums.{sum_by-cons}
use Rattle.missing_round.specs.Sets.{is_member}
use Rattle.missing_round.proofs.SetLemmas.{is_member-filter}

-- ---- the first that passes

pub find-passes : (p : ℕ → Bool) (xs : List ℕ) (i : ℕ) → find p xs ≡ Some i → p i ≡ true
find-passes p [] i h = absurd (cc h)
find-passes p (x ∷ xs) i h = step (p x) refl h (find-passes p xs i)
  where
    step : (c : Bool) → p x ≡ c → cond c (Some x) (find p xs) ≡ Some i → (find p xs ≡ Some i → p i ≡ true) → p i ≡ true
    step true is e later = let same : x ≡ i = cc e in ap p (sym same) ∙ is
    step false is e later = later e

pub find-member : (p : ℕ → Bool) (xs : List ℕ) (i : ℕ) → find p xs ≡ Some i → is_member i xs ≡ true
find-member p [] i h = absurd (cc h)
find-member p (x ∷ xs) i h = step (p x) h (find-member p xs i)
  where
    or-true : (b : Bool) → (b || true) ≡ true
    or-true true = refl
    or-true false = refl

    step : (c : Bool) → cond c (Some x) (find p xs) ≡ Some i → (find p xs ≡ Some i → is_member i xs ≡ true) → is_member i (x ∷ xs) ≡ true
    step true e later = let same : x ≡ i = cc e in ap (λ b. b || is_member i xs) (eq-eqb x i same)
    step false e later = ap (λ b. (x == i) || b) (later e) ∙ or-true (x == i)

pub find-none : (p : ℕ → Bool) (xs : List ℕ) → find p xs ≡ None → (i : ℕ) → is_member i xs ≡ true → p i ≡ false
find-none p [] h i within = absurd (false≢true within)
find-none p (x ∷ xs) h i within = step (p x) refl h (λ e. find-none p xs e i)
  where
    step : (c : Bool) → p x ≡ c → cond c (Some x) (find p xs) ≡ None → (find p xs ≡ None → is_member i xs ≡ true → p i ≡ false) → p i ≡ false
    step true is e rest = absurd (cc e)
    step false is e rest = ⊎_elim (λ here. ap p (sym (eqb-true x i here)) ∙ is) (λ later. rest e later) (or_cases (x == i) (is_member i xs) within)

-- ---- each stands once

abbrev pub Distinct : List ℕ → Type 0
Distinct [] = Unit {0}
Distinct (x ∷ xs) = (is_member x xs ≡ false) × Distinct xs

abbrev pub at : ℕ → ℕ → ℕ → ℕ
at i w j = if j == i then w else 0

pub sum_at-none : (i w : ℕ) (xs : List ℕ) → is_member i xs ≡ false → sum_by (at i w) xs ≡ 0
sum_at-none i w [] out = refl
sum_at-none i w (x ∷ xs) out = sum_by-cons (at i w) x xs ∙ step (x == i) (sum_at-none i w xs) out
  where
    step : (c : Bool) → (is_member i xs ≡ false → sum_by (at i w) xs ≡ 0) → (c || is_member i xs) ≡ false → (if c then w else 0) + sum_by (at i w) xs ≡ 0
    step true rest e = absurd (false≢true (sym e))
    step false rest e = ap (λ z. 0 + z) (rest e)

pub sum_at : (i w : ℕ) (xs : List ℕ) → Distinct xs → is_member i xs ≡ true → sum_by (at i w) xs ≡ w
sum_at i w [] once within = absurd (false≢true within)
sum_at i w (x ∷ xs) once within =
    sum_by-cons (at i w) x xs
    ∙ ⊎_elim
    (λ e. omega (arith, term_is x e, sum_at-none i w xs (ap (λ k. is_member k xs) (sym e) ∙ once.0)))
    (λ ne. omega (arith, term_not x ne, sum_at i w xs once.1 (sym (ap (λ b. b || is_member i xs) (ne_eqb x i ne)) ∙ within)))
    (cases_eq x i)
  where
    term_is : (k : ℕ) → k ≡ i → at i w k ≡ w
    term_is k e = grind (arith, nat_tests)

    term_not : (k : ℕ) → (k ≡ i → ⊥) → at i w k ≡ 0
    term_not k ne = grind (arith, nat_tests)

-- terms that are the same at each member
pub sum_same : (f h : ℕ → ℕ) (xs : List ℕ) → ((i : ℕ) → is_member i xs ≡ true → f i ≡ h i) → sum_by f xs ≡ sum_by h xs
sum_same f h [] same = refl
sum_same f h (x ∷ xs) same =
    omega (arith, sum_by-cons f x xs, sum_by-cons h x xs, same x (ap (λ b. b || is_member x xs) (eq-eqb x x refl)), sum_same f h xs (λ i within. same i (later i within)))
  where
    or-true : (b : Bool) → (b || true) ≡ true
    or-true true = refl
    or-true false = refl

    later : (i : ℕ) → is_member i xs ≡ true → ((x == i) || is_member i xs) ≡ true
    later i within = ap (λ b. (x == i) || b) within ∙ or-true (x == i)

-- ---- tests

pub or-true : (b : Bool) → (b || true) ≡ true
or-true true = refl
or-true false = refl

pub not_true : (b : Bool) → not b ≡ true → b ≡ false
not_true true e = absurd (false≢true e)
not_true false e = refl

-- two tests that follow from each other
pub same_test : (a b : Bool) → (a ≡ true → b ≡ true) → (b ≡ true → a ≡ true) → a ≡ b
same_test true b to from = sym (to refl)
same_test false true to from = from refl
same_test false false to from = refl

pub some_of : (o : Option ℕ) → is_some o ≡ true → (i : ℕ) × (o ≡ Some i)
some_of None h = absurd (false≢true h)
some_of (Some i) h = (i, refl)

pub none_of : (o : Option ℕ) → is_some o ≡ false → o ≡ None
none_of None h = refl
none_of (Some i) h = absurd (false≢true (sym h))

-- ---- members

pub member_head : (i : ℕ) (xs : List ℕ) → is_member i (i ∷ xs) ≡ true
member_head i xs = ap (λ b. b || is_member i xs) (eq-eqb i i refl)

pub member_later : (i x : ℕ) (xs : List ℕ) → is_member i xs ≡ true → is_member i (x ∷ xs) ≡ true
member_later i x xs within = ap (λ b. (x == i) || b) within ∙ or-true (x == i)

pub member_append : (i : ℕ) (xs ys : List ℕ) → is_member i (xs ++ ys) ≡ (is_member i xs || is_member i ys)
member_append i [] ys = refl
member_append i (x ∷ xs) ys = ap (λ b. (x == i) || b) (member_append i xs ys) ∙ or-assoc (x == i) (is_member i xs) (is_member i ys)
  where
    or-assoc : (a b c : Bool) → (a || (b || c)) ≡ ((a || b) || c)
    or-assoc true b c = refl
    or-assoc false b c = refl

pub not_head : (k i : ℕ) (xs : List ℕ) → is_member k (i ∷ xs) ≡ false → k ≡ i → ⊥
not_head k i xs out e = false≢true (sym out ∙ ap (λ b. b || is_member k xs) (eq-eqb i k (sym e)))

pub not_tail : (k i : ℕ) (xs : List ℕ) → is_member k (i ∷ xs) ≡ false → is_member k xs ≡ false
not_tail k i xs out = step (i == k) out
  where
    step : (c : Bool) → (c || is_member k xs) ≡ false → is_member k xs ≡ false
    step true e = absurd (false≢true (sym e))
    step false e = e

pub distinct_filter : (p : ℕ → Bool) (xs : List ℕ) → Distinct xs → Distinct (filter p xs)
distinct_filter p [] once = tt
distinct_filter p (x ∷ xs) once = step (p x) (ap (λ b. b && p x) once.0) (distinct_filter p xs once.1)
  where
    step : (c : Bool) → (is_member x xs && p x) ≡ false → Distinct (filter p xs) → Distinct (cond c (x ∷ filter p xs) (filter p xs))
    step true out rest = (is_member-filter p x xs ∙ out, rest)
    step false out rest = rest
