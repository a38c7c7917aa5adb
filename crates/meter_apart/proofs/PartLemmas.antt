-- The members of a round: meter by meter, and that each has a place.
use Rattle.std.proofs.Common.{◌≡◌, ℕ, zero, suc, ◌+◌, ◌<◌, ◌≤◌, Bool, true, false, not, ◌&&◌, ◌||◌, cond, List, [], ◌∷◌, length, refl, sym, ap, ◌∙◌, arith, ⊎_elim}
use Rattle.std.specs.Prelude.{◌==◌, nat_lt}
use Rattle.std.specs.List.{list_all, filter, range_with_len}
use Rattle.std.proofs.lemmas.Bool.{false≢true, cases_eq, cases_lt, cases_Bool, and_parts, and_from, or_right, eqb-true, eq-eqb, ne_eqb, ltb-true, lt-ltb, le-ltb}
use Rattle.missing_round.specs.Sets.{joined, less}
use Rattle.missing_round.specs.Sets.{is_member as is_in}
use Rattle.missing_round.proofs.SetLemmas.{same_picked, joined-picked, none-picked, is_member-picked, is_member-filter}
use Rattle.group_plan.specs.Plans.{PlanView, size, is_place, is_member, members}
use Rattle.meter_core.specs.Meters.{is_within}
use Rattle.blind_core.specs.Blind.{are_places}
use Rattle.meter_apart.specs.declared.part.Part.{Part}
use Rattle.meter_apart.specs.Parts.{members_in, takes_part}

-- ---- meter by meter

-- the members below meter m
abbrev pub below : (ℕ → Bool) → ℕ → ℕ → List ℕ
below test n m = filter (λ j. nat_lt j m && test j) (range_with_len 0 n)

pub none_below : (test : ℕ → Bool) (n : ℕ) → [] ≡ below test n 0
none_below test n = sym (none-picked (λ j. nat_lt j 0 && test j) 0 n (λ j _ _. ap (λ b. b && test j) (le-ltb j 0 (omega arith))))

pub all_below : (test : ℕ → Bool) (n m : ℕ) → n ≤ m → below test n m ≡ filter test (range_with_len 0 n)
all_below test n m le = same_picked (λ j. nat_lt j m && test j) test 0 n (λ j _ lt. ap (λ b. b && test j) (lt-ltb j m (omega (arith, le, lt))))

next_other : (m j : ℕ) → (j ≡ m → ⊥) → nat_lt j (m + 1) ≡ nat_lt j m
next_other m j other = ⊎_elim
    (λ lt. lt-ltb j (m + 1) (omega (arith, lt)) ∙ sym (lt-ltb j m lt))
    (λ ge. le-ltb j (m + 1) (omega (arith, ge, other)) ∙ sym (le-ltb j m ge))
    (cases_lt j m)

next_member : (test : ℕ → Bool) (m j : ℕ) → test m ≡ true → (nat_lt j (m + 1) && test j) ≡ ((j == m) || (nat_lt j m && test j))
next_member test m j is = ⊎_elim
    (λ same. ap (λ b. b && test j) (lt-ltb j (m + 1) (omega (arith, same))) ∙ ap test same ∙ is ∙ sym (ap (λ b. b || (nat_lt j m && test j)) (eq-eqb j m same)))
    (λ other. ap (λ b. b && test j) (next_other m j other) ∙ sym (ap (λ b. b || (nat_lt j m && test j)) (ne_eqb j m other)))
    (cases_eq j m)

next_none : (test : ℕ → Bool) (m j : ℕ) → test m ≡ false → (nat_lt j m && test j) ≡ (nat_lt j (m + 1) && test j)
next_none test m j is = ⊎_elim
    (λ same. ap (λ b. b && test j) (le-ltb j m (omega (arith, same))) ∙ sym (ap (λ b. b && test j) (lt-ltb j (m + 1) (omega (arith, same))) ∙ ap test same ∙ is))
    (λ other. ap (λ b. b && test j) (sym (next_other m j other)))
    (cases_eq j m)

-- one meter more, which is a member
pub one_more : (test : ℕ → Bool) (n m : ℕ) (set : List ℕ) → set ≡ below test n m → m < n → test m ≡ true → joined m set ≡ below test n (m + 1)
one_more test n m set is lt here =
    ap (joined m) is
    ∙ joined-picked (λ j. nat_lt j m && test j) (λ j. nat_lt j (m + 1) && test j) 0 n m (omega arith) (omega (arith, lt)) (λ j _ _. next_member test m j here)

-- one meter more, which is none
pub one_less : (test : ℕ → Bool) (n m : ℕ) (set : List ℕ) → set ≡ below test n m → test m ≡ false → set ≡ below test n (m + 1)
one_less test n m set is none = is ∙ same_picked (λ j. nat_lt j m && test j) (λ j. nat_lt j (m + 1) && test j) 0 n (λ j _ _. next_none test m j none)

-- ---- places

-- what passes for each number of a range passes for those that are kept of it
all_in_range : (p q : ℕ → Bool) (a n : ℕ) → ((i : ℕ) → i < a + n → p i ≡ true) → list_all p (filter q (range_with_len a n)) ≡ true
all_in_range p q a zero all = refl
all_in_range p q a (suc n) all = step (q a) (all_in_range p q (a + 1) n (λ i lt. all i (omega (arith, lt))))
  where
    step : (b : Bool) → list_all p (filter q (range_with_len (a + 1) n)) ≡ true → list_all p (cond b (a ∷ filter q (range_with_len (a + 1) n)) (filter q (range_with_len (a + 1) n))) ≡ true
    step true later = and_from (p a) (list_all p (filter q (range_with_len (a + 1) n))) (all a (omega arith)) later
    step false later = later

pub members-are_places : (home : PlanView) (r : ℕ) → r < home.rounds → are_places home 0 r (members home.groups 0 r) ≡ true
members-are_places home r lt =
    all_in_range (is_place home 0 r) (is_member home.groups 0 r) 0 (size home.groups 0)
    (λ i under. and_from (nat_lt r home.rounds) (nat_lt i (size home.groups 0)) (lt-ltb r home.rounds lt) (lt-ltb i (size home.groups 0) (omega (arith, under))))

-- what holds of all of a list holds of each
each_of : (p : ℕ → Bool) (xs : List ℕ) (i : ℕ) → list_all p xs ≡ true → is_in i xs ≡ true → p i ≡ true
each_of p [] i all there = absurd (false≢true there)
each_of p (x ∷ xs) i all there =
    let both = and_parts (p x) (list_all p xs) all in
    ⊎_elim
    (λ same. ap p (sym same) ∙ both.0)
    (λ other. each_of p xs i both.1 (ap (λ b. b || is_in i xs) (sym (ne_eqb x i other)) ∙ there))
    (cases_eq x i)

-- what holds of each of a list holds of all
all_from : (p : ℕ → Bool) (xs : List ℕ) → ((i : ℕ) → is_in i xs ≡ true → p i ≡ true) → list_all p xs ≡ true
all_from p [] each = refl
all_from p (x ∷ xs) each =
    and_from (p x) (list_all p xs) (each x (ap (λ b. b || is_in x xs) (eq-eqb x x refl))) (all_from p xs (λ i there. each i (or_right (x == i) (is_in i xs) there)))

empty : (xs : List ℕ) → length xs ≡ 0 → xs ≡ []
empty [] h = refl
empty (x ∷ xs) h = absurd (omega (arith, h))

-- a set within others has no meter but those
within-has : (set ms : List ℕ) (i : ℕ) → is_within set ms ≡ true → is_in i set ≡ true → is_in i ms ≡ true
within-has set ms i within there = ⊎_elim (λ is. is) (λ isnt. absurd (false≢true (out isnt))) (cases_Bool (is_in i ms))
  where
    none : less set ms ≡ []
    none = empty (less set ms) (eqb-true (length (less set ms)) 0 within)

    out : is_in i ms ≡ false → false ≡ true
    out isnt = ap (is_in i) (sym none) ∙ is_member-filter (λ j. not (is_in j ms)) i set ∙ ap (λ b. b && not (is_in i ms)) there ∙ ap not isnt

pub within-places : (home : PlanView) (r : ℕ) (set : List ℕ) → r < home.rounds → is_within set (members home.groups 0 r) ≡ true → are_places home 0 r set ≡ true
within-places home r set lt within =
    all_from (is_place home 0 r) set
    (λ i there. each_of (is_place home 0 r) (members home.groups 0 r) i (members-are_places home r lt) (within-has set (members home.groups 0 r) i within there))

-- ---- the meter itself

pub takes-round : (part : Part) (r : ℕ) → takes_part part r ≡ true → r < part.home.rounds
takes-round part r takes = ltb-true r part.home.rounds (and_parts (nat_lt r part.home.rounds) (is_member part.home.groups 0 r part.meter) takes).0

pub takes-member : (part : Part) (r : ℕ) → takes_part part r ≡ true → is_in part.meter (members_in part r) ≡ true
takes-member part r takes =
    is_member-picked (is_member part.home.groups 0 r) 0 (size part.home.groups 0) part.meter (omega arith) (omega (arith, part.is_meter))
    ∙ (and_parts (nat_lt r part.home.rounds) (is_member part.home.groups 0 r part.meter) takes).1
