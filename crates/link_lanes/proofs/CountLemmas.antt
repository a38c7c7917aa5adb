-- How far the counts of a rack's lanes have come.
use Rattle.std.proofs.Common.{◌≡◌, ℕ, zero, suc, ◌+◌, ◌<◌, ◌≤◌, List, [], ◌∷◌, ◌++◌, map, filter, length, get_or, refl, arith, IsTrue, Bool, true, false, cond}
use Rattle.std.proofs.lemmas.Bool.Decides.{nat_tests}
use Rattle.std.proofs.lemmas.List.{map-append}
use Rattle.link_lanes.specs.Lanes.{Slot, after_post, hangs_at, counted}
use Rattle.link_lanes.specs.Counts.{are_up_to}

up_to-cons : (n : ℕ) (s : Slot) (slots : List Slot) → s.lane.count ≤ n → IsTrue (are_up_to n slots) → IsTrue (are_up_to n (s ∷ slots))
up_to-cons n s slots le h = grind (arith, nat_tests)

up_to-head : (n : ℕ) (s : Slot) (slots : List Slot) → IsTrue (are_up_to n (s ∷ slots)) → s.lane.count ≤ n
up_to-head n s slots h = grind (arith, nat_tests)

up_to-tail : (n : ℕ) (s : Slot) (slots : List Slot) → IsTrue (are_up_to n (s ∷ slots)) → IsTrue (are_up_to n slots)
up_to-tail n s slots h = grind (arith, nat_tests)

-- a larger bound
pub up_to-more : (m n : ℕ) (slots : List Slot) → m ≤ n → IsTrue (are_up_to m slots) → IsTrue (are_up_to n slots)
up_to-more m n [] le h = refl
up_to-more m n (s ∷ slots) le h =
    let head : s.lane.count ≤ m = up_to-head m s slots h in
    up_to-cons n s slots (omega arith) (up_to-more m n slots le (up_to-tail m s slots h))

pub up_to-append : (n : ℕ) (xs ys : List Slot) → IsTrue (are_up_to n xs) → IsTrue (are_up_to n ys) → IsTrue (are_up_to n (xs ++ ys))
up_to-append n [] ys h k = k
up_to-append n (s ∷ xs) ys h k = up_to-cons n s (xs ++ ys) (up_to-head n s xs h) (up_to-append n xs ys (up_to-tail n s xs h) k)

-- each single lane
pub up_to-get : (n : ℕ) (slots : List Slot) (i : ℕ) (d : Slot) → IsTrue (are_up_to n slots) → i < length slots → (get_or slots i d).lane.count ≤ n
up_to-get n [] i d h lt = absurd (omega arith)
up_to-get n (s ∷ slots) zero d h lt = up_to-head n s slots h
up_to-get n (s ∷ slots) (suc i) d h lt = up_to-get n slots i d (up_to-tail n s slots h) (omega arith)

-- a lane counts a post once
counted_once : (tick : ℕ) (s : Slot) → (after_post tick s).lane.count ≤ s.lane.count + 1
counted_once tick s = elim (hangs_at tick s) as (λ b. (cond b (record s { lane = counted s.lane }) s).lane.count ≤ s.lane.count + 1) [ true ↦ omega arith | false ↦ omega arith ]

pub up_to-after_post : (n tick : ℕ) (slots : List Slot) → IsTrue (are_up_to n slots) → IsTrue (are_up_to (n + 1) (map (after_post tick) slots))
up_to-after_post n tick [] h = refl
up_to-after_post n tick (s ∷ slots) h =
    let once : (after_post tick s).lane.count ≤ s.lane.count + 1 = counted_once tick s in
    let head : s.lane.count ≤ n = up_to-head n s slots h in
    up_to-cons (n + 1) (after_post tick s) (map (after_post tick) slots) (omega arith) (up_to-after_post n tick slots (up_to-tail n s slots h))

pub up_to-filter : (n : ℕ) (p : Slot → Bool) (slots : List Slot) → IsTrue (are_up_to n slots) → IsTrue (are_up_to n (filter p slots))
up_to-filter n p [] h = refl
up_to-filter n p (s ∷ slots) h =
    let rest : IsTrue (are_up_to n (filter p slots)) = up_to-filter n p slots (up_to-tail n s slots h) in
    elim (p s) as (λ b. IsTrue (are_up_to n (cond b (s ∷ filter p slots) (filter p slots))))
    [ true ↦ up_to-cons n s (filter p slots) (up_to-head n s slots h) rest | false ↦ rest ]

-- what a post, a hanging and a retirement leave
pub up_to-passed : {X : Type 0} (f : X → Slot) (n m tick : ℕ) (old new : List X) → map f new ≡ map (after_post tick) (map f old) → IsTrue (are_up_to n (map f old)) → n + 1 ≤ m → IsTrue (are_up_to m (map f new))
up_to-passed f n m tick old new e h le = up_to-more (n + 1) m (map f new) le (rw e (up_to-after_post n tick (map f old) h))

pub up_to-hung : {X : Type 0} (f : X → Slot) (n : ℕ) (old new : List X) (x : X) → new ≡ old ++ x ∷ [] → IsTrue (are_up_to n (map f old)) → (f x).lane.count ≤ n → IsTrue (are_up_to n (map f new))
up_to-hung f n old new x e h le = rw (e, map-append f old (x ∷ [])) (up_to-append n (map f old) (f x ∷ []) h (up_to-cons n (f x) [] le refl))

pub up_to-retired : {X : Type 0} (f : X → Slot) (n : ℕ) (p : Slot → Bool) (old new : List X) → map f new ≡ filter p (map f old) → IsTrue (are_up_to n (map f old)) → IsTrue (are_up_to n (map f new))
up_to-retired f n p old new e h = rw e (up_to-filter n p (map f old) h)
