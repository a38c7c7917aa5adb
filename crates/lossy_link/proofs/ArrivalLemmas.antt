-- Copies on their way, in order.
use Rattle.std.proofs.Common.{◌≡◌, ◌∙◌, ap, refl, ℕ, ◌+◌, ◌<◌, ◌≤◌, ◌==◌, nat_le, Bool, true, false, cond, not, List, [], ◌∷◌, ◌++◌, map, length, arith}
use Rattle.std.specs.List.{filter}
use Rattle.std.proofs.lemmas.List.{map-append, length-map}
use Rattle.std.proofs.lemmas.List.Filters.{length-filter_both}
use Rattle.std.proofs.lemmas.Bool.Decides.{nat_tests}
use Rattle.lossy_link.specs.Arrivals.{Arrival, arrival, placed, posted, due_at, due_elsewhere}

-- every copy is due after the tick; none is
abbrev pub AllAfter : ℕ → List Arrival → Type 0
AllAfter tick [] = Unit {0}
AllAfter tick (a ∷ copies) = (tick < a.tick) × AllAfter tick copies

abbrev pub AllUntil : ℕ → List Arrival → Type 0
AllUntil tick [] = Unit {0}
AllUntil tick (a ∷ copies) = (a.tick ≤ tick) × AllUntil tick copies

pub after-append : (tick : ℕ) (xs ys : List Arrival) → AllAfter tick xs → AllAfter tick ys → AllAfter tick (xs ++ ys)
after-append tick [] ys h k = k
after-append tick (a ∷ xs) ys h k = (h.0, after-append tick xs ys h.1 k)

pub after-arrivals : (tick due : ℕ) (several : List (List ℕ)) → tick < due → AllAfter tick (map (arrival due) several)
after-arrivals tick due [] lt = tt
after-arrivals tick due (bytes ∷ several) lt = (lt, after-arrivals tick due several lt)

pub until-arrivals : (tick due : ℕ) (several : List (List ℕ)) → due ≤ tick → AllUntil tick (map (arrival due) several)
until-arrivals tick due [] le = tt
until-arrivals tick due (bytes ∷ several) le = (le, until-arrivals tick due several le)

-- ---- placing a copy

-- before copies that are due later
pub placed-front : (a : Arrival) (copies : List Arrival) → AllAfter a.tick copies → placed a copies ≡ a ∷ copies
placed-front a [] h = refl
placed-front a (b ∷ copies) h =
    let later : nat_le b.tick a.tick ≡ false = (let lt : a.tick < b.tick = h.0 in grind (arith, nat_tests)) in
    ap (λ c. cond c (b ∷ placed a copies) (a ∷ b ∷ copies)) later

-- behind copies that are due as early
pub placed-behind : (a : Arrival) (xs ys : List Arrival) → AllUntil a.tick xs → placed a (xs ++ ys) ≡ xs ++ placed a ys
placed-behind a [] ys h = refl
placed-behind a (b ∷ xs) ys h =
    let early : nat_le b.tick a.tick ≡ true = (let le : b.tick ≤ a.tick = h.0 in grind (arith, nat_tests)) in
    ap (λ c. cond c (b ∷ placed a (xs ++ ys)) (a ∷ b ∷ (xs ++ ys))) early ∙ ap (λ l. b ∷ l) (placed-behind a xs ys h.1)

pub length-placed : (a : Arrival) (copies : List Arrival) → length (placed a copies) ≡ length copies + 1
length-placed a [] = refl
length-placed a (b ∷ copies) =
    elim (nat_le b.tick a.tick) as (λ c. length (cond c (b ∷ placed a copies) (a ∷ b ∷ copies)) ≡ length (b ∷ copies) + 1)
    [ true ↦ omega (arith, length-placed a copies) | false ↦ omega arith ]

-- one copy more for each delay
pub length-posted : (tick : ℕ) (bytes : List ℕ) (delays : List ℕ) (copies : List Arrival) → length (posted tick bytes delays copies) ≡ length copies + length delays
length-posted tick bytes [] copies = omega arith
length-posted tick bytes (d ∷ delays) copies =
    omega (arith, length-posted tick bytes delays (placed (arrival (tick + d) bytes) copies), length-placed (arrival (tick + d) bytes) copies)

-- the first copy is due as early as the one that was placed
placed-first : (a : Arrival) (copies : List Arrival) (y : Arrival) (ys : List Arrival) → placed a copies ≡ y ∷ ys → y.tick ≤ a.tick
placed-first a [] y ys e = let same : a ≡ y = cc in let tick : a.tick ≡ y.tick = ap (λ z. z.tick) same in omega arith
placed-first a (b ∷ copies) y ys e = by_case (nat_le b.tick a.tick) refl e
  where
    by_case : (c : Bool) → nat_le b.tick a.tick ≡ c → cond c (b ∷ placed a copies) (a ∷ b ∷ copies) ≡ y ∷ ys → y.tick ≤ a.tick
    by_case true is h = let same : b ≡ y = cc in let tick : b.tick ≡ y.tick = ap (λ z. z.tick) same in let le : b.tick ≤ a.tick = grind (arith, nat_tests) in omega arith
    by_case false is h = let same : a ≡ y = cc in let tick : a.tick ≡ y.tick = ap (λ z. z.tick) same in omega arith

-- the tick of a placed copy says where it was placed
pub placed_same : (a b : Arrival) (xs ys : List Arrival) → a.tick ≡ b.tick → placed a xs ≡ placed b ys → xs ≡ ys
placed_same a b [] [] tick e = refl
placed_same a b [] (y ∷ ys) tick e = absurd (omega (arith, ap length e, length-placed b (y ∷ ys)))
placed_same a b (x ∷ xs) [] tick e = absurd (omega (arith, ap length e, length-placed a (x ∷ xs)))
placed_same a b (x ∷ xs) (y ∷ ys) tick e = by_case (nat_le x.tick a.tick) refl (nat_le y.tick b.tick) refl e (λ e'. placed_same a b xs ys tick e')
  where
    by_case : (p : Bool) → nat_le x.tick a.tick ≡ p → (q : Bool) → nat_le y.tick b.tick ≡ q
        → cond p (x ∷ placed a xs) (a ∷ x ∷ xs) ≡ cond q (y ∷ placed b ys) (b ∷ y ∷ ys) → (placed a xs ≡ placed b ys → xs ≡ ys) → x ∷ xs ≡ y ∷ ys
    by_case true is_p true is_q h later =
        let heads : x ≡ y = cc in
        let tails : placed a xs ≡ placed b ys = cc in
        ap (λ z. z ∷ xs) heads ∙ ap (λ l. y ∷ l) (later tails)
    by_case true is_p false is_q h later =
        let tails : placed a xs ≡ y ∷ ys = cc in
        absurd (let le : y.tick ≤ a.tick = placed-first a xs y ys tails in let lt : b.tick < y.tick = grind (arith, nat_tests) in omega arith)
    by_case false is_p true is_q h later =
        let tails : placed b ys ≡ x ∷ xs = cc in
        absurd (let le : x.tick ≤ b.tick = placed-first b ys x xs tails in let lt : a.tick < x.tick = grind (arith, nat_tests) in omega arith)
    by_case false is_p false is_q h later = let tails : x ∷ xs ≡ y ∷ ys = cc in tails

-- ---- copies due at a tick

abbrev pub is_due : ℕ → Arrival → Bool
is_due tick a = a.tick == tick

filter-append : (p : Arrival → Bool) (xs ys : List Arrival) → filter p (xs ++ ys) ≡ filter p xs ++ filter p ys
filter-append p [] ys = refl
filter-append p (a ∷ xs) ys =
    let rest : filter p (xs ++ ys) ≡ filter p xs ++ filter p ys = filter-append p xs ys in
    elim (p a) as (λ b. cond b (a ∷ filter p (xs ++ ys)) (filter p (xs ++ ys)) ≡ cond b (a ∷ filter p xs) (filter p xs) ++ filter p ys)
    [ true ↦ ap (λ l. a ∷ l) rest | false ↦ rest ]

all_due : (tick : ℕ) (several : List (List ℕ)) → filter (is_due tick) (map (arrival tick) several) ≡ map (arrival tick) several
all_due tick [] = refl
all_due tick (bytes ∷ several) =
    let here : (tick == tick) ≡ true = grind (arith, nat_tests) in
    ap (λ b. cond b (arrival tick bytes ∷ filter (is_due tick) (map (arrival tick) several)) (filter (is_due tick) (map (arrival tick) several))) here
    ∙ ap (λ l. arrival tick bytes ∷ l) (all_due tick several)

none_due : (tick due : ℕ) (several : List (List ℕ)) → ¬ (due ≡ tick) → filter (is_due tick) (map (arrival due) several) ≡ []
none_due tick due [] ne = refl
none_due tick due (bytes ∷ several) ne =
    let other : (due == tick) ≡ false = grind (arith, nat_tests) in
    ap (λ b. cond b (arrival due bytes ∷ filter (is_due tick) (map (arrival due) several)) (filter (is_due tick) (map (arrival due) several))) other
    ∙ none_due tick due several ne

none_else : (tick : ℕ) (several : List (List ℕ)) → due_elsewhere tick (map (arrival tick) several) ≡ []
none_else tick [] = refl
none_else tick (bytes ∷ several) =
    let here : (tick == tick) ≡ true = grind (arith, nat_tests) in
    ap (λ b. cond (not b) (arrival tick bytes ∷ due_elsewhere tick (map (arrival tick) several)) (due_elsewhere tick (map (arrival tick) several))) here
    ∙ none_else tick several

all_else : (tick due : ℕ) (several : List (List ℕ)) → ¬ (due ≡ tick) → due_elsewhere tick (map (arrival due) several) ≡ map (arrival due) several
all_else tick due [] ne = refl
all_else tick due (bytes ∷ several) ne =
    let other : (due == tick) ≡ false = grind (arith, nat_tests) in
    ap (λ b. cond (not b) (arrival due bytes ∷ due_elsewhere tick (map (arrival due) several)) (due_elsewhere tick (map (arrival due) several))) other
    ∙ ap (λ l. arrival due bytes ∷ l) (all_else tick due several ne)

bytes_again : (tick : ℕ) (several : List (List ℕ)) → map (λ a. a.bytes) (map (arrival tick) several) ≡ several
bytes_again tick [] = refl
bytes_again tick (bytes ∷ several) = ap (λ l. bytes ∷ l) (bytes_again tick several)

pub due_at-append : (tick : ℕ) (xs ys : List Arrival) → due_at tick (xs ++ ys) ≡ due_at tick xs ++ due_at tick ys
due_at-append tick xs ys =
    ap (map (λ a. a.bytes)) (filter-append (is_due tick) xs ys) ∙ map-append (λ (a : Arrival). a.bytes) (filter (is_due tick) xs) (filter (is_due tick) ys)

pub due_elsewhere-append : (tick : ℕ) (xs ys : List Arrival) → due_elsewhere tick (xs ++ ys) ≡ due_elsewhere tick xs ++ due_elsewhere tick ys
due_elsewhere-append tick xs ys = filter-append (λ a. not (a.tick == tick)) xs ys

pub due_at-here : (tick : ℕ) (several : List (List ℕ)) → due_at tick (map (arrival tick) several) ≡ several
due_at-here tick several = ap (map (λ a. a.bytes)) (all_due tick several) ∙ bytes_again tick several

pub due_at-other : (tick due : ℕ) (several : List (List ℕ)) → ¬ (due ≡ tick) → due_at tick (map (arrival due) several) ≡ []
due_at-other tick due several ne = ap (map (λ a. a.bytes)) (none_due tick due several ne)

pub due_elsewhere-here : (tick : ℕ) (several : List (List ℕ)) → due_elsewhere tick (map (arrival tick) several) ≡ []
due_elsewhere-here = none_else

pub due_elsewhere-other : (tick due : ℕ) (several : List (List ℕ)) → ¬ (due ≡ tick) → due_elsewhere tick (map (arrival due) several) ≡ map (arrival due) several
due_elsewhere-other = all_else

-- nothing that is due later
pub due_at-after : (tick : ℕ) (copies : List Arrival) → AllAfter tick copies → due_at tick copies ≡ []
due_at-after tick [] h = refl
due_at-after tick (a ∷ copies) h =
    let other : (a.tick == tick) ≡ false = (let lt : tick < a.tick = h.0 in grind (arith, nat_tests)) in
    ap (λ b. map (λ (a : Arrival). a.bytes) (cond b (a ∷ filter (is_due tick) copies) (filter (is_due tick) copies))) other ∙ due_at-after tick copies h.1

pub due_elsewhere-after : (tick : ℕ) (copies : List Arrival) → AllAfter tick copies → due_elsewhere tick copies ≡ copies
due_elsewhere-after tick [] h = refl
due_elsewhere-after tick (a ∷ copies) h =
    let other : (a.tick == tick) ≡ false = (let lt : tick < a.tick = h.0 in grind (arith, nat_tests)) in
    ap (λ b. cond (not b) (a ∷ due_elsewhere tick copies) (due_elsewhere tick copies)) other ∙ ap (λ l. a ∷ l) (due_elsewhere-after tick copies h.1)

-- each copy is due at the tick or elsewhere
pub length-due : (tick : ℕ) (copies : List Arrival) → length (due_at tick copies) + length (due_elsewhere tick copies) ≡ length copies
length-due tick copies =
    let both : length (filter (is_due tick) copies) + length (due_elsewhere tick copies) ≡ length copies = length-filter_both (is_due tick) (λ a. not (a.tick == tick)) (λ a. refl) copies in
    omega (arith, both, length-map (filter (is_due tick) copies) (λ (a : Arrival). a.bytes))

-- a copy that was placed is due at its tick
pub length-due_at-placed : (a : Arrival) (copies : List Arrival) → length (due_at a.tick (placed a copies)) ≡ length (due_at a.tick copies) + 1
length-due_at-placed a [] =
    let here : (a.tick == a.tick) ≡ true = grind (arith, nat_tests) in
    ap (λ b. length (map (λ (a : Arrival). a.bytes) (cond b (a ∷ []) []))) here
length-due_at-placed a (b ∷ copies) = by_case (nat_le b.tick a.tick) (length-due_at-placed a copies)
  where
    due_at-cons : (x : Arrival) (xs : List Arrival) → length (due_at a.tick (x ∷ xs)) ≡ length (due_at a.tick xs) + (cond {A = ℕ} (x.tick == a.tick) 1 0)
    due_at-cons x xs =
        elim (x.tick == a.tick) as (λ d. length (map (λ (z : Arrival). z.bytes) (cond d (x ∷ filter (is_due a.tick) xs) (filter (is_due a.tick) xs))) ≡ length (due_at a.tick xs) + (cond {A = ℕ} d 1 0))
        [ true ↦ omega arith | false ↦ omega arith ]

    here : (cond {A = ℕ} (a.tick == a.tick) 1 0) ≡ 1
    here = let same : (a.tick == a.tick) ≡ true = grind (arith, nat_tests) in ap (λ d. cond {A = ℕ} d 1 0) same

    by_case : (c : Bool) → length (due_at a.tick (placed a copies)) ≡ length (due_at a.tick copies) + 1
        → length (due_at a.tick (cond c (b ∷ placed a copies) (a ∷ b ∷ copies))) ≡ length (due_at a.tick (b ∷ copies)) + 1
    by_case true later = omega (arith, due_at-cons b (placed a copies), due_at-cons b copies, later)
    by_case false later = omega (arith, due_at-cons a (b ∷ copies), here)
