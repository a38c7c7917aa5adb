-- A link over many calls.
use Rattle.std.proofs.Common.{◌≡◌, ◌∙◌, sym, ap, subst, refl, ℕ, ◌+◌, ◌<◌, ◌≤◌, ◌==◌, nat_le, Bool, true, false, cond, not, List, [], ◌∷◌, ◌++◌, map, length, length-append, append_assoc, append-nil, arith}
use Rattle.std.specs.List.{filter}
use Rattle.std.proofs.lemmas.Bool.Decides.{nat_tests}
use Rattle.lossy_link.specs.Arrivals.{Arrival, arrival, placed, posted, due_at, due_elsewhere}
use Rattle.lossy_link.specs.Histories.{Step, Posted, Taken, copies_after, left_after, KeepsEachCopy}
use Rattle.lossy_link.proofs.ArrivalLemmas.{AllAfter, is_due, due_at-append, due_at-after, length-placed, length-due}

-- ---- copies whose ticks don't fall

NoneBefore : ℕ → List Arrival → Type 0
NoneBefore tick [] = Unit {0}
NoneBefore tick (a ∷ copies) = (tick ≤ a.tick) × NoneBefore tick copies

Rises : List Arrival → Type 0
Rises [] = Unit {0}
Rises (a ∷ copies) = NoneBefore a.tick copies × Rises copies

none_before-placed : (tick : ℕ) (a : Arrival) (copies : List Arrival) → tick ≤ a.tick → NoneBefore tick copies → NoneBefore tick (placed a copies)
unfolding NoneBefore
none_before-placed tick a [] le h = (le, tt)
none_before-placed tick a (b ∷ copies) le h =
    let rest : NoneBefore tick (placed a copies) = none_before-placed tick a copies le h.1 in
    elim (nat_le b.tick a.tick) as (λ c. NoneBefore tick (cond c (b ∷ placed a copies) (a ∷ b ∷ copies))) [ true ↦ (h.0, rest) | false ↦ (le, h) ]

none_before-less : (early late : ℕ) (copies : List Arrival) → early ≤ late → NoneBefore late copies → NoneBefore early copies
unfolding NoneBefore
none_before-less early late [] le h = tt
none_before-less early late (a ∷ copies) le h = (let from : late ≤ a.tick = h.0 in omega arith, none_before-less early late copies le h.1)

after-none_before : (early late : ℕ) (copies : List Arrival) → early < late → NoneBefore late copies → AllAfter early copies
unfolding NoneBefore
after-none_before early late [] lt h = tt
after-none_before early late (a ∷ copies) lt h = (let from : late ≤ a.tick = h.0 in omega arith, after-none_before early late copies lt h.1)

rises-placed : (a : Arrival) (copies : List Arrival) → Rises copies → Rises (placed a copies)
unfolding Rises NoneBefore
rises-placed a [] h = (tt, tt)
rises-placed a (b ∷ copies) h = by_case (nat_le b.tick a.tick) refl (rises-placed a copies h.1)
  where
    by_case : (c : Bool) → nat_le b.tick a.tick ≡ c → Rises (placed a copies) → Rises (cond c (b ∷ placed a copies) (a ∷ b ∷ copies))
    by_case true is rest = (none_before-placed b.tick a copies (grind (arith, nat_tests)) h.0, rest)
    by_case false is rest =
        let lt : a.tick < b.tick = grind (arith, nat_tests) in
        ((omega arith, none_before-less a.tick b.tick copies (omega arith) h.0), h)

none_before-filter : (tick : ℕ) (p : Arrival → Bool) (copies : List Arrival) → NoneBefore tick copies → NoneBefore tick (filter p copies)
unfolding NoneBefore
none_before-filter tick p [] h = tt
none_before-filter tick p (a ∷ copies) h =
    let rest : NoneBefore tick (filter p copies) = none_before-filter tick p copies h.1 in
    elim (p a) as (λ c. NoneBefore tick (cond c (a ∷ filter p copies) (filter p copies))) [ true ↦ (h.0, rest) | false ↦ rest ]

rises-filter : (p : Arrival → Bool) (copies : List Arrival) → Rises copies → Rises (filter p copies)
unfolding Rises
rises-filter p [] h = tt
rises-filter p (a ∷ copies) h =
    let rest : Rises (filter p copies) = rises-filter p copies h.1 in
    elim (p a) as (λ c. Rises (cond c (a ∷ filter p copies) (filter p copies))) [ true ↦ (none_before-filter a.tick p copies h.0, rest) | false ↦ rest ]

-- a placed copy comes out behind those of its tick
due_at-placed : (tick : ℕ) (a : Arrival) (copies : List Arrival) → Rises copies → due_at tick (placed a copies) ≡ due_at tick copies ++ due_at tick (a ∷ [])
unfolding Rises NoneBefore
due_at-placed tick a [] h = refl
due_at-placed tick a (b ∷ copies) h = by_case (nat_le b.tick a.tick) refl (due_at-placed tick a copies h.1)
  where
    ahead : a.tick < b.tick → (c : Bool) → (a.tick == tick) ≡ c → due_at tick (a ∷ []) ++ due_at tick (b ∷ copies) ≡ due_at tick (b ∷ copies) ++ due_at tick (a ∷ [])
    ahead lt true is =
        let same : a.tick ≡ tick = grind (arith, nat_tests) in
        let none : due_at tick (b ∷ copies) ≡ [] = due_at-after tick (b ∷ copies) (omega arith, after-none_before tick b.tick copies (omega arith) h.0) in
        ap (λ l. due_at tick (a ∷ []) ++ l) none ∙ append-nil (due_at tick (a ∷ [])) ∙ ap (λ l. l ++ due_at tick (a ∷ [])) (sym none)
    ahead lt false is =
        let none : due_at tick (a ∷ []) ≡ [] = ap (λ c. map (λ (z : Arrival). z.bytes) (cond c (a ∷ []) [])) is in
        ap (λ l. l ++ due_at tick (b ∷ copies)) none ∙ sym (append-nil (due_at tick (b ∷ copies))) ∙ ap (λ l. due_at tick (b ∷ copies) ++ l) (sym none)

    by_case : (c : Bool) → nat_le b.tick a.tick ≡ c → due_at tick (placed a copies) ≡ due_at tick copies ++ due_at tick (a ∷ []) → due_at tick (cond c (b ∷ placed a copies) (a ∷ b ∷ copies)) ≡ due_at tick (b ∷ copies) ++ due_at tick (a ∷ [])
    by_case true is rest =
        due_at-append tick (b ∷ []) (placed a copies) ∙ ap (λ l. due_at tick (b ∷ []) ++ l) rest
        ∙ sym (append_assoc (due_at tick (b ∷ [])) (due_at tick copies) (due_at tick (a ∷ [])))
        ∙ ap (λ l. l ++ due_at tick (a ∷ [])) (sym (due_at-append tick (b ∷ []) copies))
    by_case false is rest = due_at-append tick (a ∷ []) (b ∷ copies) ∙ ahead (grind (arith, nat_tests)) (a.tick == tick) refl

-- ---- taking copies out

gone : (tick : ℕ) (copies : List Arrival) → due_at tick (due_elsewhere tick copies) ≡ []
gone tick [] = refl
gone tick (a ∷ copies) = by_case (a.tick == tick) refl (gone tick copies)
  where
    by_case : (c : Bool) → (a.tick == tick) ≡ c → due_at tick (due_elsewhere tick copies) ≡ [] → due_at tick (due_elsewhere tick (a ∷ copies)) ≡ []
    by_case true is rest = ap (λ c. due_at tick (cond (not c) (a ∷ due_elsewhere tick copies) (due_elsewhere tick copies))) is ∙ rest
    by_case false is rest =
        ap (λ c. due_at tick (cond (not c) (a ∷ due_elsewhere tick copies) (due_elsewhere tick copies))) is
        ∙ ap (λ c. map (λ (z : Arrival). z.bytes) (cond c (a ∷ filter (is_due tick) (due_elsewhere tick copies)) (filter (is_due tick) (due_elsewhere tick copies)))) is ∙ rest

kept : (tick other : ℕ) (copies : List Arrival) → (tick == other) ≡ false → due_at tick (due_elsewhere other copies) ≡ due_at tick copies
kept tick other [] ne = refl
kept tick other (a ∷ copies) ne = by_case (a.tick == other) refl (kept tick other copies ne)
  where
    by_case : (c : Bool) → (a.tick == other) ≡ c → due_at tick (due_elsewhere other copies) ≡ due_at tick copies → due_at tick (due_elsewhere other (a ∷ copies)) ≡ due_at tick (a ∷ copies)
    by_case true is rest =
        let apart : (a.tick == tick) ≡ false = grind (arith, nat_tests) in
        ap (λ c. due_at tick (cond (not c) (a ∷ due_elsewhere other copies) (due_elsewhere other copies))) is ∙ rest
        ∙ sym (ap (λ c. map (λ (z : Arrival). z.bytes) (cond c (a ∷ filter (is_due tick) copies) (filter (is_due tick) copies))) apart)
    by_case false is rest =
        ap (λ c. due_at tick (cond (not c) (a ∷ due_elsewhere other copies) (due_elsewhere other copies))) is
        ∙ due_at-append tick (a ∷ []) (due_elsewhere other copies) ∙ ap (λ l. due_at tick (a ∷ []) ++ l) rest ∙ sym (due_at-append tick (a ∷ []) copies)

-- ---- the same copies, by their ticks and in the order of posts

record Alike (copies left : List Arrival) : Type 0 where
  rises : Rises copies
  due : (tick : ℕ) → due_at tick copies ≡ due_at tick left
  many : length copies ≡ length left

alike-placed : (a : Arrival) (copies left : List Arrival) → Alike copies left → Alike (placed a copies) (left ++ a ∷ [])
alike-placed a copies left h = record {
  rises = rises-placed a copies h.rises;
  due = λ tick. due_at-placed tick a copies h.rises ∙ ap (λ l. l ++ due_at tick (a ∷ [])) (h.due tick) ∙ sym (due_at-append tick left (a ∷ []));
  many = omega (arith, length-placed a copies, h.many, length-append left (a ∷ []));
}

alike-posted : (tick : ℕ) (bytes : List ℕ) (fate : List ℕ) (copies left : List Arrival) → Alike copies left → Alike (posted tick bytes fate copies) (left ++ map (λ delay. arrival (tick + delay) bytes) fate)
alike-posted tick bytes [] copies left h = subst (λ l. Alike copies l) (sym (append-nil left)) h
alike-posted tick bytes (d ∷ fate) copies left h =
    subst (λ l. Alike (posted tick bytes (d ∷ fate) copies) l) (append_assoc left (arrival (tick + d) bytes ∷ []) (map (λ delay. arrival (tick + delay) bytes) fate))
    (alike-posted tick bytes fate (placed (arrival (tick + d) bytes) copies) (left ++ arrival (tick + d) bytes ∷ []) (alike-placed (arrival (tick + d) bytes) copies left h))

alike-taken : (tick : ℕ) (copies left : List Arrival) → Alike copies left → Alike (due_elsewhere tick copies) (due_elsewhere tick left)
alike-taken tick copies left h = record {
  rises = rises-filter (λ a. not (a.tick == tick)) copies h.rises;
  due = λ t. by_case t (t == tick) refl;
  many = omega (arith, length-due tick copies, length-due tick left, ap length (h.due tick), h.many);
}
  where
    by_case : (t : ℕ) (c : Bool) → (t == tick) ≡ c → due_at t (due_elsewhere tick copies) ≡ due_at t (due_elsewhere tick left)
    by_case t true is =
        let same : t ≡ tick = grind (arith, nat_tests) in
        ap (λ u. due_at u (due_elsewhere tick copies)) same ∙ gone tick copies ∙ sym (ap (λ u. due_at u (due_elsewhere tick left)) same ∙ gone tick left)
    by_case t false is = kept t tick copies is ∙ h.due t ∙ sym (kept t tick left is)

alike-after : (steps : List Step) (copies left : List Arrival) → Alike copies left → Alike (copies_after copies steps) (left_after left steps)
alike-after [] copies left h = h
alike-after (Posted tick bytes fate ∷ steps) copies left h =
    alike-after steps (posted tick bytes fate copies) (left ++ map (λ delay. arrival (tick + delay) bytes) fate) (alike-posted tick bytes fate copies left h)
alike-after (Taken tick ∷ steps) copies left h = alike-after steps (due_elsewhere tick copies) (due_elsewhere tick left) (alike-taken tick copies left h)

pub each_copy_once : (steps : List Step) → KeepsEachCopy steps
unfolding Rises
each_copy_once steps =
    let h : Alike (copies_after [] steps) (left_after [] steps) = alike-after steps [] [] (record { rises = tt; due = λ tick. refl; many = refl }) in
    record { due = h.due; left = h.many }
