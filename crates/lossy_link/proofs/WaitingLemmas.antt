-- The copies that a map from ticks to bytes keeps.
use Rattle.std.proofs.Common.{◌≡◌, ◌∙◌, sym, ap, refl, ℕ, ◌+◌, ◌<◌, ◌≤◌, ◌==◌, nat_lt, Bool, true, false, cond, List, [], ◌∷◌, ◌++◌, map, length, append_assoc, append-nil, arith, Vec, vec_len, Option, Some, None, MatchOption}
use Rattle.std.specs.Option.{option_to_list}
use Rattle.std.proofs.lemmas.Map.Steps.{set_value_same}
use Rattle.std.specs.declared.alloc.Global.{Global}
use Rattle.std.specs.declared.cmp.Ordering.{Ordering}
use Rattle.std.specs.declared.cmp.Ordering.TheVariants.{Less, Equal, Greater}
use Rattle.std.specs.BTreeMap.{insert_entry, is_at}
use Rattle.std.specs.List.{AllByRecursion}
use Rattle.std.specs.List.Sorted.{IsStrictlySortedBy}
use Rattle.std.specs.Map.{keys_of, lookup, set_value, remove_entry}
use Rattle.std.specs.Ordering.{nat_cmp, is_eq, match_ordering}
use Rattle.std.proofs.lemmas.Bool.Decides.{nat_tests}
use Rattle.std.proofs.lemmas.List.{map-append}
use Rattle.lossy_link.specs.Arrivals.{Arrival, arrival, placed, due_at, due_elsewhere}
use Rattle.lossy_link.specs.Waiting.{copies_of}
use Rattle.lossy_link.proofs.ArrivalLemmas.{AllAfter, placed_same, length-due_at-placed, due_at-append, due_at-here, due_at-other, due_at-after, due_elsewhere-append, due_elsewhere-here, due_elsewhere-other, due_elsewhere-after, after-append, after-arrivals, until-arrivals, placed-front, placed-behind}

abbrev pub Entries : Type 0
Entries = List (ℕ × Vec (List ℕ) Global)

-- ---- how a tick compares

data Compared (k x : ℕ) : Type 0 where
  before : k < x → nat_cmp k x ≡ Less → Compared k x
  same : k ≡ x → nat_cmp k x ≡ Equal → Compared k x
  after : x < k → nat_cmp k x ≡ Greater → Compared k x

compared : (k x : ℕ) → Compared k x
compared k x = by_case (nat_lt k x) refl (k == x) refl
  where
    by_case : (l : Bool) → nat_lt k x ≡ l → (e : Bool) → (k == x) ≡ e → Compared k x
    by_case true is_l e is_e = before (grind (arith, nat_tests)) (ap (λ b. cond b Less (cond (k == x) Equal Greater)) is_l)
    by_case false is_l true is_e =
        same (grind (arith, nat_tests)) (ap (λ b. cond b Less (cond (k == x) Equal Greater)) is_l ∙ ap (λ b. cond b Equal Greater) is_e)
    by_case false is_l false is_e =
        after (grind (arith, nat_tests)) (ap (λ b. cond b Less (cond (k == x) Equal Greater)) is_l ∙ ap (λ b. cond b Equal Greater) is_e)

-- ---- ticks that ascend

-- each tick of the map is later
abbrev Above : ℕ → Entries → Type 0
Above k [] = Unit {0}
Above k (e ∷ es) = (k < e.0) × Above k es

abbrev pub Ascends : Entries → Type 0
Ascends [] = Unit {0}
Ascends (e ∷ es) = Above e.0 es × Ascends es

above_from : (k : ℕ) (es : Entries) → AllByRecursion (λ y. nat_cmp k y ≡ Less) (keys_of es) → Above k es
above_from k [] h = tt
above_from k (e ∷ es) h = (later (compared k e.0), above_from k es h.1)
  where
    later : Compared k e.0 → k < e.0
    later (before lt is) = lt
    later (same e' is) = absurd (let less = h.0 in cc)
    later (after lt is) = absurd (let less = h.0 in cc)

pub ascends_from : (es : Entries) → IsStrictlySortedBy nat_cmp (keys_of es) → Ascends es
unfolding IsStrictlySortedBy
ascends_from [] h = tt
ascends_from (e ∷ es) h = (above_from e.0 es h.0, ascends_from es h.1)

above-less : (k j : ℕ) (es : Entries) → k ≤ j → Above j es → Above k es
above-less k j [] le h = tt
above-less k j (e ∷ es) le h = (let lt : j < e.0 = h.0 in omega arith, above-less k j es le h.1)

copies-above : (k : ℕ) (es : Entries) → Above k es → AllAfter k (copies_of es)
copies-above k [] h = tt
copies-above k (e ∷ es) h = after-append k (map (arrival e.0) e.1.items) (copies_of es) (after-arrivals k e.0 e.1.items h.0) (copies-above k es h.1)

-- ---- the bucket of a tick

abbrev pub copies_at : Option (Vec (List ℕ) Global) → List (List ℕ)
copies_at None = []
copies_at (Some several) = several.items

lookup-before : (k : ℕ) (e : ℕ × Vec (List ℕ) Global) (es : Entries) → nat_cmp k e.0 ≡ Less → lookup (is_at (nat_cmp k)) (e ∷ es) ≡ lookup (is_at (nat_cmp k)) es
lookup-before k e es is = ap (λ o. cond (is_eq o) (Some e.1) (lookup (is_at (nat_cmp k)) es)) is

lookup-same : (k : ℕ) (e : ℕ × Vec (List ℕ) Global) (es : Entries) → nat_cmp k e.0 ≡ Equal → lookup (is_at (nat_cmp k)) (e ∷ es) ≡ Some e.1
lookup-same k e es is = ap (λ o. cond (is_eq o) (Some e.1) (lookup (is_at (nat_cmp k)) es)) is

lookup-after : (k : ℕ) (e : ℕ × Vec (List ℕ) Global) (es : Entries) → nat_cmp k e.0 ≡ Greater → lookup (is_at (nat_cmp k)) (e ∷ es) ≡ lookup (is_at (nat_cmp k)) es
lookup-after k e es is = ap (λ o. cond (is_eq o) (Some e.1) (lookup (is_at (nat_cmp k)) es)) is

lookup-none : (k : ℕ) (es : Entries) → Above k es → lookup (is_at (nat_cmp k)) es ≡ None
lookup-none k [] h = refl
lookup-none k (e ∷ es) h = by_case (compared k e.0) (lookup-none k es h.1)
  where
    by_case : Compared k e.0 → lookup (is_at (nat_cmp k)) es ≡ None → lookup (is_at (nat_cmp k)) (e ∷ es) ≡ None
    by_case (before lt is) rest = lookup-before k e es is ∙ rest
    by_case (same e' is) rest = absurd (let lt : k < e.0 = h.0 in omega arith)
    by_case (after gt is) rest = absurd (let lt : k < e.0 = h.0 in omega arith)

-- what stands behind a tick are its copies
pub due_at-copies : (k : ℕ) (es : Entries) → Ascends es → copies_at (lookup (is_at (nat_cmp k)) es) ≡ due_at k (copies_of es)
due_at-copies k [] h = refl
due_at-copies k (e ∷ es) h = by_case (compared k e.0) (due_at-copies k es h.1)
  where
    by_case : Compared k e.0 → copies_at (lookup (is_at (nat_cmp k)) es) ≡ due_at k (copies_of es) → copies_at (lookup (is_at (nat_cmp k)) (e ∷ es)) ≡ due_at k (map (arrival e.0) e.1.items ++ copies_of es)
    by_case (before lt is) rest =
        ap copies_at (lookup-before k e es is) ∙ rest
        ∙ sym (due_at-append k (map (arrival e.0) e.1.items) (copies_of es) ∙ ap (λ l. l ++ due_at k (copies_of es)) (due_at-other k e.0 e.1.items (λ e'. omega arith)))
    by_case (same e' is) rest =
        let none : due_at k (copies_of es) ≡ [] = due_at-after k (copies_of es) (copies-above k es (above-less k e.0 es (omega arith) h.0)) in
        ap copies_at (lookup-same k e es is)
        ∙ sym (due_at-append k (map (arrival e.0) e.1.items) (copies_of es) ∙ ap (λ l. due_at k (map (arrival e.0) e.1.items) ++ l) none
        ∙ append-nil (due_at k (map (arrival e.0) e.1.items)) ∙ ap (λ t. due_at k (map (arrival t) e.1.items)) (sym e') ∙ due_at-here k e.1.items)
    by_case (after lt is) rest =
        ap copies_at (lookup-after k e es is) ∙ rest
        ∙ sym (due_at-append k (map (arrival e.0) e.1.items) (copies_of es) ∙ ap (λ l. l ++ due_at k (copies_of es)) (due_at-other k e.0 e.1.items (λ e'. omega arith)))

-- without a tick's copies, those due elsewhere are left
pub due_elsewhere-copies : (k : ℕ) (es : Entries) → Ascends es → copies_of (remove_entry (is_at (nat_cmp k)) es) ≡ due_elsewhere k (copies_of es)
due_elsewhere-copies k [] h = refl
due_elsewhere-copies k (e ∷ es) h = by_case (compared k e.0) (due_elsewhere-copies k es h.1)
  where
    other : ¬ (e.0 ≡ k) → is_eq (nat_cmp k e.0) ≡ false → copies_of (remove_entry (is_at (nat_cmp k)) es) ≡ due_elsewhere k (copies_of es) → copies_of (remove_entry (is_at (nat_cmp k)) (e ∷ es)) ≡ due_elsewhere k (map (arrival e.0) e.1.items ++ copies_of es)
    other ne is rest =
        ap (λ b. copies_of (cond b es (e ∷ remove_entry (is_at (nat_cmp k)) es))) is
        ∙ ap (λ l. map (arrival e.0) e.1.items ++ l) rest
        ∙ sym (due_elsewhere-append k (map (arrival e.0) e.1.items) (copies_of es) ∙ ap (λ l. l ++ due_elsewhere k (copies_of es)) (due_elsewhere-other k e.0 e.1.items ne))

    by_case : Compared k e.0 → copies_of (remove_entry (is_at (nat_cmp k)) es) ≡ due_elsewhere k (copies_of es) → copies_of (remove_entry (is_at (nat_cmp k)) (e ∷ es)) ≡ due_elsewhere k (map (arrival e.0) e.1.items ++ copies_of es)
    by_case (before lt is) rest = other (λ e'. omega arith) (ap is_eq is) rest
    by_case (same e' is) rest =
        let whole : due_elsewhere k (copies_of es) ≡ copies_of es = due_elsewhere-after k (copies_of es) (copies-above k es (above-less k e.0 es (omega arith) h.0)) in
        ap (λ b. copies_of (cond b es (e ∷ remove_entry (is_at (nat_cmp k)) es))) (ap is_eq is)
        ∙ sym (due_elsewhere-append k (map (arrival e.0) e.1.items) (copies_of es) ∙ ap (λ l. l ++ due_elsewhere k (copies_of es)) (ap (λ t. due_elsewhere k (map (arrival t) e.1.items)) (sym e') ∙ due_elsewhere-here k e.1.items) ∙ whole)
    by_case (after lt is) rest = other (λ e'. omega arith) (ap is_eq is) rest

-- ---- one copy more, and one less

arrivals-push : (t : ℕ) (several : List (List ℕ)) (bytes : List ℕ) → map (arrival t) (several ++ bytes ∷ []) ≡ map (arrival t) several ++ arrival t bytes ∷ []
arrivals-push t several bytes = map-append (arrival t) several (bytes ∷ [])

-- the same copies behind a tick change nothing
pub set-same : (k : ℕ) (es : Entries) (v w : Vec (List ℕ) Global) → lookup (is_at (nat_cmp k)) es ≡ Some v → w.items ≡ v.items → copies_of (set_value (is_at (nat_cmp k)) es w) ≡ copies_of es
set-same k [] v w found alike = refl
set-same k (e ∷ es) v w found alike = by_case (is_at (nat_cmp k) e.0) refl found (λ f. set-same k es v w f alike)
  where
    by_case : (b : Bool) → is_at (nat_cmp k) e.0 ≡ b → cond b (Some e.1) (lookup (is_at (nat_cmp k)) es) ≡ Some v → (lookup (is_at (nat_cmp k)) es ≡ Some v → copies_of (set_value (is_at (nat_cmp k)) es w) ≡ copies_of es)
        → copies_of (set_value (is_at (nat_cmp k)) (e ∷ es) w) ≡ copies_of (e ∷ es)
    by_case true is f rest =
        let here : e.1 ≡ v = cc in
        ap (λ b. copies_of (cond b ((e.0, w) ∷ es) (e ∷ set_value (is_at (nat_cmp k)) es w))) is
        ∙ ap (λ l. map (arrival e.0) l ++ copies_of es) (alike ∙ ap (λ v. v.items) (sym here))
    by_case false is f rest =
        ap (λ b. copies_of (cond b ((e.0, w) ∷ es) (e ∷ set_value (is_at (nat_cmp k)) es w))) is ∙ ap (λ l. map (arrival e.0) e.1.items ++ l) (rest f)

-- of two lists behind a tick, one with a copy more
pub set-more : (k : ℕ) (es : Entries) (v u w : Vec (List ℕ) Global) (bytes : List ℕ) → Ascends es → lookup (is_at (nat_cmp k)) es ≡ Some v → w.items ≡ u.items ++ bytes ∷ []
    → copies_of (set_value (is_at (nat_cmp k)) es w) ≡ placed (arrival k bytes) (copies_of (set_value (is_at (nat_cmp k)) es u))
set-more k [] v u w bytes h found more = absurd cc
set-more k (e ∷ es) v u w bytes h found more = by_case (compared k e.0) (set-more k es v u w bytes h.1)
  where
    set_at : (x : Vec (List ℕ) Global) (b : Bool) → is_at (nat_cmp k) e.0 ≡ b → copies_of (set_value (is_at (nat_cmp k)) (e ∷ es) x) ≡ copies_of (cond b ((e.0, x) ∷ es) (e ∷ set_value (is_at (nat_cmp k)) es x))
    set_at x b is = ap (λ b. copies_of (cond b ((e.0, x) ∷ es) (e ∷ set_value (is_at (nat_cmp k)) es x))) is

    by_case : Compared k e.0
        → (lookup (is_at (nat_cmp k)) es ≡ Some v → w.items ≡ u.items ++ bytes ∷ [] → copies_of (set_value (is_at (nat_cmp k)) es w) ≡ placed (arrival k bytes) (copies_of (set_value (is_at (nat_cmp k)) es u)))
        → copies_of (set_value (is_at (nat_cmp k)) (e ∷ es) w) ≡ placed (arrival k bytes) (copies_of (set_value (is_at (nat_cmp k)) (e ∷ es) u))
    by_case (before lt is) rest =
        absurd (let none = lookup-none k es (above-less k e.0 es (omega arith) h.0) in let f = lookup-before k e es is in cc)
    by_case (same e' is) rest =
        let later : AllAfter k (copies_of es) = copies-above k es (above-less k e.0 es (omega arith) h.0) in
        set_at w true (ap is_eq is)
        ∙ ap (λ l. map (arrival e.0) l ++ copies_of es) more
        ∙ ap (λ l. l ++ copies_of es) (arrivals-push e.0 u.items bytes)
        ∙ append_assoc (map (arrival e.0) u.items) (arrival e.0 bytes ∷ []) (copies_of es)
        ∙ ap (λ t. map (arrival e.0) u.items ++ arrival t bytes ∷ copies_of es) (sym e')
        ∙ ap (λ l. map (arrival e.0) u.items ++ l) (sym (placed-front (arrival k bytes) (copies_of es) later))
        ∙ sym (placed-behind (arrival k bytes) (map (arrival e.0) u.items) (copies_of es) (until-arrivals k e.0 u.items (omega arith)))
        ∙ sym (ap (placed (arrival k bytes)) (set_at u true (ap is_eq is)))
    by_case (after lt is) rest =
        set_at w false (ap is_eq is)
        ∙ ap (λ l. map (arrival e.0) e.1.items ++ l) (rest (sym (lookup-after k e es is) ∙ found) more)
        ∙ sym (placed-behind (arrival k bytes) (map (arrival e.0) e.1.items) (copies_of (set_value (is_at (nat_cmp k)) es u)) (until-arrivals k e.0 e.1.items (omega arith)))
        ∙ sym (ap (placed (arrival k bytes)) (set_at u false (ap is_eq is)))

-- the copy that stands last behind a tick is taken back
pub taken_back : (k : ℕ) (es : Entries) (v w : Vec (List ℕ) Global) (o : Option (List ℕ)) → Ascends es → Some v ≡ lookup (is_at (nat_cmp k)) es → v.items ≡ w.items ++ option_to_list o
    → MatchOption o ((vec_len v ≡ 0) × (vec_len w ≡ 0)) (λ x. vec_len w + 1 ≡ vec_len v)
    → (a : Arrival) (earlier : List Arrival) → a.tick ≡ k → copies_of es ≡ placed a earlier → copies_of (set_value (is_at (nat_cmp k)) es w) ≡ earlier
taken_back k es v w None h found items none a earlier tick e =
    let here : due_at k (copies_of es) ≡ v.items = sym (due_at-copies k es h) ∙ sym (ap copies_at found) in
    let one : length (due_at a.tick (placed a earlier)) ≡ length (due_at a.tick earlier) + 1 = length-due_at-placed a earlier in
    let same : length (due_at a.tick (placed a earlier)) ≡ length v.items = ap (λ l. length (due_at a.tick l)) (sym e) ∙ ap (λ t. length (due_at t (copies_of es))) tick ∙ ap length here in
    absurd (omega (arith, v.ok.0, none.0))
taken_back k es v w (Some bytes) h found items some a earlier tick e =
    let kept : set_value (is_at (nat_cmp k)) es v ≡ es = set_value_same (is_at (nat_cmp k)) es v (sym found) in
    let more : copies_of es ≡ placed (arrival k bytes) (copies_of (set_value (is_at (nat_cmp k)) es w)) = ap copies_of (sym kept) ∙ set-more k es v w v bytes h (sym found) items in
    sym (placed_same a (arrival k bytes) earlier (copies_of (set_value (is_at (nat_cmp k)) es w)) tick (sym e ∙ more))

-- with none behind a tick no copy was placed there
pub none_placed : (k : ℕ) (es : Entries) → Ascends es → None ≡ lookup (is_at (nat_cmp k)) es → (a : Arrival) (earlier : List Arrival) → a.tick ≡ k → copies_of es ≡ placed a earlier → ⊥
none_placed k es h none a earlier tick e =
    let here : due_at k (copies_of es) ≡ [] = sym (due_at-copies k es h) ∙ sym (ap copies_at none) in
    let one : length (due_at a.tick (placed a earlier)) ≡ length (due_at a.tick earlier) + 1 = length-due_at-placed a earlier in
    let same : length (due_at a.tick (placed a earlier)) ≡ 0 = ap (λ l. length (due_at a.tick l)) (sym e) ∙ ap (λ t. length (due_at t (copies_of es))) tick ∙ ap length here in
    omega arith

-- a first copy behind a tick
pub insert-first : (k : ℕ) (es : Entries) (w : Vec (List ℕ) Global) (bytes : List ℕ) → Ascends es → lookup (is_at (nat_cmp k)) es ≡ None → w.items ≡ bytes ∷ []
    → copies_of (insert_entry nat_cmp es k w) ≡ placed (arrival k bytes) (copies_of es)
insert-first k [] w bytes h found one = ap (λ l. map (arrival k) l ++ []) one
insert-first k (e ∷ es) w bytes h found one = by_case (compared k e.0) (insert-first k es w bytes h.1)
  where
    insert_at : (o : Ordering) → nat_cmp k e.0 ≡ o → copies_of (insert_entry nat_cmp (e ∷ es) k w) ≡ copies_of (match_ordering o ((k, w) ∷ e ∷ es) ((e.0, w) ∷ es) (e ∷ insert_entry nat_cmp es k w))
    insert_at o is = ap (λ o. copies_of (match_ordering o ((k, w) ∷ e ∷ es) ((e.0, w) ∷ es) (e ∷ insert_entry nat_cmp es k w))) is

    by_case : Compared k e.0
        → (lookup (is_at (nat_cmp k)) es ≡ None → w.items ≡ bytes ∷ [] → copies_of (insert_entry nat_cmp es k w) ≡ placed (arrival k bytes) (copies_of es))
        → copies_of (insert_entry nat_cmp (e ∷ es) k w) ≡ placed (arrival k bytes) (copies_of (e ∷ es))
    by_case (before lt is) rest =
        insert_at Less is ∙ ap (λ l. map (arrival k) l ++ copies_of (e ∷ es)) one
        ∙ sym (placed-front (arrival k bytes) (copies_of (e ∷ es)) (after-append k (map (arrival e.0) e.1.items) (copies_of es) (after-arrivals k e.0 e.1.items lt) (copies-above k es (above-less k e.0 es (omega arith) h.0))))
    by_case (same e' is) rest = absurd (let f = lookup-same k e es is in cc)
    by_case (after lt is) rest =
        insert_at Greater is
        ∙ ap (λ l. map (arrival e.0) e.1.items ++ l) (rest (sym (lookup-after k e es is) ∙ found) one)
        ∙ sym (placed-behind (arrival k bytes) (map (arrival e.0) e.1.items) (copies_of es) (until-arrivals k e.0 e.1.items (omega arith)))
