-- The keys of a meter file that is spelled are gathered, and none is missing.
use Rattle.std.proofs.Common.{◌≡◌, ◌∙◌, ◌<◌, ◌≤◌, ◌+◌, ◌==◌, nat_lt, ℕ, zero, suc, Bool, true, false, List, [], ◌∷◌, ◌++◌, length, map, get_or, set, replicate, Option, Some, None, Result, Ok, refl, sym, ap, arith, if◌then◌else◌, append_assoc, length-append}
use Rattle.std.proofs.lemmas.Bool.Decides.{nat_tests}
use Rattle.std.specs.List.{find, flat_map, range_with_len}
use Rattle.group_plan.specs.declared.plan.members.Span.{Span}
use Rattle.plan_files.specs.declared.fault.FileFault.{FileFault}
use Rattle.meter_files.specs.PartFiles.{Gathered, OwnerView, gather, spans_of, take_entry}
use Rattle.meter_files.specs.declared.part_row.PartEntry.{PartEntry}
use Rattle.meter_files.specs.declared.part_row.PartEntry.TheVariants.{Own, Pair, Member}
use Rattle.meter_files.proofs.PartRowsRead.{one_unless}

-- these entries add up to this, wherever the row of the first of them is
abbrev pub Gives : OwnerView → Gathered → List PartEntry → Result Gathered FileFault → Type 0
Gives owner before entries value = (n : ℕ) → gather owner None n before entries ≡ value

pub own_gives : (owner : OwnerView) (pairs : List (Option (List ℕ))) (key : List ℕ) (entries : List PartEntry) (value : Result Gathered FileFault)
    → Gives owner (record { own = Some key; pairs = pairs; members = 0 }) entries value → Gives owner (record { own = None; pairs = pairs; members = 0 }) (Own key ∷ entries) value
unfolding gather take_entry
own_gives owner pairs key entries value more n = more (n + 1)

pub members_give : (owner : OwnerView) (before : Gathered) (spans : List Span) → (count : ℕ) × Gives owner before (map Member spans) (Ok (record before { members = count }))
unfolding gather take_entry
members_give owner before [] = (before.members, λ n. refl)
members_give owner before (s ∷ ss) = let more = members_give owner (record before { members = before.members + 1 }) ss in (more.0, λ n. more.1 (n + 1))

-- ---- pairs

there : (front rest : List (Option (List ℕ))) (x : Option (List ℕ)) (a : ℕ) → length front ≡ a → get_or (front ++ x ∷ rest) a None ≡ x
there [] rest x zero e = refl
there [] rest x (suc a) e = absurd (omega (arith, e))
there (y ∷ ys) rest x zero e = absurd (omega (arith, e))
there (y ∷ ys) rest x (suc a) e = there ys rest x a (omega (arith, e))

set_there : (front rest : List (Option (List ℕ))) (x y : Option (List ℕ)) (a : ℕ) → length front ≡ a → set (front ++ x ∷ rest) a y ≡ front ++ y ∷ rest
set_there [] rest x y zero e = refl
set_there [] rest x y (suc a) e = absurd (omega (arith, e))
set_there (z ∷ zs) rest x y zero e = absurd (omega (arith, e))
set_there (z ∷ zs) rest x y (suc a) e = ap (λ l. z ∷ l) (set_there zs rest x y a (omega (arith, e)))

-- what is kept of the pair with meter j
abbrev pub kept_pair : (ℕ → Bool) → (ℕ → List ℕ) → ℕ → Option (List ℕ)
kept_pair test key j = if test j then None else Some (key j)

abbrev pub pair_entry : (ℕ → List ℕ) → ℕ → PartEntry
pair_entry key j = Pair j (key j)

-- one pair more
pair_gives : (owner : OwnerView) (own : Option (List ℕ)) (members a : ℕ) (key : List ℕ) (front rest : List (Option (List ℕ))) (entries : List PartEntry) (value : Result Gathered FileFault)
    → length front ≡ a → (a == owner.meter) ≡ false → a < owner.meters
    → Gives owner (record { own = own; pairs = front ++ Some key ∷ rest; members = members }) entries value
    → Gives owner (record { own = own; pairs = front ++ None ∷ rest; members = members }) (Pair a key ∷ entries) value
unfolding gather take_entry
pair_gives owner own members a key front rest entries value long other within more n =
    let inside : nat_lt a owner.meters ≡ true = grind (arith, nat_tests, within) in
    rw (other, inside, there front rest None a long, set_there front rest None (Some key) a long) (more (n + 1))

pub pairs_give : (owner : OwnerView) (own : Option (List ℕ)) (members : ℕ) (key : ℕ → List ℕ) (more : List PartEntry) (value : Result Gathered FileFault) (front : List (Option (List ℕ))) (a k : ℕ)
    → length front ≡ a → a + k ≤ owner.meters
    → Gives owner (record { own = own; pairs = front ++ map (kept_pair (λ j. j == owner.meter) key) (range_with_len a k); members = members }) more value
    → Gives owner (record { own = own; pairs = front ++ replicate k None; members = members }) (flat_map (one_unless (λ j. j == owner.meter) (pair_entry key)) (range_with_len a k) ++ more) value
pairs_give owner own members key more value front a zero long within rest = rest
pairs_give owner own members key more value front a (suc k) long within rest =
    by_test (a == owner.meter) refl
    (λ x here. pairs_give owner own members key more value (front ++ x ∷ []) (a + 1) k (let e = length-append front (x ∷ []) in omega (arith, e, long)) (omega (arith, within)) here) rest
  where
    others : List (Option (List ℕ))
    others = map (kept_pair (λ j. j == owner.meter) key) (range_with_len (a + 1) k)

    behind : List PartEntry
    behind = flat_map (one_unless (λ j. j == owner.meter) (pair_entry key)) (range_with_len (a + 1) k) ++ more

    Step : Option (List ℕ) → Type 0
    Step x = Gives owner (record { own = own; pairs = (front ++ x ∷ []) ++ others; members = members }) more value
        → Gives owner (record { own = own; pairs = (front ++ x ∷ []) ++ replicate k None; members = members }) behind value

    step : (x : Option (List ℕ)) → Step x → Gives owner (record { own = own; pairs = front ++ x ∷ others; members = members }) more value
        → Gives owner (record { own = own; pairs = front ++ x ∷ replicate k None; members = members }) behind value
    step x next here n =
        ap (λ (ps : List (Option (List ℕ))). gather owner None n (record { own = own; pairs = ps; members = members }) behind) (sym (append_assoc front (x ∷ []) (replicate k None)))
        ∙ next (λ m. ap (λ (ps : List (Option (List ℕ))). gather owner None m (record { own = own; pairs = ps; members = members }) more) (append_assoc front (x ∷ []) others) ∙ here m) n

    by_test : (t : Bool) → (a == owner.meter) ≡ t → ((x : Option (List ℕ)) → Step x)
        → Gives owner (record { own = own; pairs = front ++ (if t then None else Some (key a)) ∷ others; members = members }) more value
        → Gives owner (record { own = own; pairs = front ++ None ∷ replicate k None; members = members })
        (((if t then [] else pair_entry key a ∷ []) ++ flat_map (one_unless (λ j. j == owner.meter) (pair_entry key)) (range_with_len (a + 1) k)) ++ more) value
    by_test true is next here = step None (next None) here
    by_test false is next here = pair_gives owner own members a (key a) front (replicate k None) behind value long is (omega (arith, within)) (step (Some (key a)) (next (Some (key a))) here)

-- ---- spans

pub spans_behind : (test : ℕ → Bool) (key : ℕ → List ℕ) (more : List PartEntry) (a k : ℕ) → spans_of (flat_map (one_unless test (pair_entry key)) (range_with_len a k) ++ more) ≡ spans_of more
spans_behind test key more a zero = refl
spans_behind test key more a (suc k) = by_test (test a) (spans_behind test key more (a + 1) k)
  where
    by_test : (t : Bool) → spans_of (flat_map (one_unless test (pair_entry key)) (range_with_len (a + 1) k) ++ more) ≡ spans_of more
        → spans_of (((if t then [] else pair_entry key a ∷ []) ++ flat_map (one_unless test (pair_entry key)) (range_with_len (a + 1) k)) ++ more) ≡ spans_of more
    by_test true ih = ih
    by_test false ih = ih

pub spans_back : (spans : List Span) → spans_of (map Member spans) ≡ spans
spans_back [] = refl
spans_back (s ∷ ss) = ap (λ (more : List Span). s ∷ more) (spans_back ss)

-- ---- none is missing

pub find_none : (p : ℕ → Bool) (a k : ℕ) → ((j : ℕ) → j < a + k → p j ≡ false) → find p (range_with_len a k) ≡ None
find_none p a zero none = refl
find_none p a (suc k) none = rw (none a (omega arith)) (find_none p (a + 1) k (λ j lt. none j (omega (arith, lt))))
