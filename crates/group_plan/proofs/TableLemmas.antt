-- Tables over the places of a plan.
use Rattle.std.proofs.Common.{◌≡◌, ◌≢◌, ℕ, zero, suc, ◌^◌, ◌<◌, Bool, true, false, List, [], ◌∷◌, length, map, set, replicate, get_or, refl, sym, ap, ◌∙◌, subst, inl, inr, arith, length-set, get_or-set_same, get_or-set_other}
use Rattle.std.specs.Prelude.{◌==◌, ◌&&◌, Option, Some, None, is_some, IfSome}
use Rattle.std.specs.List.{range_with_len}
use Rattle.std.proofs.lemmas.Bool.{and_parts, cases_lt, cases_Bool, lt-ltb, eqb-true, eq-eqb, false≢true}
use Rattle.std.proofs.lemmas.List.{get_or_default, get_or_past, get_or-replicate, length-replicate, length-map, ext_get_or}
use Rattle.std.proofs.lemmas.List.FromFn.{length-map-range_with_len, get_or-map-range_with_len}
use Rattle.group_plan.specs.Plans.{PlanView, size, is_place, is_member, IsWithinLimits}
use Rattle.group_plan.specs.Places.{place_at, places}
use Rattle.group_plan.specs.Tables.{Table, entry, table_of, IsTable, reading, IsReadingTable, ReadingsView, absent, is_same_place, PutsReading, NotesReading, is_present, IsPresenceTable, PresenceView, presence_of}
use Rattle.group_plan.specs.TableParts.{kept_table, KeepsReadings, KeepsPresence}
use Rattle.group_plan.proofs.MeterNumbers.{group-lt, in_place, place_at-lt, same_place}

-- ---- maps

map-map : {A B C : Type 0} (f : B → C) (g : A → B) (xs : List A) → map f (map g xs) ≡ map (λ x. f (g x)) xs
map-map f g [] = refl
map-map f g (x ∷ xs) = ap (λ ys. f (g x) ∷ ys) (map-map f g xs)

map_same : {A B : Type 0} (f g : A → B) → ((x : A) → f x ≡ g x) → (xs : List A) → map f xs ≡ map g xs
map_same f g same [] = refl
map_same f g same (x ∷ xs) = ap (λ y. y ∷ map f xs) (same x) ∙ ap (λ ys. g x ∷ ys) (map_same f g same xs)

get_or-map : {A B : Type 0} (f : A → B) (xs : List A) (i : ℕ) (d : A) → get_or (map f xs) i (f d) ≡ f (get_or xs i d)
get_or-map f [] i d = refl
get_or-map f (x ∷ xs) zero d = refl
get_or-map f (x ∷ xs) (suc i) d = get_or-map f xs i d

-- ---- the table of a function

pub entry-table_of : {X : Type 0} (plan : PlanView) (f : ℕ → ℕ → ℕ → X) (d : X) (g r i : ℕ) → is_place plan g r i ≡ true → entry d (table_of plan f) g r i ≡ f g r i
unfolding table_of
entry-table_of plan f d g r i is =
    let both = in_place plan g r i is in
    ap (λ rows. get_or (get_or rows r []) i d) (get_or-map-range_with_len (λ g. map (λ r. map (λ i. f g r i) (range_with_len 0 (size plan.groups g))) (range_with_len 0 plan.rounds)) 0 (length plan.groups) g g [] (group-lt plan.groups g i both.1) (omega arith))
    ∙ ap (λ row. get_or row i d) (get_or-map-range_with_len (λ r. map (λ i. f g r i) (range_with_len 0 (size plan.groups g))) 0 plan.rounds r r [] both.0 (omega arith))
    ∙ get_or-map-range_with_len (λ i. f g r i) 0 (size plan.groups g) i i d both.1 (omega arith)

pub is_table-table_of : {X : Type 0} (plan : PlanView) (f : ℕ → ℕ → ℕ → X) → IsTable plan (table_of plan f)
unfolding table_of
is_table-table_of plan f = record {
  groups = length-map-range_with_len (λ g. map (λ r. map (λ i. f g r i) (range_with_len 0 (size plan.groups g))) (range_with_len 0 plan.rounds)) 0 (length plan.groups);
  rounds = λ g lt.
      ap length (get_or-map-range_with_len (λ g. map (λ r. map (λ i. f g r i) (range_with_len 0 (size plan.groups g))) (range_with_len 0 plan.rounds)) 0 (length plan.groups) g g [] lt (omega arith))
      ∙ length-map-range_with_len (λ r. map (λ i. f g r i) (range_with_len 0 (size plan.groups g))) 0 plan.rounds;
  meters = λ g r lt lu.
      ap (λ rows. length (get_or rows r [])) (get_or-map-range_with_len (λ g. map (λ r. map (λ i. f g r i) (range_with_len 0 (size plan.groups g))) (range_with_len 0 plan.rounds)) 0 (length plan.groups) g g [] lt (omega arith))
      ∙ ap length (get_or-map-range_with_len (λ r. map (λ i. f g r i) (range_with_len 0 (size plan.groups g))) 0 plan.rounds r r [] lu (omega arith))
      ∙ length-map-range_with_len (λ i. f g r i) 0 (size plan.groups g);
}

is_in_place : (plan : PlanView) (g r i : ℕ) → r < plan.rounds → i < size plan.groups g → is_place plan g r i ≡ true
is_in_place plan g r i round meter = rw (lt-ltb r plan.rounds round, lt-ltb i (size plan.groups g) meter) refl

past_meter : {X : Type 0} (plan : PlanView) (table : Table X) → IsTable plan table → (d : X) (g r i : ℕ) → g < length plan.groups → r < plan.rounds → is_place plan g r i ≡ false → entry d table g r i ≡ d
past_meter plan table is d g r i known round outside =
    elim (cases_lt i (size plan.groups g)) [
      | inl meter ↦ absurd (false≢true (sym outside ∙ is_in_place plan g r i round meter))
      | inr past ↦ get_or_past (get_or (get_or table g []) r []) i d (omega (arith, past, is.meters g r known round))
    ]

past_round : {X : Type 0} (plan : PlanView) (table : Table X) → IsTable plan table → (d : X) (g r i : ℕ) → g < length plan.groups → is_place plan g r i ≡ false → entry d table g r i ≡ d
past_round plan table is d g r i known outside =
    elim (cases_lt r plan.rounds) [
      | inl round ↦ past_meter plan table is d g r i known round outside
      | inr past ↦ ap (λ row. get_or row i d) (get_or_past (get_or table g []) r [] (omega (arith, past, is.rounds g known)))
    ]

-- a table has nothing outside the plan
pub entry_outside : {X : Type 0} (plan : PlanView) (table : Table X) → IsTable plan table → (d : X) (g r i : ℕ) → is_place plan g r i ≡ false → entry d table g r i ≡ d
entry_outside plan table is d g r i outside =
    elim (cases_lt g (length plan.groups)) [
      | inl known ↦ past_round plan table is d g r i known outside
      | inr past ↦ ap (λ rows. get_or (get_or rows r []) i d) (get_or_past table g [] (omega (arith, past, is.groups)))
    ]

-- two tables of a plan with the same entries are one
pub same_tables : {X : Type 0} (plan : PlanView) (d : X) (s t : Table X) → IsTable plan s → IsTable plan t → ((g r i : ℕ) → is_place plan g r i ≡ true → entry d s g r i ≡ entry d t g r i) → s ≡ t
same_tables plan d s t iss ist same =
    ext_get_or [] s t (iss.groups ∙ sym ist.groups) (λ g lt. rows g (omega (arith, lt, iss.groups)))
  where
    cells : (g r : ℕ) → g < length plan.groups → r < plan.rounds → get_or (get_or s g []) r [] ≡ get_or (get_or t g []) r []
    cells g r known round = ext_get_or d (get_or (get_or s g []) r []) (get_or (get_or t g []) r []) (iss.meters g r known round ∙ sym (ist.meters g r known round))
        (λ i lt. same g r i (rw (lt-ltb r plan.rounds round, lt-ltb i (size plan.groups g) (omega (arith, lt, iss.meters g r known round))) refl))

    rows : (g : ℕ) → g < length plan.groups → get_or s g [] ≡ get_or t g []
    rows g known = ext_get_or [] (get_or s g []) (get_or t g []) (iss.rounds g known ∙ sym (ist.rounds g known))
        (λ r lt. cells g r known (omega (arith, lt, iss.rounds g known)))

table_same : {X : Type 0} (plan : PlanView) (f h : ℕ → ℕ → ℕ → X) → ((g r i : ℕ) → f g r i ≡ h g r i) → table_of plan f ≡ table_of plan h
unfolding table_of
table_same plan f h same =
    map_same _ _ (λ g. map_same _ _ (λ r. map_same _ _ (λ i. same g r i) (range_with_len 0 (size plan.groups g))) (range_with_len 0 plan.rounds)) (range_with_len 0 (length plan.groups))

table-map : {X Y : Type 0} (plan : PlanView) (p : X → Y) (f : ℕ → ℕ → ℕ → X) → map (map (map p)) (table_of plan f) ≡ table_of plan (λ g r i. p (f g r i))
unfolding table_of
table-map plan p f =
    map-map (map (map p)) (λ g. map (λ r. map (λ i. f g r i) (range_with_len 0 (size plan.groups g))) (range_with_len 0 plan.rounds)) (range_with_len 0 (length plan.groups))
    ∙ map_same _ _ (λ g.
    map-map (map p) (λ r. map (λ i. f g r i) (range_with_len 0 (size plan.groups g))) (range_with_len 0 plan.rounds)
    ∙ map_same _ _ (λ r. map-map p (λ i. f g r i) (range_with_len 0 (size plan.groups g))) (range_with_len 0 plan.rounds)) (range_with_len 0 (length plan.groups))

-- presence at a place
pub is_present-map : (table : Table (Option ℕ)) (g r i : ℕ) → is_present (map (map (map is_some)) table) g r i ≡ is_some (reading table g r i)
is_present-map table g r i =
    ap (λ rows. get_or (get_or rows r []) i false) (get_or-map (map (map is_some)) table g [])
    ∙ ap (λ row. get_or row i false) (get_or-map (map is_some) (get_or table g []) r [])
    ∙ get_or-map is_some (get_or (get_or table g []) r []) i None

-- ---- tables that are kept by the numbers of places

pub at_place : {X : Type 0} (d : X) (plan : PlanView) (kept : List X) (g r i : ℕ) → is_place plan g r i ≡ true → entry d (kept_table d plan kept) g r i ≡ get_or kept (place_at plan g r i) d
at_place d plan kept g r i is = entry-table_of plan (λ g r i. get_or kept (place_at plan g r i) d) d g r i is

pub outside : {X : Type 0} (d : X) (plan : PlanView) (kept : List X) (g r i : ℕ) → is_place plan g r i ≡ false → entry d (kept_table d plan kept) g r i ≡ d
outside d plan kept g r i is = entry_outside plan (kept_table d plan kept) (is_table-table_of plan (λ g r i. get_or kept (place_at plan g r i) d)) d g r i is

pub number-lt : (plan : PlanView) (g r i : ℕ) → is_place plan g r i ≡ true → place_at plan g r i < places plan
number-lt plan g r i is = let both = in_place plan g r i is in place_at-lt plan g r i both.0 both.1

-- what was read at the number of a place
pub read_place : {X : Type 0} (d : X) (plan : PlanView) (kept : List X) (g r i : ℕ) (v : X) (n : ℕ) → length kept ≡ places plan → is_place plan g r i ≡ true → n ≡ place_at plan g r i → v ≡ get_or kept n v → get_or kept (place_at plan g r i) d ≡ v
read_place d plan kept g r i v n long is at read =
    get_or_default kept (place_at plan g r i) d v (omega (arith, long, number-lt plan g r i is)) ∙ ap (λ k. get_or kept k v) (sym at) ∙ sym read

pub if_small : (o : Option ℕ) → ((v : ℕ) → o ≡ Some v → v < 2 ^ 40) → IfSome o (λ v. v < 2 ^ 40)
if_small None small = tt
if_small (Some v) small = small v refl

pub small_if : (o : Option ℕ) → IfSome o (λ v. v < 2 ^ 40) → (v : ℕ) → o ≡ Some v → v < 2 ^ 40
small_if None small v some = absurd (nothing some)
  where
    nothing : ◌≡◌ {A = Option ℕ} None (Some v) → ⊥
    nothing e = cc
small_if (Some w) small v some = let same : w ≡ v = cc in subst (λ n. n < 2 ^ 40) same small

-- ---- readings

pub reading_table : (plan : PlanView) (kept : List (Option ℕ)) → KeepsReadings plan kept → IsReadingTable plan (kept_table None plan kept)
reading_table plan kept keeps = record {
  shape = is_table-table_of plan (λ g r i. get_or kept (place_at plan g r i) None);
  small = λ g r i v some. elim (cases_Bool (is_place plan g r i)) [
    | inl is ↦ keeps.small g r i v is (sym (at_place None plan kept g r i is) ∙ some)
    | inr out ↦ absurd (nothing v (sym (outside None plan kept g r i out) ∙ some))
  ];
  of_members = λ g r i some. elim (cases_Bool (is_place plan g r i)) [
    | inl is ↦ keeps.of_members g r i is (ap is_some (sym (at_place None plan kept g r i is)) ∙ some)
    | inr out ↦ absurd (false≢true (ap is_some (sym (outside None plan kept g r i out)) ∙ some))
  ];
}
  where
    nothing : (v : ℕ) → ◌≡◌ {A = Option ℕ} None (Some v) → ⊥
    nothing v e = cc

pub keeps_none : (plan : PlanView) → IsWithinLimits plan → KeepsReadings plan (replicate (places plan) None)
keeps_none plan within = record {
  within = within;
  long = length-replicate (places plan) None;
  small = λ g r i v is some. absurd (nothing v (sym (none g r i is) ∙ some));
  of_members = λ g r i is some. absurd (false≢true (ap is_some (sym (none g r i is)) ∙ some));
}
  where
    none : (g r i : ℕ) → is_place plan g r i ≡ true → ◌≡◌ {A = Option ℕ} (get_or (replicate (places plan) None) (place_at plan g r i) None) None
    none g r i is = get_or-replicate (places plan) (place_at plan g r i) None None (number-lt plan g r i is)

    nothing : (v : ℕ) → ◌≡◌ {A = Option ℕ} None (Some v) → ⊥
    nothing v e = cc

-- ---- one place

same_is : (g r i a b c : ℕ) → is_same_place g r i a b c ≡ false → (a ≡ g) → (b ≡ r) → (c ≡ i) → ⊥
same_is g r i a b c apart group round meter = false≢true (sym apart ∙ rw (group, round, meter, eq-eqb g g refl, eq-eqb r r refl, eq-eqb i i refl) refl)

other_number : (plan : PlanView) (g r i a b c : ℕ) → is_place plan g r i ≡ true → is_place plan a b c ≡ true → is_same_place g r i a b c ≡ false → place_at plan a b c ≢ place_at plan g r i
other_number plan g r i a b c here there apart same =
    let h = in_place plan g r i here in
    let t = in_place plan a b c there in
    let one = same_place plan a b c g r i t.0 t.1 h.0 h.1 same in
    same_is g r i a b c apart one.group one.round one.meter

-- an entry after a write at a place
pub set_here : {X : Type 0} (d : X) (plan : PlanView) (kept : List X) (g r i : ℕ) (x : X) → length kept ≡ places plan → is_place plan g r i ≡ true → get_or (set kept (place_at plan g r i) x) (place_at plan g r i) d ≡ x
set_here d plan kept g r i x long is = get_or-set_same kept (place_at plan g r i) x d (omega (arith, long, number-lt plan g r i is))

pub set_there : {X : Type 0} (d : X) (plan : PlanView) (kept : List X) (g r i : ℕ) (x : X) (a b c : ℕ) → is_place plan g r i ≡ true → is_place plan a b c ≡ true → is_same_place g r i a b c ≡ false → get_or (set kept (place_at plan g r i) x) (place_at plan a b c) d ≡ get_or kept (place_at plan a b c) d
set_there d plan kept g r i x a b c is there apart = get_or-set_other kept (place_at plan g r i) (place_at plan a b c) x d (other_number plan g r i a b c is there apart)

pub puts : (plan : PlanView) (kept : List (Option ℕ)) (g r i : ℕ) (value : Option ℕ) → length kept ≡ places plan → is_place plan g r i ≡ true → PutsReading (record { plan = plan; table = kept_table None plan kept }) g r i value (record { plan = plan; table = kept_table None plan (set kept (place_at plan g r i) value) })
puts plan kept g r i value long is = record {
  plan = refl;
  here = at_place None plan (set kept (place_at plan g r i) value) g r i is ∙ set_here None plan kept g r i value long is;
  elsewhere = λ a b c apart. elim (cases_Bool (is_place plan a b c)) [
    | inl there ↦ at_place None plan (set kept (place_at plan g r i) value) a b c there ∙ set_there None plan kept g r i value a b c is there apart ∙ sym (at_place None plan kept a b c there)
    | inr out ↦ outside None plan (set kept (place_at plan g r i) value) a b c out ∙ sym (outside None plan kept a b c out)
  ];
}

one_place : (g r i a b c : ℕ) → is_same_place g r i a b c ≡ true → (a ≡ g) × (b ≡ r) × (c ≡ i)
one_place g r i a b c same =
    let two = and_parts ((a == g) && (b == r)) (c == i) same in
    let one = and_parts (a == g) (b == r) two.0 in
    (eqb-true a g one.0, eqb-true b r one.1, eqb-true c i two.1)

pub keeps_put : (plan : PlanView) (kept : List (Option ℕ)) (g r i : ℕ) (value : Option ℕ) → KeepsReadings plan kept → is_place plan g r i ≡ true → ((v : ℕ) → value ≡ Some v → v < 2 ^ 40) → (is_some value ≡ true → is_member plan.groups g r i ≡ true) → KeepsReadings plan (set kept (place_at plan g r i) value)
keeps_put plan kept g r i value keeps is small member = record {
  within = keeps.within;
  long = length-set kept (place_at plan g r i) value ∙ keeps.long;
  small = λ a b c v there. small_at a b c v there (is_same_place g r i a b c) refl;
  of_members = λ a b c there. member_at a b c there (is_same_place g r i a b c) refl;
}
  where
    here : (a b c : ℕ) → is_same_place g r i a b c ≡ true → get_or (set kept (place_at plan g r i) value) (place_at plan a b c) None ≡ value
    here a b c same = let one = one_place g r i a b c same in rw (one.0, one.1, one.2) (set_here None plan kept g r i value keeps.long is)

    small_at : (a b c v : ℕ) → is_place plan a b c ≡ true → (same : Bool) → is_same_place g r i a b c ≡ same → get_or (set kept (place_at plan g r i) value) (place_at plan a b c) None ≡ Some v → v < 2 ^ 40
    small_at a b c v there true same some = small v (sym (here a b c same) ∙ some)
    small_at a b c v there false apart some = keeps.small a b c v there (sym (set_there None plan kept g r i value a b c is there apart) ∙ some)

    member_at : (a b c : ℕ) → is_place plan a b c ≡ true → (same : Bool) → is_same_place g r i a b c ≡ same → is_some (get_or (set kept (place_at plan g r i) value) (place_at plan a b c) None) ≡ true → is_member plan.groups a b c ≡ true
    member_at a b c there true same some =
        let one = one_place g r i a b c same in
        rw (one.0, one.1, one.2) (member (ap is_some (sym (here a b c same)) ∙ some))
    member_at a b c there false apart some = keeps.of_members a b c there (ap is_some (sym (set_there None plan kept g r i value a b c is there apart)) ∙ some)

-- ---- presence

presence_table : (plan : PlanView) (kept : List Bool) → KeepsPresence plan kept → IsPresenceTable plan (kept_table false plan kept)
presence_table plan kept keeps = record {
  shape = is_table-table_of plan (λ g r i. get_or kept (place_at plan g r i) false);
  of_members = λ g r i present. elim (cases_Bool (is_place plan g r i)) [
    | inl is ↦ keeps.of_members g r i is (sym (at_place false plan kept g r i is) ∙ present)
    | inr out ↦ absurd (false≢true (sym (outside false plan kept g r i out) ∙ present))
  ];
}

pub table_of_presence : (now : PresenceView) (plan : PlanView) (kept : List Bool) → KeepsPresence plan kept → ◌≡◌ {A = PresenceView} (record { plan = plan; table = kept_table false plan kept }) now → IsPresenceTable now.plan now.table
table_of_presence now plan kept keeps view = subst (λ v. IsPresenceTable v.plan v.table) view (presence_table plan kept keeps)

pub presence_is : (plan : PlanView) (kept : List (Option ℕ)) → kept_table false plan (map is_some kept) ≡ map (map (map is_some)) (kept_table None plan kept)
presence_is plan kept =
    table_same plan (λ g r i. get_or (map is_some kept) (place_at plan g r i) false) (λ g r i. is_some (get_or kept (place_at plan g r i) None)) (λ g r i. get_or-map is_some kept (place_at plan g r i) None)
    ∙ sym (table-map plan is_some (λ g r i. get_or kept (place_at plan g r i) None))

pub keeps_presence : (plan : PlanView) (kept : List (Option ℕ)) → KeepsReadings plan kept → KeepsPresence plan (map is_some kept)
keeps_presence plan kept keeps = record {
  within = keeps.within;
  long = length-map kept is_some ∙ keeps.long;
  of_members = λ g r i is present. keeps.of_members g r i is (sym (get_or-map is_some kept (place_at plan g r i) None) ∙ present);
}

-- ---- of a table seen as `now`

pub record Got (now : ReadingsView) (g r i : ℕ) (v : Option ℕ) : Type 0 where
  pub is : v ≡ reading now.table g r i
  pub small : IfSome v (λ n. n < 2 ^ 40)
  pub member : is_some v ≡ true → is_member now.plan.groups g r i ≡ true

pub got : (now : ReadingsView) (plan : PlanView) (kept : List (Option ℕ)) → KeepsReadings plan kept → ◌≡◌ {A = ReadingsView} (record { plan = plan; table = kept_table None plan kept }) now → (g r i : ℕ) (v : Option ℕ) (n : ℕ) → is_place now.plan g r i ≡ true → n ≡ place_at plan g r i → v ≡ get_or kept n v → Got now g r i v
got now plan kept keeps view g r i v n is at read =
    let place : is_place plan g r i ≡ true = ap (λ t. is_place t.plan g r i) view ∙ is in
    let kept_is = read_place None plan kept g r i v n keeps.long place at read in
    subst (λ t. Got t g r i v) view (record {
      is = sym kept_is ∙ sym (at_place None plan kept g r i place);
      small = if_small v (λ w some. keeps.small g r i w place (kept_is ∙ some));
      member = λ some. keeps.of_members g r i place (ap is_some kept_is ∙ some);
    })

pub record HasIt (now : PresenceView) (g r i : ℕ) (b : Bool) : Type 0 where
  pub is : b ≡ is_present now.table g r i
  pub member : b ≡ true → is_member now.plan.groups g r i ≡ true

pub has_it : (now : PresenceView) (plan : PlanView) (kept : List Bool) → KeepsPresence plan kept → ◌≡◌ {A = PresenceView} (record { plan = plan; table = kept_table false plan kept }) now → (g r i : ℕ) (b : Bool) (n : ℕ) → is_place now.plan g r i ≡ true → n ≡ place_at plan g r i → b ≡ get_or kept n b → HasIt now g r i b
has_it now plan kept keeps view g r i b n is at read =
    let place : is_place plan g r i ≡ true = ap (λ t. is_place t.plan g r i) view ∙ is in
    let kept_is = read_place false plan kept g r i b n keeps.long place at read in
    subst (λ t. HasIt t g r i b) view (record {
      is = sym kept_is ∙ sym (at_place false plan kept g r i place);
      member = λ there. keeps.of_members g r i place (kept_is ∙ there);
    })

pub puts_now : (now : ReadingsView) (plan : PlanView) (kept : List (Option ℕ)) → KeepsReadings plan kept → ◌≡◌ {A = ReadingsView} (record { plan = plan; table = kept_table None plan kept }) now → (g r i : ℕ) (value : Option ℕ) (n : ℕ) → is_place now.plan g r i ≡ true → n ≡ place_at plan g r i → PutsReading now g r i value (record { plan = plan; table = kept_table None plan (set kept n value) })
puts_now now plan kept keeps view g r i value n is at =
    let place : is_place plan g r i ≡ true = ap (λ t. is_place t.plan g r i) view ∙ is in
    let new : ℕ → ReadingsView = λ k. record { plan = plan; table = kept_table None plan (set kept k value) } in
    subst (λ t. PutsReading t g r i value (new n)) view (subst (λ k. PutsReading (record { plan = plan; table = kept_table None plan kept }) g r i value (new k)) (sym at) (puts plan kept g r i value keeps.long place))

pub keeps_note : (plan : PlanView) (kept : List Bool) (g r i : ℕ) → KeepsPresence plan kept → is_place plan g r i ≡ true → is_member plan.groups g r i ≡ true → KeepsPresence plan (set kept (place_at plan g r i) true)
keeps_note plan kept g r i keeps is member = record {
  within = keeps.within;
  long = length-set kept (place_at plan g r i) true ∙ keeps.long;
  of_members = λ a b c there. member_at a b c there (is_same_place g r i a b c) refl;
}
  where
    member_at : (a b c : ℕ) → is_place plan a b c ≡ true → (same : Bool) → is_same_place g r i a b c ≡ same → get_or (set kept (place_at plan g r i) true) (place_at plan a b c) false ≡ true → is_member plan.groups a b c ≡ true
    member_at a b c there true same present = let one = one_place g r i a b c same in rw (one.0, one.1, one.2) member
    member_at a b c there false apart present = keeps.of_members a b c there (sym (set_there false plan kept g r i true a b c is there apart) ∙ present)

notes : (plan : PlanView) (kept : List Bool) (g r i : ℕ) → length kept ≡ places plan → is_place plan g r i ≡ true → NotesReading (record { plan = plan; table = kept_table false plan kept }) g r i (record { plan = plan; table = kept_table false plan (set kept (place_at plan g r i) true) })
notes plan kept g r i long is = record {
  plan = refl;
  here = at_place false plan (set kept (place_at plan g r i) true) g r i is ∙ set_here false plan kept g r i true long is;
  elsewhere = λ a b c apart. elim (cases_Bool (is_place plan a b c)) [
    | inl there ↦ at_place false plan (set kept (place_at plan g r i) true) a b c there ∙ set_there false plan kept g r i true a b c is there apart ∙ sym (at_place false plan kept a b c there)
    | inr out ↦ outside false plan (set kept (place_at plan g r i) true) a b c out ∙ sym (outside false plan kept a b c out)
  ];
}

pub notes_now : (now : PresenceView) (plan : PlanView) (kept : List Bool) → KeepsPresence plan kept → ◌≡◌ {A = PresenceView} (record { plan = plan; table = kept_table false plan kept }) now → (g r i n : ℕ) → is_place now.plan g r i ≡ true → n ≡ place_at plan g r i → NotesReading now g r i (record { plan = plan; table = kept_table false plan (set kept n true) })
notes_now now plan kept keeps view g r i n is at =
    let place : is_place plan g r i ≡ true = ap (λ t. is_place t.plan g r i) view ∙ is in
    let new : ℕ → PresenceView = λ k. record { plan = plan; table = kept_table false plan (set kept k true) } in
    subst (λ t. NotesReading t g r i (new n)) view (subst (λ k. NotesReading (record { plan = plan; table = kept_table false plan kept }) g r i (new k)) (sym at) (notes plan kept g r i keeps.long place))

none_at : (n k : ℕ) → ◌≡◌ {A = Option ℕ} (get_or (replicate n None) k None) None
none_at zero k = refl
none_at (suc n) zero = refl
none_at (suc n) (suc k) = none_at n k

pub absent_is : (now plan : PlanView) (kept : List (Option ℕ)) → plan ≡ now → kept ≡ replicate (places now) None → ◌≡◌ {A = ReadingsView} (record { plan = plan; table = kept_table None plan kept }) (absent now)
absent_is now plan kept is none =
    let view : PlanView → List (Option ℕ) → ReadingsView = λ p k. record { plan = p; table = kept_table None p k } in
    ap (λ p. view p kept) is ∙ ap (view now) none
    ∙ ap (λ t. let v : ReadingsView = record { plan = now; table = t } in v) (table_same now (λ g r i. get_or (replicate (places now) None) (place_at now g r i) None) (λ g r i. None) (λ g r i. none_at (places now) (place_at now g r i)))

pub absent_keeps : (now plan : PlanView) (kept : List (Option ℕ)) → plan ≡ now → IsWithinLimits now → kept ≡ replicate (places now) None → KeepsReadings plan kept
absent_keeps now plan kept is within none = subst (λ p. KeepsReadings p kept) (sym is) (subst (KeepsReadings now) (sym none) (keeps_none now within))

pub present_is : (now : ReadingsView) (plan copy : PlanView) (kept : List (Option ℕ)) (present : List Bool) → ◌≡◌ {A = ReadingsView} (record { plan = plan; table = kept_table None plan kept }) now → copy ≡ plan → present ≡ map is_some kept → ◌≡◌ {A = PresenceView} (record { plan = copy; table = kept_table false copy present }) (presence_of now)
present_is now plan copy kept present view same is =
    let seen : PlanView → List Bool → PresenceView = λ p k. record { plan = p; table = kept_table false p k } in
    ap (λ p. seen p present) same ∙ ap (seen plan) is
    ∙ ap (λ t. let v : PresenceView = record { plan = plan; table = t } in v) (presence_is plan kept)
    ∙ ap presence_of view

pub present_keeps : (plan copy : PlanView) (kept : List (Option ℕ)) (present : List Bool) → KeepsReadings plan kept → copy ≡ plan → present ≡ map is_some kept → KeepsPresence copy present
present_keeps plan copy kept present keeps same is = subst (λ p. KeepsPresence p present) (sym same) (subst (KeepsPresence plan) (sym is) (keeps_presence plan kept keeps))

pub copy_is : (now : PresenceView) (plan copy : PlanView) (kept same : List Bool) → ◌≡◌ {A = PresenceView} (record { plan = plan; table = kept_table false plan kept }) now → copy ≡ plan → same ≡ kept → ◌≡◌ {A = PresenceView} (record { plan = copy; table = kept_table false copy same }) now
copy_is now plan copy kept same view plans items =
    let seen : PlanView → List Bool → PresenceView = λ p k. record { plan = p; table = kept_table false p k } in
    ap (λ p. seen p same) plans ∙ ap (seen plan) items ∙ view

pub copy_keeps : (plan copy : PlanView) (kept same : List Bool) → KeepsPresence plan kept → copy ≡ plan → same ≡ kept → KeepsPresence copy same
copy_keeps plan copy kept same keeps plans items = subst (λ p. KeepsPresence p same) (sym plans) (subst (KeepsPresence plan) (sym items) keeps)
