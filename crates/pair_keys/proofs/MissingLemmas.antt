-- The first key that is missing.
use Rattle.std.proofs.Common.{◌≡◌, ℕ, ◌+◌, ◌<◌, ◌≤◌, ◌==◌, ◌&&◌, ◌||◌, Bool, true, false, nat_lt, List, length, map, get_or, slice_get, Option, Some, None, is_some, is_none, refl, sym, ap, ◌∙◌, subst, ⊎_elim, inl, inr, ◌⊎◌, arith}
use Rattle.std.specs.List.{position}
use Rattle.std.proofs.lemmas.Bool.{false≢true, cases_eq, ne_eqb, lt-ltb, ltb-true, and_parts}
use Rattle.std.proofs.lemmas.List.Quantifiers.{position-Some}
use Rattle.std.proofs.lemmas.Option.{slice_get_within, slice_get-get_or, get_or_from_slice_get}
use Rattle.group_plan.proofs.Faults.{position-none}
use Rattle.std.proofs.lemmas.List.{length-map}
use Rattle.group_plan.specs.Plans.{PlanView, size, IsWithinLimits}
use Rattle.group_plan.specs.NewPlans.{stated}
use Rattle.group_plan.specs.declared.plan.GroupPlan.{GroupPlan}
use Rattle.pair_keys.specs.declared.KeyId.{KeyId}
use Rattle.pair_keys.specs.declared.KeyId.TheVariants.{Own, Pair}
use Rattle.pair_keys.specs.declared.pile.GroupKeys.{GroupKeys}
use Rattle.pair_keys.specs.Ids.{is_key, comes_before}
use Rattle.pair_keys.specs.KeyParts.{own_in, row_in, key_in, kept_key, owns_of, KeepsKeys}
use Rattle.pair_keys.specs.Keys.{IsComplete, IsFirstMissing}
use Rattle.pair_keys.specs.Missing.{AreRows, HasRowsTo, LacksPair, LacksOwn, HasOwns, FirstIn}
use Rattle.pair_keys.proofs.PileLemmas.{Row, read_at, size_of_group, rows_of_group, past_slot, row-length}

nothing : (o : Option (List ℕ)) → is_none o ≡ true → o ≡ None
nothing None e = refl
nothing (Some x) e = absurd (false≢true e)

something : (o : Option (List ℕ)) → is_none o ≡ false → is_some o ≡ true
something None e = absurd (false≢true (sym e))
something (Some x) e = refl

pub lacks_own : (keys : GroupKeys) (i : ℕ) → position is_none keys.own.items ≡ Some i → LacksOwn keys i
lacks_own keys i e =
    let p = position-Some is_none keys.own.items i None e in
    record { within = p.0; lacking = nothing _ p.1; before = λ j less. something _ (p.2 j less) }

pub has_owns : (keys : GroupKeys) → position is_none keys.own.items ≡ None → HasOwns keys
has_owns keys e = λ i less. something _ (position-none is_none keys.own.items e i None less)

-- ---- a whole pile: the groups below n have all their keys
abbrev pub AreWhole : List GroupKeys → ℕ → Type 0
AreWhole groups n = (g : ℕ) (k : GroupKeys) → g < n → slice_get groups g ≡ Some k → HasOwns k × HasRowsTo k.lower.items (length k.lower.items)

pub one_more_whole : (groups : List GroupKeys) (n : ℕ) (k : GroupKeys) → AreWhole groups n → n < length groups → slice_get groups n ≡ Some k → FirstIn n k None → AreWhole groups (n + 1)
one_more_whole groups n k whole within at here = λ g j less at'. ⊎_elim
    (λ e. subst (λ (x : GroupKeys). HasOwns x × HasRowsTo x.lower.items (length x.lower.items)) (same k j (sym at ∙ ap (slice_get groups) (sym e) ∙ at')) here)
    (λ ne. whole g j (omega arith) at')
    (cases_eq g n)
  where
    same : (k j : GroupKeys) → Some k ≡ Some j → k ≡ j
    same k j e = cc

-- an own key of the plan is there
own_there : (plan : PlanView) (groups : List GroupKeys) (n g i : ℕ) (o : Option GroupKeys) → KeepsKeys plan groups → AreWhole groups n → g < n → slice_get groups g ≡ o → i < size plan.groups g →
    is_some (own_in o i) ≡ true
own_there plan groups n g i None keeps whole less at inside = absurd (omega (arith, past_slot groups g at, keeps.long, inside, sym (ap owns_of at) ∙ keeps.owns g))
own_there plan groups n g i (Some k) keeps whole less at inside = (whole g k less at).0 i (omega (arith, inside, size_of_group plan groups g k keeps at))

pair_there : (plan : PlanView) (groups : List GroupKeys) (n g low high : ℕ) (o : Option GroupKeys) → KeepsKeys plan groups → AreWhole groups n → g < n → slice_get groups g ≡ o → low < high → high < size plan.groups g →
    is_some (key_in (row_in o high) low) ≡ true
pair_there plan groups n g low high None keeps whole less at order inside = absurd (omega (arith, inside, sym (ap owns_of at) ∙ keeps.owns g))
pair_there plan groups n g low high (Some k) keeps whole less at order inside =
    let room : high < length k.lower.items = omega (arith, inside, rows_of_group plan groups g k keeps at) in
    (whole g k less at).1 low (omega (arith, order, room)) high order room

in_plan : (plan : PlanView) (groups : List GroupKeys) (g : ℕ) (o : Option GroupKeys) → KeepsKeys plan groups → slice_get groups g ≡ o → 0 < size plan.groups g → g < length groups
in_plan plan groups g None keeps at some = absurd (omega (arith, some, sym (ap owns_of at) ∙ keeps.owns g))
in_plan plan groups g (Some k) keeps at some = slice_get_within groups g k at

pub is_complete : (plan : PlanView) (groups : List GroupKeys) → KeepsKeys plan groups → AreWhole groups (length groups) → IsComplete (record { plan = plan; key = kept_key groups })
is_complete plan groups keeps whole (Own g i) key =
    let less : i < size plan.groups g = ltb-true i (size plan.groups g) key in
    own_there plan groups (length groups) g i (slice_get groups g) keeps whole (in_plan plan groups g (slice_get groups g) keeps refl (omega (arith, less))) refl less
is_complete plan groups keeps whole (Pair g low high) key =
    let p = and_parts (nat_lt low high) (nat_lt high (size plan.groups g)) key in
    let less : high < size plan.groups g = ltb-true high (size plan.groups g) p.1 in
    pair_there plan groups (length groups) g low high (slice_get groups g) keeps whole (in_plan plan groups g (slice_get groups g) keeps refl (omega (arith, less))) refl (ltb-true low high p.0) less

-- ---- the first key that is missing
or_true : (a b : Bool) → (a || b) ≡ true → (a ≡ true) ⊎ (b ≡ true)
or_true true b e = inl refl
or_true false b e = inr e

to_eq : (a b : ℕ) → (a == b) ≡ true → a ≡ b
to_eq a b h = ⊎_elim (λ e. e) (λ ne. absurd (false≢true (sym (ne_eqb a b ne) ∙ h))) (cases_eq a b)

before_own : (plan : PlanView) (groups : List GroupKeys) (n : ℕ) (k : GroupKeys) (i : ℕ) → KeepsKeys plan groups → AreWhole groups n → slice_get groups n ≡ Some k → LacksOwn k i →
    (other : KeyId) → is_key plan other ≡ true → comes_before other (Own n i) ≡ true → is_some (kept_key groups other) ≡ true
before_own plan groups n k i keeps whole at lacks (Own h j) key before = ⊎_elim
    (λ less. own_there plan groups n h j (slice_get groups h) keeps whole (ltb-true h n less) refl (ltb-true j (size plan.groups h) key))
    (λ same.
    let p = and_parts (h == n) (nat_lt j i) same in
    ap (λ (m : ℕ). is_some (own_in (slice_get groups m) j)) (to_eq h n p.0) ∙ ap (λ o. is_some (own_in o j)) at ∙ lacks.before j (ltb-true j i p.1))
    (or_true (nat_lt h n) ((h == n) && nat_lt j i) before)
before_own plan groups n k i keeps whole at lacks (Pair h l m) key before =
    let p = and_parts (nat_lt l m) (nat_lt m (size plan.groups h)) key in
    pair_there plan groups n h l m (slice_get groups h) keeps whole (ltb-true h n before) refl (ltb-true l m p.0) (ltb-true m (size plan.groups h) p.1)

before_pair : (plan : PlanView) (groups : List GroupKeys) (n : ℕ) (k : GroupKeys) (low high : ℕ) → KeepsKeys plan groups → AreWhole groups n → slice_get groups n ≡ Some k → HasOwns k → LacksPair k.lower.items low high →
    (other : KeyId) → is_key plan other ≡ true → comes_before other (Pair n low high) ≡ true → is_some (kept_key groups other) ≡ true
before_pair plan groups n k low high keeps whole at owns lacks (Own h j) key before = ⊎_elim
    (λ less. own_there plan groups n h j (slice_get groups h) keeps whole (ltb-true h n less) refl (ltb-true j (size plan.groups h) key))
    (λ same.
    let e : h ≡ n = to_eq h n same in
    let inside : j < size plan.groups n = subst (λ (g : ℕ). j < size plan.groups g) e (ltb-true j (size plan.groups h) key) in
    ap (λ (m : ℕ). is_some (own_in (slice_get groups m) j)) e ∙ ap (λ o. is_some (own_in o j)) at ∙ owns j (omega (arith, inside, size_of_group plan groups n k keeps at)))
    (or_true (nat_lt h n) (h == n) before)
before_pair plan groups n k low high keeps whole at owns lacks (Pair h l m) key before =
    let q = and_parts (nat_lt l m) (nat_lt m (size plan.groups h)) key in
    let order : l < m = ltb-true l m q.0 in
    ⊎_elim
    (λ less. pair_there plan groups n h l m (slice_get groups h) keeps whole (ltb-true h n less) refl order (ltb-true m (size plan.groups h) q.1))
    (λ same.
    let p = and_parts (h == n) (nat_lt l low || ((l == low) && nat_lt m high)) same in
    let e : h ≡ n = to_eq h n p.0 in
    let inside : m < size plan.groups n = subst (λ (g : ℕ). m < size plan.groups g) e (ltb-true m (size plan.groups h) q.1) in
    let room : m < length k.lower.items = omega (arith, inside, rows_of_group plan groups n k keeps at) in
    ap (λ (g : ℕ). is_some (key_in (row_in (slice_get groups g) m) l)) e ∙ ap (λ o. is_some (key_in (row_in o m) l)) at
    ∙ ⊎_elim
    (λ lower. lacks.earlier l (ltb-true l low lower) m order room)
    (λ row.
    let r = and_parts (l == low) (nat_lt m high) row in
    let f : l ≡ low = to_eq l low r.0 in
    subst (λ (x : ℕ). is_some (key_in (slice_get k.lower.items m) x) ≡ true) (sym f) (lacks.before m (omega (arith, f, order)) (ltb-true m high r.1)))
    (or_true (nat_lt l low) ((l == low) && nat_lt m high) p.1))
    (or_true (nat_lt h n) ((h == n) && (nat_lt l low || ((l == low) && nat_lt m high))) before)

pub first_missing : (plan : PlanView) (groups : List GroupKeys) (n : ℕ) (k : GroupKeys) (id : KeyId) → KeepsKeys plan groups → AreWhole groups n → slice_get groups n ≡ Some k → FirstIn n k (Some id) →
    IsFirstMissing (record { plan = plan; key = kept_key groups }) id
first_missing plan groups n k (Own h i) keeps whole at found =
    subst (λ (g : ℕ). IsFirstMissing (record { plan = plan; key = kept_key groups }) (Own g i)) (sym found.0) (record {
      of_plan = lt-ltb i (size plan.groups n) (omega (arith, found.1.within, size_of_group plan groups n k keeps at));
      lacking = ap (λ o. own_in o i) at ∙ found.1.lacking;
      first = before_own plan groups n k i keeps whole at found.1;
    })
first_missing plan groups n k (Pair h low high) keeps whole at found =
    subst (λ (g : ℕ). IsFirstMissing (record { plan = plan; key = kept_key groups }) (Pair g low high)) (sym found.0) (record {
      of_plan = grind (arith, lt-ltb low high found.2.order, lt-ltb high (size plan.groups n) (omega (arith, found.2.within, rows_of_group plan groups n k keeps at)));
      lacking = ap (λ o. key_in (row_in o high) low) at ∙ found.2.lacking;
      first = before_pair plan groups n k low high keeps whole at found.1 found.2;
    })

-- a row as an element of the list
pub are_rows : (plan : PlanView) (groups : List GroupKeys) (g : ℕ) (k : GroupKeys) → KeepsKeys plan groups → slice_get groups g ≡ Some k → AreRows k.lower.items
are_rows plan groups g k keeps at = λ i d less. row-length plan groups g i k (get_or k.lower.items i d) keeps at (slice_get-get_or k.lower.items i d less) (omega (arith, less, rows_of_group plan groups g k keeps at))

pub group_within : (plan : PlanView) (groups : List GroupKeys) (given : List GroupPlan) (count at : ℕ) → KeepsKeys plan groups → given ≡ map stated plan.groups → count ≡ length given → at < count → at < length groups
group_within plan groups given count at keeps e long less = omega (arith, less, long, ap length e, length-map plan.groups stated, keeps.long)

pub few_owns : (plan : PlanView) (groups : List GroupKeys) (g : ℕ) (k : GroupKeys) → KeepsKeys plan groups → IsWithinLimits plan → slice_get groups g ≡ Some k → length k.own.items ≤ 256
few_owns plan groups g k keeps limits at = omega (arith, size_of_group plan groups g k keeps at, limits.meters g)

pub few_rows : (plan : PlanView) (groups : List GroupKeys) (g : ℕ) (k : GroupKeys) → KeepsKeys plan groups → IsWithinLimits plan → slice_get groups g ≡ Some k → length k.lower.items ≤ 256
few_rows plan groups g k keeps limits at = omega (arith, rows_of_group plan groups g k keeps at, limits.meters g)

pub all_groups : (groups : List GroupKeys) (n : ℕ) → AreWhole groups n → length groups ≤ n → AreWhole groups (length groups)
all_groups groups n whole past = λ g k less at. whole g k (omega (arith, less, past)) at

-- ---- reading a key of a plan
pub own_is : (plan : PlanView) (groups : List GroupKeys) (g i : ℕ) (k : GroupKeys) (o : Option (List ℕ)) → KeepsKeys plan groups → i < size plan.groups g → k ≡ get_or groups g k → o ≡ get_or k.own.items i o →
    kept_key groups (Own g i) ≡ o
own_is plan groups g i k o keeps inside group slot =
    let at : slice_get groups g ≡ Some k = read_at groups g k (in_plan plan groups g (slice_get groups g) keeps refl (omega (arith, inside))) group in
    let place : slice_get k.own.items i ≡ Some o = read_at k.own.items i o (omega (arith, inside, size_of_group plan groups g k keeps at)) slot in
    ap (λ x. own_in x i) at ∙ get_or_from_slice_get k.own.items i o None place

pub row_room : (plan : PlanView) (groups : List GroupKeys) (g low high : ℕ) (k : GroupKeys) (row : Row) → KeepsKeys plan groups → low < high → high < size plan.groups g → k ≡ get_or groups g k → row ≡ get_or k.lower.items high row →
    low < length row.items
row_room plan groups g low high k row keeps order inside group is_row =
    let at : slice_get groups g ≡ Some k = read_at groups g k (in_plan plan groups g (slice_get groups g) keeps refl (omega (arith, inside))) group in
    let row_at : slice_get k.lower.items high ≡ Some row = read_at k.lower.items high row (omega (arith, inside, rows_of_group plan groups g k keeps at)) is_row in
    omega (arith, order, row-length plan groups g high k row keeps at row_at inside)

pub pair_is : (plan : PlanView) (groups : List GroupKeys) (g low high : ℕ) (k : GroupKeys) (row : Row) (o : Option (List ℕ)) → KeepsKeys plan groups → low < high → high < size plan.groups g → k ≡ get_or groups g k →
    row ≡ get_or k.lower.items high row → o ≡ get_or row.items low o → kept_key groups (Pair g low high) ≡ o
pair_is plan groups g low high k row o keeps order inside group is_row slot =
    let at : slice_get groups g ≡ Some k = read_at groups g k (in_plan plan groups g (slice_get groups g) keeps refl (omega (arith, inside))) group in
    let row_at : slice_get k.lower.items high ≡ Some row = read_at k.lower.items high row (omega (arith, inside, rows_of_group plan groups g k keeps at)) is_row in
    let place : slice_get row.items low ≡ Some o = read_at row.items low o (row_room plan groups g low high k row keeps order inside group is_row) slot in
    ap (λ x. key_in (row_in x high) low) at ∙ ap (λ x. key_in x low) row_at ∙ get_or_from_slice_get row.items low o None place

pub is_own_key : (plan : PlanView) (g i : ℕ) → i < size plan.groups g → is_key plan (Own g i) ≡ true
is_own_key plan g i inside = lt-ltb i (size plan.groups g) inside

pub is_pair_key : (plan : PlanView) (g low high : ℕ) → low < high → high < size plan.groups g → is_key plan (Pair g low high) ≡ true
is_pair_key plan g low high order inside = grind (arith, lt-ltb low high order, lt-ltb high (size plan.groups g) inside)

pub not_none : (o : Option (List ℕ)) → is_some o ≡ true → o ≡ None → ⊥
not_none o some none = false≢true (sym (ap is_some none) ∙ some)
