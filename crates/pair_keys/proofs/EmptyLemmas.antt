-- A pile without keys.
use Rattle.std.proofs.Common.{◌≡◌, ℕ, zero, suc, ◌+◌, ◌<◌, List, [], ◌∷◌, ◌++◌, length, map, replicate, get_or, slice_get, Option, Some, None, refl, sym, ap, ◌∙◌, subst, ⊎_elim, arith}
use Rattle.std.proofs.lemmas.Bool.{cases_eq}
use Rattle.std.proofs.lemmas.Grind.{common_steps}
use Rattle.std.proofs.lemmas.List.{length-replicate, length-map, get_or_append_left}
use Rattle.std.proofs.Math.Seq.{get_or-append_seam}
use Rattle.std.proofs.lemmas.Option.{slice_get_within, get_or_from_slice_get}
use Rattle.group_plan.specs.Plans.{Group, PlanView, size}
use Rattle.group_plan.specs.NewPlans.{stated}
use Rattle.group_plan.proofs.Limits.{past}
use Rattle.group_plan.specs.declared.plan.GroupPlan.{GroupPlan}
use Rattle.pair_keys.specs.declared.KeyId.{KeyId}
use Rattle.pair_keys.specs.declared.KeyId.TheVariants.{Own, Pair}
use Rattle.pair_keys.specs.declared.pile.GroupKeys.{GroupKeys}
use Rattle.pair_keys.specs.KeyParts.{own_in, row_in, key_in, kept_key, owns_of, rows_of, length_of, KeepsKeys, AreEmptyRows, IsEmptyGroup, AreEmptyGroups}
use Rattle.pair_keys.specs.Keys.{Keys, no_keys}
use Rattle.pair_keys.proofs.PileLemmas.{Row, same-keys, past_slot}

-- ---- one group more
default_at : (xs : List GroupPlan) (i : ℕ) (a b : GroupPlan) → i < length xs → get_or xs i a ≡ get_or xs i b
default_at [] i a b h = absurd (omega arith)
default_at (x ∷ xs) zero a b h = refl
default_at (x ∷ xs) (suc i) a b h = default_at xs i a b (omega arith)

pub one_more_group : (groups : List GroupPlan) (n : ℕ) (keys : List GroupKeys) (k : GroupKeys) (g : GroupPlan) → AreEmptyGroups groups n keys → n < length groups → g ≡ get_or groups n g →
    IsEmptyGroup g.meters k → AreEmptyGroups groups (n + 1) (keys ++ k ∷ [])
one_more_group groups n keys k g empty within is empty_k = record {
  long = grind (arith, common_steps, empty.long);
  each = λ h d e less. ⊎_elim
      (λ same. subst (λ (m : ℕ). IsEmptyGroup (get_or groups m d).meters (get_or (keys ++ k ∷ []) m e)) (sym same)
      (subst (λ (x : GroupKeys). IsEmptyGroup (get_or groups n d).meters x) (sym (ap (λ (m : ℕ). get_or (keys ++ k ∷ []) m e) (sym empty.long) ∙ get_or-append_seam keys k [] e))
      (subst (λ (x : GroupPlan). IsEmptyGroup x.meters k) (is ∙ default_at groups n g d within) empty_k)))
      (λ ne. subst (λ (x : GroupKeys). IsEmptyGroup (get_or groups h d).meters x) (sym (get_or_append_left keys (k ∷ []) e h (omega (arith, empty.long)))) (empty.each h d e (omega arith)))
      (cases_eq h n);
}

-- ---- a whole pile
nobody : GroupPlan
nobody = record { name = []; meters = 0; floor = 0 }

stated-meters : (groups : List Group) (g : ℕ) (d : GroupPlan) → g < length groups → (get_or (map stated groups) g d).meters ≡ size groups g
stated-meters [] g d h = absurd (omega arith)
stated-meters (x ∷ groups) zero d h = refl
stated-meters (x ∷ groups) (suc g) d h = stated-meters groups g d (omega arith)

none-replicated : (n i : ℕ) → get_or {A = Option (List ℕ)} (replicate n None) i None ≡ None
none-replicated zero i = refl
none-replicated (suc n) zero = refl
none-replicated (suc n) (suc i) = none-replicated n i

-- what a group without keys is for a plan
group-is : (plan : PlanView) (groups : List GroupPlan) (keys : List GroupKeys) → groups ≡ map stated plan.groups → AreEmptyGroups groups (length groups) keys →
    (g : ℕ) (k : GroupKeys) → slice_get keys g ≡ Some k → IsEmptyGroup (size plan.groups g) k
group-is plan groups keys e empty g k at =
    let less : g < length groups = omega (arith, slice_get_within keys g k at, empty.long) in
    let inside : g < length plan.groups = omega (arith, less, ap length e, length-map plan.groups stated) in
    subst (λ (n : ℕ). IsEmptyGroup n k) (ap (λ (l : List GroupPlan). (get_or l g nobody).meters) e ∙ stated-meters plan.groups g nobody inside)
    (subst (λ (x : GroupKeys). IsEmptyGroup (get_or groups g nobody).meters x) (get_or_from_slice_get keys g k k at) (empty.each g nobody k less))

group-past : (plan : PlanView) (groups : List GroupPlan) (keys : List GroupKeys) → groups ≡ map stated plan.groups → AreEmptyGroups groups (length groups) keys →
    (g : ℕ) → slice_get keys g ≡ None → size plan.groups g ≡ 0
group-past plan groups keys e empty g at = (past plan.groups g (omega (arith, past_slot keys g at, empty.long, ap length e, length-map plan.groups stated))).0

row-is : (n : ℕ) (rows : List Row) (high : ℕ) (row : Row) → AreEmptyRows n rows → slice_get rows high ≡ Some row → row.items ≡ replicate high None
row-is n rows high row empty at = subst (λ (x : Row). x.items ≡ replicate high None) (get_or_from_slice_get rows high row row at) (empty.each high row (slice_get_within rows high row at))

owns-empty : (plan : PlanView) (groups : List GroupPlan) (keys : List GroupKeys) → groups ≡ map stated plan.groups → AreEmptyGroups groups (length groups) keys →
    (g : ℕ) (o : Option GroupKeys) → slice_get keys g ≡ o → owns_of o ≡ size plan.groups g
owns-empty plan groups keys e empty g None at = sym (group-past plan groups keys e empty g at)
owns-empty plan groups keys e empty g (Some k) at = ap length (group-is plan groups keys e empty g k at).own ∙ length-replicate (size plan.groups g) None

rows-empty : (plan : PlanView) (groups : List GroupPlan) (keys : List GroupKeys) → groups ≡ map stated plan.groups → AreEmptyGroups groups (length groups) keys →
    (g : ℕ) (o : Option GroupKeys) → slice_get keys g ≡ o → rows_of o ≡ size plan.groups g
rows-empty plan groups keys e empty g None at = sym (group-past plan groups keys e empty g at)
rows-empty plan groups keys e empty g (Some k) at = (group-is plan groups keys e empty g k at).lower.long

each-empty : (n : ℕ) (rows : List Row) (high : ℕ) (o : Option Row) → AreEmptyRows n rows → high < n → slice_get rows high ≡ o → length_of o ≡ high
each-empty n rows high None empty less at = absurd (omega (arith, past_slot rows high at, empty.long, less))
each-empty n rows high (Some row) empty less at = ap length (row-is n rows high row empty at) ∙ length-replicate high None

each-of : (plan : PlanView) (groups : List GroupPlan) (keys : List GroupKeys) → groups ≡ map stated plan.groups → AreEmptyGroups groups (length groups) keys →
    (g high : ℕ) (o : Option GroupKeys) → slice_get keys g ≡ o → high < size plan.groups g → length_of (row_in o high) ≡ high
each-of plan groups keys e empty g high None at less = absurd (omega (arith, group-past plan groups keys e empty g at, less))
each-of plan groups keys e empty g high (Some k) at less = each-empty (size plan.groups g) k.lower.items high (slice_get k.lower.items high) (group-is plan groups keys e empty g k at).lower less refl

pub keeps-empty : (plan : PlanView) (groups : List GroupPlan) (keys : List GroupKeys) → groups ≡ map stated plan.groups → AreEmptyGroups groups (length groups) keys → KeepsKeys plan keys
keeps-empty plan groups keys e empty = record {
  long = empty.long ∙ ap length e ∙ length-map plan.groups stated;
  owns = λ g. owns-empty plan groups keys e empty g (slice_get keys g) refl;
  rows = λ g. rows-empty plan groups keys e empty g (slice_get keys g) refl;
  each = λ g high less. each-of plan groups keys e empty g high (slice_get keys g) refl less;
}

own-none : (plan : PlanView) (groups : List GroupPlan) (keys : List GroupKeys) → groups ≡ map stated plan.groups → AreEmptyGroups groups (length groups) keys →
    (g i : ℕ) (o : Option GroupKeys) → slice_get keys g ≡ o → own_in o i ≡ None
own-none plan groups keys e empty g i None at = refl
own-none plan groups keys e empty g i (Some k) at = ap (λ l. get_or l i None) (group-is plan groups keys e empty g k at).own ∙ none-replicated (size plan.groups g) i

row-none : (n : ℕ) (rows : List Row) (high low : ℕ) (o : Option Row) → AreEmptyRows n rows → slice_get rows high ≡ o → key_in o low ≡ None
row-none n rows high low None empty at = refl
row-none n rows high low (Some row) empty at = ap (λ l. get_or l low None) (row-is n rows high row empty at) ∙ none-replicated high low

pair-none : (plan : PlanView) (groups : List GroupPlan) (keys : List GroupKeys) → groups ≡ map stated plan.groups → AreEmptyGroups groups (length groups) keys →
    (g low high : ℕ) (o : Option GroupKeys) → slice_get keys g ≡ o → key_in (row_in o high) low ≡ None
pair-none plan groups keys e empty g low high None at = refl
pair-none plan groups keys e empty g low high (Some k) at = row-none (size plan.groups g) k.lower.items high low (slice_get k.lower.items high) (group-is plan groups keys e empty g k at).lower refl

none-kept : (plan : PlanView) (groups : List GroupPlan) (keys : List GroupKeys) → groups ≡ map stated plan.groups → AreEmptyGroups groups (length groups) keys → (id : KeyId) → kept_key keys id ≡ None
none-kept plan groups keys e empty (Own g i) = own-none plan groups keys e empty g i (slice_get keys g) refl
none-kept plan groups keys e empty (Pair g low high) = pair-none plan groups keys e empty g low high (slice_get keys g) refl

pub empty-keys : (plan copy : PlanView) (groups : List GroupPlan) (keys : List GroupKeys) → copy ≡ plan → groups ≡ map stated plan.groups → AreEmptyGroups groups (length groups) keys →
    ◌≡◌ {A = Keys} (record { plan = copy; key = kept_key keys }) (no_keys plan)
empty-keys plan copy groups keys c e empty =
    ap (λ (p : PlanView). record { plan = p; key = kept_key keys }) c ∙ same-keys plan (kept_key keys) (λ id. None) (none-kept plan groups keys e empty)
