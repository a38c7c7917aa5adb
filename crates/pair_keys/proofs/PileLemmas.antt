-- One key is put into what is kept.
use Rattle.std.proofs.Common.{◌≡◌, ℕ, zero, suc, [], ◌∷◌, ◌<◌, ◌≤◌, ◌==◌, ◌&&◌, true, false, nat_lt, cond, List, length, set, get_or, slice_get, Option, Some, None, is_some, Vec, refl, sym, ap, ◌∙◌, subst, ⊎_elim, arith}
use Rattle.std.specs.declared.alloc.Global.{Global}
use Rattle.std.proofs.Math.Path.{fun_ext}
use Rattle.std.proofs.lemmas.Bool.{false≢true, cond-true, cond-false, cases_eq, eq-eqb, ne_eqb, lt-ltb, le-ltb}
use Rattle.std.proofs.lemmas.List.{get_or-set_same, get_or-set_other, length-set}
use Rattle.std.proofs.lemmas.Option.{slice_get-get_or, slice_get_within, get_or_from_slice_get}
use Rattle.group_plan.specs.Plans.{PlanView, size}
use Rattle.pair_keys.specs.declared.KeyId.{KeyId}
use Rattle.pair_keys.specs.declared.KeyId.TheVariants.{Own, Pair}
use Rattle.pair_keys.specs.declared.pile.GroupKeys.{GroupKeys}
use Rattle.pair_keys.specs.Ids.{same_id}
use Rattle.pair_keys.specs.KeyParts.{own_in, row_in, key_in, own_slot, pair_slot, kept_key, owns_of, rows_of, length_of, KeepsKeys}
use Rattle.pair_keys.specs.Keys.{Keys}
use Rattle.pair_keys.proofs.SlotLemmas.{slice_get-set_same, slice_get-set_other}

abbrev pub Row : Type 0
Row = Vec (Option (List ℕ)) Global

-- the element read at an index
pub read_at : {X : Type 0} (xs : List X) (g : ℕ) (k : X) → g < length xs → k ≡ get_or xs g k → slice_get xs g ≡ Some k
read_at xs g k h e = slice_get-get_or xs g k h ∙ ap Some (sym e)

-- ---- room

-- a group with the same room
pub record HasSameRoom (k j : GroupKeys) : Type 0 where
  pub owns : length j.own.items ≡ length k.own.items
  pub rows : length j.lower.items ≡ length k.lower.items
  pub each : (high : ℕ) → length_of (slice_get j.lower.items high) ≡ length_of (slice_get k.lower.items high)

by_cases : (P : ℕ → Type 0) (g h : ℕ) → P g → ((g ≡ h → ⊥) → P h) → P h
by_cases P g h here there = ⊎_elim (λ e. subst P e here) there (cases_eq g h)

pub keeps-set : (plan : PlanView) (groups : List GroupKeys) (g : ℕ) (k j : GroupKeys) → KeepsKeys plan groups → g < length groups →
    slice_get groups g ≡ Some k → HasSameRoom k j → KeepsKeys plan (set groups g j)
keeps-set plan groups g k j keeps within at room = record {
  long = length-set groups g j ∙ keeps.long;
  owns = λ h. by_cases (λ (h : ℕ). owns_of (slice_get (set groups g j) h) ≡ size plan.groups h) g h
      (ap owns_of (slice_get-set_same groups g j within) ∙ room.owns ∙ sym (ap owns_of at) ∙ keeps.owns g)
      (λ ne. ap owns_of (slice_get-set_other groups g h j ne) ∙ keeps.owns h);
  rows = λ h. by_cases (λ (h : ℕ). rows_of (slice_get (set groups g j) h) ≡ size plan.groups h) g h
      (ap rows_of (slice_get-set_same groups g j within) ∙ room.rows ∙ sym (ap rows_of at) ∙ keeps.rows g)
      (λ ne. ap rows_of (slice_get-set_other groups g h j ne) ∙ keeps.rows h);
  each = λ h high. by_cases (λ (h : ℕ). high < size plan.groups h → length_of (row_in (slice_get (set groups g j) h) high) ≡ high) g h
      (λ less. ap (λ o. length_of (row_in o high)) (slice_get-set_same groups g j within) ∙ room.each high ∙ sym (ap (λ o. length_of (row_in o high)) at) ∙ keeps.each g high less)
      (λ ne less. ap (λ o. length_of (row_in o high)) (slice_get-set_other groups g h j ne) ∙ keeps.each h high less);
}

-- ---- an own key
pub room-own : (k j : GroupKeys) (i : ℕ) (slot : Option (List ℕ)) → j.own.items ≡ set k.own.items i slot → j.lower.items ≡ k.lower.items → HasSameRoom k j
room-own k j i slot own lower = record {
  owns = ap length own ∙ length-set k.own.items i slot;
  rows = ap length lower;
  each = λ high. ap (λ l. length_of (slice_get l high)) lower;
}

pub kept-own : (groups : List GroupKeys) (g i : ℕ) (k j : GroupKeys) (key : List ℕ) → g < length groups → slice_get groups g ≡ Some k → i < length k.own.items →
    j.own.items ≡ set k.own.items i (Some key) → j.lower.items ≡ k.lower.items →
    (other : KeyId) → kept_key (set groups g j) other ≡ cond (same_id (Own g i) other) (Some key) (kept_key groups other)
kept-own groups g i k j key within at inside own lower (Own h m) =
    by_cases (λ (h : ℕ). own_in (slice_get (set groups g j) h) m ≡ cond ((g == h) && (i == m)) (Some key) (own_in (slice_get groups h) m)) g h
    (ap (λ o. own_in o m) (slice_get-set_same groups g j within) ∙ ap (λ l. get_or l m None) own
    ∙ by_cases (λ (m : ℕ). get_or (set k.own.items i (Some key)) m None ≡ cond ((g == g) && (i == m)) (Some key) (own_in (slice_get groups g) m)) i m
    (get_or-set_same k.own.items i (Some key) None inside ∙ sym (cond-true ((g == g) && (i == i)) _ _ (grind (arith, eq-eqb g g refl, eq-eqb i i refl))))
    (λ ne. get_or-set_other k.own.items i m (Some key) None (λ e. ne (sym e)) ∙ sym (ap (λ o. own_in o m) at)
    ∙ sym (cond-false ((g == g) && (i == m)) _ _ (grind (arith, ne_eqb i m ne)))))
    (λ ne. ap (λ o. own_in o m) (slice_get-set_other groups g h j ne) ∙ sym (cond-false ((g == h) && (i == m)) _ _ (grind (arith, ne_eqb g h ne))))
kept-own groups g i k j key within at inside own lower (Pair h low high) =
    by_cases (λ (h : ℕ). key_in (row_in (slice_get (set groups g j) h) high) low ≡ key_in (row_in (slice_get groups h) high) low) g h
    (ap (λ o. key_in (row_in o high) low) (slice_get-set_same groups g j within) ∙ ap (λ l. key_in (slice_get l high) low) lower ∙ sym (ap (λ o. key_in (row_in o high) low) at))
    (λ ne. ap (λ o. key_in (row_in o high) low) (slice_get-set_other groups g h j ne))

-- ---- a pair key
pub room-pair : (k j : GroupKeys) (high low : ℕ) (row put : Row) (slot : Option (List ℕ)) → slice_get k.lower.items high ≡ Some row → high < length k.lower.items →
    put.items ≡ set row.items low slot → j.own.items ≡ k.own.items → j.lower.items ≡ set k.lower.items high put → HasSameRoom k j
room-pair k j high low row put slot at within is_put own lower = record {
  owns = ap length own;
  rows = ap length lower ∙ length-set k.lower.items high put;
  each = λ h. by_cases (λ (h : ℕ). length_of (slice_get j.lower.items h) ≡ length_of (slice_get k.lower.items h)) high h
      (ap (λ l. length_of (slice_get l high)) lower ∙ ap length_of (slice_get-set_same k.lower.items high put within) ∙ ap length is_put ∙ length-set row.items low slot ∙ sym (ap length_of at))
      (λ ne. ap (λ l. length_of (slice_get l h)) lower ∙ ap length_of (slice_get-set_other k.lower.items high h put ne));
}

pub kept-pair : (groups : List GroupKeys) (g high low : ℕ) (k j : GroupKeys) (row put : Row) (key : List ℕ) → g < length groups → slice_get groups g ≡ Some k →
    slice_get k.lower.items high ≡ Some row → high < length k.lower.items → low < length row.items →
    put.items ≡ set row.items low (Some key) → j.own.items ≡ k.own.items → j.lower.items ≡ set k.lower.items high put →
    (other : KeyId) → kept_key (set groups g j) other ≡ cond (same_id (Pair g low high) other) (Some key) (kept_key groups other)
kept-pair groups g high low k j row put key within at row_at room inside is_put own lower (Own h m) =
    by_cases (λ (h : ℕ). own_in (slice_get (set groups g j) h) m ≡ own_in (slice_get groups h) m) g h
    (ap (λ o. own_in o m) (slice_get-set_same groups g j within) ∙ ap (λ l. get_or l m None) own ∙ sym (ap (λ o. own_in o m) at))
    (λ ne. ap (λ o. own_in o m) (slice_get-set_other groups g h j ne))
kept-pair groups g high low k j row put key within at row_at room inside is_put own lower (Pair h l m) =
    by_cases (λ (h : ℕ). key_in (row_in (slice_get (set groups g j) h) m) l ≡ cond ((g == h) && (low == l) && (high == m)) (Some key) (key_in (row_in (slice_get groups h) m) l)) g h
    (ap (λ o. key_in (row_in o m) l) (slice_get-set_same groups g j within) ∙ ap (λ x. key_in (slice_get x m) l) lower
    ∙ by_cases (λ (m : ℕ). key_in (slice_get (set k.lower.items high put) m) l ≡ cond ((g == g) && (low == l) && (high == m)) (Some key) (key_in (row_in (slice_get groups g) m) l)) high m
    (ap (λ o. key_in o l) (slice_get-set_same k.lower.items high put room) ∙ ap (λ x. get_or x l None) is_put
    ∙ by_cases (λ (l : ℕ). get_or (set row.items low (Some key)) l None ≡ cond ((g == g) && (low == l) && (high == high)) (Some key) (key_in (row_in (slice_get groups g) high) l)) low l
    (get_or-set_same row.items low (Some key) None inside ∙ sym (cond-true ((g == g) && (low == low) && (high == high)) _ _ (grind (arith, eq-eqb g g refl, eq-eqb low low refl, eq-eqb high high refl))))
    (λ ne. get_or-set_other row.items low l (Some key) None (λ e. ne (sym e)) ∙ sym (ap (λ o. key_in o l) row_at) ∙ sym (ap (λ o. key_in (row_in o high) l) at)
    ∙ sym (cond-false ((g == g) && (low == l) && (high == high)) _ _ (grind (arith, ne_eqb low l ne)))))
    (λ ne. ap (λ o. key_in o l) (slice_get-set_other k.lower.items high m put ne) ∙ sym (ap (λ o. key_in (row_in o m) l) at)
    ∙ sym (cond-false ((g == g) && (low == l) && (high == m)) _ _ (grind (arith, ne_eqb high m ne)))))
    (λ ne. ap (λ o. key_in (row_in o m) l) (slice_get-set_other groups g h j ne) ∙ sym (cond-false ((g == h) && (low == l) && (high == m)) _ _ (grind (arith, ne_eqb g h ne))))

-- keys that are equal one by one
pub same-keys : (plan : PlanView) (f h : KeyId → Option (List ℕ)) → ((id : KeyId) → f id ≡ h id) → ◌≡◌ {A = Keys} (record { plan = plan; key = f }) (record { plan = plan; key = h })
same-keys plan f h e = ap (λ (k : KeyId → Option (List ℕ)). record { plan = plan; key = k }) (fun_ext e)

-- ---- places
pub record IsOwnPlace (plan : PlanView) (groups : List GroupKeys) (g i : ℕ) (o : Option (List ℕ)) : Type 0 where
  pub of_plan : nat_lt i (size plan.groups g) ≡ true
  pub key : kept_key groups (Own g i) ≡ o
  pub group : g < length groups
  pub inside : (k : GroupKeys) → slice_get groups g ≡ Some k → i < length k.own.items

pub size_of_group : (plan : PlanView) (groups : List GroupKeys) (g : ℕ) (k : GroupKeys) → KeepsKeys plan groups → slice_get groups g ≡ Some k → length k.own.items ≡ size plan.groups g
size_of_group plan groups g k keeps at = sym (ap owns_of at) ∙ keeps.owns g

pub rows_of_group : (plan : PlanView) (groups : List GroupKeys) (g : ℕ) (k : GroupKeys) → KeepsKeys plan groups → slice_get groups g ≡ Some k → length k.lower.items ≡ size plan.groups g
rows_of_group plan groups g k keeps at = sym (ap rows_of at) ∙ keeps.rows g

pub past_slot : {X : Type 0} (xs : List X) (i : ℕ) → slice_get xs i ≡ None → length xs ≤ i
past_slot [] i e = omega arith
past_slot (x ∷ xs) zero e = absurd (false≢true (sym (ap is_some e)))
past_slot (x ∷ xs) (suc i) e = omega (arith, past_slot xs i e)

pub own-outside : (plan : PlanView) (groups : List GroupKeys) (g i : ℕ) (o : Option GroupKeys) → KeepsKeys plan groups → slice_get groups g ≡ o → own_slot o i ≡ None →
    nat_lt i (size plan.groups g) ≡ false
own-outside plan groups g i None keeps at e = le-ltb i (size plan.groups g) (omega (arith, sym (ap owns_of at) ∙ keeps.owns g))
own-outside plan groups g i (Some k) keeps at e = le-ltb i (size plan.groups g) (omega (arith, past_slot k.own.items i e, size_of_group plan groups g k keeps at))

pub own-place : (plan : PlanView) (groups : List GroupKeys) (g i : ℕ) (o : Option GroupKeys) (slot : Option (List ℕ)) → KeepsKeys plan groups → slice_get groups g ≡ o → own_slot o i ≡ Some slot →
    IsOwnPlace plan groups g i slot
own-place plan groups g i None slot keeps at e = absurd (false≢true (ap is_some e))
own-place plan groups g i (Some k) slot keeps at e =
    let less : i < length k.own.items = slice_get_within k.own.items i slot e in
    record {
      of_plan = lt-ltb i (size plan.groups g) (omega (arith, less, size_of_group plan groups g k keeps at));
      key = ap (λ o. own_in o i) at ∙ get_or_from_slice_get k.own.items i slot None e;
      group = slice_get_within groups g k at;
      inside = λ k' at'. omega (arith, less, size_of_group plan groups g k keeps at, size_of_group plan groups g k' keeps at');
    }

pub record IsPairPlace (plan : PlanView) (groups : List GroupKeys) (g low high : ℕ) (o : Option (List ℕ)) : Type 0 where
  pub of_plan : (nat_lt low high && nat_lt high (size plan.groups g)) ≡ true
  pub key : kept_key groups (Pair g low high) ≡ o
  pub group : g < length groups
  pub room : (k : GroupKeys) → slice_get groups g ≡ Some k → high < length k.lower.items
  pub inside : (k : GroupKeys) (row : Row) → slice_get groups g ≡ Some k → slice_get k.lower.items high ≡ Some row → low < length row.items

pub row-length : (plan : PlanView) (groups : List GroupKeys) (g high : ℕ) (k : GroupKeys) (row : Row) → KeepsKeys plan groups → slice_get groups g ≡ Some k → slice_get k.lower.items high ≡ Some row →
    high < size plan.groups g → length row.items ≡ high
row-length plan groups g high k row keeps at row_at less = sym (ap (λ o. length_of (row_in o high)) at ∙ ap length_of row_at) ∙ keeps.each g high less

pub pair-outside : (plan : PlanView) (groups : List GroupKeys) (g low high : ℕ) (o : Option GroupKeys) (r : Option Row) → KeepsKeys plan groups → slice_get groups g ≡ o → row_in o high ≡ r → pair_slot r low ≡ None →
    (nat_lt low high && nat_lt high (size plan.groups g)) ≡ false
pair-outside plan groups g low high None r keeps at row_at e = grind (arith, le-ltb high (size plan.groups g) (omega (arith, sym (ap rows_of at) ∙ keeps.rows g)))
pair-outside plan groups g low high (Some k) None keeps at row_at e =
    grind (arith, le-ltb high (size plan.groups g) (omega (arith, past_slot k.lower.items high row_at, rows_of_group plan groups g k keeps at)))
pair-outside plan groups g low high (Some k) (Some row) keeps at row_at e =
    let less : high < size plan.groups g = omega (arith, slice_get_within k.lower.items high row row_at, rows_of_group plan groups g k keeps at) in
    grind (arith, le-ltb low high (omega (arith, past_slot row.items low e, row-length plan groups g high k row keeps at row_at less)))

pub pair-place : (plan : PlanView) (groups : List GroupKeys) (g low high : ℕ) (o : Option GroupKeys) (r : Option Row) (slot : Option (List ℕ)) → KeepsKeys plan groups → slice_get groups g ≡ o → row_in o high ≡ r →
    pair_slot r low ≡ Some slot → IsPairPlace plan groups g low high slot
pair-place plan groups g low high None r slot keeps at row_at e = absurd (false≢true (ap is_some (ap (λ x. pair_slot x low) row_at ∙ e)))
pair-place plan groups g low high (Some k) None slot keeps at row_at e = absurd (false≢true (ap is_some e))
pair-place plan groups g low high (Some k) (Some row) slot keeps at row_at e =
    let less : high < size plan.groups g = omega (arith, slice_get_within k.lower.items high row row_at, rows_of_group plan groups g k keeps at) in
    let below : low < high = omega (arith, slice_get_within row.items low slot e, row-length plan groups g high k row keeps at row_at less) in
    record {
      of_plan = grind (arith, lt-ltb low high below, lt-ltb high (size plan.groups g) less);
      key = ap (λ o. key_in (row_in o high) low) at ∙ ap (λ o. key_in o low) row_at ∙ get_or_from_slice_get row.items low slot None e;
      group = slice_get_within groups g k at;
      room = λ k' at'. omega (arith, less, rows_of_group plan groups g k' keeps at');
      inside = λ k' row' at' row_at'. omega (arith, below, row-length plan groups g high k' row' keeps at' row_at' less);
    }
