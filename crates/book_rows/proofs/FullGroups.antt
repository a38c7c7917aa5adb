-- Groups whose every meter has the same reading.
use Rattle.std.proofs.Common.{◌≡◌, ℕ, zero, suc, ◌+◌, ◌<◌, ◌≤◌, ◌^◌, true, List, ◌∷◌, replicate, Some, None, is_some, refl, sym, ap, ap₂, subst, arith, ⊎_elim, slice_index_or}
use Rattle.std.specs.List.{range_with_len}
use Rattle.std.proofs.lemmas.List.{get_or-replicate}
use Rattle.std.proofs.lemmas.Bool.{false≢true, cases_eq, eq-eqb, ne_eqb}
use Rattle.missing_round.specs.Sets.{is_member}
use Rattle.missing_round.specs.Words.{group}
use Rattle.blind_core.specs.Blind.{AreReadings}
use Rattle.blind_core.specs.Columns.{column}

is_member-range : (a n i : ℕ) → a ≤ i → i < a + n → is_member i (range_with_len a n) ≡ true
is_member-range a zero i l u = absurd (omega arith)
is_member-range a (suc n) i l u = ⊎_elim
    (λ e. grind (arith, eq-eqb a i e))
    (λ ne. grind (arith, ne_eqb a i ne, is_member-range (a + 1) n i (omega arith) (omega arith)))
    (cases_eq a i)

repeated : (n i v x : ℕ) → slice_index_or (replicate n (Some v)) i None ≡ Some x → (i < n) × (x ≡ v)
repeated zero i v x e = absurd (false≢true (ap is_some e))
repeated (suc n) zero v x e = (omega arith, cc)
repeated (suc n) (suc i) v x e = let r = repeated n i v x e in (omega (arith, r.0), r.1)

pub full_readings : (n v : ℕ) (members : List ℕ) → members ≡ group n → v < 2 ^ 40 → AreReadings members (replicate n (Some v))
full_readings n v members full small = record {
  small = λ i x e. omega (arith, (repeated n i v x e).1, small);
  member = λ i x e. subst (λ (l : List ℕ). is_member i l ≡ true) (sym full) (is_member-range 0 n i (omega arith) (omega (arith, (repeated n i v x e).0)));
}

column_full : (n v j : ℕ) → j < 8 → column None j (replicate n (replicate 8 (Some v))) ≡ replicate n (Some v)
column_full zero v j h = refl
column_full (suc n) v j h = ap₂ (λ x xs. x ∷ xs) (get_or-replicate 8 j (Some v) None h) (column_full n v j h)

-- the same in eight rounds
pub full_rows : (n v : ℕ) (members : List ℕ) → members ≡ group n → v < 2 ^ 40 → (j : ℕ) → j < 8 → AreReadings members (column None j (replicate n (replicate 8 (Some v))))
full_rows n v members full small j h = subst (AreReadings members) (sym (column_full n v j h)) (full_readings n v members full small)
