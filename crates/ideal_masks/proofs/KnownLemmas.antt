-- What a pool knows of the places before one, and of those outside the plan.
use Rattle.std.proofs.Common.{◌≡◌, ℕ, ◌+◌, ◌≤◌, Bool, true, false, cond, refl, sym, ap, ◌∙◌, arith}
use Rattle.std.specs.Prelude.{Option, Some, None, is_some}
use Rattle.std.proofs.lemmas.Bool.Decides.{nat_tests}
use Rattle.group_plan.specs.Plans.{PlanView}
use Rattle.group_plan.specs.Tables.{reading, IsReadingTable}
use Rattle.event_schedule.specs.Tables.{Readings}
use Rattle.ideal_masks.specs.Pools.{Pool}
use Rattle.ideal_masks.specs.ListTables.{ReadingTable}
use Rattle.ideal_masks.specs.OffsetEnds.{is_earlier}
use Rattle.ideal_masks.specs.AgreementParts.{known_reading, AreKnownBefore}
use Rattle.ideal_masks.proofs.Isolation.{present_in_plan}

none-if : (o : Option ℕ) → (is_some o ≡ true → ⊥) → o ≡ None
none-if None absent = refl
none-if (Some v) absent = absurd (absent refl)

pub reading-after : (plan : PlanView) (t : ReadingTable) → IsReadingTable plan t → (g r i : ℕ) → plan.rounds ≤ r → reading t g r i ≡ None
reading-after plan t fits g r i past = none-if (reading t g r i) (λ there. let lt = (present_in_plan plan t fits g r i there).round_in in absurd (omega arith))

-- both have no reading in rounds after the last
pub known-after : (pool : Pool) (plan : PlanView) (x y : ReadingTable) → IsReadingTable plan x → IsReadingTable plan y → (g r i : ℕ) → plan.rounds ≤ r → known_reading pool (reading x) g r i ≡ known_reading pool (reading y) g r i
known-after pool plan x y x_fits y_fits g r i past =
    ap (λ v. cond (pool g i) v None) (reading-after plan x x_fits g r i past ∙ sym (reading-after plan y y_fits g r i past))

pub known-group : (pool : Pool) (x y : Readings) (g r : ℕ) → AreKnownBefore pool x y g r 0 → ((b c : ℕ) → r ≤ b → known_reading pool x g b c ≡ known_reading pool y g b c) → AreKnownBefore pool x y (g + 1) 0 0
known-group pool x y g r before past a b c earlier = step (is_earlier a b c g r 0) refl
  where
    one_more : (a b c : ℕ) → is_earlier a b c (g + 1) 0 0 ≡ true → is_earlier a b c g r 0 ≡ false → (a ≡ g) × (r ≤ b)
    one_more a b c h k = (grind (arith, nat_tests, h, k), grind (arith, nat_tests, h, k))

    step : (t : Bool) → is_earlier a b c g r 0 ≡ t → known_reading pool x a b c ≡ known_reading pool y a b c
    step true is = before a b c is
    step false is = let at = one_more a b c earlier is in rw at.0 (past b c at.1)
