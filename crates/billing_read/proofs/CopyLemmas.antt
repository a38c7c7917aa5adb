-- The changed table while it is made, place by place.
use Rattle.std.proofs.Common.{◌≡◌, ℕ, ◌+◌, ◌≤◌, Bool, true, false, refl, sym, ap, ◌∙◌, arith}
use Rattle.std.specs.Prelude.{nat_lt, Option, None}
use Rattle.std.specs.Option.{option_map}
use Rattle.std.proofs.lemmas.Bool.Decides.{nat_tests}
use Rattle.group_plan.specs.Plans.{PlanView, is_place, size}
use Rattle.group_plan.specs.Tables.{ReadingsView, reading, IsReadingTable, PutsReading, is_same_place}
use Rattle.group_plan.proofs.TableLemmas.{entry_outside}
use Rattle.event_schedule.specs.Tables.{Readings}
use Rattle.ideal_masks.specs.OffsetEnds.{is_earlier}
use Rattle.billing_read.specs.declared.partners.Partner.{Partner}
use Rattle.billing_read.specs.Partners.{changed, move_of, moved}
use Rattle.billing_read.specs.Changes.{HasBefore}

-- one place more
pub put_more : (f : Readings) (y z : ReadingsView) (g r i : ℕ) (v : Option ℕ) → HasBefore f y g r i → PutsReading y g r i v z → v ≡ f g r i → HasBefore f z g r (i + 1)
put_more f y z g r i v before puts is a b c earlier = step (is_same_place g r i a b c) refl
  where
    same_group : is_same_place g r i a b c ≡ true → a ≡ g
    same_group at = grind (arith, nat_tests, at)

    same_round : is_same_place g r i a b c ≡ true → b ≡ r
    same_round at = grind (arith, nat_tests, at)

    same_meter : is_same_place g r i a b c ≡ true → c ≡ i
    same_meter at = grind (arith, nat_tests, at)

    was_before : is_same_place g r i a b c ≡ false → is_earlier a b c g r i ≡ true
    was_before off = grind (arith, nat_tests, off, earlier)

    step : (t : Bool) → is_same_place g r i a b c ≡ t → reading z.table a b c ≡ f a b c
    step true at = rw (same_group at, same_round at, same_meter at) (puts.here ∙ is)
    step false off = puts.elsewhere a b c off ∙ before a b c (was_before off)

-- one round more, where none is left in this one
pub round_more : (f : Readings) (y : ReadingsView) (g r n : ℕ) → HasBefore f y g r n → ((c : ℕ) → n ≤ c → reading y.table g r c ≡ f g r c) → HasBefore f y g (r + 1) 0
round_more f y g r n before rest a b c earlier = step (is_earlier a b c g r n) refl
  where
    left : is_earlier a b c g r n ≡ false → (a ≡ g) × (b ≡ r) × (n ≤ c)
    left off = (grind (arith, nat_tests, off, earlier), grind (arith, nat_tests, off, earlier), grind (arith, nat_tests, off, earlier))

    step : (t : Bool) → is_earlier a b c g r n ≡ t → reading y.table a b c ≡ f a b c
    step true at = before a b c at
    step false off = let place = left off in rw (place.0, place.1) (rest c place.2)

-- one group more
pub group_more : (f : Readings) (y : ReadingsView) (g n : ℕ) → HasBefore f y g n 0 → ((b c : ℕ) → n ≤ b → reading y.table g b c ≡ f g b c) → HasBefore f y (g + 1) 0 0
group_more f y g n before rest a b c earlier = step (is_earlier a b c g n 0) refl
  where
    left : is_earlier a b c g n 0 ≡ false → (a ≡ g) × (n ≤ b)
    left off = (grind (arith, nat_tests, off, earlier), grind (arith, nat_tests, off, earlier))

    step : (t : Bool) → is_earlier a b c g n 0 ≡ t → reading y.table a b c ≡ f a b c
    step true at = before a b c at
    step false off = let place = left off in rw place.0 (rest b c place.1)

-- all groups
pub all_groups : (f : Readings) (y : ReadingsView) (n : ℕ) → HasBefore f y n 0 0 → ((a b c : ℕ) → n ≤ a → reading y.table a b c ≡ f a b c) → (a b c : ℕ) → reading y.table a b c ≡ f a b c
all_groups f y n before rest a b c = step (nat_lt a n) refl
  where
    is_before : nat_lt a n ≡ true → is_earlier a b c n 0 0 ≡ true
    is_before lt = grind (arith, nat_tests, lt)

    step : (t : Bool) → nat_lt a n ≡ t → reading y.table a b c ≡ f a b c
    step true lt = before a b c (is_before lt)
    step false le = rest a b c (grind (arith, nat_tests, le))

-- outside the plan neither table has a reading
pub none_outside : (x y : ReadingsView) (g r i : ℕ) (p : Partner) → IsReadingTable x.plan x.table → IsReadingTable y.plan y.table → y.plan ≡ x.plan → (a b c : ℕ) → is_place x.plan a b c ≡ false
    → reading y.table a b c ≡ changed (reading x.table) g r i p a b c
none_outside x y g r i p x_fits y_fits same a b c out =
    entry_outside y.plan y.table y_fits.shape None a b c (ap (λ z. is_place z a b c) same ∙ out)
    ∙ sym (ap (option_map (moved (move_of g r i p a b c))) (entry_outside x.plan x.table x_fits.shape None a b c out))

pub out_meter : (plan : PlanView) (a b c : ℕ) → size plan.groups a ≤ c → is_place plan a b c ≡ false
out_meter plan a b c le = grind (arith, nat_tests, le)

pub out_round : (plan : PlanView) (a b c : ℕ) → plan.rounds ≤ b → is_place plan a b c ≡ false
out_round plan a b c le = grind (arith, nat_tests, le)
