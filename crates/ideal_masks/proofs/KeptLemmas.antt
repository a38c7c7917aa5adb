-- What is kept of a mask table is that table, and stays one when a word changes.
use Rattle.std.proofs.Common.{◌≡◌, ℕ, suc, ◌+◌, ◌-◌, ◌^◌, ◌<◌, Bool, true, false, List, [], length, map, get_or, set, refl, sym, ap, ◌∙◌, subst, ⊎_elim, arith}
use Rattle.std.specs.List.{All}
use Rattle.std.proofs.Math.ListN.{get_or-map}
use Rattle.std.proofs.lemmas.List.{length-map, length-set, get_or-set_same, get_or-set_other, map-set, set-get_or}
use Rattle.std.proofs.lemmas.Bool.{cases_eq, cases_lt}
use Rattle.std.proofs.lemmas.Bool.Decides.{nat_tests}
use Rattle.std.proofs.lemmas.List.{get_or_past, get_or_default}
use Rattle.std.proofs.lemmas.List.Elements.{All-get_or}
use Rattle.std.proofs.lemmas.List.FromFn.{length-map-range_with_len}
use Rattle.group_plan.specs.Plans.{PlanView, size, is_place, IsWithinLimits}
use Rattle.group_plan.specs.Tables.{Table, entry, table_of, IsTable, is_same_place}
use Rattle.group_plan.proofs.MeterNumbers.{group-lt, in_place}
use Rattle.group_plan.proofs.TableLemmas.{is_table-table_of, entry_outside}
use Rattle.event_schedule.specs.Tables.{Masks}
use Rattle.ideal_masks.specs.ListTables.{tabulate, masks_in, mask_table_of, IsMaskTable}
use Rattle.ideal_masks.specs.KeptMasks.{MeterView, no_words, meter_of, round_of, group_of, kept_words, KeepsMeter, KeepsMasks, IsSmall, HasWords, change_round, with_own, with_pair, is_same_pair, SetsOwn, SetsPair}
use Rattle.ideal_masks.proofs.Tabulated.{change, change-here, change-elsewhere, change-shape}
use Rattle.ideal_masks.proofs.TableLemmas.{get_or-tabulate, table_of-same}

-- ---- reading what is kept

pub own-kept : (groups : List (List (List MeterView))) (g r i : ℕ) → (masks_in (kept_words groups)).own g r i ≡ (entry no_words groups g r i).own
own-kept groups g r i =
    ap (λ t. get_or (get_or t r []) i 0) (get_or-map (map (map (λ m. m.own))) groups g [])
    ∙ ap (λ t. get_or t i 0) (get_or-map (map (λ m. m.own)) (get_or groups g []) r [])
    ∙ get_or-map (λ m. m.own) (get_or (get_or groups g []) r []) i no_words

row-kept : (groups : List (List (List MeterView))) (g r i : ℕ) → get_or (get_or (get_or (kept_words groups).pair g []) r []) i [] ≡ (entry no_words groups g r i).higher
row-kept groups g r i =
    ap (λ t. get_or (get_or t r []) i []) (get_or-map (map (map (λ m. m.higher))) groups g [])
    ∙ ap (λ t. get_or t i []) (get_or-map (map (λ m. m.higher)) (get_or groups g []) r [])
    ∙ get_or-map (λ m. m.higher) (get_or (get_or groups g []) r []) i no_words

pub pair-kept : (groups : List (List (List MeterView))) (g r i j : ℕ) → (masks_in (kept_words groups)).pair g r i j ≡ get_or (entry no_words groups g r i).higher (j - suc i) 0
pair-kept groups g r i j = ap (λ l. get_or l (j - suc i) 0) (row-kept groups g r i)

-- a place of a table
pub record InTable (plan : PlanView) (g r i : ℕ) : Type 0 where
  pub group : g < length plan.groups
  pub round : r < plan.rounds
  pub meter : i < size plan.groups g

pub place-in : (plan : PlanView) (g r i : ℕ) → is_place plan g r i ≡ true → InTable plan g r i
place-in plan g r i is =
    let both = in_place plan g r i is in
    record { group = group-lt plan.groups g i both.1; round = both.0; meter = both.1 }

pub below-in : (plan : PlanView) (g r i j : ℕ) → i < j → InTable plan g r j → InTable plan g r i
below-in plan g r i j below at = let within = at.meter in record { group = at.group; round = at.round; meter = omega arith }

-- ---- what is kept is a table

is_table-map : {X Y : Type 0} (plan : PlanView) (f : X → Y) (t : Table X) → IsTable plan t → IsTable plan (map (map (map f)) t)
is_table-map plan f t fits = record {
  groups = length-map t (map (map f)) ∙ fits.groups;
  rounds = λ g g_in. ap length (get_or-map (map (map f)) t g []) ∙ length-map (get_or t g []) (map f) ∙ fits.rounds g g_in;
  meters = λ g r g_in r_in.
      ap (λ l. length (get_or l r [])) (get_or-map (map (map f)) t g [])
      ∙ ap length (get_or-map (map f) (get_or t g []) r [])
      ∙ length-map (get_or (get_or t g []) r []) f ∙ fits.meters g r g_in r_in;
}

-- also where the table has nothing
each_meter : (plan : PlanView) (groups : List (List (List MeterView))) → KeepsMasks plan groups → (P : MeterView → Type 0) → P no_words
    → ((n i : ℕ) (m : MeterView) → KeepsMeter n i m → P m) → (g r i : ℕ) → P (entry no_words groups g r i)
each_meter plan groups keeps P none some g r i = step (is_place plan g r i) refl
  where
    step : (b : Bool) → is_place plan g r i ≡ b → P (entry no_words groups g r i)
    step true is = let at = place-in plan g r i is in some (size plan.groups g) i (entry no_words groups g r i) (keeps.meters g r i at.group at.round at.meter)
    step false is = rw (entry_outside plan groups keeps.shape no_words g r i is) none

pub keeps-table : (plan : PlanView) (groups : List (List (List MeterView))) → KeepsMasks plan groups → IsMaskTable plan (kept_words groups)
keeps-table plan groups keeps = record {
  own = is_table-map plan (λ m. m.own) groups keeps.shape;
  pair = is_table-map plan (λ m. m.higher) groups keeps.shape;
  highs = λ g r i g_in r_in i_in. ap length (row-kept groups g r i) ∙ (keeps.meters g r i g_in r_in i_in).long;
  own_words = λ g r i. rw (own-kept groups g r i) (each_meter plan groups keeps (λ m. m.own < 2 ^ 64) (omega arith) (λ n k m is. is.own) g r i);
  pair_words = λ g r i j. rw (pair-kept groups g r i j) (each_meter plan groups keeps (λ m. get_or m.higher (j - suc i) 0 < 2 ^ 64) (omega arith) (λ n k m is. is.higher (j - suc i)) g r i);
}

-- ---- a table as it is made

record Made (plan : PlanView) (m : Masks) (groups : List (List (List MeterView))) (g r i : ℕ) : Type 0 where
  is : entry no_words groups g r i ≡ meter_of m g r (size plan.groups g) i
  small : IsSmall (entry no_words groups g r i)

made : (plan : PlanView) (m : Masks) (groups : List (List (List MeterView))) → groups ≡ tabulate (length plan.groups) (group_of plan m) → All (All (All IsSmall)) groups
    → (g r i : ℕ) → g < length plan.groups → r < plan.rounds → i < size plan.groups g → Made plan m groups g r i
unfolding table_of
made plan m groups is small g r i g_in r_in i_in =
    let shape : IsTable plan groups = rw is (is_table-table_of plan (λ h q k. meter_of m h q (size plan.groups h) k)) in
    record {
      is =
          ap (λ t. entry no_words t g r i) is
          ∙ ap (λ l. get_or (get_or l r []) i no_words) (get_or-tabulate (length plan.groups) (group_of plan m) g [] g_in)
          ∙ ap (λ l. get_or l i no_words) (get_or-tabulate plan.rounds (round_of m g (size plan.groups g)) r [] r_in)
          ∙ get_or-tabulate (size plan.groups g) (meter_of m g r (size plan.groups g)) i no_words i_in;
      small =
          All-get_or IsSmall (get_or (get_or groups g []) r []) i no_words (rw (shape.meters g r g_in r_in) i_in)
          (All-get_or (All IsSmall) (get_or groups g []) r [] (rw (shape.rounds g g_in) r_in)
          (All-get_or (All (All IsSmall)) groups g [] (rw shape.groups g_in) small));
    }

small_at : (xs : List ℕ) → All (λ w. w < 2 ^ 64) xs → (k : ℕ) → get_or xs k 0 < 2 ^ 64
small_at xs all k =
    ⊎_elim (λ lt. All-get_or (λ w. w < 2 ^ 64) xs k 0 lt all) (λ past. rw (get_or_past xs k 0 past) (omega arith)) (cases_lt k (length xs))

pub made-keeps : (plan : PlanView) (m : Masks) (groups : List (List (List MeterView))) → IsWithinLimits plan → groups ≡ tabulate (length plan.groups) (group_of plan m) → All (All (All IsSmall)) groups
    → KeepsMasks plan groups
unfolding table_of
made-keeps plan m groups within is small = record {
  within = within;
  shape = rw is (is_table-table_of plan (λ h q k. meter_of m h q (size plan.groups h) k));
  meters = λ g r i g_in r_in i_in.
      let at = made plan m groups is small g r i g_in r_in i_in in
      record {
        long = ap (λ w. length w.higher) at.is ∙ length-map-range_with_len (λ k. m.pair g r i (suc i + k)) 0 (size plan.groups g - suc i);
        own = at.small.0;
        higher = small_at (entry no_words groups g r i).higher at.small.1;
      };
}

pub made-words : (plan : PlanView) (m : Masks) (groups : List (List (List MeterView))) → IsWithinLimits plan → groups ≡ tabulate (length plan.groups) (group_of plan m) → All (All (All IsSmall)) groups
    → kept_words groups ≡ mask_table_of plan m
made-words plan m groups within is small =
    sym (table_of-same plan (kept_words groups) m (keeps-table plan groups (made-keeps plan m groups within is small))
    (λ g r i g_in r_in i_in. ap (λ w. w.own) (sym (made plan m groups is small g r i g_in r_in i_in).is) ∙ sym (own-kept groups g r i))
    (λ g r i j g_in r_in above j_in.
    let place : suc i + (j - suc i) ≡ j = omega arith in
    ap (m.pair g r i) (sym place)
    ∙ sym (get_or-tabulate (size plan.groups g - suc i) (λ k. m.pair g r i (suc i + k)) (j - suc i) 0 (omega arith))
    ∙ ap (λ w. get_or w.higher (j - suc i) 0) (sym (made plan m groups is small g r i g_in r_in (omega arith)).is)
    ∙ sym (pair-kept groups g r i j)))

-- ---- a word changes

-- the words v of a group
pub record Found (plan : PlanView) (groups : List (List (List MeterView))) (g r i : ℕ) (v : List (List MeterView)) : Type 0 where
  pub is : v ≡ get_or groups g []
  pub round : r < length v
  pub meter : i < length (get_or v r [])
  pub long : length (get_or (get_or v r []) i no_words).higher ≡ size plan.groups g - suc i

pub found : (plan : PlanView) (groups : List (List (List MeterView))) (g r i : ℕ) (v : List (List MeterView)) → InTable plan g r i → KeepsMasks plan groups → v ≡ get_or groups g v → Found plan groups g r i v
found plan groups g r i v at keeps read =
    let is : v ≡ get_or groups g [] = read ∙ get_or_default groups g v [] (rw keeps.shape.groups at.group) in
    subst (Found plan groups g r i) (sym is) (record {
      is = refl;
      round = rw (keeps.shape.rounds g at.group) at.round;
      meter = rw (keeps.shape.meters g r at.group at.round) at.meter;
      long = (keeps.meters g r i at.group at.round at.meter).long;
    })

-- what a group's words become, as a change of the table
pub set_is : (groups : List (List (List MeterView))) (g r i : ℕ) (f : MeterView → MeterView) (v new : List (List MeterView)) → v ≡ get_or groups g [] → new ≡ change_round r i f v
    → set groups g new ≡ change no_words g r i f groups
set_is groups g r i f v new is changed = ap (set groups g) (changed ∙ ap (change_round r i f) is)

pub keeps-change : (plan : PlanView) (groups : List (List (List MeterView))) (g r i : ℕ) (f : MeterView → MeterView) → InTable plan g r i → KeepsMasks plan groups
    → (KeepsMeter (size plan.groups g) i (entry no_words groups g r i) → KeepsMeter (size plan.groups g) i (f (entry no_words groups g r i)))
    → KeepsMasks plan (change no_words g r i f groups)
keeps-change plan groups g r i f at keeps stays =
    let g_t : g < length groups = rw keeps.shape.groups at.group in
    let r_t : r < length (get_or groups g []) = rw (keeps.shape.rounds g at.group) at.round in
    let i_t : i < length (get_or (get_or groups g []) r []) = rw (keeps.shape.meters g r at.group at.round) at.meter in
    record {
      within = keeps.within;
      shape = change-shape plan no_words g r i f groups at.group at.round keeps.shape;
      meters = λ a b c a_in b_in c_in. step a b c a_in b_in c_in (is_same_place g r i a b c) refl g_t r_t i_t;
    }
  where
    same : (a b c : ℕ) → is_same_place g r i a b c ≡ true → (a ≡ g) × (b ≡ r) × (c ≡ i)
    same a b c is = (grind (arith, nat_tests, is), grind (arith, nat_tests, is), grind (arith, nat_tests, is))

    step : (a b c : ℕ) → a < length plan.groups → b < plan.rounds → c < size plan.groups a → (t : Bool) → is_same_place g r i a b c ≡ t
        → g < length groups → r < length (get_or groups g []) → i < length (get_or (get_or groups g []) r [])
        → KeepsMeter (size plan.groups a) c (entry no_words (change no_words g r i f groups) a b c)
    step a b c a_in b_in c_in true is g_t r_t i_t =
        let eq = same a b c is in
        rw (eq.0, eq.1, eq.2, change-here no_words g r i f groups g_t r_t i_t) (stays (keeps.meters g r i at.group at.round at.meter))
    step a b c a_in b_in c_in false is g_t r_t i_t =
        rw (change-elsewhere no_words g r i f groups g_t r_t a b c is) (keeps.meters a b c a_in b_in c_in)

pub own-stays : (n i word : ℕ) (m : MeterView) → word < 2 ^ 64 → KeepsMeter n i m → KeepsMeter n i (with_own word m)
own-stays n i word m small keeps = record { long = keeps.long; own = small; higher = keeps.higher }

pub pair-stays : (n i k word : ℕ) (m : MeterView) → word < 2 ^ 64 → k < n - suc i → KeepsMeter n i m → KeepsMeter n i (with_pair k word m)
pair-stays n i k word m small lt keeps = record {
  long = length-set m.higher k word ∙ keeps.long;
  own = keeps.own;
  higher = λ j. ⊎_elim
      (λ (same : j ≡ k). subst (λ w. w < 2 ^ 64) (sym (ap (λ q. get_or (set m.higher k word) q 0) same ∙ get_or-set_same m.higher k word 0 (rw keeps.long lt))) small)
      (λ ne. subst (λ w. w < 2 ^ 64) (sym (get_or-set_other m.higher k j word 0 ne)) (keeps.higher j))
      (cases_eq j k);
}

-- an element that looks the same changes nothing
same-map : {X Y : Type 0} (h : X → Y) (xs : List X) (k : ℕ) (x d : X) → h x ≡ h (get_or xs k d) → map h (set xs k x) ≡ map h xs
same-map h xs k x d e = map-set h xs k x ∙ ap (set (map h xs) k) (e ∙ sym (get_or-map h xs k d)) ∙ set-get_or (map h xs) k (h d)

same-table : {Y : Type 0} (h : MeterView → Y) (f : MeterView → MeterView) → ((m : MeterView) → h (f m) ≡ h m) → (groups : List (List (List MeterView))) (g r i : ℕ)
    → map (map (map h)) (change no_words g r i f groups) ≡ map (map (map h)) groups
same-table h f same groups g r i =
    let meters = get_or (get_or groups g []) r [] in
    same-map (map (map h)) groups g (set (get_or groups g []) r (set meters i (f (entry no_words groups g r i)))) []
    (same-map (map h) (get_or groups g []) r (set meters i (f (entry no_words groups g r i))) []
    (same-map h meters i (f (entry no_words groups g r i)) no_words (same (entry no_words groups g r i))))

pub sets-own : (plan : PlanView) (groups : List (List (List MeterView))) (g r i word : ℕ) → InTable plan g r i → KeepsMasks plan groups
    → SetsOwn (record { plan = plan; words = kept_words groups }) g r i word (record { plan = plan; words = kept_words (change no_words g r i (with_own word) groups) })
sets-own plan groups g r i word at keeps =
    let g_t : g < length groups = rw keeps.shape.groups at.group in
    let r_t : r < length (get_or groups g []) = rw (keeps.shape.rounds g at.group) at.round in
    let i_t : i < length (get_or (get_or groups g []) r []) = rw (keeps.shape.meters g r at.group at.round) at.meter in
    record {
      plan = refl;
      here = own-kept (change no_words g r i (with_own word) groups) g r i ∙ ap (λ m. m.own) (change-here no_words g r i (with_own word) groups g_t r_t i_t);
      elsewhere = λ a b c other.
          own-kept (change no_words g r i (with_own word) groups) a b c
          ∙ ap (λ m. m.own) (change-elsewhere no_words g r i (with_own word) groups g_t r_t a b c other)
          ∙ sym (own-kept groups a b c);
      pairs = same-table (λ m. m.higher) (with_own word) (λ m. refl) groups g r i;
    }

pub sets-pair : (plan : PlanView) (groups : List (List (List MeterView))) (g r i j k word : ℕ) → InTable plan g r j → i < j → k ≡ j - suc i → KeepsMasks plan groups
    → SetsPair (record { plan = plan; words = kept_words groups }) g r i j word (record { plan = plan; words = kept_words (change no_words g r i (with_pair k word) groups) })
sets-pair plan groups g r i j k word at below is keeps =
    let i_in : i < size plan.groups g = let j_in = at.meter in omega arith in
    let g_t : g < length groups = rw keeps.shape.groups at.group in
    let r_t : r < length (get_or groups g []) = rw (keeps.shape.rounds g at.group) at.round in
    let i_t : i < length (get_or (get_or groups g []) r []) = rw (keeps.shape.meters g r at.group at.round) i_in in
    let long = (keeps.meters g r i at.group at.round i_in).long in
    let k_in : k < length (entry no_words groups g r i).higher = let j_in = at.meter in rw long (omega arith) in
    record {
      plan = refl;
      here =
          pair-kept (change no_words g r i (with_pair k word) groups) g r i j
          ∙ ap (λ m. get_or m.higher (j - suc i) 0) (change-here no_words g r i (with_pair k word) groups g_t r_t i_t)
          ∙ ap (λ n. get_or (set (entry no_words groups g r i).higher k word) n 0) (sym is)
          ∙ get_or-set_same (entry no_words groups g r i).higher k word 0 k_in;
      elsewhere = λ a b c d c_below other.
          pair-kept (change no_words g r i (with_pair k word) groups) a b c d
          ∙ step a b c d c_below other (is_same_place g r i a b c) refl g_t r_t i_t
          ∙ sym (pair-kept groups a b c d);
      owns = same-table (λ m. m.own) (with_pair k word) (λ m. refl) groups g r i;
    }
  where
    same : (a b c : ℕ) → is_same_place g r i a b c ≡ true → (a ≡ g) × (b ≡ r) × (c ≡ i)
    same a b c is = (grind (arith, nat_tests, is), grind (arith, nat_tests, is), grind (arith, nat_tests, is))

    other_place : (a b c d : ℕ) → c < d → is_same_pair g r i j a b c d ≡ false → is_same_place g r i a b c ≡ true → d - suc c ≡ k → ⊥
    other_place a b c d c_below other here at_k =
        let eq = same a b c here in
        let c_is = eq.2 in
        let d_is : d ≡ j = omega arith in
        grind (arith, nat_tests, other, here, d_is)

    step : (a b c d : ℕ) → c < d → is_same_pair g r i j a b c d ≡ false → (t : Bool) → is_same_place g r i a b c ≡ t
        → g < length groups → r < length (get_or groups g []) → i < length (get_or (get_or groups g []) r [])
        → get_or (entry no_words (change no_words g r i (with_pair k word) groups) a b c).higher (d - suc c) 0 ≡ get_or (entry no_words groups a b c).higher (d - suc c) 0
    step a b c d c_below other true here g_t r_t i_t =
        let eq = same a b c here in
        let ne : (d - suc c ≡ k → ⊥) = other_place a b c d c_below other here in
        rw (eq.0, eq.1, eq.2)
        (ap (λ m. get_or m.higher (d - suc i) 0) (change-here no_words g r i (with_pair k word) groups g_t r_t i_t)
        ∙ get_or-set_other (entry no_words groups g r i).higher k (d - suc i) word 0 (λ e. ne (let c_is = eq.2 in ap (λ z. d - suc z) c_is ∙ e)))
    step a b c d c_below other false here g_t r_t i_t =
        ap (λ m. get_or m.higher (d - suc c) 0) (change-elsewhere no_words g r i (with_pair k word) groups g_t r_t a b c here)

-- ---- the words of a meter

pub has-words : (plan : PlanView) (groups : List (List (List MeterView))) (g r i : ℕ) (m : MeterView) → InTable plan g r i → KeepsMasks plan groups → m ≡ entry no_words groups g r i
    → HasWords (record { plan = plan; words = kept_words groups }) g r i m
has-words plan groups g r i m at keeps is = rw is (record {
  own = sym (own-kept groups g r i);
  higher = λ j. sym (pair-kept groups g r i j);
  long = (keeps.meters g r i at.group at.round at.meter).long;
})
