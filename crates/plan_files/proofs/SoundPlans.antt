-- A plan within the limits has numbers without fault.
use Rattle.std.proofs.Common.{◌≡◌, ◌∙◌, ◌<◌, ◌≤◌, ◌+◌, ◌*◌, ◌==◌, ◌&&◌, nat_le, nat_lt, ℕ, suc, Bool, true, false, List, [], ◌∷◌, ◌++◌, length, map, get_or, Option, Some, None, refl, sym, ap, arith, subst, bytes_eq, if◌then◌else◌, append_assoc}
use Rattle.std.proofs.lemmas.Bool.Decides.{nat_tests}
use Rattle.std.proofs.lemmas.Iterator.Adapters.{position_from-zero}
use Rattle.std.proofs.lemmas.List.{get_or_append_left, length-map}
use Rattle.std.proofs.lemmas.Slice.Eq.{bytes_eq-Decides}
use Rattle.std.specs.List.{position_from}
use Rattle.std.specs.Option.{option_map, option_or}
use Rattle.std.specs.Prelude.{position}
use Rattle.group_plan.specs.NewPlans.{first_fault, has_wrong_floor, has_wrong_meters, meters_of, pairs_of, position_of_name, same_name_from, stated, wrong_count, wrong_rounds, wrong_window}
use Rattle.group_plan.specs.Plans.{IsWithinLimits, PlanView}
use Rattle.group_plan.specs.declared.plan.GroupPlan.{GroupPlan}
use Rattle.group_plan.specs.declared.plan.PlanError.{PlanError}
use Rattle.group_plan.specs.declared.plan.PlanError.TheVariants as fault
use Rattle.group_plan.proofs.Groups.{all_meters-stated, all_pairs-stated}
use Rattle.group_plan.proofs.Limits.{head, none, stated-at}

-- ---- nothing is found

none_from : {X : Type 0} (t : X → Bool) (d : X) (i : ℕ) (xs : List X) → ((k : ℕ) → k < length xs → t (get_or xs k d) ≡ false) → position_from t i xs ≡ None
none_from t d i [] h = refl
none_from t d i (x ∷ xs) h =
    let first : t x ≡ false = h 0 (omega arith) in
    rw first (none_from t d (i + 1) xs (λ k lt. h (suc k) (omega (arith, lt))))

none_at : {X : Type 0} (t : X → Bool) (d : X) (xs : List X) → ((k : ℕ) → k < length xs → t (get_or xs k d) ≡ false) → position t xs ≡ None
none_at t d xs h = position_from-zero t xs ∙ none_from t d 0 xs h

-- ---- names

unlike : (a b : List ℕ) → ¬ (a ≡ b) → bytes_eq a b ≡ false
unlike a b h = by_test (bytes_eq a b) refl
  where
    by_test : (t : Bool) → bytes_eq a b ≡ t → bytes_eq a b ≡ false
    by_test true e = let same : a ≡ b = grind (arith, bytes_eq-Decides, e) in absurd (h same)
    by_test false e = e

-- all names differ
abbrev Differ : List GroupPlan → Type 0
Differ groups = (g h : ℕ) → g < h → h < length groups → ¬ ((get_or groups g none).name ≡ (get_or groups h none).name)

at_end : (before : List GroupPlan) (x : GroupPlan) (rest : List GroupPlan) → get_or (before ++ x ∷ rest) (length before) none ≡ x
at_end [] x rest = refl
at_end (b ∷ bs) x rest = at_end bs x rest

longer : (before : List GroupPlan) (x : GroupPlan) (rest : List GroupPlan) → length before < length (before ++ x ∷ rest)
longer [] x rest = omega arith
longer (b ∷ bs) x rest = let l = longer bs x rest in omega (arith, l)

no_same_name : (before rest : List GroupPlan) → Differ (before ++ rest) → same_name_from before rest ≡ None
unfolding same_name_from
no_same_name before [] differ = refl
no_same_name before (x ∷ rest) differ =
    let alone : position_of_name x.name before ≡ None =
    none_at (λ g. bytes_eq g.name x.name) none before (λ k lt. unlike (get_or before k none).name x.name (λ same.
    differ k (length before) lt (longer before x rest)
    (ap (λ g. g.name) (get_or_append_left before (x ∷ rest) none k lt) ∙ (same ∙ ap (λ g. g.name) (sym (at_end before x rest)))))) in
    rw alone (no_same_name (before ++ x ∷ []) rest (subst Differ (sym (append_assoc before (x ∷ []) rest)) differ))

names_differ : (plan : PlanView) → IsWithinLimits plan → Differ (map stated plan.groups)
names_differ plan limits g h lt within same =
    let long = length-map plan.groups stated in
    limits.names_differ g h lt (omega (arith, within, long))
    (ap (λ x. x.name) (sym (stated-at plan.groups g none (omega (arith, lt, within, long)))) ∙ (same ∙ ap (λ x. x.name) (stated-at plan.groups h none (omega (arith, within, long)))))

-- ---- numbers

each_stated : (plan : PlanView) (t : GroupPlan → Bool) → ((g : ℕ) → g < length plan.groups → t (head plan.groups g) ≡ false) → position t (map stated plan.groups) ≡ None
each_stated plan t h =
    none_at t none (map stated plan.groups) (λ k lt.
    let within : k < length plan.groups = omega (arith, lt, length-map plan.groups stated) in
    ap t (stated-at plan.groups k none within) ∙ h k within)

neither : {X : Type 0} (a b : Option X) → a ≡ None → b ≡ None → option_or a b ≡ None
neither a b h k = rw (h, k) refl

no_count : (groups : List GroupPlan) → 1 ≤ length groups → length groups ≤ 256 → wrong_count groups ≡ None
no_count groups some few =
    let a : (length groups == 0) ≡ false = grind (arith, nat_tests) in
    let b : nat_lt 256 (length groups) ≡ false = grind (arith, nat_tests) in
    rw (a, b) refl

no_rounds : (rounds : ℕ) → 1 ≤ rounds → rounds ≤ 4096 → wrong_rounds rounds ≡ None
no_rounds rounds a b =
    let t : (nat_le 1 rounds && nat_le rounds 4096) ≡ true = grind (arith, nat_tests) in
    rw t refl

no_window : (w1 w2 : ℕ) → 1 ≤ w1 → w1 ≤ 16 → 2 ≤ w2 → w2 ≤ 32 → wrong_window w1 w2 ≡ None
no_window w1 w2 a b c d =
    let t : (nat_le 1 w1 && nat_le w1 16 && nat_le 2 w2 && nat_le w2 32) ≡ true = grind (arith, nat_tests) in
    rw t refl

no_excess : (most n : ℕ) (e : PlanError) → n ≤ most → (if nat_lt most n then Some e else None) ≡ None
no_excess most n e le = let t : nat_lt most n ≡ false = grind (arith, nat_tests) in rw t refl

right_meters : (plan : PlanView) → IsWithinLimits plan → (g : ℕ) → g < length plan.groups → has_wrong_meters (head plan.groups g) ≡ false
right_meters plan limits g lt =
    let a = limits.two_meters g lt in
    let b = limits.meters g in
    grind (arith, nat_tests, a, b)

right_floor : (plan : PlanView) → IsWithinLimits plan → (g : ℕ) → g < length plan.groups → has_wrong_floor (head plan.groups g) ≡ false
right_floor plan limits g lt =
    let a = limits.floor_from g lt in
    let b = limits.floor_to g in
    grind (arith, nat_tests, a, b)

pub sound : (plan : PlanView) → IsWithinLimits plan → first_fault (map stated plan.groups) plan.rounds plan.w1 plan.w2 ≡ None
sound plan limits =
    let groups = map stated plan.groups in
    let long = length-map plan.groups stated in
    let some = limits.some_group in
    let few = limits.groups in
    let readings : plan.rounds * meters_of groups ≤ 131072 = subst (λ n. plan.rounds * n ≤ 131072) (all_meters-stated plan.groups) limits.readings in
    let pairs : pairs_of groups ≤ 1048576 = subst (λ n. n ≤ 1048576) (all_pairs-stated plan.groups) limits.pairs in
    neither _ _ (no_count groups (omega (arith, long, some)) (omega (arith, long, few)))
    (neither _ _ (no_same_name [] groups (names_differ plan limits))
    (neither _ _ (ap (option_map fault.Meters) (each_stated plan has_wrong_meters (right_meters plan limits)))
    (neither _ _ (ap (option_map fault.Floor) (each_stated plan has_wrong_floor (right_floor plan limits)))
    (neither _ _ (no_rounds plan.rounds limits.some_round limits.rounds)
    (neither _ _ (no_window plan.w1 plan.w2 limits.w1_from limits.w1_to limits.w2_from limits.w2_to)
    (neither _ _ (no_excess 131072 (plan.rounds * meters_of groups) (fault.TooManyReadings (plan.rounds * meters_of groups)) readings)
    (no_excess 1048576 (pairs_of groups) (fault.TooManyPairs (pairs_of groups)) pairs)))))))
