-- A plan whose numbers have no fault is within the limits.
use Rattle.std.proofs.Common.{◌≡◌, ℕ, zero, suc, ◌*◌, ◌<◌, ◌≤◌, ◌≢◌, Bool, true, false, List, [], ◌∷◌, ◌++◌, length, map, take, get_or, IsTrue, refl, sym, ap, ◌∙◌, subst, inl, inr, arith, length-take-le, append_assoc, cond}
use Rattle.std.specs.Prelude.{Option, Some, None, bytes_eq, nat_lt, nat_le, ◌&&◌}
use Rattle.std.specs.List.{All}
use Rattle.std.specs.Option.{option_map, option_or}
use Rattle.std.proofs.lemmas.List.{length-map, append-nil, get_or-take}
use Rattle.std.proofs.lemmas.Bool.{cases_lt, and_parts}
use Rattle.std.proofs.lemmas.Bool.Decides.{nat_tests}
use Rattle.std.proofs.lemmas.Slice.Eq.{bytes_eq-Decides}
use Rattle.std.proofs.lemmas.Option.{slice_get_past}
use Rattle.group_plan.specs.Names.{is_name}
use Rattle.group_plan.specs.Plans.{Group, PlanView, size, size_or, name_of, floor_of, floor_or, IsWithinLimits}
use Rattle.group_plan.specs.declared.plan.GroupPlan.{GroupPlan}
use Rattle.group_plan.specs.declared.plan.PlanError.{PlanError}
use Rattle.group_plan.specs.declared.plan.PlanError.TheVariants as fault
use Rattle.group_plan.specs.NewPlans.{stated, AreNamed, first_fault, wrong_count, same_name, same_name_from, position_of_name, has_wrong_meters, has_wrong_floor, wrong_meters, wrong_floor, wrong_rounds, wrong_window, too_many_readings, too_many_pairs, meters_of, pairs_of}
use Rattle.group_plan.specs.PlanParts.{AreSpans}
use Rattle.group_plan.proofs.Faults.{position-none}
use Rattle.group_plan.proofs.Groups.{all_meters-stated, all_pairs-stated}

-- neither is there
option_or-none : {X : Type 0} (a b : Option X) → option_or a b ≡ None → (a ≡ None) × (b ≡ None)
option_or-none None b none = (refl, none)
option_or-none (Some x) b none = cc

option_map-none : {X Y : Type 0} (f : X → Y) (a : Option X) → option_map f a ≡ None → a ≡ None
option_map-none f None none = refl
option_map-none f (Some x) none = cc

if-none : {X : Type 0} (b : Bool) (x : X) → cond b (Some x) None ≡ None → b ≡ false
if-none true x none = cc
if-none false x none = refl

unless-none : {X : Type 0} (b : Bool) (x : X) → cond b None (Some x) ≡ None → b ≡ true
unless-none true x none = refl
unless-none false x none = cc

-- ---- what is stated of group g

-- the name, size and floor of group g
abbrev pub head : List Group → ℕ → GroupPlan
head groups g = record { name = name_of groups g; meters = size groups g; floor = floor_of groups g }

abbrev pub none : GroupPlan
none = record { name = []; meters = 0; floor = 0 }

pub stated-at : (groups : List Group) (g : ℕ) (d : GroupPlan) → g < length groups → get_or (map stated groups) g d ≡ head groups g
stated-at [] g d lt = absurd (omega (arith, lt))
stated-at (x ∷ groups) zero d lt = refl
stated-at (x ∷ groups) (suc g) d lt = stated-at groups g d (omega (arith, lt))

-- what holds of every group that is stated
each : (P : GroupPlan → Type 0) (groups : List Group) → All P (map stated groups) → (g : ℕ) → g < length groups → P (head groups g)
each P groups all g lt = subst P (stated-at groups g none lt) (all g none (omega (arith, lt, length-map groups stated)))

pub past : (groups : List Group) (g : ℕ) → length groups ≤ g → (size groups g ≡ 0) × (floor_of groups g ≡ 0)
past groups g le = (ap size_or (slice_get_past groups g le), ap floor_or (slice_get_past groups g le))

-- ---- names

none_alike : (before rest : List GroupPlan) → same_name_from before rest ≡ None → (h : ℕ) (d : GroupPlan) → h < length rest → position_of_name (get_or rest h d).name (before ++ take h rest) ≡ None
unfolding same_name_from
none_alike before [] unlike h d lt = absurd (omega (arith, lt))
none_alike before (x ∷ rest) unlike zero d lt =
    ap (position_of_name x.name) (append-nil before) ∙ option_map-none (λ g. fault.SameName g (length before)) (position_of_name x.name before) (option_or-none _ _ unlike).0
none_alike before (x ∷ rest) unlike (suc h) d lt =
    ap (position_of_name (get_or rest h d).name) (sym (append_assoc before (x ∷ []) (take h rest))) ∙ none_alike (before ++ x ∷ []) rest (option_or-none _ _ unlike).1 h d (omega (arith, lt))

unlike_names : (groups : List GroupPlan) → same_name groups ≡ None → (g h : ℕ) (d : GroupPlan) → g < h → h < length groups → (get_or groups g d).name ≢ (get_or groups h d).name
unlike_names groups unlike g h d gh lt same =
    let shorter : length (take h groups) ≡ h = length-take-le h groups (omega (arith, lt)) in
    let apart : bytes_eq (get_or (take h groups) g d).name (get_or groups h d).name ≡ false = position-none (λ x. bytes_eq x.name (get_or groups h d).name) (take h groups) (none_alike [] groups unlike h d lt) g d (omega (arith, shorter, gh)) in
    let at : get_or (take h groups) g d ≡ get_or groups g d = get_or-take h groups g d gh in
    let apart2 : bytes_eq (get_or groups g d).name (get_or groups h d).name ≡ false = ap (λ x. bytes_eq x.name (get_or groups h d).name) (sym at) ∙ apart in
    grind (arith, bytes_eq-Decides, apart2, same)

-- ---- the limits

right_meters : (g : GroupPlan) → has_wrong_meters g ≡ false → (2 ≤ g.meters) × (g.meters ≤ 256)
right_meters g right = (grind (arith, nat_tests, right), grind (arith, nat_tests, right))

right_floor : (g : GroupPlan) → has_wrong_floor g ≡ false → (2 ≤ g.floor) × (g.floor ≤ g.meters)
right_floor g right = (grind (arith, nat_tests, right), grind (arith, nat_tests, right))

pub right_rounds : (rounds : ℕ) → wrong_rounds rounds ≡ None → (1 ≤ rounds) × (rounds ≤ 4096)
right_rounds rounds right =
    let is = and_parts (nat_le 1 rounds) (nat_le rounds 4096) (unless-none (nat_le 1 rounds && nat_le rounds 4096) fault.Rounds right) in
    (grind (arith, nat_tests, is.0), grind (arith, nat_tests, is.1))

pub record AreWindows (w1 w2 : ℕ) : Type 0 where
  pub w1_from : 1 ≤ w1
  pub w1_to : w1 ≤ 16
  pub w2_from : 2 ≤ w2
  pub w2_to : w2 ≤ 32

right_window : (w1 w2 : ℕ) → wrong_window w1 w2 ≡ None → AreWindows w1 w2
right_window w1 w2 right =
    let three = and_parts (nat_le 1 w1 && nat_le w1 16 && nat_le 2 w2) (nat_le w2 32) (unless-none (nat_le 1 w1 && nat_le w1 16 && nat_le 2 w2 && nat_le w2 32) fault.Window right) in
    let two = and_parts (nat_le 1 w1 && nat_le w1 16) (nat_le 2 w2) three.0 in
    let one = and_parts (nat_le 1 w1) (nat_le w1 16) two.0 in
    record { w1_from = grind (arith, nat_tests, one.0); w1_to = grind (arith, nat_tests, one.1); w2_from = grind (arith, nat_tests, two.1); w2_to = grind (arith, nat_tests, three.1) }

-- what a check of the first kind leaves
pub record HasRightCount (groups : List GroupPlan) : Type 0 where
  pub some : 1 ≤ length groups
  pub few : length groups ≤ 256

right_count : (groups : List GroupPlan) → wrong_count groups ≡ None → HasRightCount groups
right_count groups right = record { some = grind (arith, nat_tests, right); few = grind (arith, nat_tests, right) }

-- the parts of a plan's numbers, none with a fault
pub record AreRight (groups : List GroupPlan) (rounds w1 w2 : ℕ) : Type 0 where
  pub count : wrong_count groups ≡ None
  pub names : same_name groups ≡ None
  pub meters : wrong_meters groups ≡ None
  pub floors : wrong_floor groups ≡ None
  pub round : wrong_rounds rounds ≡ None
  pub window : wrong_window w1 w2 ≡ None
  pub readings : too_many_readings groups rounds ≡ None
  pub pairs : too_many_pairs groups ≡ None

pub are_right : (groups : List GroupPlan) (rounds w1 w2 : ℕ) → first_fault groups rounds w1 w2 ≡ None → AreRight groups rounds w1 w2
are_right groups rounds w1 w2 sound =
    let a = option_or-none _ _ sound in
    let b = option_or-none _ _ a.1 in
    let c = option_or-none _ _ b.1 in
    let d = option_or-none _ _ c.1 in
    let e = option_or-none _ _ d.1 in
    let f = option_or-none _ _ e.1 in
    let g = option_or-none _ _ f.1 in
    record { count = a.0; names = b.0; meters = c.0; floors = d.0; round = e.0; window = f.0; readings = g.0; pairs = g.1 }

above : (b : Bool) (n most : ℕ) (x : PlanError) → b ≡ nat_lt most n → cond b (Some x) None ≡ None → n ≤ most
above b n most x is right = grind (arith, nat_tests, is, if-none b x right)

pub limits : (plan : PlanView) → first_fault (map stated plan.groups) plan.rounds plan.w1 plan.w2 ≡ None → AreNamed (map stated plan.groups) → AreSpans plan → IsWithinLimits plan
limits plan sound named spans =
    let groups = plan.groups in
    let right = are_right (map stated groups) plan.rounds plan.w1 plan.w2 sound in
    let count = right_count (map stated groups) right.count in
    let long : length (map stated groups) ≡ length groups = length-map groups stated in
    let meters : (g : ℕ) → g < length groups → (2 ≤ size groups g) × (size groups g ≤ 256) = λ g lt. right_meters (head groups g) (each (λ x. has_wrong_meters x ≡ false) groups (position-none has_wrong_meters (map stated groups) (option_map-none fault.Meters _ right.meters)) g lt) in
    let floors : (g : ℕ) → g < length groups → (2 ≤ floor_of groups g) × (floor_of groups g ≤ size groups g) = λ g lt. right_floor (head groups g) (each (λ x. has_wrong_floor x ≡ false) groups (position-none has_wrong_floor (map stated groups) (option_map-none fault.Floor _ right.floors)) g lt) in
    let rounds = right_rounds plan.rounds right.round in
    let windows = right_window plan.w1 plan.w2 right.window in
    record {
      some_group = omega (arith, count.some, long);
      groups = omega (arith, count.few, long);
      names = λ g lt. each (λ x. IsTrue (is_name x.name)) groups named g lt;
      names_differ = λ g h gh lt same. unlike_names (map stated groups) right.names g h none gh (omega (arith, lt, long)) (ap (λ x. x.name) (stated-at groups g none (omega (arith, gh, lt))) ∙ same ∙ sym (ap (λ x. x.name) (stated-at groups h none lt)));
      two_meters = λ g lt. (meters g lt).0;
      meters = λ g. elim (cases_lt g (length groups)) [ inl lt ↦ (meters g lt).1 | inr le ↦ omega (arith, (past groups g le).0) ];
      floor_from = λ g lt. (floors g lt).0;
      floor_to = λ g. elim (cases_lt g (length groups)) [ inl lt ↦ (floors g lt).1 | inr le ↦ omega (arith, (past groups g le).1) ];
      span_from = spans.some;
      span_to = spans.within;
      some_round = rounds.0;
      rounds = rounds.1;
      w1_from = windows.w1_from;
      w1_to = windows.w1_to;
      w2_from = windows.w2_from;
      w2_to = windows.w2_to;
      readings = rw (all_meters-stated groups) (above _ (plan.rounds * meters_of (map stated groups)) 131072 _ refl right.readings);
      pairs = rw (all_pairs-stated groups) (above _ (pairs_of (map stated groups)) 1048576 _ refl right.pairs);
    }
