-- The rows of keys, lanes and members that are spelled add up to these keys and lanes.
use Rattle.std.proofs.Common.{◌≡◌, ◌∙◌, ◌≤◌, ◌+◌, ◌&&◌, ◌||◌, nat_le, ℕ, Bool, true, false, List, [], ◌∷◌, ◌++◌, length, map, Option, Some, None, Ok, is_some, refl, sym, ap, arith, subst, append_assoc}
use mathlib.Core.Path.{fun_ext}
use Rattle.std.proofs.lemmas.Bool.{and_parts}
use Rattle.std.proofs.lemmas.Bool.Decides.{nat_tests}
use Rattle.std.proofs.lemmas.List.{append-nil}
use Rattle.std.proofs.lemmas.List.Elements.{All-head, All-tail}
use Rattle.std.specs.List.{All, list_all, list_any}
use Rattle.group_plan.specs.Plans.{PlanView, last_tick}
use Rattle.group_plan.specs.declared.plan.members.Span.{Span}
use Rattle.link_lanes.specs.declared.row.LaneRow.{LaneRow}
use Rattle.pair_keys.specs.Ids.{is_key, same_id}
use Rattle.pair_keys.specs.Keys.{Keys, no_keys, with_key}
use Rattle.pair_keys.specs.declared.KeyId.{KeyId}
use Rattle.pair_keys.specs.declared.KeyId.TheVariants.{Own, Pair}
use Rattle.plan_files.specs.Gathering.{Gathered, gather, hang_lane, nothing, put_key, spans_of, take_entry}
use Rattle.plan_files.specs.MissingKeys.{plan_keys}
use Rattle.plan_files.specs.SpelledFiles.{AreKeysOf, IsLaneOf}
use Rattle.plan_files.specs.declared.entry.PlanRow.{PlanRow}
use Rattle.plan_files.specs.declared.entry.PlanRow.TheVariants as entry
use Rattle.plan_files.proofs.DistinctLemmas.{Distinct}
use Rattle.plan_files.proofs.KeyOrder.{keys_all, keys_distinct, keys_only}
use Rattle.plan_files.proofs.SpelledForms.{key_entries, key_entry, key_or}

-- ---- ids

pub same_is : (x y : KeyId) → same_id x y ≡ true → x ≡ y
same_is (Own g i) (Own h j) same =
    let group : g ≡ h = grind (arith, nat_tests, same) in
    let meter : i ≡ j = grind (arith, nat_tests, same) in
    ap (λ a. Own a i) group ∙ ap (Own h) meter
same_is (Own g i) (Pair h l k) same = absurd cc
same_is (Pair g low high) (Own h j) same = absurd cc
same_is (Pair g low high) (Pair h l k) same =
    let group : g ≡ h = grind (arith, nat_tests, same) in
    let lower : low ≡ l = grind (arith, nat_tests, same) in
    let higher : high ≡ k = grind (arith, nat_tests, same) in
    ap (λ a. Pair a low high) group ∙ (ap (λ a. Pair h a high) lower ∙ ap (Pair h l) higher)

pub same_self : (x : KeyId) → same_id x x ≡ true
same_self (Own g i) = grind (arith, nat_tests)
same_self (Pair g low high) = grind (arith, nat_tests)

pub same_flip : (x y : KeyId) → same_id x y ≡ false → same_id y x ≡ false
same_flip x y h = by_test (same_id y x) refl
  where
    by_test : (t : Bool) → same_id y x ≡ t → same_id y x ≡ false
    by_test true e = let s : same_id x y ≡ true = subst (λ z. same_id x z ≡ true) (sym (same_is y x e)) (same_self x) in absurd cc
    by_test false e = e

neither : (a b : Bool) → (a || b) ≡ false → (a ≡ false) × (b ≡ false)
neither true b h = absurd cc
neither false b h = (refl, h)

-- ---- keys, one after another

-- these keys more
abbrev pub with_keys : Keys → Gathered → List KeyId → Gathered
with_keys all before [] = before
with_keys all before (x ∷ xs) = with_keys all (record before { keys = with_key before.keys x (key_or (all.key x)) }) xs

-- none of them is there yet
abbrev pub NoneThere : Keys → List KeyId → Type 0
NoneThere keys [] = Unit {0}
NoneThere keys (x ∷ xs) = (is_some (keys.key x) ≡ false) × NoneThere keys xs

still_none : (keys : Keys) (x : KeyId) (key : List ℕ) (ys : List KeyId) → NoneThere keys ys → list_any (same_id x) ys ≡ false → NoneThere (with_key keys x key) ys
still_none keys x key [] none other = tt
still_none keys x key (y ∷ ys) none other =
    let b = neither (same_id x y) (list_any (same_id x) ys) other in
    (rw b.0 none.0, still_none keys x key ys none.1 b.1)

took_key : (last : ℕ) (before : Gathered) (x : KeyId) (key : List ℕ) → is_key before.keys.plan x ≡ true → is_some (before.keys.key x) ≡ false
    → take_entry last None before (key_entry x key) ≡ Ok (record before { keys = with_key before.keys x key })
unfolding take_entry put_key
took_key last before (Own g i) key is none = rw (is, none) refl
took_key last before (Pair g low high) key is none = rw (is, none) refl

pub keys_gathered : (last n m : ℕ) (all : Keys) (before : Gathered) (ids : List KeyId) (rest : List PlanRow) → list_all (is_key before.keys.plan) ids ≡ true → Distinct same_id ids → NoneThere before.keys ids
    → m ≡ n + length ids → gather last None n before (key_entries all ids ++ rest) ≡ gather last None m (with_keys all before ids) rest
unfolding gather
keys_gathered last n m all before [] rest inside once none same = let here : n ≡ m = omega (arith, same) in ap (λ k. gather last None k before rest) here
keys_gathered last n m all before (x ∷ xs) rest inside once none same =
    let b = and_parts (is_key before.keys.plan x) (list_all (is_key before.keys.plan) xs) inside in
    rw (took_key last before x (key_or (all.key x)) b.0 none.0)
    (keys_gathered last (n + 1) m all (record before { keys = with_key before.keys x (key_or (all.key x)) }) xs rest b.1 once.1
    (still_none before.keys x (key_or (all.key x)) xs none.1 once.0) (omega (arith, same)))

-- what is there in the end
with_plan : (all : Keys) (before : Gathered) (ids : List KeyId) → (with_keys all before ids).keys.plan ≡ before.keys.plan
with_plan all before [] = refl
with_plan all before (x ∷ xs) = with_plan all (record before { keys = with_key before.keys x (key_or (all.key x)) }) xs

pub with_lanes : (all : Keys) (before : Gathered) (ids : List KeyId) → (with_keys all before ids).lanes ≡ before.lanes
with_lanes all before [] = refl
with_lanes all before (x ∷ xs) = with_lanes all (record before { keys = with_key before.keys x (key_or (all.key x)) }) xs

key_not_put : (all : Keys) (before : Gathered) (ids : List KeyId) (y : KeyId) → list_any (same_id y) ids ≡ false → (with_keys all before ids).keys.key y ≡ before.keys.key y
key_not_put all before [] y none = refl
key_not_put all before (x ∷ xs) y none =
    let b = neither (same_id y x) (list_any (same_id y) xs) none in
    key_not_put all (record before { keys = with_key before.keys x (key_or (all.key x)) }) xs y b.1 ∙ rw (same_flip y x b.0) refl

there_is : (key : Option (List ℕ)) → is_some key ≡ true → Some (key_or key) ≡ key
there_is None h = absurd cc
there_is (Some key) h = refl

key_put : (all : Keys) (before : Gathered) (ids : List KeyId) (y : KeyId) → Distinct same_id ids → list_any (same_id y) ids ≡ true → is_some (all.key y) ≡ true
    → (with_keys all before ids).keys.key y ≡ all.key y
key_put all before [] y once some there = absurd cc
key_put all before (x ∷ xs) y once some there =
    by_test (same_id y x) refl some (λ h. key_put all (record before { keys = with_key before.keys x (key_or (all.key x)) }) xs y once.1 h there)
  where
    by_test : (t : Bool) → same_id y x ≡ t → (t || list_any (same_id y) xs) ≡ true
        → (list_any (same_id y) xs ≡ true → (with_keys all (record before { keys = with_key before.keys x (key_or (all.key x)) }) xs).keys.key y ≡ all.key y)
        → (with_keys all (record before { keys = with_key before.keys x (key_or (all.key x)) }) xs).keys.key y ≡ all.key y
    by_test true e some ih =
        let same : y ≡ x = same_is y x e in
        let apart : list_any (same_id y) xs ≡ false = subst (λ z. list_any (same_id z) xs ≡ false) (sym same) once.0 in
        let own : same_id x y ≡ true = subst (λ z. same_id x z ≡ true) (sym same) (same_self x) in
        key_not_put all (record before { keys = with_key before.keys x (key_or (all.key x)) }) xs y apart
        ∙ rw own (ap (λ z. Some (key_or (all.key z))) (sym same) ∙ there_is (all.key y) there)
    by_test false e some ih = ih some

none_there : (plan : PlanView) (ids : List KeyId) → NoneThere (no_keys plan) ids
none_there plan [] = tt
none_there plan (x ∷ xs) = (refl, none_there plan xs)

pub not_any : (plan : PlanView) (y : KeyId) (ids : List KeyId) → list_all (is_key plan) ids ≡ true → is_key plan y ≡ false → list_any (same_id y) ids ≡ false
not_any plan y [] inside outside = refl
not_any plan y (x ∷ xs) inside outside =
    let b = and_parts (is_key plan x) (list_all (is_key plan) xs) inside in
    by_test (same_id y x) refl b.0 (not_any plan y xs b.1 outside)
  where
    by_test : (t : Bool) → same_id y x ≡ t → is_key plan x ≡ true → list_any (same_id y) xs ≡ false → (t || list_any (same_id y) xs) ≡ false
    by_test true e one ih = let k : is_key plan y ≡ true = subst (λ z. is_key plan z ≡ true) (sym (same_is y x e)) one in absurd cc
    by_test false e one ih = ih

-- all keys of the plan are those that were spelled
abbrev pub all_put : Keys → PlanView → Gathered
all_put all plan = with_keys all (nothing plan) (plan_keys plan)

each_key : (plan : PlanView) (all : Keys) → AreKeysOf plan all → (y : KeyId) → (all_put all plan).keys.key y ≡ all.key y
each_key plan all are y = by_test (is_key plan y) refl
  where
    by_test : (t : Bool) → is_key plan y ≡ t → (all_put all plan).keys.key y ≡ all.key y
    by_test true e =
        key_put all (nothing plan) (plan_keys plan) y (keys_distinct plan) (keys_all plan y e) (are.complete y (subst (λ p. is_key p y ≡ true) (sym are.of_plan) e))
    by_test false e = key_not_put all (nothing plan) (plan_keys plan) y (not_any plan y (plan_keys plan) (keys_only plan) e) ∙ sym (are.no_other y e)

pub keys_again : (plan : PlanView) (all : Keys) → AreKeysOf plan all → (all_put all plan).keys ≡ all
keys_again plan all are =
    let made : PlanView → (KeyId → Option (List ℕ)) → Keys = λ p k. record { plan = p; key = k } in
    ap (λ p. made p (all_put all plan).keys.key) (with_plan all (nothing plan) (plan_keys plan) ∙ sym are.of_plan)
    ∙ ap (made all.plan) (fun_ext (each_key plan all are))

pub plan_keys_gathered : (n m : ℕ) (plan : PlanView) (all : Keys) (rest : List PlanRow) → m ≡ n + length (plan_keys plan)
    → gather (last_tick plan) None n (nothing plan) (key_entries all (plan_keys plan) ++ rest) ≡ gather (last_tick plan) None m (all_put all plan) rest
plan_keys_gathered n m plan all rest same =
    keys_gathered (last_tick plan) n m all (nothing plan) (plan_keys plan) rest (keys_only plan) (keys_distinct plan) (none_there plan (plan_keys plan)) same

-- ---- lanes

lane_hung : (last : ℕ) (lanes : List LaneRow) (lane : LaneRow) → lane.from ≤ lane.to → lane.to ≤ last → hang_lane last lanes lane ≡ Ok (lanes ++ lane ∷ [])
unfolding hang_lane
lane_hung last lanes lane order le = let t : (nat_le lane.from lane.to && nat_le lane.to last) ≡ true = grind (arith, nat_tests) in rw t refl

pub lanes_gathered : (plan : PlanView) (n m : ℕ) (before : Gathered) (lanes : List LaneRow) (rest : List PlanRow) → All (IsLaneOf plan) lanes → m ≡ n + length lanes
    → gather (last_tick plan) None n before (map entry.Lane lanes ++ rest) ≡ gather (last_tick plan) None m (record before { lanes = before.lanes ++ lanes }) rest
unfolding gather take_entry
lanes_gathered plan n m before [] rest good same =
    let here : n ≡ m = omega (arith, same) in
    ap (λ k. gather (last_tick plan) None k before rest) here ∙ ap (λ l. gather (last_tick plan) None m (record before { lanes = l }) rest) (sym (append-nil before.lanes))
lanes_gathered plan n m before (x ∷ xs) rest good same =
    let first = All-head (IsLaneOf plan) x xs good in
    rw (lane_hung (last_tick plan) before.lanes x first.order first.last)
    (lanes_gathered plan (n + 1) m (record before { lanes = before.lanes ++ x ∷ [] }) xs rest (All-tail (IsLaneOf plan) x xs good) (omega (arith, same))
    ∙ ap (λ l. gather (last_tick plan) None m (record before { lanes = l }) rest) (append_assoc before.lanes (x ∷ []) xs))

-- ---- members

pub members_gathered : (last n : ℕ) (before : Gathered) (spans : List Span) → (count : ℕ) × (gather last None n before (map entry.Member spans) ≡ Ok (record before { members = count }))
unfolding gather take_entry
members_gathered last n before [] = (before.members, refl)
members_gathered last n before (s ∷ ss) = members_gathered last (n + 1) (record before { members = before.members + 1 }) ss

-- ---- the spans among the rows

spans_none : {X : Type 0} (f : X → PlanRow) (xs : List X) (rest : List PlanRow) → ((x : X) (more : List PlanRow) → spans_of (f x ∷ more) ≡ spans_of more) → spans_of (map f xs ++ rest) ≡ spans_of rest
spans_none f [] rest none = refl
spans_none f (x ∷ xs) rest none = none x (map f xs ++ rest) ∙ spans_none f xs rest none

key_no_span : (x : KeyId) (key : List ℕ) (more : List PlanRow) → spans_of (key_entry x key ∷ more) ≡ spans_of more
key_no_span (Own g i) key more = refl
key_no_span (Pair g low high) key more = refl

spans_again : (spans : List Span) → spans_of (map entry.Member spans) ≡ spans
spans_again [] = refl
spans_again (s ∷ ss) = ap (λ l. s ∷ l) (spans_again ss)

pub spans_found : (all : Keys) (ids : List KeyId) (lanes : List LaneRow) (spans : List Span) → spans_of (key_entries all ids ++ (map entry.Lane lanes ++ map entry.Member spans)) ≡ spans
spans_found all ids lanes spans =
    spans_none (λ which. key_entry which (key_or (all.key which))) ids (map entry.Lane lanes ++ map entry.Member spans) (λ x more. key_no_span x (key_or (all.key x)) more)
    ∙ (spans_none entry.Lane lanes (map entry.Member spans) (λ x more. refl) ∙ spans_again spans)
