-- The loops over the survivors of a round.
use Rattle.std.proofs.Common.{◌≡◌, ℕ, zero, suc, ◌+◌, ◌<◌, ◌≤◌, ◌⊎◌, inl, inr, Bool, true, false, cond, not, ◌&&◌, ◌||◌, List, [], ◌∷◌, ◌++◌, length, map, get_or, set, replicate, refl, sym, ap, ◌∙◌, subst, arith, ⊎_elim, zero-add}
use Rattle.std.specs.Prelude.{◌==◌, nat_lt, slice_index_or, if◌then◌else◌}
use Rattle.std.specs.List.{filter, list_all, range_with_len}
use Rattle.std.proofs.lemmas.Bool.{cases_eq, ne_eqb, and_parts, lt-ltb, ltb-true, both_ways}
use Rattle.std.proofs.lemmas.List.{get_or-map, get_or-set_same, get_or-set_other, get_or-replicate, length-map, length-set, length-replicate, map_push}
use Rattle.std.proofs.lemmas.List.FromFn.{length-range_with_len, get_or-range_with_len}
use Rattle.missing_round.specs.Words.{group}
use Rattle.missing_round.specs.Sets.{IsSet, is_member, less, without}
use Rattle.missing_round.proofs.SetLemmas.{less-filter, same_filter}
use Rattle.event_schedule.proofs.RoundMembers.{range_last}
use Rattle.mask_graphs.specs.Graphs.{Graph}
use Rattle.mask_graphs.proofs.ListFacts.{member_head, member_later}
use Rattle.sparse_masks.specs.declared.round.Round.{Round}
use Rattle.sparse_masks.specs.Trees.{widened, around, component}
use Rattle.sparse_masks.specs.Rounds.{graph_of, IsRingRound, AreComponents}
use Rattle.sparse_masks.proofs.ReachLemmas.{IsSymmetric, around-members, component-same, component-self}
use Rattle.sparse_masks.proofs.ForestLemmas.{all_pass, outside-component}
use Rattle.sparse_masks.proofs.ConverseLemmas.{all-member}
use Rattle.sparse_masks.proofs.RowLemmas.{Sifted, sift_begins, sift_keeps, sift_drops}
use Rattle.sparse_masks.proofs.WorldLemmas.{neighbours-back}

-- ---- one meter

twice : (b : Bool) → not (not b) ≡ b
twice true = refl
twice false = refl

pub alone-is : (m : ℕ) (xs : List ℕ) → less xs (without m xs) ≡ filter (λ j. j == m) xs
alone-is m xs = less-filter (λ j. not (j == m)) xs ∙ same_filter (λ j. not (not (j == m))) (λ j. j == m) xs (λ j within. twice (j == m))

pub all-next : (p : ℕ → Bool) (left rest : List ℕ) (x : ℕ) → left ≡ x ∷ rest → list_all p left ≡ true → (p x ≡ true) × (list_all p rest ≡ true)
all-next p left rest x is all = and_parts (p x) (list_all p rest) (sym (ap (list_all p) is) ∙ all)

-- none is left without those that pass a test where all pass it
pub none-left : (p : ℕ → Bool) (xs : List ℕ) → (length (filter (λ i. not (p i)) xs) == 0) ≡ list_all p xs
none-left p [] = refl
none-left p (x ∷ xs) = step (p x) (none-left p xs)
  where
    step : (b : Bool) → (length (filter (λ i. not (p i)) xs) == 0) ≡ list_all p xs → (length (cond (not b) (x ∷ filter (λ i. not (p i)) xs) (filter (λ i. not (p i)) xs)) == 0) ≡ (b && list_all p xs)
    step true e = e
    step false e = ne_eqb (suc (length (filter (λ i. not (p i)) xs))) 0 (λ none. omega (arith, none))

-- ---- a table by meter

pub table_at : {X : Type 0} (f : ℕ → X) (n i : ℕ) (sets : List X) (d : X) → sets ≡ map f (group n) → i < n → get_or sets i d ≡ f i
table_at f n i sets d is lt =
    let long : length (group n) ≡ n = length-range_with_len 0 n in
    ap (λ l. get_or l i d) is
    ∙ get_or-map f (group n) i 0 d (omega (arith, lt, long))
    ∙ ap f (get_or-range_with_len 0 n i 0 lt ∙ zero-add i)

pub table_long : {X : Type 0} (f : ℕ → X) (n : ℕ) (sets : List X) → sets ≡ map f (group n) → length sets ≡ n
table_long f n sets is = ap length is ∙ length-map (group n) f ∙ length-range_with_len 0 n

pub table_more : {X : Type 0} (f : ℕ → X) (n : ℕ) (sets : List X) → sets ≡ map f (range_with_len 0 n) → sets ++ f n ∷ [] ≡ map f (range_with_len 0 (n + 1))
table_more f n sets is =
    let e : suc n ≡ n + 1 = omega arith in
    ap (λ l. l ++ f n ∷ []) is ∙ sym (map_push f (range_with_len 0 n) n) ∙ ap (map f) (sym (range_last 0 n n (omega arith))) ∙ ap (λ k. map f (range_with_len 0 k)) e

-- ---- a value put in the place of each of some meters

pub record Put (X : Type 0) (value none : X) (meters : List ℕ) (old now : List X) (left : List ℕ) : Type 0 where
  pub long : length now ≡ length old
  pub below : list_all (λ i. nat_lt i (length old)) left ≡ true
  pub each : (i : ℕ) → (if is_member i left then value else slice_index_or now i none) ≡ (if is_member i meters then value else slice_index_or old i none)

pub put_begins : (X : Type 0) (value none : X) (meters left : List ℕ) (old : List X) → left ≡ meters → list_all (λ i. nat_lt i (length old)) meters ≡ true → Put X value none meters old old left
put_begins X value none meters left old is below = subst (Put X value none meters old old) (sym is) (record { long = refl; below = below; each = λ i. refl })

pub put_within : (X : Type 0) (value none : X) (meters : List ℕ) (old now : List X) (left rest : List ℕ) (x : ℕ) → left ≡ x ∷ rest → Put X value none meters old now left → x < length now
put_within X value none meters old now left rest x is before =
    let here = (all-next (λ i. nat_lt i (length old)) left rest x is before.below).0 in
    let lt : x < length old = ltb-true x (length old) here in
    omega (arith, lt, before.long)

pub put_next : (X : Type 0) (value none : X) (meters : List ℕ) (old now : List X) (left rest : List ℕ) (x : ℕ) → left ≡ x ∷ rest → Put X value none meters old now left
    → Put X value none meters old (set now x value) rest
put_next X value none meters old now left rest x is before =
    let lt : x < length now = put_within X value none meters old now left rest x is before in
    record {
      long = length-set now x value ∙ before.long;
      below = (all-next (λ i. nat_lt i (length old)) left rest x is before.below).1;
      each = λ i.
          ⊎_elim
          (λ e.
          ap (λ k. if is_member k rest then value else slice_index_or (set now x value) k none) (sym e)
          ∙ ap (λ s. if is_member x rest then value else s) (get_or-set_same now x value none lt)
          ∙ same (is_member x rest)
          ∙ sym (ap (λ b. if b then value else slice_index_or now x none) (member_head x rest))
          ∙ ap (λ k. if is_member k (x ∷ rest) then value else slice_index_or now k none) e
          ∙ ap (λ l. if is_member i l then value else slice_index_or now i none) (sym is)
          ∙ before.each i)
          (λ ne.
          ap (λ s. if is_member i rest then value else s) (get_or-set_other now x i value none (λ e. ne (sym e)))
          ∙ ap (λ b. if b || is_member i rest then value else slice_index_or now i none) (sym (ne_eqb x i ne))
          ∙ ap (λ l. if is_member i l then value else slice_index_or now i none) (sym is)
          ∙ before.each i)
          (cases_eq x i);
    }
  where
    same : (b : Bool) → (if b then value else value) ≡ value
    same true = refl
    same false = refl

-- ---- the survivors that pass a test

pub record Chosen (r : Round) (test : ℕ → Bool) (left kept : List ℕ) : Type 0 where
  pub sifted : Sifted test r.survivors left kept
  pub below : list_all (λ i. nat_lt i r.meters) left ≡ true

pub choice_begins : (r : Round) (test : ℕ → Bool) (left : List ℕ) → IsRingRound r → left ≡ r.survivors → IsSet r.survivors → Chosen r test left r.survivors
choice_begins r test left ok is is_set = record {
  sifted = sift_begins test r.survivors left r.survivors is refl is_set;
  below = ap (list_all (λ i. nat_lt i r.meters)) is ∙ ok.within;
}

pub choice_within : (r : Round) (test : ℕ → Bool) (left rest kept : List ℕ) (x : ℕ) → left ≡ x ∷ rest → Chosen r test left kept → x < r.meters
choice_within r test left rest kept x is before = ltb-true x r.meters (all-next (λ i. nat_lt i r.meters) left rest x is before.below).0

pub choice_keeps : (r : Round) (test : ℕ → Bool) (left rest kept : List ℕ) (x : ℕ) → left ≡ x ∷ rest → test x ≡ true → Chosen r test left kept → Chosen r test rest kept
choice_keeps r test left rest kept x is passes before = record {
  sifted = sift_keeps test r.survivors left rest kept x is passes before.sifted;
  below = (all-next (λ i. nat_lt i r.meters) left rest x is before.below).1;
}

pub choice_drops : (r : Round) (test : ℕ → Bool) (left rest kept new : List ℕ) (x : ℕ) → left ≡ x ∷ rest → test x ≡ false → new ≡ without x kept → Chosen r test left kept → Chosen r test rest new
choice_drops r test left rest kept new x is fails now before = record {
  sifted = sift_drops test r.survivors left rest kept new x is fails now before.sifted;
  below = (all-next (λ i. nat_lt i r.meters) left rest x is before.below).1;
}

-- ---- sets around a meter that grow no more

pub settled : (graph : Graph) (i k : ℕ) → widened graph (around graph i k) ≡ around graph i k → (l : ℕ) → k ≤ l → around graph i l ≡ around graph i k
settled graph i k still zero le = let none : k ≡ 0 = omega (arith, le) in ap (around graph i) (sym none)
settled graph i k still (suc l) le =
    ⊎_elim
    (λ e. ap (around graph i) (sym e))
    (λ ne. ap (widened graph) (settled graph i k still l (omega (arith, le, ne))) ∙ still)
    (cases_eq k (suc l))

-- ---- the components by meter

pub record Filled (r : Round) (sets : List (List ℕ)) (left : List ℕ) : Type 0 where
  pub long : length sets ≡ r.meters
  pub inside : (i : ℕ) → is_member i left ≡ true → is_member i r.survivors ≡ true
  pub each : (i : ℕ) → i < r.meters → (slice_index_or sets i [] ≡ []) ⊎ (slice_index_or sets i [] ≡ component (graph_of r) i)
  pub done : (i : ℕ) → is_member i r.survivors ≡ true → is_member i left ≡ false → slice_index_or sets i [] ≡ component (graph_of r) i

pub survivor-below : (r : Round) → IsRingRound r → (i : ℕ) → is_member i r.survivors ≡ true → i < r.meters
survivor-below r is i within = ltb-true i r.meters (all-member (λ k. nat_lt k r.meters) r.survivors is.within i within)

pub filled_begins : (r : Round) (left : List ℕ) (sets : List (List ℕ)) → left ≡ r.survivors → sets ≡ replicate r.meters [] → Filled r sets left
filled_begins r left sets is none = record {
  long = ap length none ∙ length-replicate r.meters [];
  inside = λ i h. ap (is_member i) (sym is) ∙ h;
  each = λ i lt. inl (ap (λ (l : List (List ℕ)). slice_index_or l i []) none ∙ get_or-replicate r.meters i [] [] lt);
  done = λ i within out. absurd (both_ways (is_member i left) out (ap (is_member i) is ∙ within));
}

left-or : (x i : ℕ) (rest : List ℕ) → is_member i rest ≡ false → (x ≡ i → ⊥) → is_member i (x ∷ rest) ≡ false
left-or x i rest out ne = ap (λ b. b || is_member i rest) (ne_eqb x i ne) ∙ out

pub filled_puts : (r : Round) → IsRingRound r → (sets new : List (List ℕ)) (left rest : List ℕ) (x : ℕ) → left ≡ x ∷ rest → Filled r sets left → length new ≡ length sets
    → ((i : ℕ) → slice_index_or new i [] ≡ (if is_member i (component (graph_of r) x) then component (graph_of r) x else slice_index_or sets i [])) → Filled r new rest
filled_puts r ok sets new left rest x is before same_long puts =
    let graph : Graph = graph_of r in
    let symmetric : IsSymmetric graph = neighbours-back r.width r.meters in
    let x_in : is_member x r.survivors ≡ true = before.inside x (ap (is_member x) is ∙ member_head x rest) in
    record {
      long = same_long ∙ before.long;
      inside = λ i h. before.inside i (ap (is_member i) is ∙ member_later i x rest h);
      each = λ i lt. step_each symmetric x_in i (is_member i (component graph x)) refl (before.each i lt);
      done = λ i within out. ⊎_elim
          (λ e. step_done symmetric x_in i (is_member i (component graph x)) refl (λ not_in. absurd (both_ways (is_member i (component graph x)) not_in (ap (λ k. is_member k (component graph x)) (sym e) ∙ component-self graph x x_in))))
          (λ ne. step_done symmetric x_in i (is_member i (component graph x)) refl (λ _. before.done i within (ap (is_member i) is ∙ left-or x i rest out ne)))
          (cases_eq x i);
    }
  where
    put_is : (i : ℕ) (b : Bool) → is_member i (component (graph_of r) x) ≡ b → slice_index_or new i [] ≡ (if b then component (graph_of r) x else slice_index_or sets i [])
    put_is i b e = puts i ∙ ap (λ c. if c then component (graph_of r) x else slice_index_or sets i []) e

    step_each : IsSymmetric (graph_of r) → is_member x r.survivors ≡ true → (i : ℕ) (b : Bool) → is_member i (component (graph_of r) x) ≡ b
        → (slice_index_or sets i [] ≡ []) ⊎ (slice_index_or sets i [] ≡ component (graph_of r) i)
        → (slice_index_or new i [] ≡ []) ⊎ (slice_index_or new i [] ≡ component (graph_of r) i)
    step_each symmetric x_in i true e old = inr (put_is i true e ∙ sym (component-same (graph_of r) symmetric x i x_in e))
    step_each symmetric x_in i false e old = ⊎_elim (λ none. inl (put_is i false e ∙ none)) (λ all. inr (put_is i false e ∙ all)) old

    step_done : IsSymmetric (graph_of r) → is_member x r.survivors ≡ true → (i : ℕ) (b : Bool) → is_member i (component (graph_of r) x) ≡ b
        → (is_member i (component (graph_of r) x) ≡ false → slice_index_or sets i [] ≡ component (graph_of r) i) → slice_index_or new i [] ≡ component (graph_of r) i
    step_done symmetric x_in i true e old = put_is i true e ∙ sym (component-same (graph_of r) symmetric x i x_in e)
    step_done symmetric x_in i false e old = put_is i false e ∙ old e

pub filled_passes : (r : Round) → IsRingRound r → (sets : List (List ℕ)) (left rest : List ℕ) (x : ℕ) → left ≡ x ∷ rest → (slice_index_or sets x [] ≡ [] → ⊥) → Filled r sets left → Filled r sets rest
filled_passes r ok sets left rest x is some before =
    let x_in : is_member x r.survivors ≡ true = before.inside x (ap (is_member x) is ∙ member_head x rest) in
    record {
      long = before.long;
      inside = λ i h. before.inside i (ap (is_member i) is ∙ member_later i x rest h);
      each = before.each;
      done = λ i within out. ⊎_elim
          (λ e. ap (λ k. slice_index_or sets k []) (sym e) ∙ ⊎_elim (λ none. absurd (some none)) (λ all. all) (before.each x (survivor-below r ok x x_in)) ∙ ap (component (graph_of r)) e)
          (λ ne. before.done i within (ap (is_member i) is ∙ left-or x i rest out ne))
          (cases_eq x i);
    }

pub filled_ends : (r : Round) (sets : List (List ℕ)) (left : List ℕ) → left ≡ [] → Filled r sets left → AreComponents r sets
filled_ends r sets left none is = (is.long, λ i lt. step i lt (is_member i r.survivors) refl)
  where
    step : (i : ℕ) → i < r.meters → (b : Bool) → is_member i r.survivors ≡ b → slice_index_or sets i [] ≡ component (graph_of r) i
    step i lt true e = is.done i e (ap (is_member i) none)
    step i lt false e = ⊎_elim (λ empty. empty ∙ sym (outside-component (graph_of r) i e)) (λ all. all) (is.each i lt)

-- some of the survivors are below the group's size
pub members-below : (r : Round) → IsRingRound r → (n : ℕ) (xs : List ℕ) → n ≡ r.meters → ((i : ℕ) → is_member i xs ≡ true → is_member i r.survivors ≡ true) → list_all (λ i. nat_lt i n) xs ≡ true
members-below r ok n xs is within = all_pass (λ i. nat_lt i n) xs (λ i h. let low = survivor-below r ok i (within i h) in lt-ltb i n (omega (arith, low, is)))

pub component-below : (r : Round) → IsRingRound r → (n x : ℕ) → n ≡ r.meters → list_all (λ i. nat_lt i n) (component (graph_of r) x) ≡ true
component-below r ok n x is = members-below r ok n (component (graph_of r) x) is (around-members (graph_of r) x (length r.survivors))

pub filled_within : (r : Round) → IsRingRound r → (sets : List (List ℕ)) (left rest : List ℕ) (x : ℕ) → left ≡ x ∷ rest → Filled r sets left → x < length sets
filled_within r ok sets left rest x is before =
    let lt = survivor-below r ok x (before.inside x (ap (is_member x) is ∙ member_head x rest)) in
    omega (arith, lt, before.long)
