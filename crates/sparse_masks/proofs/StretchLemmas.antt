-- On a ring, the survivors around a meter as far as the gaps of the width are its component.
use Rattle.std.proofs.Common.{◌≡◌, ℕ, ◌+◌, ◌-◌, ◌<◌, ◌≤◌, ◌⊎◌, inl, inr, Bool, true, false, not, ◌&&◌, ◌||◌, List, length, sym, ap, ◌∙◌, arith, ⊎_elim}
use Rattle.std.specs.Prelude.{◌==◌, nat_lt, nat_le, if◌then◌else◌}
use Rattle.std.proofs.lemmas.Bool.{false≢true, cases_eq, cases_lt, and_from, and_parts, true_from_ne_false}
use Rattle.std.specs.List.{filter}
use Rattle.std.proofs.lemmas.Bool.Decides.{nat_tests}
use Rattle.missing_round.specs.Sets.{is_member}
use Rattle.sparse_masks.specs.declared.round.Round.{Round}
use Rattle.sparse_masks.specs.declared.stretch.Way.{Way}
use Rattle.sparse_masks.specs.declared.stretch.Way.TheVariants.{Up, Down}
use Rattle.sparse_masks.specs.Neighbours.{apart, are_neighbours}
use Rattle.sparse_masks.specs.Trees.{are_joined, component}
use Rattle.sparse_masks.specs.Rounds.{graph_of, IsRingRound}
use Rattle.sparse_masks.specs.Stretches.{place, Reaches}
use Rattle.missing_round.proofs.SetLemmas.{same_filter}
use Rattle.mask_graphs.proofs.ListFacts.{same_test}
use Rattle.sparse_masks.specs.Statements.{IsWhole}
use Rattle.sparse_masks.proofs.ReachLemmas.{around-filtered, around-same, component-closed, component-self, joined-back}
use Rattle.sparse_masks.proofs.OutsideLemmas.{filter-both}
use Rattle.sparse_masks.proofs.RoundLemmas.{survivor-below}
use Rattle.sparse_masks.proofs.WorldLemmas.{neighbours-back}

-- ---- places

-- a place at most w places on is a neighbour's
near-places : (w n x : ℕ) (way : Way) (a b : ℕ) → x < n → a < b → b < n → b ≤ a + w → are_neighbours w n (place n way x b) (place n way x a) ≡ true
near-places w n x Up a b x_in lt b_in near = grind (arith, nat_tests, x_in, lt, b_in, near)
near-places w n x Down a b x_in lt b_in near = grind (arith, nat_tests, x_in, lt, b_in, near)

no-place : (n x : ℕ) (way : Way) → x < n → place n way x 0 ≡ x
no-place n x Up x_in = grind (arith, nat_tests, x_in)
no-place n x Down x_in = grind (arith, nat_tests, x_in)

-- ---- the way to the last survivor to which joints lead

joined-from : (r : Round) (i j : ℕ) → are_neighbours r.width r.meters i j ≡ true → are_joined (graph_of r) i j ≡ true
joined-from r i j near =
    and_from (not (i == j)) (are_neighbours r.width r.meters i j) (and_parts (not (i == j)) (nat_le (apart i j) r.width || nat_le r.meters (apart i j + r.width)) near).0 near

-- the last survivor that was found this way is `reach` places away, and joints lead to each that was found; so many places were looked at
pub record Leads (r : Round) (x : ℕ) (way : Way) (reach places : ℕ) : Type 0 where
  pub before : reach < places
  pub within : reach < r.meters
  pub here : is_member (place r.meters way x reach) (component (graph_of r) x) ≡ true
  pub inside : (k : ℕ) → k ≤ reach → is_member (place r.meters way x k) r.survivors ≡ true → is_member (place r.meters way x k) (component (graph_of r) x) ≡ true
  pub none : (k : ℕ) → reach < k → k < places → is_member (place r.meters way x k) r.survivors ≡ false

pub lead_begins : (r : Round) (x : ℕ) (way : Way) → x < r.meters → is_member x r.survivors ≡ true → Leads r x way 0 1
lead_begins r x way x_in survives =
    let same : (k : ℕ) → k ≤ 0 → place r.meters way x k ≡ x = λ k le. ap (place r.meters way x) (omega (arith, le)) ∙ no-place r.meters x way x_in in
    let self : is_member x (component (graph_of r) x) ≡ true = component-self (graph_of r) x survives in
    record {
      before = omega arith;
      within = omega (arith, x_in);
      here = ap (λ i. is_member i (component (graph_of r) x)) (no-place r.meters x way x_in) ∙ self;
      inside = λ k le _. ap (λ i. is_member i (component (graph_of r) x)) (same k le) ∙ self;
      none = λ k more less. absurd (omega (arith, more, less));
    }

pub lead_finds : (r : Round) (x : ℕ) (way : Way) (reach places : ℕ) → x < r.meters → is_member x r.survivors ≡ true → places < r.meters → places ≤ reach + r.width
    → is_member (place r.meters way x places) r.survivors ≡ true → Leads r x way reach places → Leads r x way places (places + 1)
lead_finds r x way reach places x_in survives below near found leads =
    let one : is_member (place r.meters way x places) (component (graph_of r) x) ≡ true
    = component-closed (graph_of r) x survives (place r.meters way x places) (place r.meters way x reach) found leads.here
    (joined-from r (place r.meters way x places) (place r.meters way x reach) (near-places r.width r.meters x way reach places x_in leads.before below near)) in
    record {
      before = omega arith;
      within = below;
      here = one;
      inside = λ k le survivor. step one k le survivor (cases_lt reach k) (cases_eq k places);
      none = λ k more less. absurd (omega (arith, more, less));
    }
  where
    step : is_member (place r.meters way x places) (component (graph_of r) x) ≡ true → (k : ℕ) → k ≤ places → is_member (place r.meters way x k) r.survivors ≡ true
        → (reach < k) ⊎ (k ≤ reach) → (k ≡ places) ⊎ (k ≡ places → ⊥) → is_member (place r.meters way x k) (component (graph_of r) x) ≡ true
    step one k le survivor (inr low) last = leads.inside k low survivor
    step one k le survivor (inl high) (inl e) = ap (λ i. is_member (place r.meters way x i) (component (graph_of r) x)) e ∙ one
    step one k le survivor (inl high) (inr ne) = absurd (false≢true (sym (leads.none k high (omega (arith, le, ne))) ∙ survivor))

pub lead_passes : (r : Round) (x : ℕ) (way : Way) (reach places : ℕ) → is_member (place r.meters way x places) r.survivors ≡ false → Leads r x way reach places → Leads r x way reach (places + 1)
lead_passes r x way reach places out leads = record {
  before = omega (arith, leads.before);
  within = leads.within;
  here = leads.here;
  inside = leads.inside;
  none = λ k more less.
      ⊎_elim (λ e. ap (λ i. is_member (place r.meters way x i) r.survivors) e ∙ out) (λ ne. leads.none k more (omega (arith, less, ne))) (cases_eq k places);
}

-- ---- the component is the stretch

-- a set of survivors that joints don't leave, and to each of which they lead, is the component
component-by : (r : Round) (x : ℕ) (test : ℕ → Bool) → is_member x r.survivors ≡ true → test x ≡ true → IsWhole (graph_of r) test
    → ((j : ℕ) → is_member j r.survivors ≡ true → test j ≡ true → is_member j (component (graph_of r) x) ≡ true) → filter test r.survivors ≡ component (graph_of r) x
component-by r x test survives is whole reached =
    same_filter test (λ j. is_member j (component (graph_of r) x)) r.survivors
    (λ j within. same_test (test j) (is_member j (component (graph_of r) x)) (reached j within) (λ h. around-same (graph_of r) test whole x survives (length r.survivors) j h ∙ is))
    ∙ sym (around-filtered (graph_of r) x (length r.survivors))

-- by how many places, up the ring of n meters, meter j is from meter x
abbrev ahead : ℕ → ℕ → ℕ → ℕ
ahead n x j = if nat_lt j x then j + n - x else j - x

ahead-below : (n x j : ℕ) → x < n → j < n → ahead n x j < n
ahead-below n x j x_in j_in = grind (arith, nat_tests, x_in, j_in)

place-up : (n x j : ℕ) → x < n → j < n → place n Up x (ahead n x j) ≡ j
place-up n x j x_in j_in = grind (arith, nat_tests, x_in, j_in)

place-down : (n x j : ℕ) → x < n → j < n → 0 < ahead n x j → place n Down x (n - ahead n x j) ≡ j
place-down n x j x_in j_in some = grind (arith, nat_tests, x_in, j_in, some)

-- outside the part after u places up and before d places down
abbrev stretch : ℕ → ℕ → ℕ → ℕ → ℕ → Bool
stretch n x u d j = not (nat_le (x + u + 1) j && nat_lt j (x + n - d)) && not (nat_le (x + u + 1 - n) j && nat_lt j (x + n - d - n))

stretch-in : (n x u d j : ℕ) → x < n → j < n → d < n → stretch n x u d j ≡ true → (ahead n x j ≤ u) ⊎ (n ≤ ahead n x j + d)
stretch-in n x u d j x_in j_in d_in is = grind (arith, nat_tests, x_in, j_in, d_in, is)

stretch-out : (n x u d j : ℕ) → x < n → j < n → d < n → stretch n x u d j ≡ false → (u < ahead n x j) × (ahead n x j + d < n)
stretch-out n x u d j x_in j_in d_in is = grind (arith, nat_tests, x_in, j_in, d_in, is)

-- who is in it is no neighbour of who is more than w places away from both its ends
apart-far : (w n x u d i j : ℕ) → x < n → i < n → j < n → (ahead n x i ≤ u) ⊎ (n ≤ ahead n x i + d) → u + w < ahead n x j → ahead n x j + d + w < n → are_neighbours w n i j ≡ false
apart-far w n x u d i j x_in i_in j_in inside up down = grind (arith, nat_tests, x_in, i_in, j_in, inside, up, down)

stretch-self : (n x u d : ℕ) → x < n → d < n → stretch n x u d x ≡ true
stretch-self n x u d x_in d_in = grind (arith, nat_tests, x_in, d_in)

-- a survivor outside is more than w places away from both ends
gap-up : (r : Round) (x u j : ℕ) → x < r.meters → j < r.meters → Reaches r x Up u → is_member j r.survivors ≡ true → u < ahead r.meters x j → u + r.width < ahead r.meters x j
gap-up r x u j x_in j_in reaches survivor out =
    ⊎_elim (λ lt. lt)
    (λ le. absurd (false≢true (sym (reaches.gap (ahead r.meters x j) out le (ahead-below r.meters x j x_in j_in)) ∙ ap (λ k. is_member k r.survivors) (place-up r.meters x j x_in j_in) ∙ survivor)))
    (cases_lt (u + r.width) (ahead r.meters x j))

gap-down : (r : Round) (x d j : ℕ) → x < r.meters → j < r.meters → 0 < ahead r.meters x j → Reaches r x Down d → is_member j r.survivors ≡ true → ahead r.meters x j + d < r.meters
    → ahead r.meters x j + d + r.width < r.meters
gap-down r x d j x_in j_in some reaches survivor out =
    ⊎_elim (λ lt. lt)
    (λ le. absurd (false≢true (sym (reaches.gap (r.meters - ahead r.meters x j) (omega (arith, out)) (omega (arith, le)) (omega (arith, some, x_in)))
    ∙ ap (λ k. is_member k r.survivors) (place-down r.meters x j x_in j_in some) ∙ survivor)))
    (cases_lt (ahead r.meters x j + d + r.width) r.meters)

stretch-closed : (r : Round) (x u d : ℕ) → IsRingRound r → x < r.meters → Reaches r x Up u → Reaches r x Down d → (i j : ℕ) → is_member i r.survivors ≡ true → is_member j r.survivors ≡ true
    → are_joined (graph_of r) i j ≡ true → stretch r.meters x u d i ≡ true → stretch r.meters x u d j ≡ true
stretch-closed r x u d ok x_in up down i j i_survives j_survives joined is =
    true_from_ne_false (stretch r.meters x u d j)
    (λ out.
    let i_in = survivor-below r ok i i_survives in
    let j_in = survivor-below r ok j j_survives in
    let far = stretch-out r.meters x u d j x_in j_in down.within out in
    false≢true (sym (apart-far r.width r.meters x u d i j x_in i_in j_in (stretch-in r.meters x u d i x_in i_in down.within is)
    (gap-up r x u j x_in j_in up j_survives far.0)
    (gap-down r x d j x_in j_in (omega (arith, far.0)) down j_survives far.1))
    ∙ (and_parts (not (i == j)) (are_neighbours r.width r.meters i j) joined).1))

stretch-whole : (r : Round) (x u d : ℕ) → IsRingRound r → x < r.meters → Reaches r x Up u → Reaches r x Down d → IsWhole (graph_of r) (stretch r.meters x u d)
stretch-whole r x u d ok x_in up down i j i_survives j_survives joined =
    same_test (stretch r.meters x u d i) (stretch r.meters x u d j)
    (stretch-closed r x u d ok x_in up down i j i_survives j_survives joined)
    (stretch-closed r x u d ok x_in up down j i j_survives i_survives (joined-back (graph_of r) (neighbours-back r.width r.meters) j i ∙ joined))

stretch-reached : (r : Round) (x u d : ℕ) → IsRingRound r → x < r.meters → Reaches r x Up u → Reaches r x Down d → (j : ℕ) → is_member j r.survivors ≡ true → stretch r.meters x u d j ≡ true
    → is_member j (component (graph_of r) x) ≡ true
stretch-reached r x u d ok x_in up down j survives is =
    let j_in = survivor-below r ok j survives in
    let by_up : place r.meters Up x (ahead r.meters x j) ≡ j = place-up r.meters x j x_in j_in in
    let from_up : ahead r.meters x j ≤ u → is_member j (component (graph_of r) x) ≡ true
    = λ le. ap (λ k. is_member k (component (graph_of r) x)) (sym by_up) ∙ up.inside (ahead r.meters x j) le (ap (λ k. is_member k r.survivors) by_up ∙ survives) in
    ⊎_elim from_up
    (λ le.
    let lt = down.within in
    let by_down : place r.meters Down x (r.meters - ahead r.meters x j) ≡ j = place-down r.meters x j x_in j_in (omega (arith, le, lt)) in
    ap (λ k. is_member k (component (graph_of r) x)) (sym by_down) ∙ down.inside (r.meters - ahead r.meters x j) (omega (arith, le)) (ap (λ k. is_member k r.survivors) by_down ∙ survives))
    (stretch-in r.meters x u d j x_in j_in down.within is)

pub stretch-is : (r : Round) (x u d after before first last : ℕ) (rest all : List ℕ) → IsRingRound r → is_member x r.survivors ≡ true → Reaches r x Up u → Reaches r x Down d
    → after ≡ x + u + 1 → before ≡ x + r.meters - d → first ≡ after - r.meters → last ≡ before - r.meters → rest ≡ filter (λ j. not (nat_le after j && nat_lt j before)) r.survivors
    → all ≡ filter (λ j. not (nat_le first j && nat_lt j last)) rest → all ≡ component (graph_of r) x
stretch-is r x u d after before first last rest all ok survives up down after_is before_is first_is last_is rest_is all_is =
    let n : ℕ = r.meters in
    let x_in : x < n = survivor-below r ok x survives in
    let first_from : first ≡ x + u + 1 - n = first_is ∙ ap (λ k. k - n) after_is in
    let last_from : last ≡ x + n - d - n = last_is ∙ ap (λ k. k - n) before_is in
    all_is
    ∙ ap (λ k. filter (λ j. not (nat_le k j && nat_lt j last)) rest) first_from
    ∙ ap (λ k. filter (λ j. not (nat_le (x + u + 1 - n) j && nat_lt j k)) rest) last_from
    ∙ ap (filter (λ j. not (nat_le (x + u + 1 - n) j && nat_lt j (x + n - d - n))))
    (rest_is ∙ ap (λ k. filter (λ j. not (nat_le k j && nat_lt j before)) r.survivors) after_is ∙ ap (λ k. filter (λ j. not (nat_le (x + u + 1) j && nat_lt j k)) r.survivors) before_is)
    ∙ filter-both (λ j. not (nat_le (x + u + 1) j && nat_lt j (x + n - d))) (λ j. not (nat_le (x + u + 1 - n) j && nat_lt j (x + n - d - n))) r.survivors
    ∙ component-by r x (stretch n x u d) survives (stretch-self n x u d x_in down.within) (stretch-whole r x u d ok x_in up down) (stretch-reached r x u d ok x_in up down)
