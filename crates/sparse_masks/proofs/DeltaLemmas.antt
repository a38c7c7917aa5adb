-- Sums of the deltas of those that answered, and what moves.
use Rattle.std.proofs.Common.{◌≡◌, ℕ, ◌+◌, ◌^◌, ◌<◌, Bool, true, false, List, [], ◌∷◌, length, sym, ap, ◌∙◌, subst, arith}
use Rattle.std.specs.Prelude.{nat_lt, if◌then◌else◌, Option, Some, None}
use Rattle.std.specs.List.{filter, list_all, sum_by}
use Rattle.std.proofs.lemmas.Bool.{eq-eqb, ltb-true, ne_eqb}
use Rattle.std.proofs.lemmas.List.Sums.{sum_by-cons}
use Rattle.missing_round.specs.Words.{word}
use Rattle.missing_round.specs.Sets.{is_member}
use Rattle.mask_graphs.specs.Moves.{load}
use Rattle.sparse_masks.specs.declared.round.Round.{Round}
use Rattle.sparse_masks.specs.Trees.{is_one}
use Rattle.sparse_masks.specs.Rounds.{graph_of, IsRingRound}
use Rattle.sparse_masks.specs.TreeParts.{delta_in}
use Rattle.sparse_masks.proofs.ReachLemmas.{of_filter}
use Rattle.sparse_masks.proofs.ForestLemmas.{all_pass}
use Rattle.sparse_masks.proofs.ConverseLemmas.{all-member}
use Rattle.sparse_masks.proofs.RoundLemmas.{all-next}

-- the sum so far, and the meters that are left
pub record Summed (r : Round) (deltas all left : List ℕ) (sum : ℕ) : Type 0 where
  pub below : list_all (λ i. nat_lt i (length deltas)) left ≡ true
  pub is : word (sum + sum_by (load (graph_of r) (delta_in deltas)) left) ≡ word (sum_by (load (graph_of r) (delta_in deltas)) all)
  pub small : sum < 2 ^ 64

pub sum_begins : (r : Round) (deltas all left : List ℕ) → left ≡ all → list_all (λ i. nat_lt i (length deltas)) all ≡ true → Summed r deltas all left 0
sum_begins r deltas all left is below =
    subst (λ l. Summed r deltas all l 0) (sym is) (record { below = below; is = omega arith; small = omega arith })

pub sum_within : (r : Round) (deltas all left rest : List ℕ) (sum x : ℕ) → left ≡ x ∷ rest → Summed r deltas all left sum → x < length deltas
sum_within r deltas all left rest sum x is before = ltb-true x (length deltas) (all-next (λ i. nat_lt i (length deltas)) left rest x is before.below).0

pub sum_adds : (r : Round) (deltas all left rest : List ℕ) (sum x : ℕ) → left ≡ x ∷ rest → is_member x r.answered ≡ true → Summed r deltas all left sum → Summed r deltas all rest (word (sum + delta_in deltas x))
sum_adds r deltas all left rest sum x is answered before =
    let e : ℕ → ℕ = load (graph_of r) (delta_in deltas) in
    let here : e x ≡ delta_in deltas x = ap (λ b. if b then delta_in deltas x else 0) answered in
    let split : sum_by e left ≡ e x + sum_by e rest = ap (sum_by e) is ∙ sum_by-cons e x rest in
    let old = before.is in
    record {
      below = (all-next (λ i. nat_lt i (length deltas)) left rest x is before.below).1;
      is = omega (arith, here, split, old);
      small = omega arith;
    }

pub sum_skips : (r : Round) (deltas all left rest : List ℕ) (sum x : ℕ) → left ≡ x ∷ rest → is_member x r.answered ≡ false → Summed r deltas all left sum → Summed r deltas all rest sum
sum_skips r deltas all left rest sum x is silent before =
    let e : ℕ → ℕ = load (graph_of r) (delta_in deltas) in
    let here : e x ≡ 0 = ap (λ b. if b then delta_in deltas x else 0) silent in
    let split : sum_by e left ≡ e x + sum_by e rest = ap (sum_by e) is ∙ sum_by-cons e x rest in
    let old = before.is in
    record {
      below = (all-next (λ i. nat_lt i (length deltas)) left rest x is before.below).1;
      is = omega (arith, here, split, old);
      small = before.small;
    }

pub sum_ends : (r : Round) (deltas all left : List ℕ) (sum : ℕ) → left ≡ [] → Summed r deltas all left sum → sum ≡ word (sum_by (load (graph_of r) (delta_in deltas)) all)
sum_ends r deltas all left sum none s =
    let gone : sum_by (load (graph_of r) (delta_in deltas)) left ≡ 0 = ap (sum_by (load (graph_of r) (delta_in deltas))) none in
    let is = s.is in
    let small = s.small in
    omega (arith, gone, is, small)

pub passing-below : (r : Round) → IsRingRound r → (test : ℕ → Bool) (n : ℕ) → n ≡ r.meters → list_all (λ i. nat_lt i n) (filter test r.survivors) ≡ true
passing-below r ok test n is =
    ap (λ k. list_all (λ i. nat_lt i k) (filter test r.survivors)) is
    ∙ all_pass (λ i. nat_lt i r.meters) (filter test r.survivors)
    (λ i within. all-member (λ k. nat_lt k r.meters) r.survivors ok.within i (of_filter test i r.survivors within).0)

-- what a meter hands to its parent, and to another one
pub handed-is : (o : Option ℕ) (up to sum : ℕ) → o ≡ Some up → up ≡ to → word (if is_one o to then sum else 0) ≡ word sum
handed-is o up to sum is same = ap (λ q. word (if is_one q to then sum else 0)) is ∙ ap (λ b. word (if b then sum else 0)) (eq-eqb up to same)

pub handed-other : (o : Option ℕ) (up to sum : ℕ) → o ≡ Some up → (up ≡ to → ⊥) → 0 ≡ word (if is_one o to then sum else 0)
handed-other o up to sum is other = sym (ap (λ q. word (if is_one q to then sum else 0)) is ∙ ap (λ b. word (if b then sum else 0)) (ne_eqb up to other))

pub handed-none : (o : Option ℕ) (to sum : ℕ) → o ≡ None → 0 ≡ word (if is_one o to then sum else 0)
handed-none o to sum is = sym (ap (λ q. word (if is_one q to then sum else 0)) is)
