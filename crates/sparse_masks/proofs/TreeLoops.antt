-- The loops that find the tree of a component.
use Rattle.std.proofs.Common.{◌≡◌, ℕ, suc, ◌+◌, ◌-◌, ◌<◌, ◌≤◌, Bool, true, false, cond, not, ◌||◌, List, [], ◌∷◌, length, refl, sym, ap, ◌∙◌, arith}
use Rattle.std.specs.Prelude.{◌==◌, Option, Some, None, unwrap_or, slice_get, slice_index_or}
use Rattle.std.specs.List.{filter, find}
use Rattle.std.proofs.lemmas.Bool.{eq-eqb, ne_eqb}
use Rattle.std.proofs.lemmas.Option.{unwrap_or-slice_get}
use Rattle.missing_round.specs.Sets.{is_member, less}
use Rattle.mask_graphs.specs.Graphs.{Graph}
use Rattle.mask_graphs.proofs.ListFacts.{member_head, member_later}
use Rattle.sparse_masks.specs.declared.round.Round.{Round}
use Rattle.sparse_masks.specs.Trees.{joined_to, are_joined, component, root, steps_between, parent, holds_for, passes}
use Rattle.sparse_masks.specs.Rounds.{graph_of, IsRingRound}
use Rattle.sparse_masks.specs.TreeParts.{AreRanks}
use Rattle.sparse_masks.proofs.ReachLemmas.{IsSymmetric, component-closed, component-self, joined-back, of_filter}
use Rattle.sparse_masks.proofs.ForestLemmas.{root_in, root-same, stranger_alone, parent-is}
use Rattle.sparse_masks.proofs.RoundLemmas.{survivor-below}
use Rattle.sparse_masks.proofs.WorldLemmas.{neighbours-back}

-- ---- roots

find-first : (p : ℕ → Bool) (xs : List ℕ) → find p xs ≡ slice_get (filter p xs) 0
find-first p [] = refl
find-first p (x ∷ xs) = step (p x) (find-first p xs)
  where
    step : (b : Bool) → find p xs ≡ slice_get (filter p xs) 0 → cond b (Some x) (find p xs) ≡ slice_get (cond b (x ∷ filter p xs) (filter p xs)) 0
    step true e = refl
    step false e = e

pub root-is : (b c : List ℕ) (d least r : ℕ) → least ≡ unwrap_or (slice_get c 0) d → r ≡ unwrap_or (slice_get (less c b) 0) least → r ≡ root_in (λ i. is_member i b) c d
root-is b c d least r least_is r_is =
    r_is
    ∙ ap (λ o. unwrap_or o least) (sym (find-first (λ j. not (is_member j b)) c))
    ∙ ap (unwrap_or (find (λ j. not (is_member j b)) c)) (least_is ∙ unwrap_or-slice_get c 0 d)

-- ---- parents

-- the rank of a meter that is joined, by the root of the other one
pub rank-joined : (r : Round) → IsRingRound r → (ranks : List ℕ) → AreRanks r r.meters ranks → (u v : ℕ) → is_member u r.survivors ≡ true → is_member v (joined_to (graph_of r) u) ≡ true
    → slice_index_or ranks v 0 ≡ steps_between (graph_of r) (root (graph_of r) u) v
rank-joined r ok ranks are u v u_in joint =
    let graph : Graph = graph_of r in
    let symmetric : IsSymmetric graph = neighbours-back r.width r.meters in
    let both = of_filter (are_joined graph u) v r.survivors joint in
    let near : is_member v (component graph u) ≡ true = component-closed graph u u_in v u both.0 (component-self graph u u_in) (joined-back graph symmetric v u ∙ both.1) in
    are.each v (survivor-below r ok v both.0) both.0 ∙ ap (λ k. steps_between graph k v) (root-same graph symmetric u v u_in near)

pub joined-below : (r : Round) → IsRingRound r → (u v : ℕ) → is_member v (joined_to (graph_of r) u) ≡ true → v < r.meters
joined-below r ok u v joint = survivor-below r ok v (of_filter (are_joined (graph_of r) u) v r.survivors joint).0

-- the meters that are left of those joined
pub record Looking (graph : Graph) (u : ℕ) (left : List ℕ) : Type 0 where
  pub within : (v : ℕ) → is_member v left ≡ true → is_member v (joined_to graph u) ≡ true
  pub parent_is : find (λ v. steps_between graph (root graph u) v + 1 == steps_between graph (root graph u) u) left ≡ parent graph u

pub look_begins : (graph : Graph) (u : ℕ) (left : List ℕ) → left ≡ joined_to graph u → Looking graph u left
look_begins graph u left is = record {
  within = λ v h. ap (is_member v) (sym is) ∙ h;
  parent_is = ap (find (λ v. steps_between graph (root graph u) v + 1 == steps_between graph (root graph u) u)) is;
}

pub look_head : (graph : Graph) (u x : ℕ) (left rest : List ℕ) → left ≡ x ∷ rest → Looking graph u left → is_member x (joined_to graph u) ≡ true
look_head graph u x left rest is l = l.within x (ap (is_member x) is ∙ member_head x rest)

pub look_finds : (graph : Graph) (u x : ℕ) (left rest : List ℕ) → left ≡ x ∷ rest → steps_between graph (root graph u) x + 1 ≡ steps_between graph (root graph u) u → Looking graph u left → Some x ≡ parent graph u
look_finds graph u x left rest is nearer l =
    let test : ℕ → Bool = λ v. steps_between graph (root graph u) v + 1 == steps_between graph (root graph u) u in
    sym (ap (λ b. cond b (Some x) (find test rest)) (eq-eqb (steps_between graph (root graph u) x + 1) (steps_between graph (root graph u) u) nearer))
    ∙ sym (ap (find test) is) ∙ l.parent_is

pub look_goes_on : (graph : Graph) (u x : ℕ) (left rest : List ℕ) → left ≡ x ∷ rest → (steps_between graph (root graph u) x + 1 ≡ steps_between graph (root graph u) u → ⊥) → Looking graph u left → Looking graph u rest
look_goes_on graph u x left rest is other l =
    let test : ℕ → Bool = λ v. steps_between graph (root graph u) v + 1 == steps_between graph (root graph u) u in
    record {
      within = λ v h. l.within v (ap (is_member v) is ∙ member_later v x rest h);
      parent_is =
          sym (ap (λ b. cond b (Some x) (find test rest)) (ne_eqb (steps_between graph (root graph u) x + 1) (steps_between graph (root graph u) u) other))
          ∙ sym (ap (find test) is) ∙ l.parent_is;
    }

pub look_ends : (graph : Graph) (u : ℕ) (left : List ℕ) → left ≡ [] → Looking graph u left → None ≡ parent graph u
look_ends graph u left none l = sym (ap (find (λ v. steps_between graph (root graph u) v + 1 == steps_between graph (root graph u) u)) none) ∙ l.parent_is

pub stranger-none : (graph : Graph) (u : ℕ) → is_member u graph.members ≡ false → None ≡ parent graph u
stranger-none graph u out = step (parent graph u) refl
  where
    step : (o : Option ℕ) → parent graph u ≡ o → None ≡ o
    step None e = refl
    step (Some v) e = absurd (stranger_alone graph u v out e)

-- ---- ways

pub pass-step : (graph : Graph) (n k u at : ℕ) → k < n → passes graph (n - k) u at ≡ ((at == u) || holds_for (passes graph (n - (k + 1)) u) (parent graph at))
pass-step graph n k u at lt =
    let less : n - k ≡ suc (n - (k + 1)) = omega (arith, lt) in
    ap (λ m. passes graph m u at) less

-- what is left of a way from a meter passes u as the whole does
pub record Passing (r : Round) (u from k at : ℕ) : Type 0 where
  pub below : at < r.meters
  pub same : passes (graph_of r) (length r.survivors - k) u at ≡ passes (graph_of r) (length r.survivors) u from

pub pass_begins : (r : Round) (u from : ℕ) → from < r.meters → Passing r u from 0 from
pass_begins r u from lt =
    let all : length r.survivors - 0 ≡ length r.survivors = omega arith in
    record { below = lt; same = ap (λ m. passes (graph_of r) m u from) all }

pub pass_here : (r : Round) (u from k at : ℕ) → k < length r.survivors → at ≡ u → Passing r u from k at → true ≡ passes (graph_of r) (length r.survivors) u from
pass_here r u from k at lt here p =
    sym (pass-step (graph_of r) (length r.survivors) k u at lt ∙ ap (λ b. b || holds_for (passes (graph_of r) (length r.survivors - (k + 1)) u) (parent (graph_of r) at)) (eq-eqb at u here)) ∙ p.same

pub pass_root : (r : Round) (u from k at : ℕ) → k < length r.survivors → (at ≡ u → ⊥) → parent (graph_of r) at ≡ None → Passing r u from k at → false ≡ passes (graph_of r) (length r.survivors) u from
pass_root r u from k at lt other none p =
    sym (pass-step (graph_of r) (length r.survivors) k u at lt
    ∙ ap (λ b. b || holds_for (passes (graph_of r) (length r.survivors - (k + 1)) u) (parent (graph_of r) at)) (ne_eqb at u other)
    ∙ ap (holds_for (passes (graph_of r) (length r.survivors - (k + 1)) u)) none)
    ∙ p.same

pub pass_on : (r : Round) → IsRingRound r → (u from k at next : ℕ) → k < length r.survivors → (at ≡ u → ⊥) → parent (graph_of r) at ≡ Some next → Passing r u from k at → Passing r u from (k + 1) next
pass_on r ok u from k at next lt other some p = record {
  below = survivor-below r ok next (parent-is (graph_of r) at next some).member;
  same =
      sym (pass-step (graph_of r) (length r.survivors) k u at lt
      ∙ ap (λ b. b || holds_for (passes (graph_of r) (length r.survivors - (k + 1)) u) (parent (graph_of r) at)) (ne_eqb at u other)
      ∙ ap (holds_for (passes (graph_of r) (length r.survivors - (k + 1)) u)) some)
      ∙ p.same;
}

pub pass_ends : (r : Round) (u from k at : ℕ) → length r.survivors ≤ k → Passing r u from k at → (at == u) ≡ passes (graph_of r) (length r.survivors) u from
pass_ends r u from k at all p =
    let none : length r.survivors - k ≡ 0 = omega (arith, all) in
    sym (ap (λ m. passes (graph_of r) m u at) none) ∙ p.same
