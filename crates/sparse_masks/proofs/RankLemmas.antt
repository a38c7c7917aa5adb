-- How many steps it is from the root of a component to each of its members.
use Rattle.std.proofs.Common.{◌≡◌, ℕ, suc, ◌+◌, ◌<◌, ◌≤◌, Bool, true, false, not, ◌&&◌, ◌||◌, List, [], ◌∷◌, length, refl, sym, ap, ◌∙◌, arith}
use Rattle.std.specs.Prelude.{slice_index_or, if◌then◌else◌}
use Rattle.std.proofs.lemmas.Bool.{and_parts, both_ways, false_from_ne_true, ne_eqb}
use Rattle.missing_round.specs.Sets.{is_member, less}
use Rattle.missing_round.proofs.SetLemmas.{is_member-filter}
use Rattle.mask_graphs.specs.Graphs.{Graph}
use Rattle.mask_graphs.proofs.ListFacts.{member_head, member_later}
use Rattle.sparse_masks.specs.declared.round.Round.{Round}
use Rattle.sparse_masks.specs.Trees.{widened, around, component, root, steps_between}
use Rattle.sparse_masks.specs.Rounds.{graph_of}
use Rattle.sparse_masks.specs.TreeParts.{AreRanks}
use Rattle.sparse_masks.proofs.ReachLemmas.{IsSymmetric, around-le, around-members, around-more}
use Rattle.sparse_masks.proofs.ForestLemmas.{in_root, root-same, rooted, steps-are}
use Rattle.sparse_masks.proofs.RoundLemmas.{settled}
use Rattle.sparse_masks.proofs.WorldLemmas.{neighbours-back}

-- ---- one component

-- those that k steps reach from a meter have their steps from there, and the others what they had
pub record Stepped (graph : Graph) (from k : ℕ) (reached old now : List ℕ) : Type 0 where
  pub is : reached ≡ around graph from k
  pub long : length now ≡ length old
  pub each : (i : ℕ) → slice_index_or now i 0 ≡ (if is_member i (around graph from k) then steps_between graph from i else slice_index_or old i 0)

first-steps : (graph : Graph) (from k i : ℕ) → k ≤ length graph.members → is_member i (around graph from k) ≡ true → ((l : ℕ) → l < k → is_member i (around graph from l) ≡ false) → steps_between graph from i ≡ k
first-steps graph from k i few within before = steps-are graph from i (record { steps = k; few = few; within = within; before = before })

pub steps_begin : (graph : Graph) (from : ℕ) (reached old now : List ℕ) → reached ≡ around graph from 0 → length now ≡ length old
    → ((i : ℕ) → slice_index_or now i 0 ≡ (if is_member i reached then 0 else slice_index_or old i 0)) → Stepped graph from 0 reached old now
steps_begin graph from reached old now is long puts = record {
  is = is;
  long = long;
  each = λ i. puts i ∙ ap (λ (l : List ℕ). if is_member i l then 0 else slice_index_or old i 0) is ∙ step i (is_member i (around graph from 0)) refl;
}
  where
    step : (i : ℕ) (b : Bool) → is_member i (around graph from 0) ≡ b → (if b then 0 else slice_index_or old i 0) ≡ (if b then steps_between graph from i else slice_index_or old i 0)
    step i true e = sym (first-steps graph from 0 i (omega arith) e (λ l lt. absurd (omega (arith, lt))))
    step i false e = refl

pub next-within : (graph : Graph) (from k : ℕ) (reached wider next : List ℕ) → reached ≡ around graph from k → wider ≡ widened graph reached → next ≡ less wider reached → (i : ℕ) → is_member i next ≡ true → is_member i graph.members ≡ true
next-within graph from k reached wider next is wider_is next_is i h =
    let in_wider : is_member i wider ≡ true
    = (and_parts (is_member i wider) (not (is_member i reached)) (sym (is_member-filter (λ j. not (is_member j reached)) i wider) ∙ ap (is_member i) (sym next_is) ∙ h)).0 in
    around-members graph from (suc k) i (ap (is_member i) (sym (wider_is ∙ ap (widened graph) is)) ∙ in_wider)

pub steps_more : (graph : Graph) (from k : ℕ) (reached wider next old now new : List ℕ) → k < length graph.members → wider ≡ widened graph reached → next ≡ less wider reached → length new ≡ length now
    → ((i : ℕ) → slice_index_or new i 0 ≡ (if is_member i next then k + 1 else slice_index_or now i 0)) → Stepped graph from k reached old now → Stepped graph from (k + 1) wider old new
steps_more graph from k reached wider next old now new lt wider_is next_is long puts before =
    let more : suc k ≡ k + 1 = omega arith in
    let is : wider ≡ around graph from (suc k) = wider_is ∙ ap (widened graph) before.is in
    let members : (i : ℕ) → is_member i next ≡ (is_member i (around graph from (suc k)) && not (is_member i (around graph from k)))
    = λ i. ap (is_member i) (next_is ∙ ap (λ l. less l reached) is ∙ ap (less (around graph from (suc k))) before.is)
    ∙ is_member-filter (λ j. not (is_member j (around graph from k))) i (around graph from (suc k)) in
    record {
      is = is ∙ ap (around graph from) more;
      long = long ∙ before.long;
      each = λ i.
          puts i
          ∙ ap (λ b. if b then k + 1 else slice_index_or now i 0) (members i)
          ∙ ap (λ v. if is_member i (around graph from (suc k)) && not (is_member i (around graph from k)) then k + 1 else v) (before.each i)
          ∙ step i (is_member i (around graph from (suc k))) (is_member i (around graph from k)) refl refl
          ∙ ap (λ n. if is_member i (around graph from n) then steps_between graph from i else slice_index_or old i 0) more;
    }
  where
    step : (i : ℕ) (a b : Bool) → is_member i (around graph from (suc k)) ≡ a → is_member i (around graph from k) ≡ b
        → (if a && not b then k + 1 else (if b then steps_between graph from i else slice_index_or old i 0)) ≡ (if a then steps_between graph from i else slice_index_or old i 0)
    step i true true a_is b_is = refl
    step i true false a_is b_is =
        let e : suc k ≡ k + 1 = omega arith in
        sym (first-steps graph from (suc k) i (omega (arith, lt)) a_is (λ l less. false_from_ne_true (is_member i (around graph from l)) (λ h. both_ways (is_member i (around graph from k)) b_is (around-le graph from i l k (omega (arith, less)) h))) ∙ e)
    step i false true a_is b_is = absurd (both_ways (is_member i (around graph from (suc k))) a_is (around-more graph from k i b_is))
    step i false false a_is b_is = refl

-- each member of the component has its steps from the meter
abbrev pub HaveSteps : Graph → ℕ → List ℕ → List ℕ → Type 0
HaveSteps graph from old now = (i : ℕ) → slice_index_or now i 0 ≡ (if is_member i (component graph from) then steps_between graph from i else slice_index_or old i 0)

pub steps_stop : (graph : Graph) (from k : ℕ) (reached old now : List ℕ) → k ≤ length graph.members → widened graph reached ≡ reached → Stepped graph from k reached old now → HaveSteps graph from old now
steps_stop graph from k reached old now few still s i =
    s.each i
    ∙ ap (λ (l : List ℕ). if is_member i l then steps_between graph from i else slice_index_or old i 0)
    (sym (settled graph from k (ap (widened graph) (sym s.is) ∙ still ∙ s.is) (length graph.members) few))

-- ---- all components

-- each survivor has its steps whose root isn't left
pub record Ranked (r : Round) (ranks left : List ℕ) : Type 0 where
  pub long : length ranks ≡ r.meters
  pub inside : (i : ℕ) → is_member i left ≡ true → is_member i r.survivors ≡ true
  pub done : (i : ℕ) → is_member i r.survivors ≡ true → is_member (root (graph_of r) i) left ≡ false → slice_index_or ranks i 0 ≡ steps_between (graph_of r) (root (graph_of r) i) i

pub ranks_begin : (r : Round) (ranks left : List ℕ) → left ≡ r.survivors → length ranks ≡ r.meters → Ranked r ranks left
ranks_begin r ranks left is long = record {
  long = long;
  inside = λ i h. ap (is_member i) (sym is) ∙ h;
  done = λ i survives out.
      absurd (both_ways (is_member (root (graph_of r) i) left) out (ap (is_member (root (graph_of r) i)) is ∙ (rooted (graph_of r) (neighbours-back r.width r.meters) i survives).member));
}

not-left : (x k : ℕ) (left rest : List ℕ) → left ≡ x ∷ rest → is_member k rest ≡ false → (x ≡ k → ⊥) → is_member k left ≡ false
not-left x k left rest is out ne = ap (is_member k) is ∙ ap (λ b. b || is_member k rest) (ne_eqb x k ne) ∙ out

pub ranks_put : (r : Round) (ranks new left rest : List ℕ) (x : ℕ) → left ≡ x ∷ rest → root (graph_of r) x ≡ x → length new ≡ length ranks → HaveSteps (graph_of r) x ranks new → Ranked r ranks left → Ranked r new rest
ranks_put r ranks new left rest x is itself long puts before =
    let graph : Graph = graph_of r in
    let symmetric : IsSymmetric graph = neighbours-back r.width r.meters in
    let x_in : is_member x r.survivors ≡ true = before.inside x (ap (is_member x) is ∙ member_head x rest) in
    record {
      long = long ∙ before.long;
      inside = λ i h. before.inside i (ap (is_member i) is ∙ member_later i x rest h);
      done = λ i survives out. puts i ∙ step symmetric x_in i survives out (is_member i (component graph x)) refl;
    }
  where
    step : IsSymmetric (graph_of r) → is_member x r.survivors ≡ true → (i : ℕ) → is_member i r.survivors ≡ true → is_member (root (graph_of r) i) rest ≡ false → (b : Bool) → is_member i (component (graph_of r) x) ≡ b
        → (if b then steps_between (graph_of r) x i else slice_index_or ranks i 0) ≡ steps_between (graph_of r) (root (graph_of r) i) i
    step symmetric x_in i survives out true e = ap (λ k. steps_between (graph_of r) k i) (sym (root-same (graph_of r) symmetric x i x_in e ∙ itself))
    step symmetric x_in i survives out false e =
        before.done i survives
        (not-left x (root (graph_of r) i) left rest is out
        (λ same. both_ways (is_member i (component (graph_of r) x)) e (ap (λ k. is_member i (component (graph_of r) k)) same ∙ in_root (graph_of r) symmetric i survives)))

pub ranks_pass : (r : Round) (ranks left rest : List ℕ) (x : ℕ) → left ≡ x ∷ rest → (root (graph_of r) x ≡ x → ⊥) → Ranked r ranks left → Ranked r ranks rest
ranks_pass r ranks left rest x is other before = record {
  long = before.long;
  inside = λ i h. before.inside i (ap (is_member i) is ∙ member_later i x rest h);
  done = λ i survives out. before.done i survives
      (not-left x (root (graph_of r) i) left rest is out
      (λ same. other (ap (root (graph_of r)) same ∙ (rooted (graph_of r) (neighbours-back r.width r.meters) i survives).itself ∙ sym same)));
}

pub ranks_end : (r : Round) (ranks left : List ℕ) → left ≡ [] → Ranked r ranks left → AreRanks r r.meters ranks
ranks_end r ranks left none is = record {
  long = is.long;
  each = λ i lt survives. is.done i survives (ap (is_member (root (graph_of r) i)) none);
}
