-- Steps along trees: what each meter has left after them.
use Rattle.std.proofs.Common.{◌≡◌, ℕ, ◌+◌, Bool, true, false, not, ◌&&◌, List, [], ◌∷◌, ◌++◌, refl, sym, ap, ◌∙◌, add-zero, arith, ⊎_elim}
use Rattle.std.specs.Prelude.{◌==◌, if◌then◌else◌, Option, Some, None}
use Rattle.std.specs.List.{sum_by, find}
use Rattle.std.proofs.lemmas.Bool.{false≢true, ne_eqb, eq-eqb, eqb-true, or_cases, and_parts, both_ways}
use Rattle.std.proofs.lemmas.List.Sums.{sum_by-cons}
use Rattle.missing_round.specs.Sets.{is_member}
use Rattle.missing_round.proofs.WordLemmas.{sum_by-add}
use Rattle.mask_graphs.specs.Graphs.{Graph, IsGraph, sees, linked}
use Rattle.mask_graphs.specs.Steps.{Step, stays, handed, left_after}
use Rattle.mask_graphs.specs.Search.{step_to, tree_steps, way_out}
use Rattle.mask_graphs.proofs.ListFacts.{Distinct, at, find-member, find-passes, not_head, not_tail, sum_at, sum_same}

-- ---- what a meter sees

pub record Seen (graph : Graph) (i j : ℕ) : Type 0 where
  pub answered : graph.answered i ≡ true
  pub other : i ≡ j → ⊥
  pub masked : graph.masked i j ≡ true
  pub stands : graph.stands i j ≡ true

pub sees-is : (graph : Graph) (i j : ℕ) → sees graph i j ≡ true → Seen graph i j
sees-is graph i j h =
    let c = and_parts (graph.answered i && not (i == j) && graph.masked i j) (graph.stands i j) h in
    let b = and_parts (graph.answered i && not (i == j)) (graph.masked i j) c.0 in
    let a = and_parts (graph.answered i) (not (i == j)) b.0 in
    record {
      answered = a.0;
      other = λ e. both_ways (i == j) (not_false (i == j) a.1) (eq-eqb i j e);
      masked = b.1;
      stands = c.1;
    }
  where
    not_false : (b : Bool) → not b ≡ true → b ≡ false
    not_false true e = absurd (false≢true e)
    not_false false e = refl

pub linked-is : (graph : Graph) (i j : ℕ) → linked graph i j ≡ true → Seen graph i j × Seen graph j i
linked-is graph i j h =
    let both = and_parts (sees graph i j) (sees graph j i) h in
    (sees-is graph i j both.0, sees-is graph j i both.1)

-- a step along a link is handed on
pub link-goes_on : (graph : Graph) (i j : ℕ) → linked graph i j ≡ true → stays graph (record { from = i; to = j }) ≡ false
link-goes_on graph i j h =
    let back : Seen graph j i = (linked-is graph i j h).1 in
    ap (λ b. b && not (graph.stands j i)) back.answered ∙ ap not back.stands

-- ---- one step and more

pub left_after-append : (graph : Graph) (a b : List Step) (left : ℕ → ℕ) → left_after graph (a ++ b) left ≡ left_after graph b (left_after graph a left)
left_after-append graph [] b left = refl
left_after-append graph (s ∷ a) b left = left_after-append graph a b (handed graph s left)

-- a meter at neither end of a step keeps what it has
pub handed-apart : (graph : Graph) (i j : ℕ) (left : ℕ → ℕ) (k : ℕ) → (k ≡ i → ⊥) → (k ≡ j → ⊥) → handed graph (record { from = i; to = j }) left k ≡ left k
handed-apart graph i j left k not_i not_j =
    ap (λ b. (if b then 0 else left k) + (if (k == j) && not (stays graph (record { from = i; to = j })) then left i else 0)) (ne_eqb k i not_i)
    ∙ ap (λ b. left k + (if b && not (stays graph (record { from = i; to = j })) then left i else 0)) (ne_eqb k j not_j)
    ∙ add-zero (left k)

-- who hands on has nothing left
pub handed-from : (graph : Graph) (i j : ℕ) (left : ℕ → ℕ) → (i ≡ j → ⊥) → handed graph (record { from = i; to = j }) left i ≡ 0
handed-from graph i j left other =
    ap (λ b. (if b then 0 else left i) + (if (i == j) && not (stays graph (record { from = i; to = j })) then left i else 0)) (eq-eqb i i refl)
    ∙ ap (λ b. 0 + (if b && not (stays graph (record { from = i; to = j })) then left i else 0)) (ne_eqb i j other)

-- along a link, another meter has what it had, and `to` what was handed besides
pub handed-link : (graph : Graph) (i j : ℕ) (left : ℕ → ℕ) (k : ℕ) → linked graph i j ≡ true → (k ≡ i → ⊥) → handed graph (record { from = i; to = j }) left k ≡ left k + at j (left i) k
handed-link graph i j left k link not_i =
    ap (λ b. (if b then 0 else left k) + (if (k == j) && not (stays graph (record { from = i; to = j })) then left i else 0)) (ne_eqb k i not_i)
    ∙ ap (λ b. left k + (if (k == j) && not b then left i else 0)) (link-goes_on graph i j link)
    ∙ ap (λ b. left k + (if b then left i else 0)) (and-true (k == j))
  where
    and-true : (b : Bool) → (b && true) ≡ b
    and-true true = refl
    and-true false = refl

-- ---- a tree

-- new meters, each of which is no meter after it, and is linked with one of them
abbrev pub Grows : Graph → List ℕ → List ℕ → Type 0
Grows graph base [] = Unit {0}
Grows graph base (i ∷ new) =
    (is_member i (new ++ base) ≡ false) × ((j : ℕ) × (find (linked graph i) (new ++ base) ≡ Some j)) × Grows graph base new

pub apart-members : (j k : ℕ) (xs : List ℕ) → is_member j xs ≡ true → is_member k xs ≡ false → k ≡ j → ⊥
apart-members j k xs within out e = both_ways (is_member k xs) out (ap (λ z. is_member z xs) e ∙ within)

-- a meter outside the tree keeps what it has
pub tree-apart : (graph : Graph) (part : List ℕ) (left : ℕ → ℕ) (k : ℕ) → is_member k part ≡ false → left_after graph (tree_steps graph part) left k ≡ left k
tree-apart graph [] left k out = refl
tree-apart graph (i ∷ part) left k out = step (find (linked graph i) part) refl (λ f. tree-apart graph part f k (not_tail k i part out))
  where
    step : (o : Option ℕ) → find (linked graph i) part ≡ o → ((f : ℕ → ℕ) → left_after graph (tree_steps graph part) f k ≡ f k) → left_after graph (step_to i o ++ tree_steps graph part) left k ≡ left k
    step None e rest = rest left
    step (Some j) e rest =
        rest (handed graph (record { from = i; to = j }) left)
        ∙ handed-apart graph i j left k (not_head k i part out) (apart-members j k part (find-member (linked graph i) part j e) (not_tail k i part out))

-- the new meters have nothing left
pub tree-new : (graph : Graph) (base new : List ℕ) (left : ℕ → ℕ) (k : ℕ) → Grows graph base new → is_member k new ≡ true → left_after graph (tree_steps graph (new ++ base)) left k ≡ 0
tree-new graph base [] left k grows within = absurd (false≢true within)
tree-new graph base (i ∷ new) left k grows within =
    let rest : List ℕ = new ++ base in
    let j : ℕ = grows.1.0 in
    let found : find (linked graph i) rest ≡ Some j = grows.1.1 in
    let s : Step = record { from = i; to = j } in
    ap (λ o. left_after graph (step_to i o ++ tree_steps graph rest) left k) found
    ∙ ⊎_elim
    (λ here.
    let same : k ≡ i = sym (eqb-true i k here) in
    ap (left_after graph (tree_steps graph rest) (handed graph s left)) same
    ∙ tree-apart graph rest (handed graph s left) i grows.0
    ∙ handed-from graph i j left (apart-members j i rest (find-member (linked graph i) rest j found) grows.0))
    (λ later. tree-new graph base new (handed graph s left) k grows.2 later)
    (or_cases (i == k) (is_member k new) within)

pub grows-distinct : (graph : Graph) (base new : List ℕ) → Distinct base → Grows graph base new → Distinct (new ++ base)
grows-distinct graph base [] once grows = once
grows-distinct graph base (i ∷ new) once grows = (grows.0, grows-distinct graph base new once grows.2)

-- where one meter is at the root, it has gathered all
pub tree-root : (graph : Graph) (w : ℕ) (new : List ℕ) (left : ℕ → ℕ) → Grows graph (w ∷ []) new → left_after graph (tree_steps graph (new ++ w ∷ [])) left w ≡ sum_by left (new ++ w ∷ [])
tree-root graph w [] left grows = sym (sum_by-cons left w [] ∙ add-zero (left w))
tree-root graph w (i ∷ new) left grows =
    let rest : List ℕ = new ++ w ∷ [] in
    let j : ℕ = grows.1.0 in
    let found : find (linked graph i) rest ≡ Some j = grows.1.1 in
    let within : is_member j rest ≡ true = find-member (linked graph i) rest j found in
    let s : Step = record { from = i; to = j } in
    ap (λ o. left_after graph (step_to i o ++ tree_steps graph rest) left w) found
    ∙ tree-root graph w new (handed graph s left) grows.2
    ∙ sum_same (handed graph s left) (λ k. left k + at j (left i) k) rest
    (λ k k_in. handed-link graph i j left k (find-passes (linked graph i) rest j found) (λ e. both_ways (is_member k rest) (ap (λ z. is_member z rest) e ∙ grows.0) k_in))
    ∙ sum_by-add left (at j (left i)) rest
    ∙ omega (arith, sum_at j (left i) rest (grows-distinct graph (w ∷ []) new (refl, tt) grows.2) within, sum_by-cons left i rest)

-- ---- ways out

pub record GoesOut (graph : Graph) (i j : ℕ) : Type 0 where
  pub seen : Seen graph i j
  pub sight : sees graph i j ≡ true
  pub unseen : sees graph j i ≡ false

pub way_out-is : (graph : Graph) (i j : ℕ) → way_out graph i ≡ Some j → GoesOut graph i j
way_out-is graph i j e =
    let both = and_parts (sees graph i j) (not (sees graph j i)) (find-passes (λ k. sees graph i k && not (sees graph k i)) graph.members j e) in
    record { seen = sees-is graph i j both.0; sight = both.0; unseen = not_true (sees graph j i) both.1 }
  where
    not_true : (b : Bool) → not b ≡ true → b ≡ false
    not_true true e = absurd (false≢true e)
    not_true false e = refl

-- where it comes to a meter that answered, it stays
pub out-stays : (graph : Graph) → IsGraph graph → (i j : ℕ) → GoesOut graph i j → graph.answered j ≡ true → stays graph (record { from = i; to = j }) ≡ true
out-stays graph is i j out answered =
    let unmasked : graph.masked j i ≡ true = is.masked j i ∙ out.seen.masked in
    let other : (j == i) ≡ false = ne_eqb j i (λ e. out.seen.other (sym e)) in
    ap (λ b. b && not (graph.stands j i)) answered ∙ stood (graph.answered j) (j == i) (graph.masked j i) (graph.stands j i) answered other unmasked out.unseen
  where
    stood : (a b c d : Bool) → a ≡ true → b ≡ false → c ≡ true → (a && not b && c && d) ≡ false → not d ≡ true
    stood true false true true is_a is_b is_c e = absurd (false≢true (sym e))
    stood false b c true is_a is_b is_c e = absurd (false≢true is_a)
    stood true true c true is_a is_b is_c e = absurd (false≢true (sym is_b))
    stood true false false true is_a is_b is_c e = absurd (false≢true is_c)
    stood a b c false is_a is_b is_c e = refl
