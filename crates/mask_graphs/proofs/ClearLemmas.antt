-- After the steps of a round no meter that answered has anything left, where the readings have one sum over each bare part.
use Rattle.std.proofs.Common.{◌≡◌, ℕ, ◌+◌, Bool, true, false, not, ◌&&◌, ◌||◌, List, [], ◌∷◌, ◌++◌, length, refl, sym, ap, ◌∙◌, add-zero, ⊎_elim}
use Rattle.std.specs.Prelude.{◌==◌, if◌then◌else◌, Option, Some, None, is_some}
use Rattle.std.specs.List.{find, flat_map}
use Rattle.std.proofs.lemmas.Bool.{false≢true, cases_Bool, cases_eq, ne_eqb, eqb-true, or_cases, and_parts, and_from, both_ways}
use Rattle.missing_round.specs.Words.{word}
use Rattle.missing_round.specs.Sets.{is_member}
use Rattle.missing_round.proofs.SetLemmas.{is_member-filter}
use Rattle.mask_graphs.specs.Graphs.{Graph, IsGraph, sees, linked}
use Rattle.mask_graphs.specs.Steps.{Step, stays, handed, left_after}
use Rattle.mask_graphs.specs.Search.{is_next, outside, tree_steps, step_to, way_out, answering, leaving, covered, bare_parts, out_steps, steps_of}
use Rattle.mask_graphs.proofs.ListFacts.{Distinct, distinct_filter, find-passes, member_append, none_of, some_of, not_head, not_tail}
use Rattle.mask_graphs.proofs.TreeLemmas.{GoesOut, linked-is, way_out-is, out-stays, left_after-append, handed-from, tree-apart, tree-new}
use Rattle.mask_graphs.proofs.SearchLemmas.{IsGrown, grown-is, grown-ends}
use Rattle.mask_graphs.proofs.PartLemmas.{Rest, SumsToNothing, not_next, outside-is, outside-from, outside-short, parts-clear, linked-back}

-- ---- the ways out

-- a step out brings a meter that answered nothing to hand on
out-keeps : (graph : Graph) → IsGraph graph → (i j : ℕ) → GoesOut graph i j → (left : ℕ → ℕ) (k : ℕ) → graph.answered k ≡ true → (k ≡ i → ⊥)
    → handed graph (record { from = i; to = j }) left k ≡ left k
out-keeps graph is i j out left k answered not_i =
    ap (λ b. (if b then 0 else left k) + (if (k == j) && not (stays graph (record { from = i; to = j })) then left i else 0)) (ne_eqb k i not_i)
    ∙ ap (λ z. left k + z) (step (k == j) refl)
    ∙ add-zero (left k)
  where
    step : (c : Bool) → (k == j) ≡ c → (if c && not (stays graph (record { from = i; to = j })) then left i else 0) ≡ 0
    step false e = refl
    step true e = ap (λ b. if not b then left i else 0) (out-stays graph is i j out (ap graph.answered (sym (eqb-true k j e)) ∙ answered))

outs-apart : (graph : Graph) → IsGraph graph → (meters : List ℕ) (left : ℕ → ℕ) (k : ℕ) → graph.answered k ≡ true → is_member k meters ≡ false → left_after graph (out_steps graph meters) left k ≡ left k
outs-apart graph is [] left k answered out = refl
outs-apart graph is (i ∷ meters) left k answered out = step (way_out graph i) refl (λ f. outs-apart graph is meters f k answered (not_tail k i meters out))
  where
    step : (o : Option ℕ) → way_out graph i ≡ o → ((f : ℕ → ℕ) → left_after graph (out_steps graph meters) f k ≡ f k) → left_after graph (step_to i o ++ out_steps graph meters) left k ≡ left k
    step None e rest = rest left
    step (Some j) e rest = rest (handed graph (record { from = i; to = j }) left) ∙ out-keeps graph is i j (way_out-is graph i j e) left k answered (not_head k i meters out)

outs-keep_none : (graph : Graph) → IsGraph graph → (meters : List ℕ) (left : ℕ → ℕ) (k : ℕ) → graph.answered k ≡ true → left k ≡ 0 → left_after graph (out_steps graph meters) left k ≡ 0
outs-keep_none graph is [] left k answered none = none
outs-keep_none graph is (i ∷ meters) left k answered none = step (way_out graph i) refl (λ f e. outs-keep_none graph is meters f k answered e)
  where
    step : (o : Option ℕ) → way_out graph i ≡ o → ((f : ℕ → ℕ) → f k ≡ 0 → left_after graph (out_steps graph meters) f k ≡ 0) → left_after graph (step_to i o ++ out_steps graph meters) left k ≡ 0
    step None e rest = rest left none
    step (Some j) e rest =
        let out = way_out-is graph i j e in
        rest (handed graph (record { from = i; to = j }) left)
        (⊎_elim
        (λ same. ap (handed graph (record { from = i; to = j }) left) same ∙ handed-from graph i j left out.seen.other)
        (λ ne. out-keeps graph is i j out left k answered ne ∙ none)
        (cases_eq k i))

outs-clear : (graph : Graph) → IsGraph graph → (meters : List ℕ) (left : ℕ → ℕ) (k : ℕ) → graph.answered k ≡ true → is_some (way_out graph k) ≡ true → is_member k meters ≡ true
    → left_after graph (out_steps graph meters) left k ≡ 0
outs-clear graph is [] left k answered has within = absurd (false≢true within)
outs-clear graph is (i ∷ meters) left k answered has within =
    ⊎_elim
    (λ here.
    let same : i ≡ k = eqb-true i k here in
    let way = some_of (way_out graph k) has in
    let out = way_out-is graph k way.0 way.1 in
    ap (λ z. left_after graph (step_to z (way_out graph z) ++ out_steps graph meters) left k) same
    ∙ ap (λ o. left_after graph (step_to k o ++ out_steps graph meters) left k) way.1
    ∙ outs-keep_none graph is meters (handed graph (record { from = k; to = way.0 }) left) k answered (handed-from graph k way.0 left out.seen.other))
    (λ later. step (way_out graph i) (λ f. outs-clear graph is meters f k answered has later))
    (or_cases (i == k) (is_member k meters) within)
  where
    step : (o : Option ℕ) → ((f : ℕ → ℕ) → left_after graph (out_steps graph meters) f k ≡ 0) → left_after graph (step_to i o ++ out_steps graph meters) left k ≡ 0
    step None rest = rest left
    step (Some j) rest = rest (handed graph (record { from = i; to = j }) left)

-- ---- the meters of a round

answering-is : (graph : Graph) (i : ℕ) → is_member i (answering graph) ≡ true → graph.answered i ≡ true
answering-is graph i h = (and_parts (is_member i graph.members) (graph.answered i) (sym (is_member-filter graph.answered i graph.members) ∙ h)).1

pub answering-from : (graph : Graph) → IsGraph graph → (i : ℕ) → graph.answered i ≡ true → is_member i (answering graph) ≡ true
answering-from graph is i h = is_member-filter graph.answered i graph.members ∙ and_from (is_member i graph.members) (graph.answered i) (is.answered i h) h

pub leaving-is : (graph : Graph) (i : ℕ) → is_member i (leaving graph) ≡ true → (graph.answered i ≡ true) × (is_some (way_out graph i) ≡ true)
leaving-is graph i h =
    let both = and_parts (is_member i (answering graph)) (is_some (way_out graph i)) (sym (is_member-filter (λ k. is_some (way_out graph k)) i (answering graph)) ∙ h) in
    (answering-is graph i both.0, both.1)

pub covered-is : (graph : Graph) → IsGrown graph (leaving graph) (answering graph) (covered graph)
covered-is graph = grown-is graph (length (answering graph)) (leaving graph) (answering graph)

-- the meters that aren't covered
pub rest_of : (graph : Graph) → IsGraph graph → Distinct graph.members → Rest graph (outside (covered graph) (answering graph))
rest_of graph is once = record {
  distinct = distinct_filter (λ k. not (is_member k (covered graph))) (answering graph) (distinct_filter graph.answered graph.members once);
  answered = λ i h. answering-is graph i (outside-is i (covered graph) (answering graph) h).0;
  quiet = λ i h. let out = outside-is i (covered graph) (answering graph) h in none_of (way_out graph i) (no_way i (is_some (way_out graph i)) refl (not_leaving i out.1) out.0);
  closed = λ i j h link.
      let out = outside-is i (covered graph) (answering graph) h in
      let there : is_member j (answering graph) ≡ true = answering-from graph is j (linked-is graph i j link).1.answered in
      outside-from j (covered graph) (answering graph) there
      (none (is_member j (covered graph)) (λ taken. both_ways (is_member i (covered graph)) out.1 (not_next graph (covered graph) i j (ends i out.0) taken (linked-back graph i j link))));
}
  where
    none : (b : Bool) → (b ≡ true → ⊥) → b ≡ false
    none true out_of = absurd (out_of refl)
    none false out_of = refl

    not_leaving : (i : ℕ) → is_member i (covered graph) ≡ false → is_member i (leaving graph) ≡ false
    not_leaving i out = none (is_member i (leaving graph)) (λ h. both_ways (is_member i (covered graph)) out
        (ap (is_member i) (covered-is graph).is ∙ member_append i (covered-is graph).new (leaving graph) ∙ ap (λ b. is_member i (covered-is graph).new || b) h ∙ or-true (is_member i (covered-is graph).new)))
      where
        or-true : (b : Bool) → (b || true) ≡ true
        or-true true = refl
        or-true false = refl

    no_way : (i : ℕ) (b : Bool) → is_some (way_out graph i) ≡ b → is_member i (leaving graph) ≡ false → is_member i (answering graph) ≡ true → b ≡ false
    no_way i true e not_in there = absurd (both_ways (is_member i (leaving graph)) not_in (is_member-filter (λ k. is_some (way_out graph k)) i (answering graph) ∙ and_from (is_member i (answering graph)) (is_some (way_out graph i)) there e))
    no_way i false e not_in there = refl

    ends : (i : ℕ) → is_member i (answering graph) ≡ true → is_next graph (covered graph) i ≡ false
    ends = grown-ends graph (length (answering graph)) (leaving graph) (answering graph) (outside-short (leaving graph) (answering graph))

-- a covered meter has nothing left at the end, whatever it had
covered-clear : (graph : Graph) → IsGraph graph → (left : ℕ → ℕ) (i : ℕ) → graph.answered i ≡ true → is_member i (covered graph) ≡ true
    → left_after graph (tree_steps graph (covered graph) ++ out_steps graph (leaving graph)) left i ≡ 0
covered-clear graph is left i answered within =
    let c = covered-is graph in
    ap (λ z. z i) (left_after-append graph (tree_steps graph (covered graph)) (out_steps graph (leaving graph)) left)
    ∙ ⊎_elim
    (λ new. outs-keep_none graph is (leaving graph) (left_after graph (tree_steps graph (covered graph)) left) i answered
    (ap (λ p. left_after graph (tree_steps graph p) left i) c.is ∙ tree-new graph (leaving graph) c.new left i c.grows new))
    (λ at_base. outs-clear graph is (leaving graph) (left_after graph (tree_steps graph (covered graph)) left) i answered (leaving-is graph i at_base).1 at_base)
    (or_cases (is_member i c.new) (is_member i (leaving graph)) (sym (member_append i c.new (leaving graph)) ∙ ap (is_member i) (sym c.is) ∙ within))

-- and another one keeps what it has
covered-apart : (graph : Graph) → IsGraph graph → (left : ℕ → ℕ) (i : ℕ) → graph.answered i ≡ true → is_member i (covered graph) ≡ false
    → left_after graph (tree_steps graph (covered graph) ++ out_steps graph (leaving graph)) left i ≡ left i
covered-apart graph is left i answered out =
    ap (λ z. z i) (left_after-append graph (tree_steps graph (covered graph)) (out_steps graph (leaving graph)) left)
    ∙ outs-apart graph is (leaving graph) (left_after graph (tree_steps graph (covered graph)) left) i answered (not_leaving i out)
    ∙ tree-apart graph (covered graph) left i out
  where
    not_leaving : (i : ℕ) → is_member i (covered graph) ≡ false → is_member i (leaving graph) ≡ false
    not_leaving i out = step (is_member i (leaving graph)) refl
      where
        or-true : (b : Bool) → (b || true) ≡ true
        or-true true = refl
        or-true false = refl

        step : (b : Bool) → is_member i (leaving graph) ≡ b → b ≡ false
        step false h = refl
        step true h = absurd (both_ways (is_member i (covered graph)) out
            (ap (is_member i) (covered-is graph).is ∙ member_append i (covered-is graph).new (leaving graph) ∙ ap (λ b. is_member i (covered-is graph).new || b) h ∙ or-true (is_member i (covered-is graph).new)))

-- ---- all of them

pub steps-clear : (graph : Graph) → IsGraph graph → Distinct graph.members → (e : ℕ → ℕ) → SumsToNothing graph e → (i : ℕ) → graph.answered i ≡ true → word (left_after graph (steps_of graph) e i) ≡ 0
steps-clear graph is once e none i answered =
    let meters : List ℕ = outside (covered graph) (answering graph) in
    let first : List Step = flat_map (tree_steps graph) (bare_parts graph) in
    let second : List Step = tree_steps graph (covered graph) ++ out_steps graph (leaving graph) in
    ap (λ z. word (z i)) (left_after-append graph first second e)
    ∙ ⊎_elim
    (λ within. ap word (covered-clear graph is (left_after graph first e) i answered within))
    (λ out.
    ap word (covered-apart graph is (left_after graph first e) i answered out)
    ∙ parts-clear graph is e none (length (answering graph)) meters (outside-short (covered graph) (answering graph)) (rest_of graph is once) e (λ k h. refl) i
    (outside-from i (covered graph) (answering graph) (answering-from graph is i answered) out))
    (cases_Bool (is_member i (covered graph)))

-- ---- each step goes to a meter that is seen

abbrev pub AllSeen : Graph → List Step → Type 0
AllSeen graph [] = Unit {0}
AllSeen graph (s ∷ rest) = (sees graph s.from s.to ≡ true) × AllSeen graph rest

seen-append : (graph : Graph) (a b : List Step) → AllSeen graph a → AllSeen graph b → AllSeen graph (a ++ b)
seen-append graph [] b one two = two
seen-append graph (s ∷ a) b one two = (one.0, seen-append graph a b one.1 two)

tree-seen : (graph : Graph) (part : List ℕ) → AllSeen graph (tree_steps graph part)
tree-seen graph [] = tt
tree-seen graph (i ∷ part) = seen-append graph (step_to i (find (linked graph i) part)) (tree_steps graph part) (step (find (linked graph i) part) refl) (tree-seen graph part)
  where
    step : (o : Option ℕ) → find (linked graph i) part ≡ o → AllSeen graph (step_to i o)
    step None e = tt
    step (Some j) e = ((and_parts (sees graph i j) (sees graph j i) (find-passes (linked graph i) part j e)).0, tt)

trees-seen : (graph : Graph) (parts : List (List ℕ)) → AllSeen graph (flat_map (tree_steps graph) parts)
trees-seen graph [] = tt
trees-seen graph (part ∷ parts) = seen-append graph (tree_steps graph part) (flat_map (tree_steps graph) parts) (tree-seen graph part) (trees-seen graph parts)

outs-seen : (graph : Graph) (meters : List ℕ) → AllSeen graph (out_steps graph meters)
outs-seen graph [] = tt
outs-seen graph (i ∷ meters) = seen-append graph (step_to i (way_out graph i)) (out_steps graph meters) (step (way_out graph i) refl) (outs-seen graph meters)
  where
    step : (o : Option ℕ) → way_out graph i ≡ o → AllSeen graph (step_to i o)
    step None e = tt
    step (Some j) e = ((and_parts (sees graph i j) (not (sees graph j i)) (find-passes (λ k. sees graph i k && not (sees graph k i)) graph.members j e)).0, tt)

pub steps-seen : (graph : Graph) → AllSeen graph (steps_of graph)
steps-seen graph =
    seen-append graph (flat_map (tree_steps graph) (bare_parts graph)) (tree_steps graph (covered graph) ++ out_steps graph (leaving graph)) (trees-seen graph (bare_parts graph))
    (seen-append graph (tree_steps graph (covered graph)) (out_steps graph (leaving graph)) (tree-seen graph (covered graph)) (outs-seen graph (leaving graph)))
