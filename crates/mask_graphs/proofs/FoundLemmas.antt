-- The lists of the search are the bare parts.
use Rattle.std.proofs.Common.{◌≡◌, ℕ, zero, suc, ◌≤◌, Bool, true, false, List, [], ◌∷◌, length, refl, sym, ap, ◌∙◌, arith, ⊎_elim}
use Rattle.std.specs.Prelude.{◌==◌}
use Rattle.std.specs.List.{Any, AllByRecursion}
use Rattle.std.proofs.lemmas.Bool.{false≢true, cases_Bool, eqb-true, or_cases, both_ways}
use Rattle.std.proofs.lemmas.List.Elements.{All-from_recursion}
use Rattle.missing_round.specs.Sets.{is_member}
use Rattle.mask_graphs.specs.Graphs.{Graph, IsGraph, IsPart, IsBare, sees}
use Rattle.mask_graphs.specs.Search.{grown, outside, parts_of, way_out, answering, leaving, covered, bare_parts}
use Rattle.mask_graphs.specs.Statements.{listed, FindsBareParts}
use Rattle.mask_graphs.proofs.ListFacts.{some_of}
use Rattle.mask_graphs.proofs.TreeLemmas.{way_out-is}
use Rattle.mask_graphs.proofs.SearchLemmas.{grows-same}
use Rattle.mask_graphs.proofs.PartLemmas.{Rest, Found, found, outside-from, outside-short}
use Rattle.mask_graphs.proofs.ClearLemmas.{answering-from, covered-is, leaving-is, rest_of}
use Rattle.mask_graphs.proofs.KeptLemmas.{members-distinct}

all-bare : (graph : Graph) → IsGraph graph → (n : ℕ) (meters : List ℕ) → Rest graph meters → AllByRecursion (λ part. IsPart graph (listed part) × IsBare graph (listed part)) (parts_of graph n meters)
all-bare graph is zero meters rest = tt
all-bare graph is (suc n) [] rest = tt
all-bare graph is (suc n) (w ∷ meters) rest =
    let f = found graph is w meters rest in
    ((f.is_part, f.bare), all-bare graph is n (outside (grown graph (length meters) (w ∷ []) meters) meters) f.next)

-- two parts with a meter in common are the same
same_parts : (graph : Graph) (p q : ℕ → Bool) → IsPart graph p → IsPart graph q → (i : ℕ) → p i ≡ true → q i ≡ true → (j : ℕ) → q j ≡ p j
same_parts graph p q one two i p_in q_in j = step (q j) (p j) refl refl
  where
    step : (b c : Bool) → q j ≡ b → p j ≡ c → b ≡ c
    step true true e f = refl
    step false false e f = refl
    step true false e f = absurd (both_ways (p j) f (two.smallest p one.closed j i e q_in ∙ p_in))
    step false true e f = absurd (both_ways (q j) e (one.smallest q two.closed j i f p_in ∙ q_in))

any-here : (P : List ℕ → Type 0) (x : List ℕ) (xs : List (List ℕ)) → P x → Any P (x ∷ xs)
any-here P x xs px = (zero, x, omega arith, refl, px)

any-later : (P : List ℕ → Type 0) (y : List ℕ) (xs : List (List ℕ)) → Any P xs → Any P (y ∷ xs)
any-later P y xs any = (suc any.0, any.1, omega (arith, any.2), any.3, any.4)

every-part : (graph : Graph) → IsGraph graph → (p : ℕ → Bool) → IsPart graph p → (n : ℕ) (meters : List ℕ) → length meters ≤ n → Rest graph meters
    → (i : ℕ) → p i ≡ true → is_member i meters ≡ true → Any (λ part. (j : ℕ) → is_member j part ≡ p j) (parts_of graph n meters)
every-part graph is p part zero [] few rest i p_in within = absurd (false≢true within)
every-part graph is p part zero (w ∷ meters) few rest i p_in within = absurd (omega (arith, few))
every-part graph is p part (suc n) [] few rest i p_in within = absurd (false≢true within)
every-part graph is p part (suc n) (w ∷ meters) few rest i p_in within =
    let mine : List ℕ = grown graph (length meters) (w ∷ []) meters in
    let f : Found graph w meters mine = found graph is w meters rest in
    let P : List ℕ → Type 0 = λ q. (j : ℕ) → is_member j q ≡ p j in
    ⊎_elim
    (λ in_part. any-here P mine (parts_of graph n (outside mine meters)) (same_parts graph p (listed mine) part f.is_part i p_in in_part))
    (λ out.
    any-later P mine (parts_of graph n (outside mine meters))
    (every-part graph is p part n (outside mine meters) (omega (arith, outside-short mine meters, few)) f.next i p_in
    (⊎_elim (λ here. absurd (both_ways (is_member i mine) out (ap (λ z. is_member z mine) (sym (eqb-true w i here)) ∙ f.root))) (λ later. outside-from i mine meters later out) (or_cases (w == i) (is_member i meters) within))))
    (cases_Bool (is_member i mine))

-- no meter of a bare part has a way out, and so none is covered
bare-uncovered : (graph : Graph) → IsGraph graph → (p : ℕ → Bool) → IsPart graph p → IsBare graph p → (i : ℕ) → p i ≡ true → is_member i (covered graph) ≡ false
bare-uncovered graph is p part bare i within = step (is_member i (covered graph)) refl
  where
    none : (k : ℕ) → is_member k (leaving graph) ≡ true → (b : Bool) → p k ≡ b → b ≡ false
    none k h false e = refl
    none k h true e =
        let way = some_of (way_out graph k) (leaving-is graph k h).1 in
        let out = way_out-is graph k way.0 way.1 in
        absurd (both_ways (sees graph way.0 k) out.unseen (bare k way.0 e out.sight))

    step : (b : Bool) → is_member i (covered graph) ≡ b → b ≡ false
    step false h = refl
    step true h =
        let c = covered-is graph in
        absurd (both_ways (p i) (grows-same graph (leaving graph) c.new p false part.closed (λ k k_in. none k k_in (p k) refl) c.grows i (ap (is_member i) (sym c.is) ∙ h)) within)

pub found-all : (graph : Graph) → IsGraph graph → FindsBareParts graph
found-all graph is =
    let meters : List ℕ = outside (covered graph) (answering graph) in
    let rest : Rest graph meters = rest_of graph is (members-distinct graph is) in
    record {
      bare = All-from_recursion (λ part. IsPart graph (listed part) × IsBare graph (listed part)) (bare_parts graph) (all-bare graph is (length (answering graph)) meters rest);
      every = λ p part bare.
          every-part graph is p part (length (answering graph)) meters (outside-short (covered graph) (answering graph)) rest part.one part.some
          (outside-from part.one (covered graph) (answering graph) (answering-from graph is part.one (part.answered part.one part.some)) (bare-uncovered graph is p part bare part.one part.some));
    }
