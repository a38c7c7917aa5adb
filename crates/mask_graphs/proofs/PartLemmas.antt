-- The search finds the bare parts, and each of them gathers at one of its meters.
use Rattle.std.proofs.Common.{◌≡◌, ℕ, zero, suc, ◌≤◌, Bool, true, false, not, ◌&&◌, ◌||◌, List, [], ◌∷◌, ◌++◌, length, refl, sym, ap, ◌∙◌, arith, ⊎_elim, subst}
use Rattle.std.specs.Prelude.{◌==◌, None, is_some}
use Rattle.std.specs.List.{sum_by, find, flat_map}
use Rattle.std.proofs.lemmas.Bool.{false≢true, cases_Bool, eqb-true, or_cases, and_parts, and_from, both_ways}
use Rattle.std.proofs.lemmas.List.Sums.{length-filter, count_by-le-length}
use Rattle.missing_round.specs.Words.{word}
use Rattle.missing_round.specs.Sets.{is_member}
use Rattle.missing_round.proofs.SetLemmas.{is_member-filter}
use Rattle.mask_graphs.specs.Graphs.{Graph, IsGraph, IsPart, IsBare, sees, linked}
use Rattle.mask_graphs.specs.Steps.{Step, left_after}
use Rattle.mask_graphs.specs.Search.{is_next, grown, outside, parts_of, tree_steps, way_out}
use Rattle.mask_graphs.specs.Statements.{listed}
use Rattle.mask_graphs.proofs.ListFacts.{Distinct, distinct_filter, find-none, sum_same, member_append, member_head, member_later, none_of, not_true, same_test}
use Rattle.mask_graphs.proofs.TreeLemmas.{sees-is, left_after-append, tree-apart, tree-new, tree-root, grows-distinct}
use Rattle.mask_graphs.proofs.SearchLemmas.{IsGrown, grown-is, grown-ends, grows-same}

-- meters that answered, each once, without a way out, and no link leads from them to others
pub record Rest (graph : Graph) (meters : List ℕ) : Type 0 where
  pub distinct : Distinct meters
  pub answered : (i : ℕ) → is_member i meters ≡ true → graph.answered i ≡ true
  pub quiet : (i : ℕ) → is_member i meters ≡ true → way_out graph i ≡ None
  pub closed : (i j : ℕ) → is_member i meters ≡ true → linked graph i j ≡ true → is_member j meters ≡ true

pub linked-back : (graph : Graph) (i j : ℕ) → linked graph i j ≡ true → linked graph j i ≡ true
linked-back graph i j h =
    let both = and_parts (sees graph i j) (sees graph j i) h in
    and_from (sees graph j i) (sees graph i j) both.1 both.0

pub outside-is : (i : ℕ) (part meters : List ℕ) → is_member i (outside part meters) ≡ true → (is_member i meters ≡ true) × (is_member i part ≡ false)
outside-is i part meters h =
    let both = and_parts (is_member i meters) (not (is_member i part)) (sym (is_member-filter (λ k. not (is_member k part)) i meters) ∙ h) in
    (both.0, not_true (is_member i part) both.1)

pub outside-from : (i : ℕ) (part meters : List ℕ) → is_member i meters ≡ true → is_member i part ≡ false → is_member i (outside part meters) ≡ true
outside-from i part meters within out =
    is_member-filter (λ k. not (is_member k part)) i meters ∙ and_from (is_member i meters) (not (is_member i part)) within (ap not out)

pub outside-short : (part meters : List ℕ) → length (outside part meters) ≤ length meters
outside-short part meters = omega (arith, length-filter (λ k. not (is_member k part)) meters, count_by-le-length (λ k. not (is_member k part)) meters)

-- who isn't next, and isn't in the part, has no link with it
pub not_next : (graph : Graph) (part : List ℕ) (j i : ℕ) → is_next graph part j ≡ false → is_member i part ≡ true → linked graph i j ≡ true → is_member j part ≡ true
not_next graph part j i last within link = step (is_member j part) refl last
  where
    step : (b : Bool) → is_member j part ≡ b → (not b && is_some (find (linked graph j) part)) ≡ false → b ≡ true
    step true is e = refl
    step false is e = absurd (both_ways (linked graph j i) (find-none (linked graph j) part (none_of (find (linked graph j) part) e) i within) (linked-back graph i j link))

-- ---- the part of the first of them

pub record Found (graph : Graph) (w : ℕ) (meters part : List ℕ) : Type 0 where
  pub grown : IsGrown graph (w ∷ []) meters part
  pub within : (i : ℕ) → is_member i part ≡ true → is_member i (w ∷ meters) ≡ true
  pub root : is_member w part ≡ true
  pub is_part : IsPart graph (listed part)
  pub bare : IsBare graph (listed part)
  pub next : Rest graph (outside part meters)

is_root : (w k : ℕ) → is_member k (w ∷ []) ≡ true → w ≡ k
is_root w k h = ⊎_elim (λ here. eqb-true w k here) (λ none. absurd (false≢true none)) (or_cases (w == k) false h)

pub found : (graph : Graph) → IsGraph graph → (w : ℕ) (meters : List ℕ) → Rest graph (w ∷ meters) → Found graph w meters (grown graph (length meters) (w ∷ []) meters)
found graph is w meters rest =
    let part : List ℕ = grown graph (length meters) (w ∷ []) meters in
    let g : IsGrown graph (w ∷ []) meters part = grown-is graph (length meters) (w ∷ []) meters in
    let root : is_member w part ≡ true = ap (is_member w) g.is ∙ member_append w g.new (w ∷ []) ∙ ap (λ b. is_member w g.new || b) (member_head w []) ∙ or-true (is_member w g.new) in
    let within : (i : ℕ) → is_member i part ≡ true → is_member i (w ∷ meters) ≡ true
    = λ i h. ⊎_elim (λ new. member_later i w meters (g.within i new)) (λ at_root. ap (λ z. is_member z (w ∷ meters)) (sym (is_root w i at_root)) ∙ member_head w meters)
    (or_cases (is_member i g.new) (is_member i (w ∷ [])) (sym (member_append i g.new (w ∷ [])) ∙ ap (is_member i) (sym g.is) ∙ h)) in
    let ends : (i : ℕ) → is_member i meters ≡ true → is_next graph part i ≡ false = grown-ends graph (length meters) (w ∷ []) meters (outside-short (w ∷ []) meters) in
    let keeps : (i j : ℕ) → is_member i part ≡ true → linked graph i j ≡ true → is_member j part ≡ true
    = λ i j h link. ⊎_elim (λ here. ap (λ z. is_member z part) (sym (eqb-true w j here)) ∙ root) (λ later. not_next graph part j i (ends j later) h link)
    (or_cases (w == j) (is_member j meters) (rest.closed i j (within i h) link)) in
    record {
      grown = g;
      within = within;
      root = root;
      is_part = record {
        one = w;
        some = root;
        answered = λ i h. rest.answered i (within i h);
        closed = λ i j link. same_test (is_member i part) (is_member j part) (λ h. keeps i j h link) (λ h. keeps j i h (linked-back graph i j link));
        smallest = λ q closed i j i_in j_in.
            let same = grows-same graph (w ∷ []) g.new q (q w) closed (λ k h. ap q (sym (is_root w k h))) g.grows in
            same i (ap (is_member i) (sym g.is) ∙ i_in) ∙ sym (same j (ap (is_member j) (sym g.is) ∙ j_in));
      };
      bare = λ i j h seen.
          not_unseen (sees graph i j) (sees graph j i) seen
          (find-none (λ k. sees graph i k && not (sees graph k i)) graph.members (rest.quiet i (within i h)) j (is.stands i j (sees-is graph i j seen).stands));
      next = record {
        distinct = distinct_filter (λ k. not (is_member k part)) meters rest.distinct.1;
        answered = λ i h. rest.answered i (member_later i w meters (outside-is i part meters h).0);
        quiet = λ i h. rest.quiet i (member_later i w meters (outside-is i part meters h).0);
        closed = λ i j h link.
            let out = outside-is i part meters h in
            ⊎_elim
            (λ in_part. absurd (both_ways (is_member i part) out.1 (keeps j i in_part (linked-back graph i j link))))
            (λ not_in. ⊎_elim
            (λ here. absurd (both_ways (is_member j part) not_in (ap (λ z. is_member z part) (sym (eqb-true w j here)) ∙ root)))
            (λ later. outside-from j part meters later not_in)
            (or_cases (w == j) (is_member j meters) (rest.closed i j (member_later i w meters out.0) link)))
            (cases_Bool (is_member j part));
      };
    }
  where
    or-true : (b : Bool) → (b || true) ≡ true
    or-true true = refl
    or-true false = refl

    not_unseen : (a b : Bool) → a ≡ true → (a && not b) ≡ false → b ≡ true
    not_unseen true true seen e = refl
    not_unseen true false seen e = absurd (false≢true (sym e))
    not_unseen false b seen e = absurd (false≢true seen)

-- ---- all parts gather

-- each list that is a bare part has this sum modulo 2^64
abbrev pub SumsToNothing : Graph → (ℕ → ℕ) → Type 0
SumsToNothing graph e = (part : List ℕ) → Distinct part → IsPart graph (listed part) → IsBare graph (listed part) → word (sum_by e part) ≡ 0

-- a meter of none of these parts keeps what it has
pub parts-apart : (graph : Graph) → IsGraph graph → (n : ℕ) (meters : List ℕ) → Rest graph meters → (left : ℕ → ℕ) (i : ℕ) → is_member i meters ≡ false
    → left_after graph (flat_map (tree_steps graph) (parts_of graph n meters)) left i ≡ left i
parts-apart graph is zero meters rest left i out = refl
parts-apart graph is (suc n) [] rest left i out = refl
parts-apart graph is (suc n) (w ∷ meters) rest left i out =
    let part : List ℕ = grown graph (length meters) (w ∷ []) meters in
    let f : Found graph w meters part = found graph is w meters rest in
    let later : List ℕ = outside part meters in
    let not_in : is_member i part ≡ false = none (is_member i part) (λ h. both_ways (is_member i (w ∷ meters)) out (f.within i h)) in
    let not_later : is_member i later ≡ false = none (is_member i later) (λ h. both_ways (is_member i (w ∷ meters)) out (member_later i w meters (outside-is i part meters h).0)) in
    ap (λ z. z i) (left_after-append graph (tree_steps graph part) (flat_map (tree_steps graph) (parts_of graph n later)) left)
    ∙ parts-apart graph is n later f.next (left_after graph (tree_steps graph part) left) i not_later
    ∙ tree-apart graph part left i not_in
  where
    none : (b : Bool) → (b ≡ true → ⊥) → b ≡ false
    none true out_of = absurd (out_of refl)
    none false out_of = refl

pub parts-clear : (graph : Graph) → IsGraph graph → (e : ℕ → ℕ) → SumsToNothing graph e → (n : ℕ) (meters : List ℕ) → length meters ≤ n → Rest graph meters
    → (left : ℕ → ℕ) → ((k : ℕ) → is_member k meters ≡ true → left k ≡ e k) → (i : ℕ) → is_member i meters ≡ true
    → word (left_after graph (flat_map (tree_steps graph) (parts_of graph n meters)) left i) ≡ 0
parts-clear graph is e none zero [] few rest left same i within = absurd (false≢true within)
parts-clear graph is e none zero (w ∷ meters) few rest left same i within = absurd (omega (arith, few))
parts-clear graph is e none (suc n) [] few rest left same i within = absurd (false≢true within)
parts-clear graph is e none (suc n) (w ∷ meters) few rest left same i within =
    let part : List ℕ = grown graph (length meters) (w ∷ []) meters in
    let f : Found graph w meters part = found graph is w meters rest in
    let later : List ℕ = outside part meters in
    let steps : List Step = flat_map (tree_steps graph) (parts_of graph n later) in
    let here : ℕ → ℕ = left_after graph (tree_steps graph part) left in
    let split = ap (λ z. word (z i)) (left_after-append graph (tree_steps graph part) steps left) in
    split
    ∙ ⊎_elim
    (λ in_part.
    ap word (parts-apart graph is n later f.next here i (not_later i part meters in_part))
    ∙ gathers w part meters f left same i in_part)
    (λ out.
    parts-clear graph is e none n later (omega (arith, outside-short part meters, few)) f.next here
    (λ k h. let o = outside-is k part meters h in tree-apart graph part left k o.1 ∙ same k (member_later k w meters o.0)) i (stays_later w part meters f i out within))
    (cases_Bool (is_member i part))
  where
    not_later : (i : ℕ) (part meters : List ℕ) → is_member i part ≡ true → is_member i (outside part meters) ≡ false
    not_later i part meters in_part = is_member-filter (λ k. not (is_member k part)) i meters ∙ ap (λ b. is_member i meters && not b) in_part ∙ and-false (is_member i meters)
      where
        and-false : (b : Bool) → (b && false) ≡ false
        and-false true = refl
        and-false false = refl

    stays_later : (w : ℕ) (part meters : List ℕ) → Found graph w meters part → (i : ℕ) → is_member i part ≡ false → is_member i (w ∷ meters) ≡ true → is_member i (outside part meters) ≡ true
    stays_later w part meters f i out within =
        ⊎_elim (λ here. absurd (both_ways (is_member i part) out (ap (λ z. is_member z part) (sym (eqb-true w i here)) ∙ f.root))) (λ later. outside-from i part meters later out) (or_cases (w == i) (is_member i meters) within)

    gathers : (w : ℕ) (part meters : List ℕ) → Found graph w meters part → (left : ℕ → ℕ) → ((k : ℕ) → is_member k (w ∷ meters) ≡ true → left k ≡ e k)
        → (i : ℕ) → is_member i part ≡ true → word (left_after graph (tree_steps graph part) left i) ≡ 0
    gathers w part meters f left same i in_part =
        let g = f.grown in
        ap (λ p. word (left_after graph (tree_steps graph p) left i)) g.is
        ∙ ⊎_elim
        (λ new. ap word (tree-new graph (w ∷ []) g.new left i g.grows new))
        (λ at_root.
        ap (λ z. word (left_after graph (tree_steps graph (g.new ++ w ∷ [])) left z)) (sym (is_root w i at_root))
        ∙ ap word (tree-root graph w g.new left g.grows)
        ∙ ap (λ p. word (sum_by left p)) (sym g.is)
        ∙ ap word (sum_same left e part (λ k h. same k (f.within k h)))
        ∙ none part (subst Distinct (sym g.is) (grows-distinct graph (w ∷ []) g.new (refl, tt) g.grows)) f.is_part f.bare)
        (or_cases (is_member i g.new) (is_member i (w ∷ [])) (sym (member_append i g.new (w ∷ [])) ∙ ap (is_member i) (sym g.is) ∙ in_part))
