-- Steps that fit keep the words of a round, and the steps of the search fit.
use Rattle.std.proofs.Common.{◌≡◌, ℕ, zero, suc, ◌+◌, ◌<◌, Bool, true, false, not, ◌&&◌, ◌||◌, List, [], ◌∷◌, refl, sym, ap, ◌∙◌, zero-add, add-zero, arith, ⊎_elim}
use Rattle.std.specs.Prelude.{◌==◌, if◌then◌else◌}
use Rattle.std.specs.List.{sum_by, filter, All, AllPairs}
use mathlib.Core.Path.{fun_ext}
use Rattle.std.proofs.lemmas.Bool.{cases_eq, ne_eqb, eq-eqb, and_from}
use Rattle.std.proofs.lemmas.List.Sums.{sum_by-cons}
use Rattle.std.proofs.lemmas.List.Elements.{All-from_recursion, recursion_from_All}
use Rattle.std.proofs.lemmas.List.Kept.{AllPairs-from_increasing}
use Rattle.missing_round.specs.Words.{word, share, answer_word}
use Rattle.missing_round.specs.Sets.{is_member}
use Rattle.missing_round.proofs.WordLemmas.{sum_by-add, word-add_same, word-word_add, word-sum_by}
use Rattle.ideal_masks.proofs.OffsetLemmas.{reading_word-shifted, share-add_words, sum_deltas, word-delta}
use Rattle.mask_graphs.specs.Graphs.{Graph, IsGraph, HaveOneSum}
use Rattle.mask_graphs.specs.Steps.{Step, left_after, stays_at}
use Rattle.mask_graphs.specs.Search.{steps_of}
use Rattle.mask_graphs.specs.Moves.{load, pair_move, own_move, is_free, Fit, left_out}
use Rattle.mask_graphs.specs.Statements.{difference, KeepsRound, listed}
use Rattle.mask_graphs.proofs.ListFacts.{Distinct, at, sum_at, sum_same}
use Rattle.mask_graphs.proofs.TreeLemmas.{Seen, sees-is}
use Rattle.mask_graphs.proofs.PartLemmas.{SumsToNothing}
use Rattle.mask_graphs.proofs.ClearLemmas.{AllSeen, steps-clear, steps-seen}
use Rattle.mask_graphs.proofs.MoveLemmas.{AllFree, steps-bring, steps-still}
use Rattle.mask_graphs.proofs.ToldLemmas.{sum_if}

-- ---- numbers that ascend stand once

above : (x : ℕ) (xs : List ℕ) → All (λ k. x < k) xs → is_member x xs ≡ false
above x [] all = refl
above x (y ∷ ys) all =
    let lt : x < y = all 0 0 (omega arith) in
    ap (λ b. b || is_member x ys) (ne_eqb y x (omega (arith, lt))) ∙ above x ys (λ k d within. all (suc k) d (omega arith))

pairs-distinct : (xs : List ℕ) → AllPairs (λ x y. x < y) xs → Distinct xs
pairs-distinct [] all = tt
pairs-distinct (x ∷ xs) all =
    (above x xs (λ k d within. all zero (suc k) d (omega arith) (omega arith)), pairs-distinct xs (λ i j d lt within. all (suc i) (suc j) d (omega arith) (omega arith)))

pub members-distinct : (graph : Graph) → IsGraph graph → Distinct graph.members
members-distinct graph is = pairs-distinct graph.members (AllPairs-from_increasing graph.members is.ascending)

-- ---- a sum over the members of a list

sum_nothing : (xs : List ℕ) → sum_by (λ (_ : ℕ). 0) xs ≡ 0
sum_nothing [] = refl
sum_nothing (x ∷ xs) = omega (arith, sum_by-cons (λ (_ : ℕ). 0) x xs, sum_nothing xs)

pub sum_listed : (f : ℕ → ℕ) (part ms : List ℕ) → Distinct ms → Distinct part → ((i : ℕ) → is_member i part ≡ true → is_member i ms ≡ true)
    → sum_by f (filter (listed part) ms) ≡ sum_by f part
sum_listed f part ms once apart within = sum_if (listed part) f ms ∙ go part apart within
  where
    both : (i k : ℕ) (p : List ℕ) → is_member i p ≡ false → (if (i == k) || is_member k p then f k else 0) ≡ at i (f i) k + (if is_member k p then f k else 0)
    both i k p out = ⊎_elim
        (λ same.
        let here : is_member k p ≡ false = ap (λ z. is_member z p) (sym same) ∙ out in
        ap (λ b. if b || is_member k p then f k else 0) (eq-eqb i k same)
        ∙ ap f (sym same)
        ∙ sym (add-zero (f i))
        ∙ ap (λ b. (if b then f i else 0) + 0) (sym (eq-eqb k i (sym same)))
        ∙ ap (λ b. at i (f i) k + (if b then f k else 0)) (sym here))
        (λ ne.
        ap (λ b. if b || is_member k p then f k else 0) (ne_eqb i k ne)
        ∙ sym (zero-add (if is_member k p then f k else 0))
        ∙ ap (λ b. (if b then f i else 0) + (if is_member k p then f k else 0)) (sym (ne_eqb k i (λ e. ne (sym e)))))
        (cases_eq i k)

    go : (p : List ℕ) → Distinct p → ((i : ℕ) → is_member i p ≡ true → is_member i ms ≡ true) → sum_by (λ k. if is_member k p then f k else 0) ms ≡ sum_by f p
    go [] apart within = sum_nothing ms
    go (i ∷ p) apart within =
        ap (λ h. sum_by h ms) (fun_ext (λ k. both i k p apart.0))
        ∙ sum_by-add (at i (f i)) (λ k. if is_member k p then f k else 0) ms
        ∙ ap (λ z. z + sum_by (λ k. if is_member k p then f k else 0) ms) (sum_at i (f i) ms once (within i (ap (λ b. b || is_member i p) (eq-eqb i i refl))))
        ∙ ap (λ z. f i + z) (go p apart.1 (λ j h. within j (ap (λ b. (i == j) || b) h ∙ or-true (i == j))))
        ∙ sym (sum_by-cons f i p)
      where
        or-true : (b : Bool) → (b || true) ≡ true
        or-true true = refl
        or-true false = refl

-- ---- the words

sum_share-moved : (pair move : ℕ → ℕ → ℕ) (i : ℕ) (xs : List ℕ) → word (sum_by (share (λ a b. word (pair a b + move a b)) i) xs) ≡ word (sum_by (share pair i) xs + sum_by (share move i) xs)
sum_share-moved pair move i xs =
    word-sum_by (share (λ a b. word (pair a b + move a b)) i) (λ j. share pair i j + share move i j) xs (share-add_words pair move i)
    ∙ ap word (sum_by-add (share pair i) (share move i) xs)

answer_word-moved : (own om : ℕ → ℕ) (pair move : ℕ → ℕ → ℕ) (i : ℕ) (m : List ℕ) → word (om i + sum_by (share move i) m) ≡ 0
    → answer_word (λ k. word (own k + om k)) (λ a b. word (pair a b + move a b)) i m ≡ answer_word own pair i m
answer_word-moved own om pair move i m none =
    word-word_add (own i + om i) (sum_by (share (λ a b. word (pair a b + move a b)) i) m)
    ∙ word-add_same (own i + om i) (sum_by (share (λ a b. word (pair a b + move a b)) i) m) (sum_by (share pair i) m + sum_by (share move i) m) (sum_share-moved pair move i m)
    ∙ last (own i) (om i) (sum_by (share pair i) m) (sum_by (share move i) m) none
  where
    last : (a b c d : ℕ) → word (b + d) ≡ 0 → word ((a + b) + (c + d)) ≡ word (a + c)
    last a b c d e = omega (arith, e)

pub kept : (graph : Graph) (steps : List Step) (own : ℕ → ℕ) (pair : ℕ → ℕ → ℕ) (x y : ℕ → ℕ) → IsGraph graph → Fit graph steps (difference x y) → KeepsRound graph steps own pair x y
kept graph steps own pair x y is fit =
    let d : ℕ → ℕ = difference x y in
    let e : ℕ → ℕ = load graph d in
    let once : Distinct graph.members = members-distinct graph is in
    let free : AllFree graph steps = recursion_from_All (λ s. is_free graph s ≡ true) steps fit.free in
    record {
      readings = λ i within.
          reading_word-shifted own (own_move graph steps d) pair (pair_move graph steps e) graph.members i (x i) (y i) (d i)
          (brings (graph.answered i) (d i) (left_after graph steps e i) (stays_at graph steps e i) (sum_by (share (pair_move graph steps e) i) graph.members) (steps-bring graph once steps free e i))
          (word-delta (x i) (y i));
      answers = λ i answered.
          answer_word-moved own (own_move graph steps d) pair (pair_move graph steps e) i (left_out graph i)
          (ap (λ b. word (((if b then 0 else d i) + (left_after graph steps e i + stays_at graph steps e i)) + sum_by (share (pair_move graph steps e) i) (left_out graph i))) answered
          ∙ stills (left_after graph steps e i) (stays_at graph steps e i) (sum_by (share (pair_move graph steps e) i) (left_out graph i)) (fit.clear i answered) (steps-still graph once steps free e i answered));
    }
  where
    brings : (b : Bool) (d left own shares : ℕ) → word (left + (own + shares)) ≡ word (if b then d else 0) → word (((if b then 0 else d) + (left + own)) + shares) ≡ word d
    brings true d left own shares h = omega (arith, h)
    brings false d left own shares h = omega (arith, h)

    stills : (left own shares : ℕ) → word left ≡ 0 → word (own + shares) ≡ 0 → word ((0 + (left + own)) + shares) ≡ 0
    stills left own shares e f = omega (arith, e, f)

-- ---- the steps of the search

seen-free : (graph : Graph) → IsGraph graph → (steps : List Step) → AllSeen graph steps → AllFree graph steps
seen-free graph is [] all = tt
seen-free graph is (s ∷ steps) all =
    let seen : Seen graph s.from s.to = sees-is graph s.from s.to all.0 in (
      and_from (is_member s.from graph.members && is_member s.to graph.members && not (s.from == s.to) && graph.masked s.from s.to) (not (graph.answered s.from) || graph.stands s.from s.to)
          (and_from (is_member s.from graph.members && is_member s.to graph.members && not (s.from == s.to)) (graph.masked s.from s.to)
          (and_from (is_member s.from graph.members && is_member s.to graph.members) (not (s.from == s.to))
          (and_from (is_member s.from graph.members) (is_member s.to graph.members) (is.answered s.from seen.answered) (is.stands s.from s.to seen.stands))
          (ap not (ne_eqb s.from s.to seen.other)))
          seen.masked)
          (ap (λ b. not b || graph.stands s.from s.to) seen.answered ∙ seen.stands),
      seen-free graph is steps all.1,
    )

pub steps-free : (graph : Graph) → IsGraph graph → AllFree graph (steps_of graph)
steps-free graph is = seen-free graph is (steps_of graph) (steps-seen graph)

part-sums : (graph : Graph) (x y : ℕ → ℕ) → IsGraph graph → HaveOneSum graph x y → SumsToNothing graph (load graph (difference x y))
part-sums graph x y is one part apart is_part bare =
    ap word (sum_same (load graph (difference x y)) (difference x y) part (λ i h. ap (λ b. if b then difference x y i else 0) (is_part.answered i h))
    ∙ sym (sum_listed (difference x y) part graph.members (members-distinct graph is) apart (λ i h. is.answered i (is_part.answered i h))))
    ∙ sum_deltas x y (filter (listed part) graph.members) (one (listed part) is_part bare)

pub search-fits : (graph : Graph) (x y : ℕ → ℕ) → IsGraph graph → HaveOneSum graph x y → Fit graph (steps_of graph) (difference x y)
search-fits graph x y is one = record {
  free = All-from_recursion (λ s. is_free graph s ≡ true) (steps_of graph) (steps-free graph is);
  clear = λ i answered. steps-clear graph is (members-distinct graph is) (load graph (difference x y)) (part-sums graph x y is one) i answered;
}
