-- The moves along the trees of a round bring each reading word its delta, and leave each answer word.
use Rattle.std.proofs.Common.{◌≡◌, ℕ, ◌+◌, Bool, true, false, not, ◌&&◌, List, [], ◌∷◌, refl, sym, ap, ◌∙◌, arith}
use Rattle.std.specs.Prelude.{◌==◌, nat_lt, if◌then◌else◌, Option, Some, None}
use Rattle.std.specs.List.{filter, list_all, sum_by}
use mathlib.Core.Path.{fun_ext}
use Rattle.std.proofs.lemmas.Bool.{false≢true, ne_eqb, eq-eqb, eqb-true, and_parts, both_ways, false_from_ne_true, ltb-false}
use Rattle.std.proofs.lemmas.List.Sums.{sum_by-cons}
use Rattle.missing_round.specs.Words.{word, minus, share}
use Rattle.missing_round.specs.Sets.{is_member}
use Rattle.missing_round.proofs.SetLemmas.{is_member-filter}
use Rattle.missing_round.proofs.WordLemmas.{sum_by-add, word-add_same, word-sum_by}
use Rattle.mask_graphs.specs.Graphs.{Graph}
use Rattle.mask_graphs.specs.Moves.{load}
use Rattle.mask_graphs.proofs.ListFacts.{Distinct, sum_at, sum_same}
use Rattle.mask_graphs.proofs.ToldLemmas.{sum_if}
use Rattle.sparse_masks.specs.Trees.{component, is_component_opened, root, parent, is_one, gathered, tree_pair_move, tree_own_move}
use Rattle.sparse_masks.proofs.ReachLemmas.{IsSymmetric, eqb-back, joined-other}
use Rattle.sparse_masks.proofs.ForestLemmas.{gathered-is, gathered-root, orphan, outside-component, parent-is, root_alone, rooted, stranger_alone, sum_nothing}

-- ---- what goes out of a meter, and what comes in

abbrev pub out : Graph → (ℕ → ℕ) → ℕ → ℕ → ℕ
out graph d i j = if is_one (parent graph i) j then gathered graph d i else 0

abbrev pub taken_in : Graph → (ℕ → ℕ) → ℕ → ℕ → ℕ
taken_in graph d i j = if is_one (parent graph j) i then minus (gathered graph d j) else 0

not-own : (graph : Graph) (i : ℕ) → is_one (parent graph i) i ≡ false
not-own graph i = step (parent graph i) refl
  where
    step : (o : Option ℕ) → parent graph i ≡ o → is_one o i ≡ false
    step None e = refl
    step (Some v) e = ne_eqb v i (λ same. joined-other graph i v (parent-is graph i v e).joined (sym same))

shared_cases : (b c p q : Bool) (t u : ℕ) → (b ≡ false → c ≡ false → p ≡ false) → (b ≡ false → c ≡ false → q ≡ false)
    → word (if b then ((if p then t else 0) + (if q then minus u else 0)) else if c then minus ((if q then u else 0) + (if p then minus t else 0)) else 0)
    ≡ word ((if p then t else 0) + (if q then minus u else 0))
shared_cases true c p q t u not_p not_q = refl
shared_cases false true true true t u not_p not_q = omega arith
shared_cases false true true false t u not_p not_q = omega arith
shared_cases false true false true t u not_p not_q = omega arith
shared_cases false true false false t u not_p not_q = omega arith
shared_cases false false true q t u not_p not_q = absurd (false≢true (sym (not_p refl refl)))
shared_cases false false false true t u not_p not_q = absurd (false≢true (sym (not_q refl refl)))
shared_cases false false false false t u not_p not_q = refl

share-tree : (graph : Graph) (d : ℕ → ℕ) (i j : ℕ) → word (share (tree_pair_move graph d) i j) ≡ word (out graph d i j + taken_in graph d i j)
share-tree graph d i j =
    shared_cases (nat_lt i j) (nat_lt j i) (is_one (parent graph i) j) (is_one (parent graph j) i) (gathered graph d i) (gathered graph d j)
    (λ b c. ap (is_one (parent graph i)) (same b c) ∙ not-own graph i)
    (λ b c. ap (λ z. is_one (parent graph z) i) (same b c) ∙ not-own graph i)
  where
    same : nat_lt i j ≡ false → nat_lt j i ≡ false → j ≡ i
    same b c = omega (arith, ltb-false i j b, ltb-false j i c)

sum_share-tree : (graph : Graph) (d : ℕ → ℕ) (i : ℕ) (xs : List ℕ)
    → word (sum_by (share (tree_pair_move graph d) i) xs) ≡ word (sum_by (out graph d i) xs + sum_by (taken_in graph d i) xs)
sum_share-tree graph d i xs =
    word-sum_by (share (tree_pair_move graph d) i) (λ j. out graph d i j + taken_in graph d i j) xs (share-tree graph d i)
    ∙ ap word (sum_by-add (out graph d i) (taken_in graph d i) xs)

-- ---- a round: all its members xs, and the graph of those that pass a test

pub record IsRound (graph : Graph) (t : ℕ → Bool) (xs : List ℕ) : Type 0 where
  pub symmetric : IsSymmetric graph
  pub once : Distinct xs
  pub once_in : Distinct graph.members
  pub members : graph.members ≡ filter t xs
  pub answered : (i : ℕ) → graph.answered i ≡ true → is_member i graph.members ≡ true

abbrev pub goes_out : Option ℕ → ℕ → ℕ
goes_out None amount = 0
goes_out (Some v) amount = amount

in_round : (graph : Graph) (t : ℕ → Bool) (xs : List ℕ) → IsRound graph t xs → (i : ℕ) → is_member i graph.members ≡ true → is_member i xs ≡ true
in_round graph t xs is i within = (and_parts (is_member i xs) (t i) (sym (is_member-filter t i xs) ∙ ap (is_member i) (sym is.members) ∙ within)).0

sum-out : (graph : Graph) (t : ℕ → Bool) (xs : List ℕ) → IsRound graph t xs → (d : ℕ → ℕ) (i : ℕ) → sum_by (out graph d i) xs ≡ goes_out (parent graph i) (gathered graph d i)
sum-out graph t xs is d i = step (parent graph i) refl
  where
    step : (o : Option ℕ) → parent graph i ≡ o → sum_by (λ j. if is_one o j then gathered graph d i else 0) xs ≡ goes_out o (gathered graph d i)
    step None e = sum_nothing xs
    step (Some v) e =
        ap (λ f. sum_by f xs) (fun_ext (λ j. ap (λ b. if b then gathered graph d i else 0) (eqb-back v j)))
        ∙ sum_at v (gathered graph d i) xs is.once (in_round graph t xs is v (parent-is graph i v e).member)

-- who is no member of the graph has no parent
no_parent : (graph : Graph) (j i : ℕ) → is_member j graph.members ≡ false → is_one (parent graph j) i ≡ false
no_parent graph j i outside = step (parent graph j) refl
  where
    step : (o : Option ℕ) → parent graph j ≡ o → is_one o i ≡ false
    step None e = refl
    step (Some v) e = absurd (stranger_alone graph j v outside e)

-- and is none
no_child : (graph : Graph) (i j : ℕ) → is_member j graph.members ≡ false → is_one (parent graph i) j ≡ false
no_child graph i j outside = step (parent graph i) refl
  where
    step : (o : Option ℕ) → parent graph i ≡ o → is_one o j ≡ false
    step None e = refl
    step (Some v) e = ne_eqb v j (λ same. both_ways (is_member j graph.members) outside (ap (λ z. is_member z graph.members) (sym same) ∙ (parent-is graph i v e).member))

sum-children : (graph : Graph) (t : ℕ → Bool) (xs : List ℕ) → IsRound graph t xs → (d : ℕ → ℕ) (i : ℕ)
    → word (sum_by (taken_in graph d i) xs + sum_by (λ c. if is_one (parent graph c) i then gathered graph d c else 0) graph.members) ≡ 0
sum-children graph t xs is d i =
    let child : ℕ → ℕ = λ c. if is_one (parent graph c) i then gathered graph d c else 0 in
    let within : sum_by (taken_in graph d i) xs ≡ sum_by (taken_in graph d i) graph.members
    = sum_same (taken_in graph d i) (λ j. if t j then taken_in graph d i j else 0) xs (λ j j_in. only j j_in (t j) refl)
    ∙ sym (sum_if t (taken_in graph d i) xs)
    ∙ ap (sum_by (taken_in graph d i)) (sym is.members) in
    ap (λ z. word (z + sum_by child graph.members)) within
    ∙ ap word (sym (sum_by-add (taken_in graph d i) child graph.members))
    ∙ word-sum_by (λ c. taken_in graph d i c + child c) (λ _. 0) graph.members (λ c. back (is_one (parent graph c) i) (gathered graph d c))
    ∙ ap word (sum_nothing graph.members)
  where
    back : (b : Bool) (u : ℕ) → word ((if b then minus u else 0) + (if b then u else 0)) ≡ word 0
    back true u = omega arith
    back false u = refl

    only : (j : ℕ) → is_member j xs ≡ true → (b : Bool) → t j ≡ b → taken_in graph d i j ≡ (if b then taken_in graph d i j else 0)
    only j j_in true e = refl
    only j j_in false e =
        ap (λ b. if b then minus (gathered graph d j) else 0)
        (no_parent graph j i (ap (is_member j) is.members ∙ is_member-filter t j xs ∙ ap (λ b. b && t j) j_in ∙ e))

-- ---- a member of the graph

-- the sums of a component whose members all answered
abbrev pub SumsCancel : Graph → (ℕ → ℕ) → Type 0
SumsCancel graph d = (i : ℕ) → is_member i graph.members ≡ true → is_component_opened graph i ≡ true → word (sum_by d (component graph i)) ≡ 0

all_answered-sum : (answered : ℕ → Bool) (d : ℕ → ℕ) (c : List ℕ) → list_all answered c ≡ true → sum_by (λ i. if answered i then d i else 0) c ≡ sum_by d c
all_answered-sum answered d [] all = refl
all_answered-sum answered d (x ∷ xs) all =
    let both = and_parts (answered x) (list_all answered xs) all in
    sum_by-cons (λ i. if answered i then d i else 0) x xs
    ∙ ap (λ b. (if b then d x else 0) + sum_by (λ i. if answered i then d i else 0) xs) both.0
    ∙ ap (λ z. d x + z) (all_answered-sum answered d xs both.1)
    ∙ sym (sum_by-cons d x xs)

root_cases : (b : Bool) (di all sum back inner : ℕ) → word (back + inner) ≡ 0 → sum ≡ (if b then di else 0) + inner → sum ≡ all → (b ≡ true → word sum ≡ 0)
    → word ((if b then 0 else (di + all)) + (0 + back)) ≡ word di
root_cases true di all sum back inner e f g h = omega (arith, e, f, h refl)
root_cases false di all sum back inner e f g h = omega (arith, e, f, g)

child_cases : (b : Bool) (di sum back inner : ℕ) → word (back + inner) ≡ 0 → sum ≡ (if b then di else 0) + inner
    → word ((if b then 0 else (di + 0)) + (sum + back)) ≡ word di
child_cases true di sum back inner e f = omega (arith, e, f)
child_cases false di sum back inner e f = omega (arith, e, f)

brings-member : (graph : Graph) (t : ℕ → Bool) (xs : List ℕ) → IsRound graph t xs → (d : ℕ → ℕ) → SumsCancel graph d → (i : ℕ) → is_member i graph.members ≡ true
    → word (tree_own_move graph d i + (goes_out (parent graph i) (gathered graph d i) + sum_by (taken_in graph d i) xs)) ≡ word (d i)
brings-member graph t xs is d cancel i within = step (parent graph i) refl
  where
    step : (o : Option ℕ) → parent graph i ≡ o
        → word ((if graph.answered i then 0 else (d i + (if root graph i == i then sum_by (load graph d) (component graph i) else 0))) + (goes_out o (gathered graph d i) + sum_by (taken_in graph d i) xs)) ≡ word (d i)
    step None e =
        let itself : root graph i ≡ i = orphan graph is.symmetric i within e in
        let all = gathered-root graph is.symmetric d i within itself in
        let inner : ℕ = sum_by (λ c. if is_one (parent graph c) i then gathered graph d c else 0) graph.members in
        ap (λ b. word ((if graph.answered i then 0 else (d i + (if b then sum_by (load graph d) (component graph i) else 0))) + (0 + sum_by (taken_in graph d i) xs))) (eq-eqb (root graph i) i itself)
        ∙ root_cases (graph.answered i) (d i) (sum_by (load graph d) (component graph i)) (gathered graph d i) (sum_by (taken_in graph d i) xs) inner
        (sum-children graph t xs is d i) (gathered-is graph is.symmetric is.once_in d i within) all
        (λ answered.
        let opened = (rooted graph is.symmetric i within).opened (ap graph.answered itself ∙ answered) in
        ap word (all ∙ all_answered-sum graph.answered d (component graph i) opened) ∙ cancel i within opened)
    step (Some v) e =
        let inner : ℕ = sum_by (λ c. if is_one (parent graph c) i then gathered graph d c else 0) graph.members in
        ap (λ b. word ((if graph.answered i then 0 else (d i + (if b then sum_by (load graph d) (component graph i) else 0))) + (gathered graph d i + sum_by (taken_in graph d i) xs)))
        (false_from_ne_true (root graph i == i) (λ h. root_alone graph is.symmetric i v within (eqb-true (root graph i) i h) e))
        ∙ child_cases (graph.answered i) (d i) (gathered graph d i) (sum_by (taken_in graph d i) xs) inner
        (sum-children graph t xs is d i) (gathered-is graph is.symmetric is.once_in d i within)

-- ---- others

-- the words of a meter outside the graph with any other stay
outside-still : (graph : Graph) (d : ℕ → ℕ) (i j : ℕ) → is_member i graph.members ≡ false → word (share (tree_pair_move graph d) i j) ≡ 0
outside-still graph d i j outside =
    share-tree graph d i j
    ∙ ap (λ b. word ((if b then gathered graph d i else 0) + taken_in graph d i j)) (no_parent graph i j outside)
    ∙ ap (λ b. word (0 + (if b then minus (gathered graph d j) else 0))) (no_child graph j i outside)

pub tree-brings : (graph : Graph) (t : ℕ → Bool) (xs : List ℕ) → IsRound graph t xs → (d : ℕ → ℕ) → SumsCancel graph d → (i : ℕ)
    → word (tree_own_move graph d i + sum_by (share (tree_pair_move graph d) i) xs) ≡ word (d i)
tree-brings graph t xs is d cancel i = step (is_member i graph.members) refl
  where
    last : (b : Bool) (a : ℕ) → word ((a + (if b then 0 else 0)) + 0) ≡ word a
    last true a = omega arith
    last false a = omega arith

    step : (b : Bool) → is_member i graph.members ≡ b → word (tree_own_move graph d i + sum_by (share (tree_pair_move graph d) i) xs) ≡ word (d i)
    step true within =
        word-add_same (tree_own_move graph d i) (sum_by (share (tree_pair_move graph d) i) xs) (goes_out (parent graph i) (gathered graph d i) + sum_by (taken_in graph d i) xs)
        (sum_share-tree graph d i xs ∙ ap (λ z. word (z + sum_by (taken_in graph d i) xs)) (sum-out graph t xs is d i))
        ∙ brings-member graph t xs is d cancel i within
    step false outside =
        let none : sum_by (load graph d) (component graph i) ≡ 0 = ap (sum_by (load graph d)) (outside-component graph i outside) in
        let silent : graph.answered i ≡ false = false_from_ne_true (graph.answered i) (λ h. both_ways (is_member i graph.members) outside (is.answered i h)) in
        word-add_same (tree_own_move graph d i) (sum_by (share (tree_pair_move graph d) i) xs) 0
        (word-sum_by (share (tree_pair_move graph d) i) (λ _. 0) xs (λ j. outside-still graph d i j outside) ∙ ap word (sum_nothing xs))
        ∙ ap (λ b. word ((if b then 0 else (d i + (if root graph i == i then sum_by (load graph d) (component graph i) else 0))) + 0)) silent
        ∙ ap (λ z. word ((d i + (if root graph i == i then z else 0)) + 0)) none
        ∙ last (root graph i == i) (d i)

-- the words of a meter with those that are no members of the graph stay
pub tree-still : (graph : Graph) (t : ℕ → Bool) (xs : List ℕ) → IsRound graph t xs → (d : ℕ → ℕ) (i : ℕ)
    → word (sum_by (share (tree_pair_move graph d) i) (filter (λ j. not (t j)) xs)) ≡ 0
tree-still graph t xs is d i =
    ap word (sum_if (λ j. not (t j)) (share (tree_pair_move graph d) i) xs)
    ∙ word-sum_by (λ j. if not (t j) then share (tree_pair_move graph d) i j else 0) (λ _. 0) xs (λ j. step j (t j) refl)
    ∙ ap word (sum_nothing xs)
  where
    and-false : (b : Bool) → (b && false) ≡ false
    and-false true = refl
    and-false false = refl

    step : (j : ℕ) (b : Bool) → t j ≡ b → word (if not b then share (tree_pair_move graph d) i j else 0) ≡ word 0
    step j true e = refl
    step j false e =
        let outside : is_member j graph.members ≡ false = ap (is_member j) is.members ∙ is_member-filter t j xs ∙ ap (λ b. is_member j xs && b) e ∙ and-false (is_member j xs) in
        share-tree graph d i j
        ∙ ap (λ b. word ((if b then gathered graph d i else 0) + taken_in graph d i j)) (no_child graph i j outside)
        ∙ ap (λ b. word (0 + (if b then minus (gathered graph d j) else 0))) (no_parent graph j i outside)

-- where two meters share no mask their pair word stays
pub unmasked-still : (graph : Graph) → IsSymmetric graph → (d : ℕ → ℕ) (i j : ℕ) → graph.masked i j ≡ false → tree_pair_move graph d i j ≡ 0
unmasked-still graph symmetric d i j none =
    ap (λ b. (if b then gathered graph d i else 0) + (if is_one (parent graph j) i then minus (gathered graph d j) else 0)) (apart i j none)
    ∙ ap (λ b. 0 + (if b then minus (gathered graph d j) else 0)) (apart j i (symmetric j i ∙ none))
  where
    apart : (a b : ℕ) → graph.masked a b ≡ false → is_one (parent graph a) b ≡ false
    apart a b out = step (parent graph a) refl
      where
        step : (o : Option ℕ) → parent graph a ≡ o → is_one o b ≡ false
        step None e = refl
        step (Some v) e =
            ne_eqb v b (λ same. both_ways (graph.masked a b) out
            (ap (graph.masked a) (sym same) ∙ (and_parts (not (a == v)) (graph.masked a v) (parent-is graph a v e).joined).1))
