-- The trees of a round: each member but a root has a parent one step nearer, and what is gathered at a member is its own and what its children gathered.
use Rattle.std.proofs.Common.{◌≡◌, ℕ, zero, suc, ◌+◌, ◌-◌, ◌<◌, ◌≤◌, Bool, true, false, cond, not, ◌&&◌, ◌||◌, List, [], ◌∷◌, length, refl, sym, ap, ◌∙◌, subst, arith, ⊎_elim, zero-add, add-zero}
use Rattle.std.specs.Prelude.{◌==◌, if◌then◌else◌, Option, Some, None, unwrap_or, slice_index_or}
use Rattle.std.specs.List.{find, list_all, sum_by, count_by, range_with_len}
use mathlib.Core.Path.{fun_ext}
use Rattle.std.proofs.lemmas.Bool.{false≢true, cases_eq, cases_lt, ne_eqb, eq-eqb, eqb-true, or_cases, or_left, or_right, both_ways, false_from_ne_true, not-true, not-false}
use Rattle.std.proofs.lemmas.List.Sums.{sum_by-cons}
use Rattle.missing_round.specs.Sets.{is_member}
use Rattle.missing_round.proofs.SetLemmas.{same_filter}
use Rattle.missing_round.proofs.WordLemmas.{sum_by-add}
use Rattle.mask_graphs.specs.Graphs.{Graph}
use Rattle.mask_graphs.specs.Moves.{load}
use Rattle.mask_graphs.proofs.ListFacts.{Distinct, at, find-member, find-none, find-passes, member_head, same_test, sum_at, sum_same}
use Rattle.mask_graphs.proofs.ToldLemmas.{sum_if}
use Rattle.sparse_masks.specs.Trees.{are_joined, joined_to, around, component, is_component_opened, root, steps_between, parent, is_one, holds_for, passes, gathered}
use Rattle.sparse_masks.proofs.ReachLemmas.{IsSymmetric, Touches, around-filtered, around-le, around-members, around-self, around-zero, component-closed, component-same, component-self, in_filter, joined-back, of_filter, of_widened, takes}

-- ---- roots

-- the root, by the component alone: d is for an empty one
abbrev pub root_in : (ℕ → Bool) → List ℕ → ℕ → ℕ
root_in answered c d = unwrap_or (find (λ j. not (answered j)) c) (slice_index_or c 0 d)

root-any : (answered : ℕ → Bool) (c : List ℕ) (d e k : ℕ) → is_member k c ≡ true → root_in answered c d ≡ root_in answered c e
root-any answered [] d e k h = absurd (false≢true h)
root-any answered (x ∷ xs) d e k h = refl

root-member : (answered : ℕ → Bool) (c : List ℕ) (d k : ℕ) → is_member k c ≡ true → is_member (root_in answered c d) c ≡ true
root-member answered [] d k h = absurd (false≢true h)
root-member answered (x ∷ xs) d k h = step (find (λ j. not (answered j)) (x ∷ xs)) refl
  where
    step : (o : Option ℕ) → find (λ j. not (answered j)) (x ∷ xs) ≡ o → is_member (unwrap_or o x) (x ∷ xs) ≡ true
    step None e = member_head x xs
    step (Some j) e = find-member (λ l. not (answered l)) (x ∷ xs) j e

pub all_pass : (p : ℕ → Bool) (xs : List ℕ) → ((i : ℕ) → is_member i xs ≡ true → p i ≡ true) → list_all p xs ≡ true
all_pass p [] h = refl
all_pass p (x ∷ xs) h = ap (λ b. b && list_all p xs) (h x (member_head x xs)) ∙ all_pass p xs (λ i within. h i (or_right (x == i) (is_member i xs) within))

-- where the root answered, each member did
root-answered : (answered : ℕ → Bool) (c : List ℕ) (d : ℕ) → answered (root_in answered c d) ≡ true → list_all answered c ≡ true
root-answered answered c d h = step (find (λ j. not (answered j)) c) refl h
  where
    step : (o : Option ℕ) → find (λ j. not (answered j)) c ≡ o → answered (unwrap_or o (slice_index_or c 0 d)) ≡ true → list_all answered c ≡ true
    step None e is = all_pass answered c (λ i within. not-false (answered i) (find-none (λ j. not (answered j)) c e i within))
    step (Some j) e is = absurd (both_ways (answered j) (not-true (answered j) (find-passes (λ l. not (answered l)) c j e)) is)

pub record Rooted (graph : Graph) (i : ℕ) : Type 0 where
  pub within : is_member (root graph i) (component graph i) ≡ true
  pub member : is_member (root graph i) graph.members ≡ true
  pub same : component graph (root graph i) ≡ component graph i
  pub itself : root graph (root graph i) ≡ root graph i
  pub opened : graph.answered (root graph i) ≡ true → is_component_opened graph i ≡ true

pub root-same : (graph : Graph) → IsSymmetric graph → (i j : ℕ) → is_member i graph.members ≡ true → is_member j (component graph i) ≡ true → root graph j ≡ root graph i
root-same graph symmetric i j within h =
    ap (λ c. root_in graph.answered c j) (component-same graph symmetric i j within h)
    ∙ root-any graph.answered (component graph i) j i j h

pub rooted : (graph : Graph) → IsSymmetric graph → (i : ℕ) → is_member i graph.members ≡ true → Rooted graph i
rooted graph symmetric i within =
    let in_it = root-member graph.answered (component graph i) i i (component-self graph i within) in
    record {
      within = in_it;
      member = around-members graph i (length graph.members) (root graph i) in_it;
      same = component-same graph symmetric i (root graph i) within in_it;
      itself = root-same graph symmetric i (root graph i) within in_it;
      opened = λ answered. root-answered graph.answered (component graph i) i answered;
    }

-- ---- distances

count-none : (f : ℕ → Bool) (a n : ℕ) → ((l : ℕ) → a ≤ l → f l ≡ true) → count_by (λ l. not (f l)) (range_with_len a n) ≡ 0
count-none f a zero all = refl
count-none f a (suc n) all =
    sum_by-cons (λ l. cond (not (f l)) 1 0) a (range_with_len (a + 1) n)
    ∙ ap (λ b. cond (not b) 1 0 + count_by (λ l. not (f l)) (range_with_len (a + 1) n)) (all a (omega arith))
    ∙ ap (λ z. 0 + z) (count-none f (a + 1) n (λ l le. all l (omega (arith, le))))

count-first : (f : ℕ → Bool) (a n k : ℕ) → a ≤ k → k ≤ a + n → ((l : ℕ) → a ≤ l → l < k → f l ≡ false) → ((l : ℕ) → k ≤ l → f l ≡ true)
    → count_by (λ l. not (f l)) (range_with_len a n) ≡ k - a
count-first f a zero k low high before after = omega (arith, low, high)
count-first f a (suc n) k low high before after =
    ⊎_elim
    (λ e. count-none f a (suc n) (λ l le. after l (omega (arith, e, le))) ∙ omega (arith, e))
    (λ ne.
    let lt : a < k = omega (arith, ne, low) in
    let rest : count_by (λ l. not (f l)) (range_with_len (a + 1) n) ≡ k - (a + 1)
    = count-first f (a + 1) n k (omega (arith, lt)) (omega (arith, high)) (λ l le below. before l (omega (arith, le)) below) after in
    sum_by-cons (λ l. cond (not (f l)) 1 0) a (range_with_len (a + 1) n)
    ∙ ap (λ b. cond (not b) 1 0 + count_by (λ l. not (f l)) (range_with_len (a + 1) n)) (before a (omega arith) lt)
    ∙ omega (arith, rest, lt))
    (cases_eq a k)

-- meter j is as many steps from r as there are sets around r without it
pub record At (graph : Graph) (r j : ℕ) : Type 0 where
  pub within : is_member j (around graph r (steps_between graph r j)) ≡ true
  pub before : (l : ℕ) → l < steps_between graph r j → is_member j (around graph r l) ≡ false
  pub few : steps_between graph r j ≤ length graph.members

pub record First (graph : Graph) (r j k : ℕ) : Type 0 where
  pub steps : ℕ
  pub few : steps ≤ k
  pub within : is_member j (around graph r steps) ≡ true
  pub before : (l : ℕ) → l < steps → is_member j (around graph r l) ≡ false

first : (graph : Graph) (r j k : ℕ) → is_member j (around graph r k) ≡ true → First graph r j k
first graph r j zero h = record { steps = zero; few = omega arith; within = h; before = λ l lt. absurd (omega (arith, lt)) }
first graph r j (suc k) h = step (is_member j (around graph r k)) refl (first graph r j k)
  where
    step : (b : Bool) → is_member j (around graph r k) ≡ b → (is_member j (around graph r k) ≡ true → First graph r j k) → First graph r j (suc k)
    step true is rest = let f = rest is in record { steps = f.steps; few = omega (arith, f.few); within = f.within; before = f.before }
    step false is rest = record {
      steps = suc k;
      few = omega arith;
      within = h;
      before = λ l lt. false_from_ne_true (is_member j (around graph r l)) (λ inside. both_ways (is_member j (around graph r k)) is (around-le graph r j l k (omega (arith, lt)) inside));
    }

pub steps-are : (graph : Graph) (r j : ℕ) (f : First graph r j (length graph.members)) → steps_between graph r j ≡ f.steps
steps-are graph r j f =
    count-first (λ k. is_member j (around graph r k)) 0 (length graph.members) f.steps (omega arith) (omega (arith, f.few)) (λ l le lt. f.before l lt) (λ l le. around-le graph r j f.steps l le f.within)
    ∙ omega arith

pub at-steps : (graph : Graph) (r j : ℕ) → is_member j (component graph r) ≡ true → At graph r j
at-steps graph r j h =
    let f = first graph r j (length graph.members) h in
    let is = steps-are graph r j f in
    record {
      within = ap (λ k. is_member j (around graph r k)) is ∙ f.within;
      before = λ l lt. f.before l (omega (arith, is, lt));
      few = omega (arith, is, f.few);
    }

-- a meter that is no member is in no set
outside-none : (graph : Graph) (r j k : ℕ) → is_member r graph.members ≡ false → is_member j (around graph r k) ≡ false
outside-none graph r j zero out =
    false_from_ne_true (is_member j (around graph r zero))
    (λ h. both_ways (is_member r graph.members) out (ap (λ l. is_member l graph.members) (sym (around-zero graph r j h)) ∙ around-members graph r zero j h))
outside-none graph r j (suc k) out =
    false_from_ne_true (is_member j (around graph r (suc k)))
    (λ h. ⊎_elim
    (λ before. both_ways (is_member j (around graph r k)) (outside-none graph r j k out) before)
    (λ t. both_ways (is_member t.one (around graph r k)) (outside-none graph r t.one k out) t.in_set)
    (of_widened graph (around graph r k) j h))

no-members : (xs : List ℕ) → ((j : ℕ) → is_member j xs ≡ false) → xs ≡ []
no-members [] none = refl
no-members (x ∷ xs) none = absurd (both_ways (is_member x (x ∷ xs)) (none x) (member_head x xs))

pub outside-component : (graph : Graph) (r : ℕ) → is_member r graph.members ≡ false → component graph r ≡ []
outside-component graph r out = no-members (component graph r) (λ j. outside-none graph r j (length graph.members) out)

-- ---- parents

abbrev pub rank : Graph → ℕ → ℕ
rank graph u = steps_between graph (root graph u) u

pub record IsParent (graph : Graph) (u v : ℕ) : Type 0 where
  pub member : is_member v graph.members ≡ true
  pub joined : are_joined graph u v ≡ true
  pub nearer : steps_between graph (root graph u) v + 1 ≡ rank graph u

pub parent-is : (graph : Graph) (u v : ℕ) → parent graph u ≡ Some v → IsParent graph u v
parent-is graph u v e =
    let test : ℕ → Bool = λ l. steps_between graph (root graph u) l + 1 == steps_between graph (root graph u) u in
    let joint = of_filter (are_joined graph u) v graph.members (find-member test (joined_to graph u) v e) in
    record {
      member = joint.0;
      joined = joint.1;
      nearer = eqb-true (steps_between graph (root graph u) v + 1) (steps_between graph (root graph u) u) (find-passes test (joined_to graph u) v e);
    }

-- the parent of a member
pub record Parent (graph : Graph) (u v : ℕ) : Type 0 where
  pub is : IsParent graph u v
  pub within : is_member v (component graph u) ≡ true
  pub same : component graph v ≡ component graph u
  pub root : root graph v ≡ root graph u
  pub nearer : rank graph v + 1 ≡ rank graph u

pub parent-of : (graph : Graph) → IsSymmetric graph → (u v : ℕ) → is_member u graph.members ≡ true → parent graph u ≡ Some v → Parent graph u v
parent-of graph symmetric u v within e =
    let is = parent-is graph u v e in
    let near : is_member v (component graph u) ≡ true
    = component-closed graph u within v u is.member (component-self graph u within) (joined-back graph symmetric v u ∙ is.joined) in
    let same_root = root-same graph symmetric u v within near in
    record {
      is = is;
      within = near;
      same = component-same graph symmetric u v within near;
      root = same_root;
      nearer = ap (λ r. steps_between graph r v + 1) same_root ∙ is.nearer;
    }

-- it is in the component of its root
pub in_root : (graph : Graph) → IsSymmetric graph → (u : ℕ) → is_member u graph.members ≡ true → is_member u (component graph (root graph u)) ≡ true
in_root graph symmetric u within = ap (is_member u) (rooted graph symmetric u within).same ∙ component-self graph u within

-- who is one step or more away is joined to one that is a step nearer
pub record Nearer (graph : Graph) (r u k : ℕ) : Type 0 where
  pub one : ℕ
  pub member : is_member one graph.members ≡ true
  pub joined : are_joined graph u one ≡ true
  pub steps : steps_between graph r one ≡ k

nearer : (graph : Graph) (r u k : ℕ) → At graph r u → steps_between graph r u ≡ suc k → Nearer graph r u k
nearer graph r u k a is =
    let here : is_member u (around graph r (suc k)) ≡ true = ap (λ n. is_member u (around graph r n)) (sym is) ∙ a.within in
    ⊎_elim
    (λ before. absurd (both_ways (is_member u (around graph r k)) (a.before k (omega (arith, is))) before))
    (λ t. record { one = t.one; member = t.within; joined = t.joined; steps = exact here t })
    (of_widened graph (around graph r k) u here)
  where
    exact : is_member u (around graph r (suc k)) ≡ true → (t : Touches graph (around graph r k) u) → steps_between graph r t.one ≡ k
    exact here t =
        let d : ℕ = steps_between graph r t.one in
        let b : At graph r t.one = at-steps graph r t.one (around-le graph r t.one k (length graph.members) (omega (arith, is, a.few)) t.in_set) in
        let not_below : d < k → ⊥
        = λ lt. both_ways (is_member u (around graph r (suc d))) (a.before (suc d) (omega (arith, lt, is)))
        (takes graph (around graph r d) u t.one (around-members graph r (suc k) u here) t.within t.joined b.within) in
        let not_above : k < d → ⊥ = λ lt. both_ways (is_member t.one (around graph r k)) (b.before k lt) t.in_set in
        ⊎_elim (λ lt. absurd (not_below lt)) (λ ge. ⊎_elim (λ lt. absurd (not_above lt)) (λ le. omega (arith, ge, le)) (cases_lt k d)) (cases_lt d k)

-- who has no parent is a root
pub orphan : (graph : Graph) → IsSymmetric graph → (u : ℕ) → is_member u graph.members ≡ true → parent graph u ≡ None → root graph u ≡ u
orphan graph symmetric u within e = step (at-steps graph (root graph u) u (in_root graph symmetric u within)) (rank graph u) refl
  where
    step : At graph (root graph u) u → (k : ℕ) → rank graph u ≡ k → root graph u ≡ u
    step a zero is = sym (around-zero graph (root graph u) u (ap (λ n. is_member u (around graph (root graph u) n)) (sym is) ∙ a.within))
    step a (suc k) is =
        let n = nearer graph (root graph u) u k a is in
        absurd (both_ways (steps_between graph (root graph u) n.one + 1 == steps_between graph (root graph u) u)
        (find-none (λ l. steps_between graph (root graph u) l + 1 == steps_between graph (root graph u) u) (joined_to graph u) e n.one (in_filter (are_joined graph u) n.one graph.members n.member n.joined))
        (eq-eqb (steps_between graph (root graph u) n.one + 1) (steps_between graph (root graph u) u) (omega (arith, n.steps, is))))

-- and a root has none
pub root_alone : (graph : Graph) → IsSymmetric graph → (u v : ℕ) → is_member u graph.members ≡ true → root graph u ≡ u → parent graph u ≡ Some v → ⊥
root_alone graph symmetric u v within is e =
    let p = parent-is graph u v e in
    let a = at-steps graph (root graph u) u (in_root graph symmetric u within) in
    let here : is_member u (around graph (root graph u) zero) ≡ true = ap (λ r. is_member u (around graph r zero)) is ∙ around-self graph u within in
    ⊎_elim
    (λ lt. both_ways (is_member u (around graph (root graph u) zero)) (a.before zero lt) here)
    (λ le. omega (arith, p.nearer, le))
    (cases_lt 0 (rank graph u))

rank-zero : (graph : Graph) → IsSymmetric graph → (u : ℕ) → is_member u graph.members ≡ true → rank graph u ≤ 0 → root graph u ≡ u
rank-zero graph symmetric u within none =
    let a = at-steps graph (root graph u) u (in_root graph symmetric u within) in
    let is : rank graph u ≡ 0 = omega (arith, none) in
    sym (around-zero graph (root graph u) u (ap (λ n. is_member u (around graph (root graph u) n)) (sym is) ∙ a.within))

pub rank-few : (graph : Graph) → IsSymmetric graph → (u : ℕ) → is_member u graph.members ≡ true → rank graph u ≤ length graph.members
rank-few graph symmetric u within = (at-steps graph (root graph u) u (in_root graph symmetric u within)).few

-- who is no member has none
count-all : (f : ℕ → Bool) (a n : ℕ) → ((l : ℕ) → f l ≡ false) → count_by (λ l. not (f l)) (range_with_len a n) ≡ n
count-all f a zero none = refl
count-all f a (suc n) none =
    sum_by-cons (λ l. cond (not (f l)) 1 0) a (range_with_len (a + 1) n)
    ∙ ap (λ b. cond (not b) 1 0 + count_by (λ l. not (f l)) (range_with_len (a + 1) n)) (none a)
    ∙ omega (arith, count-all f (a + 1) n none)

pub stranger_alone : (graph : Graph) (u v : ℕ) → is_member u graph.members ≡ false → parent graph u ≡ Some v → ⊥
stranger_alone graph u v out e =
    let p = parent-is graph u v e in
    let itself : root graph u ≡ u = ap (λ c. root_in graph.answered c u) (outside-component graph u out) in
    let all : (j : ℕ) → steps_between graph (root graph u) j ≡ length graph.members
    = λ j. ap (λ r. steps_between graph r j) itself ∙ count-all (λ k. is_member j (around graph u k)) 0 (length graph.members) (λ k. outside-none graph u j k out) in
    omega (arith, p.nearer, all u, all v)

-- ---- ways

pass-rank : (graph : Graph) → IsSymmetric graph → (n c v : ℕ) → is_member v graph.members ≡ true → passes graph n c v ≡ true → (rank graph c ≤ rank graph v) × (component graph c ≡ component graph v)
pass-rank graph symmetric zero c v within h = subst (λ z. (rank graph z ≤ rank graph v) × (component graph z ≡ component graph v)) (eqb-true v c h) (omega arith, refl)
pass-rank graph symmetric (suc n) c v within h =
    ⊎_elim
    (λ here. subst (λ z. (rank graph z ≤ rank graph v) × (component graph z ≡ component graph v)) (eqb-true v c here) (omega arith, refl))
    (λ on. step (parent graph v) refl on (λ u u_in is. pass-rank graph symmetric n c u u_in is))
    (or_cases (v == c) (holds_for (passes graph n c) (parent graph v)) h)
  where
    step : (o : Option ℕ) → parent graph v ≡ o → holds_for (passes graph n c) o ≡ true
        → ((u : ℕ) → is_member u graph.members ≡ true → passes graph n c u ≡ true → (rank graph c ≤ rank graph u) × (component graph c ≡ component graph u))
        → (rank graph c ≤ rank graph v) × (component graph c ≡ component graph v)
    step None e on rest = absurd (false≢true on)
    step (Some u) e on rest =
        let p = parent-of graph symmetric v u within e in
        let r = rest u p.is.member on in
        (omega (arith, r.0, p.nearer), r.1 ∙ p.same)

pass-root : (graph : Graph) → IsSymmetric graph → (n k : ℕ) → is_member k graph.members ≡ true → rank graph k ≤ n → passes graph n (root graph k) k ≡ true
pass-root graph symmetric zero k within few = eq-eqb k (root graph k) (sym (rank-zero graph symmetric k within few))
pass-root graph symmetric (suc n) k within few = step (parent graph k) refl (λ v v_in v_few. pass-root graph symmetric n v v_in v_few)
  where
    step : (o : Option ℕ) → parent graph k ≡ o → ((v : ℕ) → is_member v graph.members ≡ true → rank graph v ≤ n → passes graph n (root graph v) v ≡ true)
        → ((k == root graph k) || holds_for (passes graph n (root graph k)) (parent graph k)) ≡ true
    step None e rest = or_left (k == root graph k) (holds_for (passes graph n (root graph k)) (parent graph k)) (eq-eqb k (root graph k) (sym (orphan graph symmetric k within e)))
    step (Some v) e rest =
        let p = parent-of graph symmetric k v within e in
        or_right (k == root graph k) (holds_for (passes graph n (root graph k)) (parent graph k))
        (ap (holds_for (passes graph n (root graph k))) e ∙ ap (λ r. passes graph n r v) (sym p.root) ∙ rest v p.is.member (omega (arith, few, p.nearer)))

-- ---- what is gathered

or-false : (b : Bool) → (b || false) ≡ b
or-false true = refl
or-false false = refl

if-none : (b : Bool) → cond {A = ℕ} b 0 0 ≡ 0
if-none true = refl
if-none false = refl

pub sum_nothing : (xs : List ℕ) → sum_by (λ (_ : ℕ). 0) xs ≡ 0
sum_nothing [] = refl
sum_nothing (x ∷ xs) = omega (arith, sum_by-cons (λ (_ : ℕ). 0) x xs, sum_nothing xs)

pub sum_by-if : (b : Bool) (f : ℕ → ℕ) (xs : List ℕ) → sum_by (λ j. if b then f j else 0) xs ≡ (if b then sum_by f xs else 0)
sum_by-if true f xs = refl
sum_by-if false f xs = sum_nothing xs

sum-swap : (f : ℕ → ℕ → ℕ) (xs ys : List ℕ) → sum_by (λ k. sum_by (λ c. f c k) ys) xs ≡ sum_by (λ c. sum_by (f c) xs) ys
sum-swap f [] ys = sym (sum_nothing ys)
sum-swap f (x ∷ xs) ys =
    sum_by-cons (λ k. sum_by (λ c. f c k) ys) x xs
    ∙ ap (λ z. sum_by (λ c. f c x) ys + z) (sum-swap f xs ys)
    ∙ sym (sum_by-add (λ c. f c x) (λ c. sum_by (f c) xs) ys)
    ∙ ap (λ h. sum_by h ys) (fun_ext (λ c. sym (sum_by-cons (f c) x xs)))

-- the ways that start at k, and those that go on from its parent
split-sum : (child pass later : ℕ → Bool) (k w : ℕ) (ms : List ℕ) → Distinct ms → is_member k ms ≡ true → ((c : ℕ) → pass c ≡ ((k == c) || later c)) → later k ≡ false
    → sum_by (λ c. if child c then (if pass c then w else 0) else 0) ms ≡ (if child k then w else 0) + sum_by (λ c. if child c then (if later c then w else 0) else 0) ms
split-sum child pass later k w ms once within is apart =
    ap (λ h. sum_by h ms) (fun_ext term)
    ∙ sum_by-add (at k (if child k then w else 0)) (λ c. if child c then (if later c then w else 0) else 0) ms
    ∙ ap (λ z. z + sum_by (λ c. if child c then (if later c then w else 0) else 0) ms) (sum_at k (if child k then w else 0) ms once within)
  where
    here : (b : Bool) (x : ℕ) → (if b then x else 0) ≡ (if b then x else 0) + (if b then 0 else 0)
    here true x = sym (add-zero x)
    here false x = refl

    term : (c : ℕ) → (if child c then (if pass c then w else 0) else 0) ≡ at k (if child k then w else 0) c + (if child c then (if later c then w else 0) else 0)
    term c = ⊎_elim
        (λ e.
        ap (λ b. if child c then (if b then w else 0) else 0) (is c ∙ ap (λ b. b || later c) (eq-eqb k c (sym e)))
        ∙ here (child c) w
        ∙ ap (λ b. (if child c then w else 0) + (if child c then (if b then w else 0) else 0)) (sym (ap later e ∙ apart))
        ∙ ap (λ z. (if child z then w else 0) + (if child c then (if later c then w else 0) else 0)) e
        ∙ ap (λ b. (if b then (if child k then w else 0) else 0) + (if child c then (if later c then w else 0) else 0)) (sym (eq-eqb c k e)))
        (λ ne.
        ap (λ b. if child c then (if b then w else 0) else 0) (is c ∙ ap (λ b. b || later c) (ne_eqb k c (λ e. ne (sym e))))
        ∙ sym (zero-add (if child c then (if later c then w else 0) else 0))
        ∙ ap (λ b. (if b then (if child k then w else 0) else 0) + (if child c then (if later c then w else 0) else 0)) (sym (ne_eqb c k ne)))
        (cases_eq c k)

apart-sum : (b c : Bool) (w : ℕ) → (b ≡ true → c ≡ false) → (if b || c then w else 0) ≡ (if b then w else 0) + (if c then w else 0)
apart-sum true true w h = absurd (false≢true (sym (h refl)))
apart-sum true false w h = sym (add-zero w)
apart-sum false c w h = sym (zero-add (if c then w else 0))

-- the way of a meter without a parent passes none but itself
pass-none : (graph : Graph) (u k w : ℕ) (pass : ℕ → Bool) → Distinct graph.members → is_member k graph.members ≡ true → parent graph k ≡ None → ((c : ℕ) → pass c ≡ (k == c))
    → (if pass u then w else 0) ≡ (if k == u then w else 0) + sum_by (λ c. if is_one (parent graph c) u then (if pass c then w else 0) else 0) graph.members
pass-none graph u k w pass once within e is =
    let child : ℕ → Bool = λ c. is_one (parent graph c) u in
    let none : sum_by (λ c. if child c then (if pass c then w else 0) else 0) graph.members ≡ 0
    = split-sum child pass (λ _. false) k w graph.members once within (λ c. is c ∙ sym (or-false (k == c))) refl
    ∙ ap (λ o. (if is_one o u then w else 0) + sum_by (λ c. if child c then 0 else 0) graph.members) e
    ∙ zero-add (sum_by (λ c. if child c then 0 else 0) graph.members)
    ∙ ap (λ h. sum_by h graph.members) (fun_ext (λ c. if-none (child c)))
    ∙ sum_nothing graph.members in
    ap (λ b. if b then w else 0) (is u) ∙ sym (add-zero (if k == u then w else 0)) ∙ ap (λ z. (if k == u then w else 0) + z) (sym none)

pass-split : (graph : Graph) → IsSymmetric graph → Distinct graph.members → (n u k w : ℕ) → is_member k graph.members ≡ true → rank graph k ≤ n
    → (if passes graph n u k then w else 0)
    ≡ (if k == u then w else 0) + sum_by (λ c. if is_one (parent graph c) u then (if passes graph n c k then w else 0) else 0) graph.members
pass-split graph symmetric once zero u k w within few = step (parent graph k) refl
  where
    step : (o : Option ℕ) → parent graph k ≡ o
        → (if k == u then w else 0) ≡ (if k == u then w else 0) + sum_by (λ c. if is_one (parent graph c) u then (if k == c then w else 0) else 0) graph.members
    step None e = pass-none graph u k w (λ c. k == c) once within e (λ c. refl)
    step (Some v) e = absurd (root_alone graph symmetric k v within (rank-zero graph symmetric k within few) e)
pass-split graph symmetric once (suc n) u k w within few = step (parent graph k) refl (λ v v_in v_few. pass-split graph symmetric once n u v w v_in v_few)
  where
    step : (o : Option ℕ) → parent graph k ≡ o
        → ((v : ℕ) → is_member v graph.members ≡ true → rank graph v ≤ n
        → (if passes graph n u v then w else 0) ≡ (if v == u then w else 0) + sum_by (λ c. if is_one (parent graph c) u then (if passes graph n c v then w else 0) else 0) graph.members)
        → (if (k == u) || holds_for (passes graph n u) (parent graph k) then w else 0)
        ≡ (if k == u then w else 0) + sum_by (λ c. if is_one (parent graph c) u then (if (k == c) || holds_for (passes graph n c) (parent graph k) then w else 0) else 0) graph.members
    step None e rest =
        pass-none graph u k w (λ c. (k == c) || holds_for (passes graph n c) (parent graph k)) once within e
        (λ c. ap (λ o. (k == c) || holds_for (passes graph n c) o) e ∙ or-false (k == c))
    step (Some v) e rest =
        let p = parent-of graph symmetric k v within e in
        let child : ℕ → Bool = λ c. is_one (parent graph c) u in
        let later : ℕ → Bool = λ c. passes graph n c v in
        let apart : later k ≡ false
        = false_from_ne_true (later k) (λ h. let r = pass-rank graph symmetric n k v p.is.member h in omega (arith, r.0, p.nearer)) in
        let sums : sum_by (λ c. if child c then (if (k == c) || holds_for (passes graph n c) (parent graph k) then w else 0) else 0) graph.members ≡ (if later u then w else 0)
        = split-sum child (λ c. (k == c) || holds_for (passes graph n c) (parent graph k)) later k w graph.members once within (λ c. ap (λ o. (k == c) || holds_for (passes graph n c) o) e) apart
        ∙ ap (λ o. (if is_one o u then w else 0) + sum_by (λ c. if child c then (if later c then w else 0) else 0) graph.members) e
        ∙ sym (rest v p.is.member (omega (arith, few, p.nearer))) in
        ap (λ o. if (k == u) || holds_for (passes graph n u) o then w else 0) e
        ∙ apart-sum (k == u) (later u) w (λ h. ap later (sym (eqb-true k u h)) ∙ apart)
        ∙ ap (λ z. (if k == u then w else 0) + z) (sym sums)

-- a member gathers its own and what its children gathered
pub gathered-is : (graph : Graph) → IsSymmetric graph → Distinct graph.members → (d : ℕ → ℕ) (u : ℕ) → is_member u graph.members ≡ true
    → gathered graph d u ≡ load graph d u + sum_by (λ c. if is_one (parent graph c) u then gathered graph d c else 0) graph.members
gathered-is graph symmetric once d u within =
    let n : ℕ = length graph.members in
    let e : ℕ → ℕ = load graph d in
    let ms : List ℕ = graph.members in
    let child : ℕ → Bool = λ c. is_one (parent graph c) u in
    let part : ℕ → ℕ → ℕ = λ c k. if child c then (if passes graph n c k then e k else 0) else 0 in
    sum_if (passes graph n u) e ms
    ∙ sum_same (λ k. if passes graph n u k then e k else 0) (λ k. (if k == u then e k else 0) + sum_by (λ c. part c k) ms) ms
    (λ k k_in. pass-split graph symmetric once n u k (e k) k_in (rank-few graph symmetric k k_in))
    ∙ sum_by-add (λ k. if k == u then e k else 0) (λ k. sum_by (λ c. part c k) ms) ms
    ∙ ap (λ z. z + sum_by (λ k. sum_by (λ c. part c k) ms) ms) (ap (λ h. sum_by h ms) (fun_ext (own e)) ∙ sum_at u (e u) ms once within)
    ∙ ap (λ z. e u + z) (sum-swap part ms ms
    ∙ ap (λ h. sum_by h ms) (fun_ext (λ c. sum_by-if (child c) (λ k. if passes graph n c k then e k else 0) ms ∙ ap (λ z. if child c then z else 0) (sym (sum_if (passes graph n c) e ms)))))
  where
    own : (e : ℕ → ℕ) (k : ℕ) → (if k == u then e k else 0) ≡ at u (e u) k
    own e k = ⊎_elim
        (λ same. ap (λ z. if k == u then e z else 0) same)
        (λ ne. ap (λ b. if b then e k else 0) (ne_eqb k u ne) ∙ ap (λ b. if b then e u else 0) (sym (ne_eqb k u ne)))
        (cases_eq k u)

-- and a root gathers all of its component
pub gathered-root : (graph : Graph) → IsSymmetric graph → (d : ℕ → ℕ) (u : ℕ) → is_member u graph.members ≡ true → root graph u ≡ u → gathered graph d u ≡ sum_by (load graph d) (component graph u)
gathered-root graph symmetric d u within is =
    let n : ℕ = length graph.members in
    ap (sum_by (load graph d))
    (same_filter (passes graph n u) (λ k. is_member k (component graph u)) graph.members
    (λ k k_in. same_test (passes graph n u k) (is_member k (component graph u))
    (λ h. ap (is_member k) (pass-rank graph symmetric n u k k_in h).1 ∙ component-self graph k k_in)
    (λ h. ap (λ r. passes graph n r k) (sym (root-same graph symmetric u k within h ∙ is)) ∙ pass-root graph symmetric n k k_in (rank-few graph symmetric k k_in)))
    ∙ sym (around-filtered graph u n))
