-- Steps keep each reading word and each answer word of a round.
use Rattle.std.proofs.Common.{◌≡◌, ℕ, ◌+◌, Bool, true, false, not, ◌&&◌, ◌||◌, List, [], ◌∷◌, refl, sym, ap, ◌∙◌, zero-add, add-zero, arith, ⊎_elim}
use Rattle.std.specs.Prelude.{◌==◌, nat_lt, if◌then◌else◌}
use Rattle.std.specs.List.{sum_by, AllByRecursion}
use Rattle.std.proofs.lemmas.Bool.{false≢true, cases_eq, ne_eqb, eq-eqb, eqb-true, and_parts, both_ways}
use Rattle.std.proofs.lemmas.Bool.Decides.{nat_tests}
use Rattle.std.proofs.lemmas.List.Sums.{sum_by-cons}
use Rattle.missing_round.specs.Words.{word, minus, share}
use Rattle.missing_round.specs.Sets.{is_member}
use Rattle.missing_round.proofs.SetLemmas.{is_member-filter}
use Rattle.missing_round.proofs.WordLemmas.{sum_by-add, word-add_both, word-add_same, word-sum_by}
use Rattle.mask_graphs.specs.Graphs.{Graph}
use Rattle.mask_graphs.specs.Steps.{Step, stays, handed, left_after, stays_at}
use Rattle.ideal_masks.specs.Offsets.{link}
use Rattle.mask_graphs.specs.Moves.{pair_move, is_free, left_out}
use Rattle.mask_graphs.proofs.ListFacts.{Distinct, at, sum_at, sum_at-none, distinct_filter}

-- ---- one link

share-link : (u v sum i j : ℕ) → word (share (link u v sum) i j) ≡ word ((if u == i then at v sum j else 0) + (if v == i then at u (minus sum) j else 0))
share-link u v sum i j = grind (arith, nat_tests)

sum_by-if : (b : Bool) (f : ℕ → ℕ) (xs : List ℕ) → sum_by (λ j. if b then f j else 0) xs ≡ (if b then sum_by f xs else 0)
sum_by-if true f xs = refl
sum_by-if false f xs = sum_none xs
  where
    sum_none : (ys : List ℕ) → sum_by (λ (_ : ℕ). 0) ys ≡ 0
    sum_none [] = refl
    sum_none (y ∷ ys) = omega (arith, sum_by-cons (λ (_ : ℕ). 0) y ys, sum_none ys)

sum_share-link : (u v sum i : ℕ) (xs : List ℕ)
    → word (sum_by (share (link u v sum) i) xs) ≡ word ((if u == i then sum_by (at v sum) xs else 0) + (if v == i then sum_by (at u (minus sum)) xs else 0))
sum_share-link u v sum i xs =
    word-sum_by (share (link u v sum) i) (λ j. (if u == i then at v sum j else 0) + (if v == i then at u (minus sum) j else 0)) xs (share-link u v sum i)
    ∙ ap word (
    sum_by-add (λ j. if u == i then at v sum j else 0) (λ j. if v == i then at u (minus sum) j else 0) xs
    ∙ ap (λ z. z + sum_by (λ j. if v == i then at u (minus sum) j else 0) xs) (sum_by-if (u == i) (at v sum) xs)
    ∙ ap (λ z. (if u == i then sum_by (at v sum) xs else 0) + z) (sum_by-if (v == i) (at u (minus sum)) xs))

shares_cases : (b c : Bool) (p q p1 q1 p2 q2 : ℕ) → word p ≡ word (p1 + p2) → word q ≡ word (q1 + q2) →
    word (if b then p else if c then q else 0) ≡ word ((if b then p1 else if c then q1 else 0) + (if b then p2 else if c then q2 else 0))
shares_cases true c p q p1 q1 p2 q2 e f = e
shares_cases false true p q p1 q1 p2 q2 e f = f
shares_cases false false p q p1 q1 p2 q2 e f = refl

share-add : (one two : ℕ → ℕ → ℕ) (i j : ℕ) → word (share (λ a b. one a b + two a b) i j) ≡ word (share one i j + share two i j)
share-add one two i j =
    shares_cases (nat_lt i j) (nat_lt j i) (one i j + two i j) (minus (one j i + two j i)) (one i j) (minus (one j i)) (two i j) (minus (two j i))
    refl (omega arith)

-- the shares of a step, and of those after it
sum_share-step : (graph : Graph) (s : Step) (rest : List Step) (left : ℕ → ℕ) (i : ℕ) (xs : List ℕ)
    → word (sum_by (share (pair_move graph (s ∷ rest) left) i) xs)
    ≡ word (sum_by (share (link s.from s.to (left s.from)) i) xs + sum_by (share (pair_move graph rest (handed graph s left)) i) xs)
sum_share-step graph s rest left i xs =
    word-sum_by (share (pair_move graph (s ∷ rest) left) i) (λ j. share (link s.from s.to (left s.from)) i j + share (pair_move graph rest (handed graph s left)) i j) xs
    (share-add (link s.from s.to (left s.from)) (pair_move graph rest (handed graph s left)) i)
    ∙ ap word (sum_by-add (share (link s.from s.to (left s.from)) i) (share (pair_move graph rest (handed graph s left)) i) xs)

share-none : (i j : ℕ) → word (share (λ _ _. 0) i j) ≡ 0
share-none i j = grind (arith, nat_tests)

sum_share-none : (i : ℕ) (xs : List ℕ) → word (sum_by (share (λ _ _. 0) i) xs) ≡ 0
sum_share-none i [] = refl
sum_share-none i (x ∷ xs) =
    ap word (sum_by-cons (share (λ _ _. 0) i) x xs) ∙ word-add_both (share (λ _ _. 0) i x) 0 (sum_by (share (λ _ _. 0) i) xs) 0 (share-none i x) (sum_share-none i xs)

-- ---- free steps

pub record Free (graph : Graph) (u v : ℕ) : Type 0 where
  pub from : is_member u graph.members ≡ true
  pub to : is_member v graph.members ≡ true
  pub other : u ≡ v → ⊥
  pub masked : graph.masked u v ≡ true
  pub stands : graph.answered u ≡ true → graph.stands u v ≡ true

pub free-is : (graph : Graph) (s : Step) → is_free graph s ≡ true → Free graph s.from s.to
free-is graph s h =
    let d = and_parts (is_member s.from graph.members && is_member s.to graph.members && not (s.from == s.to) && graph.masked s.from s.to) (not (graph.answered s.from) || graph.stands s.from s.to) h in
    let c = and_parts (is_member s.from graph.members && is_member s.to graph.members && not (s.from == s.to)) (graph.masked s.from s.to) d.0 in
    let b = and_parts (is_member s.from graph.members && is_member s.to graph.members) (not (s.from == s.to)) c.0 in
    let a = and_parts (is_member s.from graph.members) (is_member s.to graph.members) b.0 in
    record {
      from = a.0;
      to = a.1;
      other = λ e. both_ways (s.from == s.to) (not_false (s.from == s.to) b.1) (eq-eqb s.from s.to e);
      masked = c.1;
      stands = λ answered. gives (graph.answered s.from) (graph.stands s.from s.to) d.1 answered;
    }
  where
    not_false : (b : Bool) → not b ≡ true → b ≡ false
    not_false true e = absurd (false≢true e)
    not_false false e = refl

    gives : (a b : Bool) → (not a || b) ≡ true → a ≡ true → b ≡ true
    gives true b e is = e
    gives false b e is = absurd (false≢true is)

abbrev pub AllFree : Graph → List Step → Type 0
AllFree graph steps = AllByRecursion (λ s. is_free graph s ≡ true) steps

-- ---- the own word and the pair words together bring each member what it had

balance : (a b c t : Bool) (x sum l own shares : ℕ) → (a ≡ true → b ≡ true → ⊥) → (a ≡ true → c ≡ true → ⊥) → b ≡ c → (a ≡ true → x ≡ sum)
    → word (l + (own + shares)) ≡ word ((if a then 0 else x) + (if b && not t then sum else 0))
    → word (l + (((if b && t then sum else 0) + own) + (((if a then sum else 0) + (if c then minus sum else 0)) + shares))) ≡ word x
balance true true c t x sum l own shares not_both not_ac same is h = absurd (not_both refl refl)
balance true false c t x sum l own shares not_both not_ac same is h =
    let none : c ≡ false = sym same in
    ap (λ z. word (l + ((0 + own) + ((sum + (if z then minus sum else 0)) + shares)))) none
    ∙ omega (arith, h, is refl)
balance false true c true x sum l own shares not_both not_ac same is h =
    ap (λ z. word (l + ((sum + own) + ((0 + (if z then minus sum else 0)) + shares)))) (sym same) ∙ omega (arith, h)
balance false true c false x sum l own shares not_both not_ac same is h =
    ap (λ z. word (l + ((0 + own) + ((0 + (if z then minus sum else 0)) + shares)))) (sym same) ∙ omega (arith, h)
balance false false c t x sum l own shares not_both not_ac same is h =
    ap (λ z. word (l + ((0 + own) + ((0 + (if z then minus sum else 0)) + shares)))) (sym same) ∙ omega (arith, h)

eqb-back : (a b : ℕ) → (a == b) ≡ (b == a)
eqb-back a b = ⊎_elim (λ e. eq-eqb a b e ∙ sym (eq-eqb b a (sym e))) (λ ne. ne_eqb a b ne ∙ sym (ne_eqb b a (λ e. ne (sym e)))) (cases_eq a b)

pub steps-bring : (graph : Graph) → Distinct graph.members → (steps : List Step) → AllFree graph steps → (left : ℕ → ℕ) (i : ℕ)
    → word (left_after graph steps left i + (stays_at graph steps left i + sum_by (share (pair_move graph steps left) i) graph.members)) ≡ word (left i)
steps-bring graph once [] all left i =
    word-add_same (left i) (0 + sum_by (share (pair_move graph [] left) i) graph.members) 0 (ap word (zero-add (sum_by (share (pair_move graph [] left) i) graph.members)) ∙ sum_share-none i graph.members)
    ∙ ap word (add-zero (left i))
steps-bring graph once (s ∷ rest) all left i =
    let f : Free graph s.from s.to = free-is graph s all.0 in
    let sum : ℕ = left s.from in
    let l : ℕ = left_after graph rest (handed graph s left) i in
    let own : ℕ = stays_at graph rest (handed graph s left) i in
    let shares : ℕ = sum_by (share (pair_move graph rest (handed graph s left)) i) graph.members in
    let here : ℕ = if (i == s.to) && stays graph s then sum else 0 in
    word-add_same l ((here + own) + sum_by (share (pair_move graph (s ∷ rest) left) i) graph.members)
    ((here + own) + (((if s.from == i then sum else 0) + (if s.to == i then minus sum else 0)) + shares))
    (word-add_same (here + own) (sum_by (share (pair_move graph (s ∷ rest) left) i) graph.members) (((if s.from == i then sum else 0) + (if s.to == i then minus sum else 0)) + shares)
    (sum_share-step graph s rest left i graph.members
    ∙ word-add_both (sum_by (share (link s.from s.to sum) i) graph.members) ((if s.from == i then sum else 0) + (if s.to == i then minus sum else 0)) shares shares
    (sum_share-link s.from s.to sum i graph.members
    ∙ ap (λ z. word ((if s.from == i then z else 0) + (if s.to == i then sum_by (at s.from (minus sum)) graph.members else 0))) (sum_at s.to sum graph.members once f.to)
    ∙ ap (λ z. word ((if s.from == i then sum else 0) + (if s.to == i then z else 0))) (sum_at s.from (minus sum) graph.members once f.from))
    refl))
    ∙ ap (λ z. word (l + ((here + own) + (((if z then sum else 0) + (if s.to == i then minus sum else 0)) + shares)))) (eqb-back s.from i)
    ∙ balance (i == s.from) (i == s.to) (s.to == i) (stays graph s) (left i) sum l own shares
    (λ a b. f.other (sym (eqb-true i s.from a) ∙ eqb-true i s.to b))
    (λ a c. f.other (sym (eqb-true i s.from a) ∙ sym (eqb-true s.to i c)))
    (eqb-back i s.to)
    (λ a. ap left (eqb-true i s.from a))
    (steps-bring graph once rest all.1 (handed graph s left) i)

-- ---- and nothing moves in an answer

still : (a b c t u : Bool) (sum own shares : ℕ) → b ≡ c → (c ≡ true → t ≡ u) → word (own + shares) ≡ 0
    → word (((if b && t then sum else 0) + own) + ((0 + (if c then (if u then minus sum else 0) else 0)) + shares)) ≡ 0
still a b true t true sum own shares same is h =
    ap (λ z. word (((if z && t then sum else 0) + own) + ((0 + minus sum) + shares))) same
    ∙ ap (λ z. word (((if z then sum else 0) + own) + ((0 + minus sum) + shares))) (is refl)
    ∙ omega (arith, h)
still a b true t false sum own shares same is h =
    ap (λ z. word (((if z && t then sum else 0) + own) + ((0 + 0) + shares))) same
    ∙ ap (λ z. word (((if z then sum else 0) + own) + ((0 + 0) + shares))) (is refl)
    ∙ omega (arith, h)
still a b false t u sum own shares same is h =
    ap (λ z. word (((if z && t then sum else 0) + own) + ((0 + 0) + shares))) same
    ∙ omega (arith, h)

sum_at-if : (i w : ℕ) (xs : List ℕ) → Distinct xs → sum_by (at i w) xs ≡ (if is_member i xs then w else 0)
sum_at-if i w xs once = step (is_member i xs) refl
  where
    step : (b : Bool) → is_member i xs ≡ b → sum_by (at i w) xs ≡ (if b then w else 0)
    step true is = sum_at i w xs once is
    step false is = sum_at-none i w xs is

left_out-is : (graph : Graph) (i j : ℕ) → is_member j graph.members ≡ true → is_member j (left_out graph i) ≡ not (graph.stands i j)
left_out-is graph i j within = is_member-filter (λ k. not (graph.stands i k)) j graph.members ∙ ap (λ b. b && not (graph.stands i j)) within

pub steps-still : (graph : Graph) → Distinct graph.members → (steps : List Step) → AllFree graph steps → (left : ℕ → ℕ) (i : ℕ) → graph.answered i ≡ true
    → word (stays_at graph steps left i + sum_by (share (pair_move graph steps left) i) (left_out graph i)) ≡ 0
steps-still graph once [] all left i answered = ap word (zero-add (sum_by (share (pair_move graph [] left) i) (left_out graph i))) ∙ sum_share-none i (left_out graph i)
steps-still graph once (s ∷ rest) all left i answered =
    let f : Free graph s.from s.to = free-is graph s all.0 in
    let sum : ℕ = left s.from in
    let gone : List ℕ = left_out graph i in
    let apart : Distinct gone = distinct_filter (λ j. not (graph.stands i j)) graph.members once in
    let own : ℕ = stays_at graph rest (handed graph s left) i in
    let shares : ℕ = sum_by (share (pair_move graph rest (handed graph s left)) i) gone in
    let here : ℕ = if (i == s.to) && stays graph s then sum else 0 in
    let back : ℕ = if s.to == i then (if is_member s.from gone then minus sum else 0) else 0 in
    word-add_same (here + own) (sum_by (share (pair_move graph (s ∷ rest) left) i) gone) ((0 + back) + shares)
    (sum_share-step graph s rest left i gone
    ∙ word-add_both (sum_by (share (link s.from s.to sum) i) gone) (0 + back) shares shares
    (sum_share-link s.from s.to sum i gone
    ∙ ap (λ z. word (z + (if s.to == i then sum_by (at s.from (minus sum)) gone else 0))) (no_from f gone refl)
    ∙ ap (λ z. word (0 + (if s.to == i then z else 0))) (sum_at-if s.from (minus sum) gone apart))
    refl)
    ∙ still true (i == s.to) (s.to == i) (stays graph s) (is_member s.from gone) sum own shares (eqb-back i s.to)
    (λ c. stays-is f c)
    (steps-still graph once rest all.1 (handed graph s left) i answered)
  where
    no_from : Free graph s.from s.to → (gone : List ℕ) → gone ≡ left_out graph i → (if s.from == i then sum_by (at s.to (left s.from)) gone else 0) ≡ 0
    no_from f gone is = step (s.from == i) refl
      where
        step : (b : Bool) → (s.from == i) ≡ b → (if b then sum_by (at s.to (left s.from)) gone else 0) ≡ 0
        step false e = refl
        step true e =
            let same : s.from ≡ i = eqb-true s.from i e in
            let there : graph.stands i s.to ≡ true = ap (λ z. graph.stands z s.to) (sym same) ∙ f.stands (ap graph.answered same ∙ answered) in
            sum_at-none s.to (left s.from) gone (ap (is_member s.to) is ∙ left_out-is graph i s.to f.to ∙ ap not there)

    stays-is : Free graph s.from s.to → (s.to == i) ≡ true → stays graph s ≡ is_member s.from (left_out graph i)
    stays-is f c =
        let same : s.to ≡ i = eqb-true s.to i c in
        ap (λ z. graph.answered z && not (graph.stands z s.from)) same
        ∙ ap (λ b. b && not (graph.stands i s.from)) answered
        ∙ sym (left_out-is graph i s.from f.from)
