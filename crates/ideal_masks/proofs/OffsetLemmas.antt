-- The offsets move no word that a transcript shows.
use Rattle.std.proofs.Common.{◌≡◌, ℕ, zero, suc, ◌+◌, ◌^◌, ◌<◌, ◌≤◌, Bool, true, false, cond, not, List, [], ◌∷◌, ◌++◌, take, refl, sym, ap, ◌∙◌, add_assoc, zero-add, add-zero, append-nil, get_or, ⊎_elim, arith}
use Rattle.std.specs.Prelude.{◌==◌, nat_lt, if◌then◌else◌, slice_get}
use Rattle.std.proofs.Math.Nat.{mod-mod}
use Rattle.std.specs.List.{sum_by, filter, range_with_len, All, AllByRecursion}
use mathlib.Core.Path.{fun_ext}
use Rattle.std.proofs.lemmas.Bool.{false≢true, true≢false, cases_eq, ne_eqb, both_ways, not-true}
use Rattle.std.proofs.lemmas.Bool.Decides.{nat_tests}
use Rattle.std.proofs.lemmas.List.Sums.{sum_by-cons, sum_by_push}
use Rattle.std.proofs.lemmas.List.Elements.{All-head, All-filter, All-append, All-take, All-get_or, recursion_from_All, filter_passes, All-from_get_or}
use Rattle.std.proofs.lemmas.List.FromFn.{length-range_with_len, get_or-range_with_len}
use Rattle.missing_round.specs.Words.{word, minus, share, group, reading_word, answer_word}
use Rattle.ideal_masks.specs.Offsets.{link, pair_move, own_move}
use Rattle.group_plan.specs.Plans.{Group, size_or, is_member, members}
use Rattle.event_schedule.proofs.MemberLemmas.{is_member-below}
use Rattle.missing_round.proofs.WordLemmas.{word-word_add, word-add_word, word-add_same, word-add_both, sum_by-add, word-sum_by, word-minus}

-- ---- a term at one place of a list

abbrev pub at : ℕ → ℕ → ℕ → ℕ
at i w j = if j == i then w else 0

at_is : (i w j : ℕ) → j ≡ i → at i w j ≡ w
at_is i w j e = grind (arith, nat_tests)

at_not : (i w j : ℕ) → (j ≡ i → ⊥) → at i w j ≡ 0
at_not i w j ne = grind (arith, nat_tests)

-- i is none of the numbers from a on
sum_at_below : (i w a n : ℕ) → i < a → sum_by (at i w) (range_with_len a n) ≡ 0
sum_at_below i w a zero below = refl
sum_at_below i w a (suc n) below =
    omega (arith, sum_by-cons (at i w) a (range_with_len (a + 1) n), sum_at_below i w (a + 1) n (omega arith), at_not i w a (λ e. omega arith))

pub sum_at_range : (i w a n : ℕ) → a ≤ i → i < a + n → sum_by (at i w) (range_with_len a n) ≡ w
sum_at_range i w a zero above below = absurd (omega arith)
sum_at_range i w a (suc n) above below =
    ⊎_elim
    (λ e. omega (arith, sum_by-cons (at i w) a (range_with_len (a + 1) n), sum_at_below i w (a + 1) n (omega arith), at_is i w a e))
    (λ ne. omega (arith, sum_by-cons (at i w) a (range_with_len (a + 1) n), sum_at_range i w (a + 1) n (omega arith) (omega arith), at_not i w a ne))
    (cases_eq a i)

pub sum_at-group : (i w n : ℕ) → i < n → sum_by (at i w) (group n) ≡ w
sum_at-group i w n below = sum_at_range i w 0 n (omega arith) (omega arith)

-- where the filter keeps i
pub sum_at-filter : (p : ℕ → Bool) (i w : ℕ) (xs : List ℕ) → sum_by (at i w) (filter p xs) ≡ (if p i then sum_by (at i w) xs else 0)
sum_at-filter p i w [] = grind arith
sum_at-filter p i w (x ∷ xs) =
    grind (arith, nat_tests, sum_at-filter p i w xs, sum_by-cons (at i w) x xs, sum_by-cons (at i w) x (filter p xs))

-- ---- a pair word that moves

minus-word_add : (a b : ℕ) → word (minus (word (a + b))) ≡ word (minus a + minus b)
minus-word_add a b = omega arith

shares_cases : (b c : Bool) (p q p1 q1 p2 q2 : ℕ) → word p ≡ word (p1 + p2) → word q ≡ word (q1 + q2) →
    word (if b then p else if c then q else 0) ≡ word ((if b then p1 else if c then q1 else 0) + (if b then p2 else if c then q2 else 0))
shares_cases true c p q p1 q1 p2 q2 e f = e
shares_cases false true p q p1 q1 p2 q2 e f = f
shares_cases false false p q p1 q1 p2 q2 e f = refl

pub share-add_words : (pair move : ℕ → ℕ → ℕ) (i j : ℕ) → word (share (λ a b. word (pair a b + move a b)) i j) ≡ word (share pair i j + share move i j)
share-add_words pair move i j =
    shares_cases (nat_lt i j) (nat_lt j i) (word (pair i j + move i j)) (minus (word (pair j i + move j i))) (pair i j) (minus (pair j i)) (move i j) (minus (move j i))
    (mod-mod (pair i j + move i j) (2 ^ 64)) (minus-word_add (pair j i) (move j i))

pub share-add : (one two : ℕ → ℕ → ℕ) (i j : ℕ) → word (share (λ a b. one a b + two a b) i j) ≡ word (share one i j + share two i j)
share-add one two i j =
    shares_cases (nat_lt i j) (nat_lt j i) (one i j + two i j) (minus (one j i + two j i)) (one i j) (minus (one j i)) (two i j) (minus (two j i))
    refl (omega arith)

-- ---- the chain

-- what a link adds to a meter's words
share-link : (u v sum i j : ℕ) → word (share (link u v sum) i j) ≡ word ((if u == i then at v sum j else 0) + (if v == i then at u (minus sum) j else 0))
share-link u v sum i j = grind (arith, nat_tests)

-- in sum, the first end gains and the second loses
abbrev pub gain : ℕ → ℕ → ℕ → ℕ → ℕ
gain u v sum i = (if u == i then sum else 0) + (if v == i then minus sum else 0)

sum_by-if : (b : Bool) (f : ℕ → ℕ) (w : ℕ) (xs : List ℕ) → sum_by f xs ≡ w → sum_by (λ j. if b then f j else 0) xs ≡ (if b then w else 0)
sum_by-if true f w xs e = e
sum_by-if false f w xs e = sum_by-zero xs
  where
    sum_by-zero : (ys : List ℕ) → sum_by (λ (_ : ℕ). 0) ys ≡ 0
    sum_by-zero [] = refl
    sum_by-zero (y ∷ ys) = omega (arith, sum_by-cons (λ (_ : ℕ). 0) y ys, sum_by-zero ys)

-- u stands once in the list
abbrev pub Once : List ℕ → ℕ → Type 0
Once ms u = (w : ℕ) → sum_by (at u w) ms ≡ w

sum_share-link : (u v sum i : ℕ) (ms : List ℕ) → Once ms u → Once ms v → word (sum_by (share (link u v sum) i) ms) ≡ word (gain u v sum i)
sum_share-link u v sum i ms u_in v_in =
    word-sum_by (share (link u v sum) i) (λ j. (if u == i then at v sum j else 0) + (if v == i then at u (minus sum) j else 0)) ms (share-link u v sum i)
    ∙ ap word (
    sum_by-add (λ j. if u == i then at v sum j else 0) (λ j. if v == i then at u (minus sum) j else 0) ms
    ∙ ap (λ z. z + sum_by (λ j. if v == i then at u (minus sum) j else 0) ms) (sum_by-if (u == i) (at v sum) sum ms (v_in sum))
    ∙ ap (λ z. (if u == i then sum else 0) + z) (sum_by-if (v == i) (at u (minus sum)) (minus sum) ms (u_in (minus sum))))

-- along the chain
abbrev pub gains : (ℕ → ℕ) → ℕ → List ℕ → ℕ → ℕ
gains d sum [] i = 0
gains d sum (u ∷ []) i = 0
gains d sum (u ∷ v ∷ rest) i = gain u v (sum + d u) i + gains d (sum + d u) (v ∷ rest) i

share-none : (i j : ℕ) → word (share (λ _ _. 0) i j) ≡ 0
share-none i j = grind (arith, nat_tests)

-- all are below n
abbrev pub AllBelow : ℕ → List ℕ → Type 0
AllBelow n [] = Unit {0}
AllBelow n (x ∷ xs) = (x < n) × AllBelow n xs

sum_share-still : (pair : ℕ → ℕ → ℕ) (i : ℕ) → ((j : ℕ) → word (share pair i j) ≡ 0) → (xs : List ℕ) → word (sum_by (share pair i) xs) ≡ 0
sum_share-still pair i none [] = refl
sum_share-still pair i none (x ∷ xs) =
    ap word (sum_by-cons (share pair i) x xs) ∙ word-add_both (share pair i x) 0 (sum_by (share pair i) xs) 0 (none x) (sum_share-still pair i none xs)

pub sum_share-none : (i : ℕ) (xs : List ℕ) → word (sum_by (share (λ _ _. 0) i) xs) ≡ 0
sum_share-none i xs = sum_share-still (λ _ _. 0) i (share-none i) xs

sum_share-chain : (d : ℕ → ℕ) (sum : ℕ) (chain : List ℕ) (i : ℕ) (ms : List ℕ) → AllByRecursion (Once ms) chain → word (sum_by (share (pair_move d sum chain) i) ms) ≡ word (gains d sum chain i)
sum_share-chain d sum [] i ms all = sum_share-none i ms
sum_share-chain d sum (u ∷ []) i ms all = sum_share-none i ms
sum_share-chain d sum (u ∷ v ∷ rest) i ms all =
    let first = share (link u v (sum + d u)) i in
    let others = share (pair_move d (sum + d u) (v ∷ rest)) i in
    word-sum_by (share (pair_move d sum (u ∷ v ∷ rest)) i) (λ j. first j + others j) ms
    (share-add (link u v (sum + d u)) (pair_move d (sum + d u) (v ∷ rest)) i)
    ∙ ap word (sum_by-add first others ms)
    ∙ word-add_both (sum_by first ms) (gain u v (sum + d u) i) (sum_by others ms) (gains d (sum + d u) (v ∷ rest) i)
    (sum_share-link u v (sum + d u) i ms all.0 all.1.0) (sum_share-chain d (sum + d u) (v ∷ rest) i ms all.1)

-- the last of the chain is i
abbrev pub is_last : List ℕ → ℕ → Bool
is_last [] i = false
is_last (u ∷ []) i = u == i
is_last (u ∷ v ∷ rest) i = is_last (v ∷ rest) i

gain_cases : (a b : Bool) (sum own part : ℕ) →
    word (((if a then sum + own else 0) + (if b then minus (sum + own) else 0)) + (part + (if b then sum + own else 0)))
    ≡ word (((if a then own else 0) + part) + (if a then sum else 0))
gain_cases true true sum own part = omega arith
gain_cases true false sum own part = omega arith
gain_cases false true sum own part = omega arith
gain_cases false false sum own part = omega arith

-- what a meter of the chain gains is its own part, but for the last, which brings all
gains-is : (d : ℕ → ℕ) (sum u : ℕ) (rest : List ℕ) (i : ℕ) →
    word (gains d sum (u ∷ rest) i + (if is_last (u ∷ rest) i then sum + sum_by d (u ∷ rest) else 0)) ≡ word (sum_by (λ j. at i (d j) j) (u ∷ rest) + (if u == i then sum else 0))
gains-is d sum u [] i = grind (arith, nat_tests, sum_by-cons d u [], sum_by-cons (λ j. at i (d j) j) u [])
gains-is d sum u (v ∷ rest) i =
    let now : ℕ = sum + d u in
    let later : ℕ = gains d now (v ∷ rest) i in
    let end : ℕ → ℕ = λ z. if is_last (v ∷ rest) i then z else 0 in
    let part : ℕ = sum_by (λ j. at i (d j) j) (v ∷ rest) in
    let total : sum + sum_by d (u ∷ v ∷ rest) ≡ now + sum_by d (v ∷ rest) = omega (arith, sum_by-cons d u (v ∷ rest)) in
    ap (λ z. word ((gain u v now i + later) + end z)) total
    ∙ ap word (add_assoc (gain u v now i) later (end (now + sum_by d (v ∷ rest))))
    ∙ word-add_same (gain u v now i) (later + end (now + sum_by d (v ∷ rest))) (part + (if v == i then now else 0)) (gains-is d now v rest i)
    ∙ gain_cases (u == i) (v == i) sum (d u) part
    ∙ ap (λ z. word (z + (if u == i then sum else 0))) (sym (sum_by-cons (λ j. at i (d j) j) u (v ∷ rest)))

gains-chain : (d : ℕ → ℕ) (chain : List ℕ) (i : ℕ) →
    word (gains d 0 chain i + (if is_last chain i then sum_by d chain else 0)) ≡ word (sum_by (at i (d i)) chain)
gains-chain d [] i = refl
gains-chain d (u ∷ rest) i =
    ap (λ z. word (gains d 0 (u ∷ rest) i + (if is_last (u ∷ rest) i then z else 0))) (sym (zero-add (sum_by d (u ∷ rest))))
    ∙ gains-is d 0 u rest i
    ∙ ap (λ z. word (sum_by (λ j. at i (d j) j) (u ∷ rest) + z)) (if_zero (u == i))
    ∙ ap word (add-zero (sum_by (λ j. at i (d j) j) (u ∷ rest)))
    ∙ ap (λ f. word (sum_by f (u ∷ rest))) (fun_ext (λ j. at_own j))
  where
    if_zero : (c : Bool) → cond {A = ℕ} c 0 0 ≡ 0
    if_zero true = refl
    if_zero false = refl

    at_own : (j : ℕ) → at i (d j) j ≡ at i (d i) j
    at_own j = ⊎_elim (λ e. ap (λ k. at i (d k) j) e) (λ ne. at_not i (d j) j ne ∙ sym (at_not i (d i) j ne)) (cases_eq j i)

is_last-push : (xs : List ℕ) (z i : ℕ) → is_last (xs ++ z ∷ []) i ≡ (z == i)
is_last-push [] z i = refl
is_last-push (u ∷ []) z i = refl
is_last-push (u ∷ v ∷ xs) z i = is_last-push (v ∷ xs) z i

-- ---- a round: t are the survivors, b those that answered

own_cases : (bi zi : Bool) (g s di : ℕ) → (bi ≡ true → zi ≡ false) →
    word (g + (if zi then s + di else 0)) ≡ word ((if bi then di else 0) + (if zi then di else 0)) →
    word ((if bi then 0 else (di + (if zi then s else 0))) + g) ≡ word di
own_cases true true g s di apart h = absurd (true≢false (apart refl))
own_cases true false g s di apart h = omega arith
own_cases false true g s di apart h = omega arith
own_cases false false g s di apart h = omega arith

own_cases_none : (bi last : Bool) (g s di : ℕ) → word s ≡ 0 →
    word (g + (if last then s else 0)) ≡ word (if bi then di else 0) → word ((if bi then 0 else di) + g) ≡ word di
own_cases_none true true g s di none h = omega arith
own_cases_none true false g s di none h = omega arith
own_cases_none false true g s di none h = omega arith
own_cases_none false false g s di none h = omega arith

if_at : (z i : ℕ) (s : ℕ) (d : ℕ → ℕ) → (if z == i then s + d z else 0) ≡ (if z == i then s + d i else 0)
if_at z i s d = ⊎_elim (λ e. ap (λ k. if z == i then s + d k else 0) e) (λ ne. grind (arith, nat_tests, ne)) (cases_eq z i)

-- the own word and the chain together bring each meter its own delta
round_gains : (d : ℕ → ℕ) (b : ℕ → Bool) (answered silent : List ℕ) (i : ℕ)
    → sum_by (at i (d i)) answered ≡ (if b i then d i else 0)
    → All (λ z. not (b z) ≡ true) silent
    → (silent ≡ [] → word (sum_by d answered) ≡ 0)
    → word (own_move d b answered silent i + gains d 0 (answered ++ take 1 silent) i) ≡ word (d i)
round_gains d b answered [] i part apart none =
    let g = gains-chain d answered i in
    rw append-nil (own_cases_none (b i) (is_last answered i) (gains d 0 answered i) (sum_by d answered) (d i) (none refl) (g ∙ ap word part))
round_gains d b answered (z ∷ zs) i part apart none =
    let chain : List ℕ = answered ++ z ∷ [] in
    let g = gains-chain d chain i in
    let total : sum_by d chain ≡ sum_by d answered + d z = sum_by_push d answered z in
    let members : sum_by (at i (d i)) chain ≡ (if b i then d i else 0) + (if z == i then d i else 0)
    = sum_by_push (at i (d i)) answered z ∙ ap (λ w. w + at i (d i) z) part in
    let h : word (gains d 0 chain i + (if z == i then sum_by d answered + d i else 0)) ≡ word ((if b i then d i else 0) + (if z == i then d i else 0))
    = ap (λ w. word (gains d 0 chain i + w)) (sym (if_at z i (sum_by d answered) d) ∙ ap (λ w. if z == i then w else 0) (sym total) ∙ ap (λ q. if q then sum_by d chain else 0) (sym (is_last-push answered z i)))
    ∙ g ∙ ap word members in
    own_cases (b i) (z == i) (gains d 0 chain i) (sum_by d answered) (d i) (λ yes. ne_eqb z i (λ e. both_ways (b z) (not-true (b z) (All-head (λ y. not (b y) ≡ true) z zs apart)) (ap b e ∙ yes))) h

-- ---- where no link goes

pair_move-outside : (t : ℕ → Bool) (d : ℕ → ℕ) (sum : ℕ) (chain : List ℕ) (i j : ℕ) → AllByRecursion (λ u. t u ≡ true) chain → t j ≡ false
    → (pair_move d sum chain i j ≡ 0) × (pair_move d sum chain j i ≡ 0)
pair_move-outside t d sum [] i j all out = (refl, refl)
pair_move-outside t d sum (u ∷ []) i j all out = (refl, refl)
pair_move-outside t d sum (u ∷ v ∷ rest) i j all out =
    let not_u : u ≡ j → ⊥ = λ e. both_ways (t j) out (sym (ap t e) ∙ all.0) in
    let not_v : v ≡ j → ⊥ = λ e. both_ways (t j) out (sym (ap t e) ∙ all.1.0) in
    let later = pair_move-outside t d (sum + d u) (v ∷ rest) i j all.1 out in
    (grind (arith, nat_tests, not_u, not_v, later.0), grind (arith, nat_tests, not_u, not_v, later.1))

share-zero : (pair : ℕ → ℕ → ℕ) (i j : ℕ) → pair i j ≡ 0 → pair j i ≡ 0 → word (share pair i j) ≡ 0
share-zero pair i j e f = grind (arith, nat_tests, e, f)

sum_share-outside : (t : ℕ → Bool) (pair : ℕ → ℕ → ℕ) (i : ℕ) → ((j : ℕ) → t j ≡ false → word (share pair i j) ≡ 0)
    → (xs : List ℕ) → word (sum_by (share pair i) (filter (λ j. not (t j)) xs)) ≡ 0
sum_share-outside t pair i none [] = refl
sum_share-outside t pair i none (x ∷ xs) =
    let later = sum_share-outside t pair i none xs in
    step (t x) refl later
  where
    step : (c : Bool) → t x ≡ c → word (sum_by (share pair i) (filter (λ j. not (t j)) xs)) ≡ 0 → word (sum_by (share pair i) (filter (λ j. not (t j)) (x ∷ xs))) ≡ 0
    step true e later = rw e later
    step false e later = rw e (ap word (sum_by-cons (share pair i) x (filter (λ j. not (t j)) xs))
        ∙ word-add_both (share pair i x) 0 (sum_by (share pair i) (filter (λ j. not (t j)) xs)) 0 (none x e) later)

-- ---- the words of a meter

sum_share-shifted : (pair move : ℕ → ℕ → ℕ) (i : ℕ) (xs : List ℕ) →
    word (sum_by (share (λ a b. word (pair a b + move a b)) i) xs) ≡ word (sum_by (share pair i) xs + sum_by (share move i) xs)
sum_share-shifted pair move i xs =
    word-sum_by (share (λ a b. word (pair a b + move a b)) i) (λ j. share pair i j + share move i j) xs (share-add_words pair move i)
    ∙ ap word (sum_by-add (share pair i) (share move i) xs)

word_moves : (x y d own om s sm sh : ℕ) → word (om + sm) ≡ word d → word (y + d) ≡ word x → word sh ≡ word (s + sm) → word (y + word (own + om) + sh) ≡ word (x + own + s)
word_moves x y d own om s sm sh e f g =
    word-add_both (y + word (own + om)) (y + (own + om)) sh (s + sm) (word-add_word y (own + om)) g
    ∙ ap word (omega arith)
    ∙ word-add_same ((own + s) + y) (om + sm) d e
    ∙ ap word (omega arith)
    ∙ word-add_same (own + s) (y + d) x f
    ∙ ap word (omega arith)

pub reading_word-shifted : (own om : ℕ → ℕ) (pair move : ℕ → ℕ → ℕ) (ms : List ℕ) (i x y d : ℕ) → word (om i + sum_by (share move i) ms) ≡ word d → word (y + d) ≡ word x
    → reading_word (λ k. word (own k + om k)) (λ a b. word (pair a b + move a b)) ms i y ≡ reading_word own pair ms i x
reading_word-shifted own om pair move ms i x y d e f =
    word_moves x y d (own i) (om i) (sum_by (share pair i) ms) (sum_by (share move i) ms) (sum_by (share (λ a b. word (pair a b + move a b)) i) ms)
    e f (sum_share-shifted pair move i ms)

pub answer_word-shifted : (own om : ℕ → ℕ) (pair move : ℕ → ℕ → ℕ) (i : ℕ) (m : List ℕ) → om i ≡ 0 → word (sum_by (share move i) m) ≡ 0
    → answer_word (λ k. word (own k + om k)) (λ a b. word (pair a b + move a b)) i m ≡ answer_word own pair i m
answer_word-shifted own om pair move i m none still =
    let shifted : ℕ = sum_by (share (λ a b. word (pair a b + move a b)) i) m in
    word-word_add (own i + om i) shifted
    ∙ word-add_both (own i + om i) (own i) shifted (sum_by (share pair i) m)
    (ap (λ z. word (own i + z)) none ∙ ap word (add-zero (own i)))
    (sum_share-shifted pair move i m ∙ word-add_same (sum_by (share pair i) m) (sum_by (share move i) m) 0 still ∙ ap word (add-zero (sum_by (share pair i) m)))

pub word-delta : (x y : ℕ) → word (y + word (x + minus y)) ≡ word x
word-delta x y = omega arith

-- ---- sums of deltas

pub sum_deltas : (f g : ℕ → ℕ) (xs : List ℕ) → sum_by f xs ≡ sum_by g xs → word (sum_by (λ i. word (f i + minus (g i))) xs) ≡ 0
sum_deltas f g xs e =
    word-sum_by (λ i. word (f i + minus (g i))) (λ i. f i + minus (g i)) xs (λ i. mod-mod (f i + minus (g i)) (2 ^ 64))
    ∙ ap word (sum_by-add f (λ i. minus (g i)) xs ∙ ap (λ z. z + sum_by (λ i. minus (g i)) xs) e ∙ sym (sum_by-add g (λ i. minus (g i)) xs))
    ∙ word-sum_by (λ i. g i + minus (g i)) (λ _. 0) xs (λ i. word-minus (g i))
    ∙ ap word (sum_by-zero xs)
  where
    sum_by-zero : (ys : List ℕ) → sum_by (λ (_ : ℕ). 0) ys ≡ 0
    sum_by-zero [] = refl
    sum_by-zero (y ∷ ys) = omega (arith, sum_by-cons (λ (_ : ℕ). 0) y ys, sum_by-zero ys)

-- ---- one round: t are the survivors, b those that answered

pub all_below_group : (n : ℕ) → All (λ i. i < n) (group n)
all_below_group n = All-from_get_or (λ i. i < n) (group n) 0 (λ i below. omega (arith, length-range_with_len 0 n, get_or-range_with_len 0 n i 0 (omega (arith, length-range_with_len 0 n))))

pub AllBelow-from_recursion : (n : ℕ) (xs : List ℕ) → AllByRecursion (λ i. i < n) xs → AllBelow n xs
AllBelow-from_recursion n [] all = tt
AllBelow-from_recursion n (x ∷ xs) all = (all.0, AllBelow-from_recursion n xs all.1)

-- each member of a group stands once in the members
pub once_member : (m : ℕ → Bool) (n i : ℕ) → i < n → m i ≡ true → Once (filter m (group n)) i
once_member m n i below is = λ w. sum_at-filter m i w (group n) ∙ ap (λ q. if q then sum_by (at i w) (group n) else 0) is ∙ sum_at-group i w n below

pub once_each : (m : ℕ → Bool) (n : ℕ) → All (Once (filter m (group n))) (filter m (group n))
once_each m n =
    All-from_get_or (Once (filter m (group n))) (filter m (group n)) 0
    (λ k below. once_member m n (get_or (filter m (group n)) k 0)
    (All-get_or (λ i. i < n) (filter m (group n)) k 0 below (All-filter m (λ i. i < n) (group n) (all_below_group n)))
    (All-get_or (λ i. m i ≡ true) (filter m (group n)) k 0 below (filter_passes m (group n))))

-- the members of the chain are survivors
abbrev pub chain_of : (ℕ → Bool) → (ℕ → Bool) → List ℕ → List ℕ
chain_of t b ms = filter b (filter t ms) ++ take 1 (filter (λ i. not (b i)) (filter t ms))

chain_within : (P : ℕ → Type 0) (t b : ℕ → Bool) (ms : List ℕ) → All P (filter t ms) → All P (chain_of t b ms)
chain_within P t b ms all =
    All-append P (filter b (filter t ms)) (take 1 (filter (λ i. not (b i)) (filter t ms)))
    (All-filter b P (filter t ms) all)
    (All-take P 1 (filter (λ i. not (b i)) (filter t ms)) (All-filter (λ i. not (b i)) P (filter t ms) all))

if_and : (c e : Bool) (w : ℕ) → (c ≡ true → e ≡ true) → (if c then (if e then w else 0) else 0) ≡ (if c then w else 0)
if_and true true w imp = refl
if_and true false w imp = absurd (false≢true (imp refl))
if_and false e w imp = refl

pub round_moves : (d : ℕ → ℕ) (t b : ℕ → Bool) (ms : List ℕ) (i : ℕ) → All (Once ms) ms → Once ms i → (b i ≡ true → t i ≡ true)
    → (filter (λ k. not (b k)) (filter t ms) ≡ [] → word (sum_by d (filter b (filter t ms))) ≡ 0)
    → word (own_move d b (filter b (filter t ms)) (filter (λ k. not (b k)) (filter t ms)) i + sum_by (share (pair_move d 0 (chain_of t b ms)) i) ms) ≡ word (d i)
round_moves d t b ms i each below taken none =
    let survivors = filter t ms in
    let part : sum_by (at i (d i)) (filter b survivors) ≡ (if b i then d i else 0)
    = sum_at-filter b i (d i) survivors
    ∙ ap (λ w. if b i then w else 0) (sum_at-filter t i (d i) ms ∙ ap (λ w. if t i then w else 0) (below (d i)))
    ∙ if_and (b i) (t i) (d i) taken in
    word-add_same (own_move d b (filter b survivors) (filter (λ k. not (b k)) survivors) i) (sum_by (share (pair_move d 0 (chain_of t b ms)) i) ms) (gains d 0 (chain_of t b ms) i)
    (sum_share-chain d 0 (chain_of t b ms) i ms
    (recursion_from_All (Once ms) (chain_of t b ms) (chain_within (Once ms) t b ms (All-filter t (Once ms) ms each))))
    ∙ round_gains d b (filter b survivors) (filter (λ k. not (b k)) survivors) i part (filter_passes (λ k. not (b k)) survivors) none

-- no pair word with an end outside t moves
pub chain_apart : (d : ℕ → ℕ) (t b : ℕ → Bool) (ms : List ℕ) (i j : ℕ) → t j ≡ false → (pair_move d 0 (chain_of t b ms) i j ≡ 0) × (pair_move d 0 (chain_of t b ms) j i ≡ 0)
chain_apart d t b ms i j out =
    pair_move-outside t d 0 (chain_of t b ms) i j
    (recursion_from_All (λ u. t u ≡ true) (chain_of t b ms) (chain_within (λ u. t u ≡ true) t b ms (filter_passes t ms))) out

-- so nothing is moved in the answers to a set outside t
pub round_still : (d : ℕ → ℕ) (t u b : ℕ → Bool) (ms : List ℕ) (i : ℕ) → ((j : ℕ) → u j ≡ false → t j ≡ false) → word (sum_by (share (pair_move d 0 (chain_of t b ms)) i) (filter (λ j. not (u j)) ms)) ≡ 0
round_still d t u b ms i within =
    sum_share-outside u (pair_move d 0 (chain_of t b ms)) i
    (λ j out. let none = chain_apart d t b ms i j (within j out) in share-zero (pair_move d 0 (chain_of t b ms)) i j none.0 none.1)
    ms

-- nor in the words of a meter outside t
pub round_apart : (d : ℕ → ℕ) (t b : ℕ → Bool) (ms : List ℕ) (i : ℕ) → t i ≡ false → word (sum_by (share (pair_move d 0 (chain_of t b ms)) i) ms) ≡ 0
round_apart d t b ms i out =
    sum_share-still (pair_move d 0 (chain_of t b ms)) i
    (λ j. let none = chain_apart d t b ms j i out in share-zero (pair_move d 0 (chain_of t b ms)) i j none.1 none.0)
    ms

pub once_members : (groups : List Group) (g r i : ℕ) → is_member groups g r i ≡ true → Once (members groups g r) i
once_members groups g r i h = once_member (is_member groups g r) (size_or (slice_get groups g)) i (is_member-below groups g r i h) h

pub each_once : (groups : List Group) (g r : ℕ) → All (Once (members groups g r)) (members groups g r)
each_once groups g r = once_each (is_member groups g r) (size_or (slice_get groups g))
