-- What the words of a round tell of the readings over a bare part, and how large it is.
use Rattle.std.proofs.Common.{◌≡◌, ℕ, ◌+◌, ◌^◌, ◌<◌, ◌≤◌, Bool, true, false, cond, not, ◌&&◌, ◌||◌, List, [], ◌∷◌, length, refl, sym, ap, ◌∙◌, zero-add, add-zero, arith, ⊎_elim}
use Rattle.std.specs.Prelude.{◌==◌, nat_lt, if◌then◌else◌}
use Rattle.std.specs.List.{sum_by, filter}
use Rattle.std.proofs.Math.Nat.{mod-mod}
use mathlib.Core.Path.{fun_ext}
use Rattle.std.proofs.lemmas.Bool.{false≢true, eqb-true, and_from, or_cases, ltb-true}
use Rattle.std.proofs.lemmas.Bool.Decides.{nat_tests}
use Rattle.std.proofs.lemmas.List.Sums.{sum_by-cons}
use Rattle.std.proofs.lemmas.List.Filters.{sum_by-filter_both}
use Rattle.missing_round.specs.Words.{word, minus, share, reading_word, answer_word}
use Rattle.missing_round.proofs.WordLemmas.{sum_by-add, word-add_both, word-sum_by, word-share}
use Rattle.mask_graphs.specs.Graphs.{Graph, IsGraph, IsPart, IsBare, sees, linked, sum_in}
use Rattle.mask_graphs.specs.Moves.{left_out}
use Rattle.mask_graphs.specs.Statements.{ShowsTheSame}

-- ---- shares within a list cancel

word-shares : (pair : ℕ → ℕ → ℕ) (i : ℕ) (js : List ℕ) → word (sum_by (share pair i) js + sum_by (λ j. share pair j i) js) ≡ 0
word-shares pair i js =
    ap word (sym (sum_by-add (share pair i) (λ j. share pair j i) js))
    ∙ word-sum_by (λ j. share pair i j + share pair j i) (λ _. 0) js (word-share pair i)
    ∙ ap word (sum_none js)
  where
    sum_none : (xs : List ℕ) → sum_by (λ (_ : ℕ). 0) xs ≡ 0
    sum_none [] = refl
    sum_none (x ∷ xs) = omega (arith, sum_by-cons (λ (_ : ℕ). 0) x xs, sum_none xs)

share-self : (pair : ℕ → ℕ → ℕ) (i : ℕ) → share pair i i ≡ 0
share-self pair i = grind (arith, nat_tests)

word-within : (pair : ℕ → ℕ → ℕ) (is : List ℕ) → word (sum_by (λ i. sum_by (share pair i) is) is) ≡ 0
word-within pair [] = refl
word-within pair (a ∷ rest) =
    let split : sum_by (λ i. sum_by (share pair i) (a ∷ rest)) (a ∷ rest)
    ≡ (sum_by (share pair a) rest + sum_by (λ i. share pair i a) rest) + sum_by (λ i. sum_by (share pair i) rest) rest
    = omega (
      arith,
      share-self pair a,
      sum_by-cons (λ i. sum_by (share pair i) (a ∷ rest)) a rest,
      sum_by-cons (share pair a) a rest,
      ap (λ f. sum_by f rest) (fun_ext (λ i. sum_by-cons (share pair i) a rest)),
      sum_by-add (λ i. share pair i a) (λ i. sum_by (share pair i) rest) rest,
    ) in
    ap word split
    ∙ word-add_both (sum_by (share pair a) rest + sum_by (λ i. share pair i a) rest) 0 (sum_by (λ i. sum_by (share pair i) rest) rest) 0 (word-shares pair a rest) (word-within pair rest)

-- ---- sums by tests

pub sum_if : (t : ℕ → Bool) (f : ℕ → ℕ) (xs : List ℕ) → sum_by f (filter t xs) ≡ sum_by (λ j. if t j then f j else 0) xs
sum_if t f [] = refl
sum_if t f (x ∷ xs) = step (t x) (sum_if t f xs) ∙ sym (sum_by-cons (λ j. if t j then f j else 0) x xs)
  where
    step : (c : Bool) → sum_by f (filter t xs) ≡ sum_by (λ j. if t j then f j else 0) xs → sum_by f (cond c (x ∷ filter t xs) (filter t xs)) ≡ (if c then f x else 0) + sum_by (λ j. if t j then f j else 0) xs
    step true e = sum_by-cons f x (filter t xs) ∙ ap (λ z. f x + z) e
    step false e = e ∙ sym (zero-add (sum_by (λ j. if t j then f j else 0) xs))

word_sum_filter : (t : ℕ → Bool) (f h : ℕ → ℕ) → ((i : ℕ) → t i ≡ true → word (f i) ≡ word (h i)) → (xs : List ℕ) → word (sum_by f (filter t xs)) ≡ word (sum_by h (filter t xs))
word_sum_filter t f h same xs =
    ap word (sum_if t f xs)
    ∙ word-sum_by (λ j. if t j then f j else 0) (λ j. if t j then h j else 0) xs (λ j. step j (t j) (same j))
    ∙ sym (ap word (sum_if t h xs))
  where
    step : (j : ℕ) (c : Bool) → (c ≡ true → word (f j) ≡ word (h j)) → word (if c then f j else 0) ≡ word (if c then h j else 0)
    step j true e = e refl
    step j false e = refl

-- ---- one meter of the part

-- its pair words with those that it left standing, linked and unmasked
abbrev pub linked_words : Graph → (ℕ → ℕ → ℕ) → ℕ → ℕ → ℕ
linked_words graph pair i j = if linked graph i j then pair i j else 0

abbrev pub open_share : Graph → (ℕ → ℕ → ℕ) → ℕ → ℕ → ℕ
open_share graph pair i j = if graph.stands i j && not (graph.masked i j) then share pair i j else 0

stood_cases : (a e m t l : Bool) (v : ℕ) → a ≡ true → (e ≡ true → v ≡ 0) → l ≡ (a && not e && m && t && l) → ((a && not e && m && t) ≡ true → l ≡ true)
    → (if t then v else 0) ≡ (if l then v else 0) + (if t && not m then v else 0)
stood_cases false e m t l v is zero_at whole link = absurd (false≢true is)
stood_cases true true m true true v is zero_at whole link = absurd (false≢true (sym whole))
stood_cases true true true true false v is zero_at whole link = zero_at refl
stood_cases true true false true false v is zero_at whole link = sym (zero-add v)
stood_cases true e m false true v is zero_at whole link = absurd (false≢true (sym (whole ∙ none e m)))
  where
    none : (a b : Bool) → (true && not a && b && false && true) ≡ false
    none true true = refl
    none true false = refl
    none false true = refl
    none false false = refl
stood_cases true e m false false v is zero_at whole link = refl
stood_cases true false true true true v is zero_at whole link = sym (add-zero v)
stood_cases true false true true false v is zero_at whole link = absurd (false≢true (link refl))
stood_cases true false false true true v is zero_at whole link = absurd (false≢true (sym whole))
stood_cases true false false true false v is zero_at whole link = sym (zero-add v)

stood : (graph : Graph) (pair : ℕ → ℕ → ℕ) (i j : ℕ) → graph.answered i ≡ true → (sees graph i j ≡ true → sees graph j i ≡ true)
    → (if graph.stands i j then share pair i j else 0) ≡ (if linked graph i j then share pair i j else 0) + open_share graph pair i j
stood graph pair i j answered back =
    stood_cases (graph.answered i) (i == j) (graph.masked i j) (graph.stands i j) (linked graph i j) (share pair i j) answered
    (λ e. ap (share pair i) (sym (eqb-true i j e)) ∙ share-self pair i)
    (twice (sees graph i j) (sees graph j i))
    (λ h. and_from (sees graph i j) (sees graph j i) h (back h))
  where
    twice : (a b : Bool) → (a && b) ≡ (a && (a && b))
    twice true b = refl
    twice false b = refl

-- the pair words of linked meters are shared
share_linked : (graph : Graph) (pair : ℕ → ℕ → ℕ) (i j : ℕ) → word (if linked graph i j then share pair i j else 0) ≡ word (share (linked_words graph pair) i j)
share_linked graph pair i j = step (linked graph i j) (linked graph j i) (both (sees graph i j) (sees graph j i)) (nat_lt i j) (nat_lt j i)
  where
    both : (a b : Bool) → (a && b) ≡ (b && a)
    both true true = refl
    both true false = refl
    both false true = refl
    both false false = refl

    step : (l k : Bool) → l ≡ k → (b c : Bool) → word (if l then (if b then pair i j else (if c then minus (pair j i) else 0)) else 0)
        ≡ word (if b then (if l then pair i j else 0) else (if c then minus (if k then pair j i else 0) else 0))
    step true true e b c = refl
    step false false e true c = refl
    step false false e false true = omega arith
    step false false e false false = refl
    step true false e b c = absurd (false≢true (sym e))
    step false true e b c = absurd (false≢true e)

-- ---- over the part

-- of a meter of the part, the pair words with linked meters are those with linked meters of the part
abbrev pub in_part : Graph → (ℕ → ℕ → ℕ) → (ℕ → Bool) → ℕ → ℕ
in_part graph pair p i = sum_by (share (linked_words graph pair) i) (filter p graph.members)

linked_within : (graph : Graph) (pair : ℕ → ℕ → ℕ) (p : ℕ → Bool) → IsPart graph p → (i : ℕ) → p i ≡ true
    → word (sum_by (λ j. if linked graph i j then share pair i j else 0) graph.members) ≡ word (in_part graph pair p i)
linked_within graph pair p part i within =
    ap (λ f. word (sum_by f graph.members)) (fun_ext (λ j. step j (linked graph i j) (p j) (λ link. sym (part.closed i j link) ∙ within)))
    ∙ ap word (sym (sum_if p (λ j. if linked graph i j then share pair i j else 0) graph.members))
    ∙ word-sum_by (λ j. if linked graph i j then share pair i j else 0) (share (linked_words graph pair) i) (filter p graph.members) (share_linked graph pair i)
  where
    step : (j : ℕ) (l q : Bool) → (l ≡ true → q ≡ true) → (if l then share pair i j else 0) ≡ (if q then (if l then share pair i j else 0) else 0)
    step j true true h = refl
    step j true false h = absurd (false≢true (h refl))
    step j false true h = refl
    step j false false h = refl

abbrev pub open_words : Graph → (ℕ → ℕ → ℕ) → ℕ → ℕ
open_words graph pair i = sum_by (open_share graph pair i) graph.members

-- the reading word of a meter of the part
shown : (graph : Graph) (own : ℕ → ℕ) (pair : ℕ → ℕ → ℕ) (p : ℕ → Bool) (x : ℕ → ℕ) → IsPart graph p → IsBare graph p → (i : ℕ) → p i ≡ true
    → word (reading_word own pair graph.members i (x i)) ≡ word ((answer_word own pair i (left_out graph i) + x i) + (open_words graph pair i + in_part graph pair p i))
shown graph own pair p x part bare i within =
    let all : ℕ = sum_by (share pair i) graph.members in
    let gone : ℕ = sum_by (share pair i) (left_out graph i) in
    let links : ℕ = sum_by (λ j. if linked graph i j then share pair i j else 0) graph.members in
    let unmasked : ℕ = open_words graph pair i in
    let split : sum_by (share pair i) (filter (graph.stands i) graph.members) + gone ≡ all
    = sum_by-filter_both (graph.stands i) (λ j. not (graph.stands i j)) (λ _. refl) (share pair i) graph.members in
    let standing : sum_by (share pair i) (filter (graph.stands i) graph.members) ≡ links + unmasked
    = sum_if (graph.stands i) (share pair i) graph.members
    ∙ ap (λ f. sum_by f graph.members) (fun_ext (λ j. stood graph pair i j (part.answered i within) (bare i j within)))
    ∙ sum_by-add (λ j. if linked graph i j then share pair i j else 0) (open_share graph pair i) graph.members in
    mod-mod (x i + own i + all) (2 ^ 64)
    ∙ arrange (x i) (own i) all gone links unmasked (in_part graph pair p i) (sym split ∙ ap (λ z. z + gone) standing) (linked_within graph pair p part i within)
  where
    arrange : (v o all gone links unmasked inner : ℕ) → all ≡ (links + unmasked) + gone → word links ≡ word inner → word (v + o + all) ≡ word ((word (o + gone) + v) + (unmasked + inner))
    arrange v o all gone links unmasked inner e f = omega (arith, e, f)

-- of the whole part
shown_all : (graph : Graph) (own : ℕ → ℕ) (pair : ℕ → ℕ → ℕ) (p : ℕ → Bool) (x : ℕ → ℕ) → IsPart graph p → IsBare graph p
    → let xs = filter p graph.members in
    word (sum_by (λ i. reading_word own pair graph.members i (x i)) xs)
    ≡ word ((sum_by (λ i. answer_word own pair i (left_out graph i)) xs + sum_by x xs) + sum_by (open_words graph pair) xs)
shown_all graph own pair p x part bare =
    let xs : List ℕ = filter p graph.members in
    let answer : ℕ → ℕ = λ i. answer_word own pair i (left_out graph i) in
    let inner : ℕ → ℕ = in_part graph pair p in
    word_sum_filter p (λ i. reading_word own pair graph.members i (x i)) (λ i. (answer i + x i) + (open_words graph pair i + inner i)) (shown graph own pair p x part bare) graph.members
    ∙ ap word (sum_by-add (λ i. answer i + x i) (λ i. open_words graph pair i + inner i) xs
    ∙ ap (λ z. z + sum_by (λ i. open_words graph pair i + inner i) xs) (sum_by-add answer x xs)
    ∙ ap (λ z. (sum_by answer xs + sum_by x xs) + z) (sum_by-add (open_words graph pair) inner xs))
    ∙ none (sum_by answer xs + sum_by x xs) (sum_by (open_words graph pair) xs) (sum_by inner xs) (word-within (linked_words graph pair) xs)
  where
    none : (a b c : ℕ) → word c ≡ 0 → word (a + (b + c)) ≡ word (a + b)
    none a b c e = omega (arith, e)

same_open : (graph : Graph) (pair pair2 : ℕ → ℕ → ℕ) → IsGraph graph → ((i j : ℕ) → i < j → graph.masked i j ≡ false → pair i j ≡ pair2 i j) → (i j : ℕ) → open_share graph pair i j ≡ open_share graph pair2 i j
same_open graph pair pair2 is same i j =
    step (graph.stands i j) (graph.masked i j) (nat_lt i j) (nat_lt j i) (λ b. same i j (ltb-true i j b)) (λ c e. same j i (ltb-true j i c) (is.masked j i ∙ e))
  where
    step : (t m b c : Bool) → (b ≡ true → m ≡ false → pair i j ≡ pair2 i j) → (c ≡ true → m ≡ false → pair j i ≡ pair2 j i)
        → (if t && not m then (if b then pair i j else (if c then minus (pair j i) else 0)) else 0) ≡ (if t && not m then (if b then pair2 i j else (if c then minus (pair2 j i) else 0)) else 0)
    step true true b c e f = refl
    step true false true c e f = e refl refl
    step true false false true e f = ap minus (f refl refl)
    step true false false false e f = refl
    step false m b c e f = refl

sum_filter_same : (p : ℕ → Bool) (f h : ℕ → ℕ) → ((i : ℕ) → p i ≡ true → f i ≡ h i) → (xs : List ℕ) → sum_by f (filter p xs) ≡ sum_by h (filter p xs)
sum_filter_same p f h same xs = sum_if p f xs ∙ ap (λ k. sum_by k xs) (fun_ext (λ j. step j (p j) (same j))) ∙ sym (sum_if p h xs)
  where
    step : (j : ℕ) (c : Bool) → (c ≡ true → f j ≡ h j) → (if c then f j else 0) ≡ (if c then h j else 0)
    step j true e = e refl
    step j false e = refl

pub told : (graph : Graph) (p : ℕ → Bool) (own : ℕ → ℕ) (pair : ℕ → ℕ → ℕ) (x own2 : ℕ → ℕ) (pair2 : ℕ → ℕ → ℕ) (y : ℕ → ℕ)
    → IsGraph graph → IsPart graph p → IsBare graph p → ShowsTheSame graph p own pair x own2 pair2 y → word (sum_in graph p x) ≡ word (sum_in graph p y)
told graph p own pair x own2 pair2 y is part bare shows =
    let xs : List ℕ = filter p graph.members in
    let a : ℕ = sum_by (λ i. answer_word own pair i (left_out graph i)) xs in
    let a2 : ℕ = sum_by (λ i. answer_word own2 pair2 i (left_out graph i)) xs in
    let o : ℕ = sum_by (open_words graph pair) xs in
    let o2 : ℕ = sum_by (open_words graph pair2) xs in
    cancel a a2 (sum_by x xs) (sum_by y xs) o o2
    (sum_filter_same p (λ i. answer_word own pair i (left_out graph i)) (λ i. answer_word own2 pair2 i (left_out graph i)) shows.answers graph.members)
    (ap (λ f. sum_by f xs) (fun_ext (λ i. ap (λ f. sum_by f graph.members) (fun_ext (same_open graph pair pair2 is shows.unmasked i)))))
    (sym (shown_all graph own pair p x part bare)
    ∙ ap word (sum_filter_same p (λ i. reading_word own pair graph.members i (x i)) (λ i. reading_word own2 pair2 graph.members i (y i)) shows.readings graph.members)
    ∙ shown_all graph own2 pair2 p y part bare)
  where
    cancel : (a a2 b b2 o o2 : ℕ) → a ≡ a2 → o ≡ o2 → word ((a + b) + o) ≡ word ((a2 + b2) + o2) → word b ≡ word b2
    cancel a a2 b b2 o o2 e f g = omega (arith, e, f, g)

-- ---- how large

fewer_pass : (t p : ℕ → Bool) → ((i : ℕ) → t i ≡ true → p i ≡ true) → (xs : List ℕ) → length (filter t xs) ≤ length (filter p xs)
fewer_pass t p all [] = omega arith
fewer_pass t p all (x ∷ xs) = step (t x) (p x) (all x) (fewer_pass t p all xs)
  where
    step : (b c : Bool) → (b ≡ true → c ≡ true) → length (filter t xs) ≤ length (filter p xs) → length (cond b (x ∷ filter t xs) (filter t xs)) ≤ length (cond c (x ∷ filter p xs) (filter p xs))
    step true true h le = omega (arith, le)
    step true false h le = absurd (false≢true (h refl))
    step false true h le = omega (arith, le)
    step false false h le = le

pub large : (graph : Graph) (p : ℕ → Bool) → IsPart graph p → IsBare graph p → (i : ℕ) → p i ≡ true
    → length (filter (λ j. (i == j) || sees graph i j) graph.members) ≤ length (filter p graph.members)
large graph p part bare i within =
    fewer_pass (λ j. (i == j) || sees graph i j) p
    (λ j h. ⊎_elim
    (λ same. ap p (sym (eqb-true i j same)) ∙ within)
    (λ seen. sym (part.closed i j (and_from (sees graph i j) (sees graph j i) seen (bare i j within seen))) ∙ within)
    (or_cases (i == j) (sees graph i j) h))
    graph.members
