-- Sums and tests over the survivors outside a pool.
use Rattle.std.proofs.Common.{◌≡◌, ℕ, ◌+◌, Bool, true, false, cond, not, ◌&&◌, ◌||◌, List, [], ◌∷◌, refl, sym, ap, ◌∙◌, arith}
use Rattle.std.specs.Prelude.{nat_lt}
use Rattle.std.specs.List.{sum_by, filter, list_all}
use mathlib.Core.Path.{fun_ext}
use Rattle.std.proofs.lemmas.Bool.{false≢true, and_from, ltb-true}
use Rattle.std.proofs.lemmas.List.Sums.{sum_by-cons}
use Rattle.missing_round.specs.Words.{word, minus, share, answer_word}
use Rattle.event_schedule.specs.declared.Event.{Event}
use Rattle.event_schedule.specs.Schedule.{Shape, is_reading_taken, is_announced, is_answer_sent, all_answered, survivors, members_of, is_opened}
use Rattle.event_schedule.specs.Tables.{Masks}
use Rattle.event_schedule.proofs.ListLemmas.{and_first, and_last}
use Rattle.ideal_masks.specs.Pools.{Pool, nobody, others, is_open, ShareWords}

-- ---- those that pass t, in the pool k and outside it

pub sum-apart : (k t : ℕ → Bool) (f : ℕ → ℕ) (xs : List ℕ) → sum_by f (filter (λ i. not (k i) && t i) xs) + sum_by f (filter (λ i. k i && t i) xs) ≡ sum_by f (filter t xs)
sum-apart k t f [] = refl
sum-apart k t f (x ∷ xs) = step (k x) (t x) (filter (λ i. not (k i) && t i) xs) (filter (λ i. k i && t i) xs) (filter t xs) (sum-apart k t f xs)
  where
    step : (b c : Bool) (o p a : List ℕ) → sum_by f o + sum_by f p ≡ sum_by f a → sum_by f (cond (not b && c) (x ∷ o) o) + sum_by f (cond (b && c) (x ∷ p) p) ≡ sum_by f (cond c (x ∷ a) a)
    step true true o p a e = omega (arith, sum_by-cons f x p, sum_by-cons f x a, e)
    step true false o p a e = e
    step false true o p a e = omega (arith, sum_by-cons f x o, sum_by-cons f x a, e)
    step false false o p a e = e

pub sum-same : (t : ℕ → Bool) (f h : ℕ → ℕ) → ((i : ℕ) → t i ≡ true → f i ≡ h i) → (xs : List ℕ) → sum_by f (filter t xs) ≡ sum_by h (filter t xs)
sum-same t f h same [] = refl
sum-same t f h same (x ∷ xs) = step (t x) refl (filter t xs) (sum-same t f h same xs)
  where
    step : (c : Bool) → t x ≡ c → (a : List ℕ) → sum_by f a ≡ sum_by h a → sum_by f (cond c (x ∷ a) a) ≡ sum_by h (cond c (x ∷ a) a)
    step true is a e = sum_by-cons f x a ∙ ap (λ z. z + sum_by f a) (same x is) ∙ ap (λ z. h x + z) e ∙ sym (sum_by-cons h x a)
    step false is a e = e

-- where all pass b, so do those outside
pub all-outside : (k t b : ℕ → Bool) (xs : List ℕ) → list_all b (filter t xs) ≡ true → list_all b (filter (λ i. not (k i) && t i) xs) ≡ true
all-outside k t b [] all = refl
all-outside k t b (x ∷ xs) all = step (k x) (t x) (filter (λ i. not (k i) && t i) xs) (filter t xs) all (all-outside k t b xs)
  where
    step : (c e : Bool) (o a : List ℕ) → list_all b (cond e (x ∷ a) a) ≡ true → (list_all b a ≡ true → list_all b o ≡ true) → list_all b (cond (not c && e) (x ∷ o) o) ≡ true
    step true true o a all rest = rest (and_last (b x) (list_all b a) all)
    step true false o a all rest = rest all
    step false true o a all rest = and_from (b x) (list_all b o) (and_first (b x) (list_all b a) all) (rest (and_last (b x) (list_all b a) all))
    step false false o a all rest = rest all

-- where those outside pass b, each is in the pool or passes b
pub all-or : (k t b : ℕ → Bool) (xs : List ℕ) → list_all b (filter (λ i. not (k i) && t i) xs) ≡ true → list_all (λ i. k i || b i) (filter t xs) ≡ true
all-or k t b [] all = refl
all-or k t b (x ∷ xs) all = step (k x) (t x) refl (filter (λ i. not (k i) && t i) xs) (filter t xs) all (all-or k t b xs)
  where
    step : (c e : Bool) → k x ≡ c → (o a : List ℕ) → list_all b (cond (not c && e) (x ∷ o) o) ≡ true → (list_all b o ≡ true → list_all (λ i. k i || b i) a ≡ true) → list_all (λ i. k i || b i) (cond e (x ∷ a) a) ≡ true
    step true true is o a all rest = and_from (k x || b x) (list_all (λ i. k i || b i) a) (ap (λ z. z || b x) is) (rest all)
    step true false is o a all rest = rest all
    step false true is o a all rest =
        and_from (k x || b x) (list_all (λ i. k i || b i) a) (ap (λ z. z || b x) is ∙ and_first (b x) (list_all b o) all) (rest (and_last (b x) (list_all b o) all))
    step false false is o a all rest = rest all

-- ---- rounds

-- an opened round is open to each pool
pub open-opened : (pool : Pool) (s : Shape) (g r : ℕ) (p : List Event) → is_opened s g r p ≡ true → is_open pool s g r p ≡ true
open-opened pool s g r p opened =
    and_from (is_announced s g r p) (list_all (λ i. is_answer_sent s g r i p) (others pool s g r p)) (and_first (is_announced s g r p) (all_answered s g r p) opened)
    (all-outside (pool g) (λ i. is_reading_taken s g r i p) (λ i. is_answer_sent s g r i p) (members_of s g r) (and_last (is_announced s g r p) (all_answered s g r p) opened))

-- where the sums outside are the same and the pool's readings, too, all have one sum
pub total-whole : (pool : Pool) (s : Shape) (f h : ℕ → ℕ) (g r : ℕ) (p : List Event) → ((i : ℕ) → pool g i ≡ true → f i ≡ h i)
    → sum_by f (others pool s g r p) ≡ sum_by h (others pool s g r p) → sum_by f (survivors s g r p) ≡ sum_by h (survivors s g r p)
total-whole pool s f h g r p same outside =
    let t : ℕ → Bool = λ i. is_reading_taken s g r i p in
    let inside : sum_by f (filter (λ i. pool g i && t i) (members_of s g r)) ≡ sum_by h (filter (λ i. pool g i && t i) (members_of s g r))
    = sum-same (λ i. pool g i && t i) f h (λ i is. same i (and_first (pool g i) (t i) is)) (members_of s g r) in
    sym (sum-apart (pool g) t f (members_of s g r))
    ∙ ap (λ z. z + sum_by f (filter (λ i. pool g i && t i) (members_of s g r))) outside
    ∙ ap (λ z. sum_by h (others pool s g r p) + z) inside
    ∙ sum-apart (pool g) t h (members_of s g r)

less_word : (a b p q : ℕ) → p ≡ q → word (a + p) ≡ word (b + q) → word a ≡ word b
less_word a b p q same e = omega (arith, same, e)

-- where all have one sum modulo 2^64 and the pool's readings are the same, so have those outside
pub word-outside : (pool : Pool) (s : Shape) (f h : ℕ → ℕ) (g r : ℕ) (p : List Event) → ((i : ℕ) → pool g i ≡ true → f i ≡ h i)
    → word (sum_by f (survivors s g r p)) ≡ word (sum_by h (survivors s g r p)) → word (sum_by f (others pool s g r p)) ≡ word (sum_by h (others pool s g r p))
word-outside pool s f h g r p same whole =
    let t : ℕ → Bool = λ i. is_reading_taken s g r i p in
    less_word (sum_by f (others pool s g r p)) (sum_by h (others pool s g r p)) (sum_by f (filter (λ i. pool g i && t i) (members_of s g r))) (sum_by h (filter (λ i. pool g i && t i) (members_of s g r)))
    (sum-same (λ i. pool g i && t i) f h (λ i is. same i (and_first (pool g i) (t i) is)) (members_of s g r))
    (ap word (sum-apart (pool g) t f (members_of s g r)) ∙ whole ∙ ap word (sym (sum-apart (pool g) t h (members_of s g r))))

-- ---- words of the pool

pub shares_same : (b c : Bool) (p1 p2 q1 q2 : ℕ) → (b ≡ true → p1 ≡ q1) → (c ≡ true → p2 ≡ q2) → cond b p1 (cond c (minus p2) 0) ≡ cond b q1 (cond c (minus q2) 0)
shares_same true c p1 p2 q1 q2 one two = one refl
shares_same false true p1 p2 q1 q2 one two = ap minus (two refl)
shares_same false false p1 p2 q1 q2 one two = refl

or-true : (b : Bool) → (b || true) ≡ true
or-true true = refl
or-true false = refl

pub answer-shared : (pool : Pool) (m k : Masks) (g r i : ℕ) (gone : List ℕ) → ShareWords pool m k → pool g i ≡ true → answer_word (m.own g r) (m.pair g r) i gone ≡ answer_word (k.own g r) (k.pair g r) i gone
answer-shared pool m k g r i gone shared inside =
    ap (λ o. word (o + sum_by (share (m.pair g r) i) gone)) (shared.own g r i inside)
    ∙ ap (λ f. word (k.own g r i + sum_by f gone)) (fun_ext (λ j. shares_same (nat_lt i j) (nat_lt j i) (m.pair g r i j) (m.pair g r j i) (k.pair g r i j) (k.pair g r j i)
    (λ lt. shared.pair g r i j (ltb-true i j lt) (ap (λ b. b || pool g j) inside))
    (λ lt. shared.pair g r j i (ltb-true j i lt) (ap (λ b. pool g j || b) inside ∙ or-true (pool g j)))))

-- nobody has a word
pub nobody-shares : (m k : Masks) → ShareWords nobody m k
nobody-shares m k = record { own = λ g r i inside. absurd (false≢true inside); pair = λ g r i j below inside. absurd (false≢true inside) }
