-- The link of a meter, and the walk past it.
use Rattle.std.proofs.Common.{◌≡◌, ℕ, ◌+◌, ◌-◌, Bool, true, false, cond, not, ◌&&◌, List, [], ◌∷◌, ◌++◌, length, take, refl, sym, ap, ◌∙◌, subst, append_assoc, arith}
use Rattle.std.specs.Prelude.{nat_eq, Some, None, slice_get}
use Rattle.std.specs.Option.{option_eq}
use Rattle.std.specs.List.{sum_by, filter}
use Rattle.std.proofs.lemmas.Bool.{false≢true, eq-eqb, and_parts, eqb-true}
use Rattle.std.proofs.lemmas.List.Sums.{sum_by_push}
use Rattle.missing_round.specs.Sets.{is_member, without}
use Rattle.missing_round.specs.Words.{word, minus, group}
use Rattle.missing_round.proofs.SetLemmas.{is_member-filter}
use Rattle.group_plan.specs.Plans.{size, is_member as is_of}
use Rattle.event_schedule.specs.declared.Event.{Event}
use Rattle.event_schedule.specs.Schedule.{Shape, is_reading_taken, is_answer_sent}
use Rattle.ideal_masks.specs.declared.chain.Chain.{Chain}
use Rattle.ideal_masks.specs.declared.links.Walk.{Walk}
use Rattle.ideal_masks.specs.Pools.{Pool, others, others_answered, others_silent, chain_for}
use Rattle.ideal_masks.specs.Offsets.{pair_move}
use Rattle.ideal_masks.specs.Chains.{IsChainOf, RisesFrom, AreBelow, IsWalk, IsRow, next_of, link_to}
use Rattle.ideal_masks.proofs.ChainLemmas.{Lacks, begins, rises-past, rises-range, rises-filter, below-range, below-filter, below-more, below-push, below-last, no_member-below, is_member-append, row-next, row-last, row-none}

-- ---- the parts of a chain

pub others-below : (pool : Pool) (s : Shape) (g r : ℕ) (p : List Event) → AreBelow (size s.groups g) (others pool s g r p)
others-below pool s g r p =
    let n : ℕ = size s.groups g in
    below-filter (λ i. not (pool g i) && is_reading_taken s g r i p) n (filter (is_of s.groups g r) (group n)) (below-filter (is_of s.groups g r) n (group n) (below-range 0 n n (omega arith)))

pub answered-below : (pool : Pool) (s : Shape) (g r : ℕ) (p : List Event) → AreBelow (size s.groups g) (others_answered pool s g r p)
answered-below pool s g r p = below-filter (λ i. is_answer_sent s g r i p) (size s.groups g) (others pool s g r p) (others-below pool s g r p)

silent-below : (pool : Pool) (s : Shape) (g r : ℕ) (p : List Event) → AreBelow (size s.groups g) (others_silent pool s g r p)
silent-below pool s g r p = below-filter (λ i. not (is_answer_sent s g r i p)) (size s.groups g) (others pool s g r p) (others-below pool s g r p)

answered-rises : (pool : Pool) (s : Shape) (g r : ℕ) (p : List Event) → RisesFrom 0 (others_answered pool s g r p)
answered-rises pool s g r p =
    let n : ℕ = size s.groups g in
    rises-filter (λ i. is_answer_sent s g r i p) 0 (others pool s g r p)
    (rises-filter (λ i. not (pool g i) && is_reading_taken s g r i p) 0 (filter (is_of s.groups g r) (group n)) (rises-filter (is_of s.groups g r) 0 (group n) (rises-range 0 n)))

lacks-take : (p : ℕ → Bool) (i : ℕ) (xs : List ℕ) → p i ≡ false → Lacks i (take 1 (filter p xs))
lacks-take p i [] isnt = tt
lacks-take p i (x ∷ xs) isnt = step (p x) refl (lacks-take p i xs isnt)
  where
    step : (c : Bool) → p x ≡ c → Lacks i (take 1 (filter p xs)) → Lacks i (take 1 (cond c (x ∷ filter p xs) (filter p xs)))
    step true is rest = (λ e. false≢true (sym isnt ∙ ap p (sym e) ∙ is), tt)
    step false is rest = rest

-- a meter that answered isn't the silent end
apart : (pool : Pool) (s : Shape) (g r : ℕ) (p : List Event) (i : ℕ) → is_member i (others_answered pool s g r p) ≡ true → Lacks i (take 1 (others_silent pool s g r p))
apart pool s g r p i m =
    let sent : is_answer_sent s g r i p ≡ true = (and_parts (is_member i (others pool s g r p)) (is_answer_sent s g r i p) (sym (is_member-filter (λ k. is_answer_sent s g r k p) i (others pool s g r p)) ∙ m)).1 in
    lacks-take (λ k. not (is_answer_sent s g r k p)) i (others pool s g r p) (ap not sent)

lacks-end : (i : ℕ) (xs : List ℕ) → option_eq nat_eq (slice_get xs 0) (Some i) ≡ false → Lacks i (take 1 xs)
lacks-end i [] isnt = tt
lacks-end i (x ∷ xs) isnt = (λ e. false≢true (sym isnt ∙ eq-eqb x i e), tt)

is_end : (i : ℕ) (xs : List ℕ) → option_eq nat_eq (slice_get xs 0) (Some i) ≡ true → take 1 xs ≡ i ∷ []
is_end i [] itis = absurd (false≢true itis)
is_end i (x ∷ xs) itis = ap (λ z. z ∷ []) (eqb-true x i itis)

-- ---- the walk

pub walk-begins : (pool : Pool) (s : Shape) (g r : ℕ) (p : List Event) (d : ℕ → ℕ) (c : Chain) → IsChainOf pool s g r p c → IsWalk d c.answered 0 (record { ahead = c.answered; sum = 0 })
walk-begins pool s g r p d c is = record {
  passed = [];
  whole = refl;
  below = tt;
  above = rw is.answered (answered-rises pool s g r p);
  sum = refl;
}

member-ahead : (d : ℕ → ℕ) (b : List ℕ) (i : ℕ) (w : Walk) (walk : IsWalk d b i w) → is_member i w.ahead ≡ is_member i b
member-ahead d b i w walk = sym (is_member-append i walk.passed w.ahead (no_member-below i walk.passed walk.below)) ∙ ap (is_member i) walk.whole

pub walk-passes : (d : ℕ → ℕ) (b : List ℕ) (i by : ℕ) (w next : Walk) → IsWalk d b i w → is_member i b ≡ true → by ≡ d i → next.ahead ≡ without i w.ahead → next.sum ≡ word (w.sum + by) → IsWalk d b (i + 1) next
walk-passes d b i by w next walk m delta ahead sum =
    let start = begins i w.ahead walk.above (member-ahead d b i w walk ∙ m) in
    record {
      passed = walk.passed ++ i ∷ [];
      whole = append_assoc walk.passed (i ∷ []) next.ahead ∙ ap (λ l. walk.passed ++ i ∷ l) ahead ∙ ap (λ l. walk.passed ++ l) (sym start.is) ∙ walk.whole;
      below = below-push (i + 1) walk.passed i (below-more i (i + 1) walk.passed (omega arith) walk.below) (omega arith);
      above = rw ahead start.above;
      sum = sum ∙ ap (λ z. word (z + by)) walk.sum ∙ ap (λ z. word (word (sum_by d walk.passed) + z)) delta ∙ omega (arith, sum_by_push d walk.passed i);
    }

pub walk-stays : (d : ℕ → ℕ) (b : List ℕ) (i : ℕ) (w : Walk) → IsWalk d b i w → is_member i b ≡ false → IsWalk d b (i + 1) w
walk-stays d b i w walk m = record {
  passed = walk.passed;
  whole = walk.whole;
  below = below-more i (i + 1) walk.passed (omega arith) walk.below;
  above = rises-past i w.ahead walk.above (member-ahead d b i w walk ∙ m);
  sum = walk.sum;
}

-- ---- the link

chain-is : (pool : Pool) (s : Shape) (g r : ℕ) (p : List Event) (passed rest : List ℕ) → passed ++ rest ≡ others_answered pool s g r p → chain_for pool s g r p ≡ passed ++ (rest ++ take 1 (others_silent pool s g r p))
chain-is pool s g r p passed rest is = ap (λ l. l ++ take 1 (others_silent pool s g r p)) (sym is) ∙ append_assoc passed rest (take 1 (others_silent pool s g r p))

pub link-answered : (pool : Pool) (s : Shape) (g r : ℕ) (p : List Event) (d : ℕ → ℕ) (c : Chain) (i by : ℕ) (w next : Walk) → IsChainOf pool s g r p c → IsWalk d c.answered i w → is_member i c.answered ≡ true → by ≡ d i
    → next.ahead ≡ without i w.ahead → next.sum ≡ word (w.sum + by) → IsRow (pair_move d 0 (chain_for pool s g r p) i) i (size s.groups g) (link_to i next.sum (next_of next.ahead c.end))
link-answered pool s g r p d c i by w next is walk m delta ahead sum =
    let start = begins i w.ahead walk.above (member-ahead d c.answered i w walk ∙ m) in
    let rest = without i w.ahead in
    let whole : walk.passed ++ i ∷ rest ≡ others_answered pool s g r p = ap (λ l. walk.passed ++ l) (sym start.is) ∙ walk.whole ∙ is.answered in
    let below : AreBelow (size s.groups g) (i ∷ rest) = below-last (size s.groups g) walk.passed (i ∷ rest) (rw whole (answered-below pool s g r p)) in
    let total : next.sum ≡ word (sum_by d walk.passed + d i) = sum ∙ ap (λ z. word (z + by)) walk.sum ∙ ap (λ z. word (word (sum_by d walk.passed) + z)) delta ∙ omega arith in
    rw (chain-is pool s g r p walk.passed (i ∷ rest) whole, ahead, is.end)
    (row-next d walk.passed rest (others_silent pool s g r p) i (size s.groups g) next.sum walk.below start.above (apart pool s g r p i (ap (is_member i) (sym is.answered) ∙ m)) below.1 (silent-below pool s g r p) total)

pub link-silent : (pool : Pool) (s : Shape) (g r : ℕ) (p : List Event) (d : ℕ → ℕ) (c : Chain) (i total by : ℕ) (w : Walk) → IsChainOf pool s g r p c → IsWalk d c.answered i w → is_member i c.answered ≡ false
    → option_eq nat_eq c.end (Some i) ≡ true → total ≡ word (sum_by d c.answered) → by ≡ word (minus total)
    → IsRow (pair_move d 0 (chain_for pool s g r p) i) i (size s.groups g) (link_to i by (slice_get w.ahead (length w.ahead - 1)))
link-silent pool s g r p d c i total by w is walk m at total_is by_is =
    let whole : walk.passed ++ w.ahead ≡ others_answered pool s g r p = walk.whole ∙ is.answered in
    let below : AreBelow (size s.groups g) w.ahead = below-last (size s.groups g) walk.passed w.ahead (rw whole (answered-below pool s g r p)) in
    let last : take 1 (others_silent pool s g r p) ≡ i ∷ [] = is_end i (others_silent pool s g r p) (ap (λ o. option_eq nat_eq o (Some i)) (sym is.end) ∙ at) in
    let shape : chain_for pool s g r p ≡ walk.passed ++ (w.ahead ++ i ∷ []) = chain-is pool s g r p walk.passed w.ahead whole ∙ ap (λ l. walk.passed ++ (w.ahead ++ l)) last in
    let sum : by ≡ word (minus (sum_by d (walk.passed ++ w.ahead))) = by_is ∙ ap (λ z. word (minus z)) total_is ∙ omega arith ∙ ap (λ l. word (minus (sum_by d l))) (sym walk.whole) in
    rw shape (row-last d walk.passed w.ahead i (size s.groups g) by walk.below (rises-past i w.ahead walk.above (member-ahead d c.answered i w walk ∙ m)) below sum)

pub link-none_there : (pool : Pool) (s : Shape) (g r : ℕ) (p : List Event) (d : ℕ → ℕ) (c : Chain) (i : ℕ) (w : Walk) → IsChainOf pool s g r p c → IsWalk d c.answered i w → is_member i c.answered ≡ false
    → option_eq nat_eq c.end (Some i) ≡ false → IsRow (pair_move d 0 (chain_for pool s g r p) i) i (size s.groups g) None
link-none_there pool s g r p d c i w is walk m at =
    let whole : walk.passed ++ w.ahead ≡ others_answered pool s g r p = walk.whole ∙ is.answered in
    subst (λ l. IsRow (pair_move d 0 l i) i (size s.groups g) None) (sym (chain-is pool s g r p walk.passed w.ahead whole))
    (row-none d walk.passed w.ahead (others_silent pool s g r p) i (size s.groups g) walk.below (rises-past i w.ahead walk.above (member-ahead d c.answered i w walk ∙ m))
    (lacks-end i (others_silent pool s g r p) (ap (λ o. option_eq nat_eq o (Some i)) (sym is.end) ∙ at)))
