-- Rows that are moved words in order, one by one.
use Rattle.std.proofs.Common.{◌≡◌, ℕ, zero, suc, ◌+◌, ◌-◌, ◌^◌, ◌<◌, ◌≤◌, Bool, true, false, ◌&&◌, ◌||◌, List, [], ◌∷◌, length, take, refl, sym, subst, ◌∙◌, get_or, ⊎_elim, arith}
use Rattle.std.specs.Prelude.{◌==◌, nat_lt}
use Rattle.std.specs.Bool.{MatchBool}
use Rattle.std.specs.List.{All}
use Rattle.std.proofs.lemmas.Bool.{false≢true, cases_eq}
use Rattle.std.proofs.lemmas.Bool.Decides.{nat_tests}
use Rattle.std.proofs.lemmas.List.{take_more, take_all, length-take-le, get_or-take}
use Rattle.std.proofs.lemmas.List.Elements.{All-append, All-get_or, All-from_get_or, All-nil, All-cons}
use Rattle.pair_keys.specs.declared.KeyId.{KeyId}
use Rattle.pair_keys.specs.declared.KeyId.TheVariants.{Own, Pair}
use Rattle.ideal_masks.specs.declared.Offset.{Offset}
use Rattle.ideal_masks.specs.Order.{key_group, key_before, is_before, is_lower_first, IsAscending, AreMoves}
use Rattle.ideal_masks.proofs.OrderLemmas.{ascending-append}

key-before_all : (a b c : KeyId) → key_before a b ≡ true → key_before b c ≡ true → key_before a c ≡ true
key-before_all (Own g i) (Own h j) (Own k l) one two = grind (arith, nat_tests, one, two)
key-before_all (Own g i) (Own h j) (Pair k l m) one two = refl
key-before_all (Own g i) (Pair h j n) (Own k l) one two = absurd (false≢true two)
key-before_all (Own g i) (Pair h j n) (Pair k l m) one two = refl
key-before_all (Pair g i p) (Own h j) c one two = absurd (false≢true one)
key-before_all (Pair g i p) (Pair h j n) (Own k l) one two = absurd (false≢true two)
key-before_all (Pair g i p) (Pair h j n) (Pair k l m) one two = grind (arith, nat_tests, one, two)

-- first by the group, then by the round, and then by a third order
in_order-all : (g h k r q s : ℕ) (one two both : Bool) → (one ≡ true → two ≡ true → both ≡ true)
    → (nat_lt g h || ((g == h) && (nat_lt r q || ((r == q) && one)))) ≡ true → (nat_lt h k || ((h == k) && (nat_lt q s || ((q == s) && two)))) ≡ true
    → (nat_lt g k || ((g == k) && (nat_lt r s || ((r == s) && both)))) ≡ true
in_order-all g h k r q s true true both third first second = let is : both ≡ true = third refl refl in grind (arith, nat_tests, is, first, second)
in_order-all g h k r q s true false both third first second = grind (arith, nat_tests, first, second)
in_order-all g h k r q s false two both third first second = grind (arith, nat_tests, first, second)

-- what comes before a word comes before what follows it
before-all : (a b c : Offset) → is_before a b ≡ true → is_before b c ≡ true → is_before a c ≡ true
before-all a b c one two =
    in_order-all (key_group a.id) (key_group b.id) (key_group c.id) a.round b.round c.round (key_before a.id b.id) (key_before b.id c.id) (key_before a.id c.id)
    (key-before_all a.id b.id c.id) one two

-- of two places of an ascending list the lower comes first
ascending-at : (list : List Offset) (i j : ℕ) (d : Offset) → IsAscending list → i < j → j < length list → is_before (get_or list i d) (get_or list j d) ≡ true
ascending-at [] i j d ascending lt below = absurd (omega arith)
ascending-at (m ∷ ms) i zero d ascending lt below = absurd (omega arith)
ascending-at (m ∷ ms) zero (suc j) d ascending lt below = All-get_or (λ later. is_before m later ≡ true) ms j d (omega arith) ascending.0
ascending-at (m ∷ ms) (suc i) (suc j) d ascending lt below = ascending-at ms i j d ascending.1 (omega arith) (omega arith)

-- what comes after the last comes after all
after-all : (list : List Offset) (m d : Offset) → IsAscending list → is_before (get_or list (length list - 1) d) m ≡ true → All (λ a. is_before a m ≡ true) list
after-all list m d ascending last =
    All-from_get_or (λ a. is_before a m ≡ true) list d (λ i below.
    ⊎_elim (λ e. rw e last)
    (λ ne. before-all (get_or list i d) (get_or list (length list - 1) d) m (ascending-at list i (length list - 1) d ascending (omega arith) (omega arith)) last)
    (cases_eq i (length list - 1)))

-- a row is a moved word, and comes after the one before it
abbrev pub GoesOn : List Offset → ℕ → Offset → Type 0
GoesOn rows at d = (0 < (get_or rows at d).by) × ((get_or rows at d).by < 2 ^ 64) × (is_lower_first (get_or rows at d).id ≡ true) × ((0 < at) → is_before (get_or rows (at - 1) d) (get_or rows at d) ≡ true)

before-here : (rows : List Offset) (at : ℕ) (d : Offset) → at < length rows → ((0 < at) → is_before (get_or rows (at - 1) d) (get_or rows at d) ≡ true) → IsAscending (take at rows)
    → All (λ a. is_before a (get_or rows at d) ≡ true) (take at rows)
before-here rows zero d below last ascending = All-nil (λ a. is_before a (get_or rows 0 d) ≡ true)
before-here rows (suc k) d below last ascending =
    let long : length (take (suc k) rows) ≡ suc k = length-take-le (suc k) rows (omega arith) in
    after-all (take (suc k) rows) (get_or rows (suc k) d) d ascending
    (subst (λ n. is_before (get_or (take (suc k) rows) (n - 1) d) (get_or rows (suc k) d) ≡ true) (sym long)
    (subst (λ n. is_before (get_or (take (suc k) rows) n d) (get_or rows (suc k) d) ≡ true) (omega arith)
    (subst (λ o. is_before o (get_or rows (suc k) d) ≡ true) (sym (get_or-take (suc k) rows k d (omega arith)))
    (subst (λ n. is_before (get_or rows n d) (get_or rows (suc k) d) ≡ true) (omega arith) (last (omega arith))))))

pub moves-more : (rows : List Offset) (at : ℕ) (d : Offset) → at < length rows → GoesOn rows at d → AreMoves (take at rows) → AreMoves (take (at + 1) rows)
moves-more rows at d below goes are =
    let m = get_or rows at d in
    rw (take_more rows at d below) (record {
      ascending = ascending-append (λ a. is_before a m ≡ true) (λ b. b ≡ m) (λ a b is e. rw e is) (take at rows) (m ∷ []) (before-here rows at d below goes.3 are.ascending)
          (All-cons (λ b. b ≡ m) m [] refl (All-nil (λ b. b ≡ m))) are.ascending (All-nil (λ later. is_before m later ≡ true), tt);
      nonzero = All-append (λ o. (0 < o.by) × (o.by < 2 ^ 64)) (take at rows) (m ∷ []) are.nonzero (All-cons (λ o. (0 < o.by) × (o.by < 2 ^ 64)) m [] (goes.0, goes.1) (All-nil (λ o. (0 < o.by) × (o.by < 2 ^ 64))));
      pairs = All-append (λ o. is_lower_first o.id ≡ true) (take at rows) (m ∷ []) are.pairs (All-cons (λ o. is_lower_first o.id ≡ true) m [] goes.2 (All-nil (λ o. is_lower_first o.id ≡ true)));
    })

pub moves-none : AreMoves []
moves-none = record {
  ascending = tt;
  nonzero = All-nil (λ o. (0 < o.by) × (o.by < 2 ^ 64));
  pairs = All-nil (λ o. is_lower_first o.id ≡ true);
}

pub moves-all : (rows : List Offset) (at : ℕ) → length rows ≤ at → AreMoves (take at rows) → AreMoves rows
moves-all rows at past are = subst AreMoves (take_all at rows past) are

-- a row of moved words in order is one, and comes after the one before it
pub moves-at : (rows : List Offset) (at : ℕ) (d : Offset) → at < length rows → AreMoves rows → GoesOn rows at d
moves-at rows at d below are = (
  (All-get_or (λ o. (0 < o.by) × (o.by < 2 ^ 64)) rows at d below are.nonzero).0,
  (All-get_or (λ o. (0 < o.by) × (o.by < 2 ^ 64)) rows at d below are.nonzero).1,
  All-get_or (λ o. is_lower_first o.id ≡ true) rows at d below are.pairs,
  λ above. ascending-at rows (at - 1) at d are.ascending (omega arith) below,
)

-- after the first row, where the row is a moved word
pub moves-after : (rows : List Offset) (at : ℕ) (m last d : Offset) (b : Bool) → at < length rows → m ≡ get_or rows at d → last ≡ get_or rows (at - 1) d → 0 < m.by → m.by < 2 ^ 64
    → is_lower_first m.id ≡ true → 0 < at → b ≡ is_before last m → MatchBool b (AreMoves (take at rows) → AreMoves (take (at + 1) rows)) (AreMoves rows → ⊥)
moves-after rows at m last d true below is before above small low past same =
    moves-more rows at d below (rw (← is) above, rw (← is) small, rw (← is) low, λ _. rw (← is, ← before) (sym same))
moves-after rows at m last d false below is before above small low past same =
    λ are. false≢true (same ∙ rw (is, before) ((moves-at rows at d below are).3 past))
