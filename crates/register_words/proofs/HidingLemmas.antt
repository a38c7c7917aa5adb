-- What hides the readings of a group, in all registers at once.
use Rattle.std.proofs.Common.{◌≡◌, ◌∙◌, ℕ, suc, ◌+◌, ◌<◌, ◌&&◌, Bool, true, false, nat_lt, if◌then◌else◌, IsTrue, List, [], ◌∷◌, length, drop, map, get_or, sum_by, refl, sym, ap, subst, arith}
use mathlib.Core.Path.{fun_ext}
use Rattle.std.specs.List.{list_all}
use Rattle.std.specs.Prelude.{slice_index}
use Rattle.std.proofs.lemmas.Bool.{and_parts, lt-ltb, ltb-true}
use Rattle.std.proofs.lemmas.Bool.Decides.{nat_tests}
use Rattle.group_plan.specs.Plans.{PlanView, is_member, is_place, members, size}
use Rattle.missing_round.specs.Words.{word, minus, reading_word, share}
use Rattle.pair_keys.specs.Keys.{Keys}
use Rattle.pair_keys.specs.declared.KeyId.TheVariants.{Own, Pair}
use Rattle.blind_core.specs.Blind.{are_places}
use Rattle.blind_core.specs.Rows.{is_higher}
use Rattle.blind_core.proofs.RowLoop.{Rows}
use Rattle.register_words.specs.Blocks.{is_end, pair_of}
use Rattle.register_words.specs.Hidden.{own_words, pair_words}
use Rattle.register_words.specs.Words.{register_streams, word_of, words_of}
use Rattle.register_words.proofs.ShareLoops.{next_block, words_at}
use Rattle.register_words.proofs.SideLemmas.{within_range}

-- ---- a row of blocks

-- the meters that are left of a row, and their blocks
pub record Row (n : ℕ) (all left : List ℕ) (blocks rest : List (List ℕ)) : Type 0 where
  pub within : IsTrue (list_all (λ j. nat_lt j n) left)
  pub long : length rest ≡ length left
  pub of_left : (f : ℕ → List ℕ) → blocks ≡ map f all → rest ≡ map f left

pub row_begins : (n : ℕ) (all left : List ℕ) (blocks : List (List ℕ)) → left ≡ all → IsTrue (list_all (λ j. nat_lt j n) all) → length blocks ≡ length all → Row n all left blocks blocks
row_begins n all left blocks e within long =
    subst (λ (l : List ℕ). Row n all l blocks blocks) (sym e) (record { within = within; long = long; of_left = λ f are. are })

some_block : (rest : List (List ℕ)) (n : ℕ) → length rest ≡ suc n → (d : List ℕ) → (x : List ℕ) × (xs : List (List ℕ)) × (rest ≡ x ∷ xs)
some_block [] n e d = absurd (omega (arith, e))
some_block (x ∷ xs) n e d = (x, xs, refl)

-- the next block is there, and is that of the next meter
pub row_head : (n : ℕ) (all left rest : List ℕ) (blocks : List (List ℕ)) (place x : ℕ) → Row n all left blocks (drop place blocks) → left ≡ x ∷ rest
    → (place < length blocks) × (x < n) × ((f : ℕ → List ℕ) → blocks ≡ map f all → get_or blocks place [] ≡ f x) × Row n all rest blocks (drop (place + 1) blocks)
row_head n all left rest blocks place x row e =
    let both = and_parts (nat_lt x n) (list_all (λ j. nat_lt j n) rest) (subst (λ (l : List ℕ). IsTrue (list_all (λ j. nat_lt j n) l)) e row.within) in
    let some = some_block (drop place blocks) (length rest) (row.long ∙ ap length e) [] in
    let next = next_block blocks place some.0 some.1 [] some.2 in (
      next.0,
      ltb-true x n both.0,
      (λ f are. (next_block blocks place (f x) (map f rest) [] (row.of_left f are ∙ ap (map f) e)).1),
      record {
        within = both.1;
        long = (let a = ap length some.2 in let b = ap length next.2 in let c = row.long in let d = ap length e in omega (arith, a, b, c, d));
        of_left = λ f are. (next_block blocks place (f x) (map f rest) [] (row.of_left f are ∙ ap (map f) e)).2;
      },
    )

-- ---- pairs

-- a higher meter is the other end of a pair
higher_end : (plan : PlanView) (g r n i j : ℕ) → IsTrue (is_higher plan g r n i j) → IsTrue (is_end plan g i j) × IsTrue (nat_lt j n)
higher_end plan g r n i j h =
    let p = and_parts (nat_lt i j && is_place plan g r j) (nat_lt j n) h in
    let q = and_parts (nat_lt i j) (is_place plan g r j) p.0 in
    let s = and_parts (nat_lt r plan.rounds) (nat_lt j (size plan.groups g)) q.1 in
    (grind (arith, nat_tests, q.0, s.1), p.1)

pub higher_ends : (plan : PlanView) (g r n i : ℕ) (others : List ℕ) → IsTrue (list_all (is_higher plan g r n i) others) → IsTrue (list_all (is_end plan g i) others) × IsTrue (list_all (λ j. nat_lt j n) others)
higher_ends plan g r n i [] h = (refl, refl)
higher_ends plan g r n i (j ∷ others) h =
    let both = and_parts (is_higher plan g r n i j) (list_all (is_higher plan g r n i) others) h in
    let here = higher_end plan g r n i j both.0 in
    let rest = higher_ends plan g r n i others both.1 in
    let a : list_all (is_end plan g i) (j ∷ others) ≡ true = rw here.0 rest.0 in
    let b : list_all (λ k. nat_lt k n) (j ∷ others) ≡ true = rw here.1 rest.1 in
    (a, b)

-- the words of a register in the blocks of pairs, and in the blocks of own keys
pub pair_at : (keys : Keys) (g r i k : ℕ) → k < 8 → (λ j. slice_index (words_of (keys.key (pair_of g i j)) r) k) ≡ pair_words keys g r k i
pair_at keys g r i k lt = fun_ext (λ j. words_at (keys.key (pair_of g i j)) r k lt)

pub own_at : (keys : Keys) (g r k : ℕ) → k < 8 → (λ i. slice_index (words_of (keys.key (Own g i)) r) k) ≡ own_words keys g r k
own_at keys g r k lt = fun_ext (λ i. words_at (keys.key (Own g i)) r k lt)

-- the shares are those of the mask table
share_at : (keys : Keys) (g r k i j : ℕ) → share (pair_words keys g r k) i j ≡ share ((register_streams k keys).pair g r) i j
share_at keys g r k i j = by (nat_lt i j) (nat_lt j i)
  where
    by : (a b : Bool)
        → (if a then word_of (keys.key (if a then Pair g i j else Pair g j i)) r k else if b then minus (word_of (keys.key (if b then Pair g j i else Pair g i j)) r k) else 0)
        ≡ (if a then word_of (keys.key (Pair g i j)) r k else if b then minus (word_of (keys.key (Pair g j i)) r k) else 0)
    by true b = refl
    by false true = refl
    by false false = refl

pub shares_at : (keys : Keys) (g r k i : ℕ) (members : List ℕ) → sum_by (share (pair_words keys g r k) i) members ≡ sum_by (share ((register_streams k keys).pair g r) i) members
shares_at keys g r k i members = ap (λ f. sum_by f members) (fun_ext (λ j. share_at keys g r k i j))

-- ---- the loops

-- the next member has a place
pub next_place : (plan : PlanView) (g r : ℕ) (pair : ℕ → ℕ → ℕ) (all sums left now higher : List ℕ) (i : ℕ) (rest : List ℕ) → Rows plan g r pair all sums left now higher → left ≡ i ∷ rest → i < size plan.groups g
next_place plan g r pair all sums left now higher i rest rows e =
    let places = and_parts (is_place plan g r i) (are_places plan g r rest) (subst (λ (l : List ℕ). IsTrue (are_places plan g r l)) e rows.places) in
    ltb-true i (size plan.groups g) (and_parts (nat_lt r plan.rounds) (nat_lt i (size plan.groups g)) places.0).1

-- ---- the words of readings

places_from : (plan : PlanView) (g r : ℕ) (xs : List ℕ) → r < plan.rounds → list_all (λ j. nat_lt j (size plan.groups g)) xs ≡ true → IsTrue (are_places plan g r xs)
places_from plan g r [] lt h = refl
places_from plan g r (x ∷ xs) lt h =
    let both = and_parts (nat_lt x (size plan.groups g)) (list_all (λ j. nat_lt j (size plan.groups g)) xs) h in
    let round : nat_lt r plan.rounds ≡ true = lt-ltb r plan.rounds lt in
    let rest : are_places plan g r xs ≡ true = places_from plan g r xs lt both.1 in
    let all : are_places plan g r (x ∷ xs) ≡ true = rw (round, both.0, rest) refl in
    all

-- the members of a round have places
pub members_places : (plan : PlanView) (g r : ℕ) (xs : List ℕ) → xs ≡ members plan.groups g r → r < plan.rounds → IsTrue (are_places plan g r xs)
members_places plan g r xs e lt =
    subst (λ (l : List ℕ). IsTrue (are_places plan g r l)) (sym e)
    (places_from plan g r (members plan.groups g r) lt (within_range (size plan.groups g) (is_member plan.groups g r) 0 (size plan.groups g) (omega arith)))

sum_hidden : (s own shares x : ℕ) → word s ≡ word (own + shares) → word (s + x) ≡ word (x + own + shares)
sum_hidden s own shares x e = omega (arith, e)

-- what hides a reading, and the reading, are its reading word
pub hidden_is : (keys : Keys) (g r i k : ℕ) (meters : List ℕ) (s x : ℕ) → word s ≡ word (own_words keys g r k i + sum_by (share (pair_words keys g r k) i) meters)
    → word (s + x) ≡ reading_word ((register_streams k keys).own g r) ((register_streams k keys).pair g r) meters i x
hidden_is keys g r i k meters s x e =
    sum_hidden s (own_words keys g r k i) (sum_by (share (pair_words keys g r k) i) meters) x e
    ∙ ap (λ n. word (x + own_words keys g r k i + n)) (shares_at keys g r k i meters)
