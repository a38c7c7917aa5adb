-- The words of a meter's keys, and its shares, in all registers at once.
use Rattle.std.proofs.Common.{◌≡◌, ◌∙◌, ℕ, zero, suc, ◌+◌, ◌^◌, ◌<◌, ◌≤◌, ◌==◌, Bool, true, false, not, nat_lt, if◌then◌else◌, IsTrue, List, [], ◌∷◌, ◌++◌, length, length-append, append_assoc, drop, map, get_or, sum_by, Option, Some, None, refl, sym, ap, subst, arith}
use Rattle.std.specs.List.{filter, list_all, range_with_len}
use Rattle.std.specs.Prelude.{slice_index, slice_index_or}
use Rattle.std.proofs.lemmas.Bool.{and_parts}
use Rattle.std.proofs.lemmas.Bool.Decides.{nat_tests}
use Rattle.std.proofs.lemmas.List.{append-nil, length-map}
use Rattle.std.proofs.lemmas.List.FromFn.{get_or-map-range_with_len, length-range_with_len}
use Rattle.std.proofs.lemmas.List.Sums.{length-filter, count_by-le-length, sum_by-cons}
use Rattle.missing_round.specs.Sets.{IsSet, is_member}
use Rattle.missing_round.specs.Words.{word, minus, share, answer_word}
use Rattle.missing_round.proofs.SetLemmas.{picked-set}
use Rattle.group_plan.specs.Plans.{PlanView}
use Rattle.pair_keys.specs.Keys.{Keys}
use Rattle.pair_keys.specs.declared.KeyId.TheVariants.{Own, Pair}
use Rattle.chacha_lanes.proofs.WordBounds.{word_of_block_small}
use Rattle.register_words.specs.Blocks.{BatchView, is_end, made_with, pair_of}
use Rattle.register_words.specs.Words.{register_streams, word_of, words_of}

-- ---- words

pub word_small : (key : Option (List ℕ)) (round k : ℕ) → word_of key round k < 2 ^ 64
word_small None round k = omega arith
word_small (Some key) round k = word_of_block_small key round k

pub words_at : (key : Option (List ℕ)) (round k : ℕ) → k < 8 → get_or (words_of key round) k 0 ≡ word_of key round k
words_at key round k lt = get_or-map-range_with_len (word_of key round) 0 8 k k 0 lt (omega arith)

-- ---- the keys of a row

-- the meters that are left, and the words so far: those that are made, and those of the keys that wait
pub record Made (is_other : ℕ → Bool) (f : ℕ → List ℕ) (start : List (List ℕ)) (all left : List ℕ) (made : List (List ℕ)) : Type 0 where
  pub ends : IsTrue (list_all is_other left)
  pub blocks : made ++ map f left ≡ start ++ map f all
  pub few : length made + length left ≤ 257

few_of : (n : ℕ) (p : ℕ → Bool) (xs : List ℕ) → filter p (range_with_len 0 n) ≡ xs → length xs ≤ n
few_of n p xs e =
    omega (arith, ap length e, length-filter p (range_with_len 0 n), count_by-le-length p (range_with_len 0 n), length-range_with_len 0 n)

-- a set has at most 256 members
pub few : (xs : List ℕ) → IsSet xs → length xs ≤ 256
few xs h = few_of 256 (λ i. is_member i xs) xs (picked-set xs h)

-- no meter's words are added yet
pub made_begins : (is_other : ℕ → Bool) (f : ℕ → List ℕ) (start : List (List ℕ)) (all left : List ℕ) → left ≡ all → IsSet all → IsTrue (list_all is_other all) → length start ≤ 1
    → Made is_other f start all left start
made_begins is_other f start all left e is_set ends short =
    subst (λ (l : List ℕ). Made is_other f start all l start) (sym e) (record { ends = ends; blocks = refl; few = (let small = few all is_set in omega (arith, small, short)) })

-- nothing is made where no key waits
pub none_made : (batch : BatchView) (blocks : List (List ℕ)) (round : ℕ) → batch ≡ record { round = round; keys = [] } → blocks ≡ [] → made_with batch blocks ≡ []
none_made batch blocks round b e = rw (b, e) refl

-- few keys wait
pub few_made : (batch : BatchView) (blocks : List (List ℕ)) → length blocks + length batch.keys ≤ 1 → length (made_with batch blocks) ≤ 1
few_made batch blocks few =
    omega (arith, few, length-append blocks (map (λ key. words_of (Some key) batch.round) batch.keys), length-map batch.keys (λ key. words_of (Some key) batch.round))

-- those of the next one are added
pub made_next : (is_other : ℕ → Bool) (f : ℕ → List ℕ) (start : List (List ℕ)) (all left rest : List ℕ) (made next : List (List ℕ)) (x : ℕ)
    → Made is_other f start all left made → left ≡ x ∷ rest → next ≡ made ++ f x ∷ [] → Made is_other f start all rest next
made_next is_other f start all left rest made next x now e n =
    let long = length-append made (f x ∷ []) in
    let all_long = now.few in
    record {
      ends = (and_parts (is_other x) (list_all is_other rest) (subst (λ (l : List ℕ). IsTrue (list_all is_other l)) e now.ends)).1;
      blocks = ap (λ l. l ++ map f rest) n ∙ append_assoc made (f x ∷ []) (map f rest) ∙ sym (ap (λ l. made ++ map f l) e) ∙ now.blocks;
      few = omega (arith, ap length n, long, all_long, ap length e);
    }

-- the next meter is one of the others
pub made_end : (is_other : ℕ → Bool) (f : ℕ → List ℕ) (start : List (List ℕ)) (all left rest : List ℕ) (made : List (List ℕ)) (x : ℕ)
    → Made is_other f start all left made → left ≡ x ∷ rest → IsTrue (is_other x)
made_end is_other f start all left rest made x now e = (and_parts (is_other x) (list_all is_other rest) (subst (λ (l : List ℕ). IsTrue (list_all is_other l)) e now.ends)).0

-- there is room for the next one
pub made_room : (is_other : ℕ → Bool) (f : ℕ → List ℕ) (start : List (List ℕ)) (all left rest : List ℕ) (batch : BatchView) (blocks : List (List ℕ)) (x : ℕ)
    → Made is_other f start all left (made_with batch blocks) → left ≡ x ∷ rest → length blocks + length batch.keys < 257
made_room is_other f start all left rest batch blocks x now e =
    let all_long = now.few in
    omega (arith, all_long, ap length e, length-append blocks (map (λ key. words_of (Some key) batch.round) batch.keys), length-map batch.keys (λ key. words_of (Some key) batch.round))

-- no meter is left: all are added
pub made_ends : (is_other : ℕ → Bool) (f : ℕ → List ℕ) (start : List (List ℕ)) (all left : List ℕ) (made : List (List ℕ)) → Made is_other f start all left made → left ≡ [] → made ≡ start ++ map f all
made_ends is_other f start all left made now e = sym (append-nil made) ∙ ap (λ l. made ++ map f l) (sym e) ∙ now.blocks

-- and there was room for them
pub made_fit : (is_other : ℕ → Bool) (f : ℕ → List ℕ) (start : List (List ℕ)) (all left : List ℕ) (batch : BatchView) (blocks : List (List ℕ))
    → Made is_other f start all left (made_with batch blocks) → length blocks + length batch.keys ≤ 257
made_fit is_other f start all left batch blocks now =
    let all_long = now.few in
    omega (arith, all_long, length-append blocks (map (λ key. words_of (Some key) batch.round) batch.keys), length-map batch.keys (λ key. words_of (Some key) batch.round))

-- ---- shares

-- the meters that are left, the words of their keys, and the sums so far
pub record Sums (keys : Keys) (g r i : ℕ) (all left : List ℕ) (blocks : List (List ℕ)) (total : List ℕ) : Type 0 where
  pub ends : IsTrue (list_all (is_end keys.plan g i) left)
  pub of_left : blocks ≡ map (λ j. words_of (keys.key (pair_of g i j)) r) left
  pub small : (k : ℕ) → k < 8 → slice_index total k < 2 ^ 64
  pub sums : (k : ℕ) → k < 8 →
      word (slice_index total k + sum_by (share ((register_streams k keys).pair g r) i) left) ≡ answer_word ((register_streams k keys).own g r) ((register_streams k keys).pair g r) i all

pub sums_begin : (keys : Keys) (g r i : ℕ) (all left : List ℕ) (blocks : List (List ℕ)) (total : List ℕ) → left ≡ all → IsTrue (list_all (is_end keys.plan g i) all)
    → blocks ≡ words_of (keys.key (Own g i)) r ∷ map (λ j. words_of (keys.key (pair_of g i j)) r) all → total ≡ slice_index_or blocks 0 []
    → Sums keys g r i all left (drop 1 blocks) total
sums_begin keys g r i all left blocks total e ends made first =
    let own : total ≡ words_of (keys.key (Own g i)) r = first ∙ ap (λ (l : List (List ℕ)). slice_index_or l 0 []) made in
    let at : (k : ℕ) → k < 8 → slice_index total k ≡ word_of (keys.key (Own g i)) r k = λ k lt. ap (λ (l : List ℕ). slice_index l k) own ∙ words_at (keys.key (Own g i)) r k lt in
    subst (λ (l : List ℕ). Sums keys g r i all l (drop 1 blocks) total) (sym e) (record {
      ends = ends;
      of_left = ap (drop 1) made;
      small = λ k lt. subst (λ n. n < 2 ^ 64) (sym (at k lt)) (word_small (keys.key (Own g i)) r k);
      sums = λ k lt. ap (λ n. word (n + sum_by (share ((register_streams k keys).pair g r) i) all)) (at k lt);
    })

-- the words of a pair, whichever is the lower
pair_word : (keys : Keys) (g r i j k : ℕ) → word_of (keys.key (pair_of g i j)) r k ≡ (if nat_lt i j then (register_streams k keys).pair g r i j else (register_streams k keys).pair g r j i)
pair_word keys g r i j k = by (nat_lt i j)
  where
    by : (b : Bool) → word_of (keys.key (if b then Pair g i j else Pair g j i)) r k ≡ (if b then word_of (keys.key (Pair g i j)) r k else word_of (keys.key (Pair g j i)) r k)
    by true = refl
    by false = refl

added : (total w rest next : ℕ) → next ≡ word (total + w) → word (next + rest) ≡ word (total + (w + rest))
added total w rest next n = omega (arith, n)

share_step : (pair : ℕ → ℕ → ℕ) (i j total w next rest : ℕ) → (j == i) ≡ false → w ≡ (if nat_lt i j then pair i j else pair j i)
    → next ≡ (if nat_lt i j then word (total + w) else word (total + minus w)) → word (next + rest) ≡ word (total + (share pair i j + rest))
share_step pair i j total w next rest apart is n = by (nat_lt i j) refl (nat_lt j i) refl
  where
    by : (a : Bool) → nat_lt i j ≡ a → (b : Bool) → nat_lt j i ≡ b → word (next + rest) ≡ word (total + (share pair i j + rest))
    by true e b f =
        let same : next ≡ word (total + w) = rw e at n in
        let value : w ≡ pair i j = rw e at is in
        rw e (added total (pair i j) rest next (same ∙ ap (λ m. word (total + m)) value))
    by false e true f =
        let same : next ≡ word (total + minus w) = rw e at n in
        let value : w ≡ pair j i = rw e at is in
        rw (e, f) (added total (minus (pair j i)) rest next (same ∙ ap (λ m. word (total + minus m)) value))
    by false e false f = absurd (let equal : j ≡ i = grind (arith, nat_tests, e, f) in grind (arith, nat_tests, equal, apart))

not_same : (b : Bool) → not b ≡ true → b ≡ false
not_same true h = cc h
not_same false h = refl

pub next_block : (blocks : List (List ℕ)) (place : ℕ) (x : List ℕ) (xs : List (List ℕ)) (d : List ℕ) → drop place blocks ≡ x ∷ xs → (place < length blocks) × (get_or blocks place d ≡ x) × (drop (place + 1) blocks ≡ xs)
next_block [] zero x xs d e = absurd (omega (arith, ap length e))
next_block [] (suc place) x xs d e = absurd (omega (arith, ap length e))
next_block (y ∷ ys) zero x xs d e = (omega arith, ap (λ (l : List (List ℕ)). get_or l 0 d) e, ap (drop 1) e)
next_block (y ∷ ys) (suc place) x xs d e =
    let r = next_block ys place x xs d e in
    let next : suc place + 1 ≡ suc (place + 1) = omega arith in
    let within = r.0 in
    (omega (arith, within), r.1, ap (λ n. drop n (y ∷ ys)) next ∙ r.2)

-- what is known of the next words
pub block_head : (keys : Keys) (g r i j place : ℕ) (all left rest : List ℕ) (blocks : List (List ℕ)) (total d : List ℕ) → Sums keys g r i all left (drop place blocks) total → left ≡ j ∷ rest
    → (place < length blocks) × (get_or blocks place d ≡ words_of (keys.key (pair_of g i j)) r) × (drop (place + 1) blocks ≡ map (λ j. words_of (keys.key (pair_of g i j)) r) rest)
block_head keys g r i j place all left rest blocks total d sums e =
    next_block blocks place (words_of (keys.key (pair_of g i j)) r) (map (λ j. words_of (keys.key (pair_of g i j)) r) rest) d (sums.of_left ∙ ap (map (λ j. words_of (keys.key (pair_of g i j)) r)) e)

-- what is known of the next meter
pub end_head : (plan : PlanView) (g i j : ℕ) (left rest : List ℕ) → IsTrue (list_all (is_end plan g i) left) → left ≡ j ∷ rest → IsTrue (is_end plan g i j) × IsTrue (list_all (is_end plan g i) rest)
end_head plan g i j left rest ends e = and_parts (is_end plan g i j) (list_all (is_end plan g i) rest) (subst (λ (l : List ℕ). IsTrue (list_all (is_end plan g i) l)) e ends)

-- the share of one meter more is added
pub sums_next : (keys : Keys) (g r i j place : ℕ) (all left rest : List ℕ) (blocks : List (List ℕ)) (total next : List ℕ) → Sums keys g r i all left (drop place blocks) total → left ≡ j ∷ rest
    → ((k : ℕ) → k < 8 → slice_index next k ≡ (if nat_lt i j then word (slice_index total k + slice_index (slice_index_or blocks place []) k) else word (slice_index total k + minus (slice_index (slice_index_or blocks place []) k))))
    → Sums keys g r i all rest (drop (place + 1) blocks) next
sums_next keys g r i j place all left rest blocks total next sums e step =
    let words = slice_index_or blocks place [] in
    let head = block_head keys g r i j place all left rest blocks total [] sums e in
    let end = end_head keys.plan g i j left rest sums.ends e in
    let apart : (j == i) ≡ false = not_same (j == i) (and_parts _ (not (j == i)) end.0).1 in
    record {
      ends = end.1;
      of_left = head.2;
      small = λ k lt. small_next (nat_lt i j) (slice_index total k) (slice_index words k) (slice_index next k) (step k lt);
      sums = λ k lt.
          let pair = (register_streams k keys).pair g r in
          let value : slice_index words k ≡ (if nat_lt i j then pair i j else pair j i) =
          ap (λ (l : List ℕ). slice_index l k) head.1 ∙ words_at (keys.key (pair_of g i j)) r k lt ∙ pair_word keys g r i j k in
          share_step pair i j (slice_index total k) (slice_index words k) (slice_index next k) (sum_by (share pair i) rest) apart value (step k lt)
          ∙ ap (λ n. word (slice_index total k + n)) (sym (sum_by-cons (share pair i) j rest))
          ∙ ap (λ (l : List ℕ). word (slice_index total k + sum_by (share pair i) l)) (sym e) ∙ sums.sums k lt;
    }
  where
    small_next : (b : Bool) (t w n : ℕ) → n ≡ (if b then word (t + w) else word (t + minus w)) → n < 2 ^ 64
    small_next true t w n h = omega (arith, h)
    small_next false t w n h = omega (arith, h)

-- no meter is left
pub sums_end : (keys : Keys) (g r i : ℕ) (all left : List ℕ) (blocks : List (List ℕ)) (total : List ℕ) → Sums keys g r i all left blocks total → left ≡ [] → (k : ℕ) → k < 8
    → slice_index total k ≡ answer_word ((register_streams k keys).own g r) ((register_streams k keys).pair g r) i all
sums_end keys g r i all left blocks total sums e k lt =
    let small = sums.small k lt in
    let whole : word (slice_index total k + 0) ≡ slice_index total k = omega (arith, small) in
    sym whole ∙ ap (λ (l : List ℕ). word (slice_index total k + sum_by (share ((register_streams k keys).pair g r) i) l)) (sym e) ∙ sums.sums k lt
