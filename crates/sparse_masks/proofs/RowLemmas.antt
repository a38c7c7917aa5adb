-- The neighbours among some meters, and the row of words in which each other word is 0.
use Rattle.std.proofs.Common.{◌≡◌, ℕ, ◌+◌, ◌-◌, ◌<◌, ◌≤◌, Bool, true, false, not, ◌&&◌, ◌||◌, List, [], ◌∷◌, ◌++◌, length, map, get_or, drop, cond, refl, sym, ap, ◌∙◌, subst, arith, ⊎_elim}
use Rattle.std.specs.Prelude.{◌==◌, nat_lt, if◌then◌else◌}
use Rattle.std.specs.List.{filter, list_all, range_with_len}
use mathlib.Core.Path.{fun_ext}
use Rattle.std.proofs.lemmas.Bool.{false≢true, cases_eq, ne_eqb, eq-eqb, eqb-true, or_right, and_parts, and_from}
use Rattle.std.proofs.lemmas.List.Sums.{length-filter, count_by-le-length}
use Rattle.std.proofs.lemmas.List.{drop_more, length-drop, length_push}
use Rattle.std.proofs.lemmas.List.FromFn.{length-range_with_len}
use Rattle.missing_round.specs.Sets.{IsSet, is_member, without}
use Rattle.missing_round.proofs.SetLemmas.{is_member-filter, picked-set, same_filter}
use Rattle.mask_stream.specs.Ends.{between}
use Rattle.ideal_masks.proofs.SiftLemmas.{outside-filter}
use Rattle.mask_graphs.proofs.ListFacts.{Distinct, member_head, member_later}
use Rattle.mask_graphs.proofs.KeptLemmas.{members-distinct}
use Rattle.sparse_masks.specs.Neighbours.{are_neighbours}
use Rattle.sparse_masks.proofs.WorldLemmas.{neighbours-back}

pub set-distinct : (xs : List ℕ) → IsSet xs → Distinct xs
set-distinct xs is =
    members-distinct (record { members = xs; masked = λ i j. false; answered = λ i. false; stands = λ i j. false })
    (record { ascending = is.ascending; answered = λ i h. absurd (false≢true h); stands = λ i j h. absurd (false≢true h); masked = λ i j. refl })

-- ---- the meters that pass a test, where the others are dropped one by one

pub record Sifted (test : ℕ → Bool) (all left kept : List ℕ) : Type 0 where
  pub distinct : Distinct left
  pub are : kept ≡ filter (λ j. test j || is_member j left) all

pub sift_begins : (test : ℕ → Bool) (all left kept : List ℕ) → left ≡ all → kept ≡ all → IsSet all → Sifted test all left kept
sift_begins test all left kept same from is = record {
  distinct = subst Distinct (sym same) (set-distinct all is);
  are = from ∙ sym (all_in all) ∙ same_filter (λ j. true) (λ j. test j || is_member j left) all (λ j within. sym (or_right (test j) (is_member j left) (ap (is_member j) same ∙ within)));
}
  where
    all_in : (xs : List ℕ) → filter (λ (j : ℕ). true) xs ≡ xs
    all_in [] = refl
    all_in (x ∷ xs) = ap (λ l. x ∷ l) (all_in xs)

pub sift_keeps : (test : ℕ → Bool) (all left rest kept : List ℕ) (x : ℕ) → left ≡ x ∷ rest → test x ≡ true → Sifted test all left kept → Sifted test all rest kept
sift_keeps test all left rest kept x is passes before =
    let one : Distinct (x ∷ rest) = subst Distinct is before.distinct in
    record {
      distinct = one.1;
      are = before.are ∙ ap (λ f. filter f all) (fun_ext (λ j. ap (λ l. test j || is_member j l) is ∙ step j (x == j) refl));
    }
  where
    step : (j : ℕ) (b : Bool) → (x == j) ≡ b → (test j || (b || is_member j rest)) ≡ (test j || is_member j rest)
    step j false e = refl
    step j true e = let same : test j ≡ true = ap test (sym (eqb-true x j e)) ∙ passes in ap (λ c. c || true) same ∙ sym (ap (λ c. c || is_member j rest) same)

pub sift_drops : (test : ℕ → Bool) (all left rest kept new : List ℕ) (x : ℕ) → left ≡ x ∷ rest → test x ≡ false → new ≡ without x kept → Sifted test all left kept → Sifted test all rest new
sift_drops test all left rest kept new x is fails now before =
    let one : Distinct (x ∷ rest) = subst Distinct is before.distinct in
    record {
      distinct = one.1;
      are =
          now ∙ ap (without x) before.are
          ∙ outside-filter (λ j. j == x) (λ j. test j || is_member j left) all
          ∙ ap (λ f. filter f all) (fun_ext (λ j. ap (λ l. not (j == x) && (test j || is_member j l)) is ∙ step one.0 j));
    }
  where
    step : is_member x rest ≡ false → (j : ℕ) → (not (j == x) && (test j || ((x == j) || is_member j rest))) ≡ (test j || is_member j rest)
    step out j = ⊎_elim
        (λ e.
        ap (λ b. not b && (test j || ((x == j) || is_member j rest))) (eq-eqb j x e)
        ∙ sym (ap test e ∙ fails)
        ∙ sym (or-false (test j))
        ∙ ap (λ b. test j || b) (sym (ap (λ k. is_member k rest) e ∙ out)))
        (λ ne.
        ap (λ b. not b && (test j || ((x == j) || is_member j rest))) (ne_eqb j x ne)
        ∙ ap (λ b. test j || (b || is_member j rest)) (ne_eqb x j (λ e. ne (sym e))))
        (cases_eq j x)
      where
        or-false : (b : Bool) → (b || false) ≡ b
        or-false true = refl
        or-false false = refl

pub sift_ends : (test : ℕ → Bool) (all left kept : List ℕ) → left ≡ [] → Sifted test all left kept → kept ≡ filter test all
sift_ends test all left kept none is = is.are ∙ ap (λ f. filter f all) (fun_ext (λ j. ap (λ l. test j || is_member j l) none ∙ or-false (test j)))
  where
    or-false : (b : Bool) → (b || false) ≡ b
    or-false true = refl
    or-false false = refl

-- ---- the row

-- the word of each that passes, and 0 of each other
abbrev pub spread_word : (ℕ → Bool) → (ℕ → ℕ) → ℕ → ℕ
spread_word p f j = if p j then f j else 0

-- the words so far, the meters that are left, and the words for them
pub record Spread (p : ℕ → Bool) (f : ℕ → ℕ) (all left words made : List ℕ) : Type 0 where
  pub within : (j : ℕ) → is_member j left ≡ true → is_member j all ≡ true
  pub of_left : words ≡ map f (filter p left)
  pub so_far : made ++ map (spread_word p f) left ≡ map (spread_word p f) all
  pub few : length made + length left ≤ 256

few_of : (n : ℕ) (p : ℕ → Bool) (xs : List ℕ) → filter p (range_with_len 0 n) ≡ xs → length xs ≤ n
few_of n p xs e = omega (arith, ap length e, length-filter p (range_with_len 0 n), count_by-le-length p (range_with_len 0 n), length-range_with_len 0 n)

pub spread_begins : (p : ℕ → Bool) (f : ℕ → ℕ) (all left words made : List ℕ) → left ≡ all → made ≡ [] → words ≡ map f (filter p all) → IsSet all → Spread p f all left words made
spread_begins p f all left words made e none of_all is =
    subst (λ (l : List ℕ). Spread p f all l words made) (sym e)
    (subst (λ (m : List ℕ). Spread p f all all words m) (sym none)
    (record { within = λ j h. h; of_left = of_all; so_far = refl; few = omega (arith, few_of 256 (λ i. is_member i all) all (picked-set all is)) }))

-- the next word of a row
pub record Next (row : List ℕ) (place word : ℕ) (rest : List ℕ) : Type 0 where
  pub within : place < length row
  pub is : get_or row place 0 ≡ word
  pub after : drop (place + 1) row ≡ rest

pub next_word : (row : List ℕ) (place word : ℕ) (rest : List ℕ) → drop place row ≡ word ∷ rest → Next row place word rest
next_word row place word rest e =
    let long : length row - place ≡ length (word ∷ rest) = sym (length-drop place row) ∙ ap length e in
    let within : place < length row = omega (arith, long) in
    let both : get_or row place 0 ∷ drop (place + 1) row ≡ word ∷ rest = sym (drop_more row place 0 within) ∙ e in
    record { within = within; is = cc both; after = cc both }

-- a neighbour is next, and its word
pub spread_next : (p : ℕ → Bool) (f : ℕ → ℕ) (all left rest row made : List ℕ) (place x : ℕ) → left ≡ x ∷ rest → p x ≡ true → Spread p f all left (drop place row) made
    → Next row place (f x) (map f (filter p rest))
spread_next p f all left rest row made place x is passes before =
    next_word row place (f x) (map f (filter p rest)) (before.of_left ∙ ap (λ l. map f (filter p l)) is ∙ ap (λ b. map f (cond b (x ∷ filter p rest) (filter p rest))) passes)

push_more : (made rest : List ℕ) (v : ℕ) → (made ++ v ∷ []) ++ rest ≡ made ++ (v ∷ rest)
push_more [] rest v = refl
push_more (y ∷ made) rest v = ap (λ l. y ∷ l) (push_more made rest v)

pub spread_takes : (p : ℕ → Bool) (f : ℕ → ℕ) (all left rest row made : List ℕ) (place x v : ℕ) → left ≡ x ∷ rest → p x ≡ true → v ≡ get_or row place 0 → Spread p f all left (drop place row) made
    → Spread p f all rest (drop (place + 1) row) (made ++ v ∷ [])
spread_takes p f all left rest row made place x v is passes read before =
    let n = spread_next p f all left rest row made place x is passes before in
    let few = before.few in
    let one : length left ≡ length (x ∷ rest) = ap length is in
    record {
      within = λ j h. before.within j (ap (is_member j) is ∙ member_later j x rest h);
      of_left = n.after;
      so_far =
          push_more made (map (spread_word p f) rest) v
          ∙ ap (λ z. made ++ (z ∷ map (spread_word p f) rest)) (read ∙ n.is ∙ sym (ap (λ b. if b then f x else 0) passes))
          ∙ sym (ap (λ l. made ++ map (spread_word p f) l) is)
          ∙ before.so_far;
      few = omega (arith, few, one, length_push made v);
    }

pub spread_skips : (p : ℕ → Bool) (f : ℕ → ℕ) (all left rest words made : List ℕ) (x : ℕ) → left ≡ x ∷ rest → p x ≡ false → Spread p f all left words made
    → Spread p f all rest words (made ++ 0 ∷ [])
spread_skips p f all left rest words made x is fails before =
    let few = before.few in
    let one : length left ≡ length (x ∷ rest) = ap length is in
    record {
      within = λ j h. before.within j (ap (is_member j) is ∙ member_later j x rest h);
      of_left = before.of_left ∙ ap (λ l. map f (filter p l)) is ∙ ap (λ b. map f (cond b (x ∷ filter p rest) (filter p rest))) fails;
      so_far =
          push_more made (map (spread_word p f) rest) 0
          ∙ ap (λ z. made ++ (z ∷ map (spread_word p f) rest)) (sym (ap (λ b. if b then f x else 0) fails))
          ∙ sym (ap (λ l. made ++ map (spread_word p f) l) is)
          ∙ before.so_far;
      few = omega (arith, few, one, length_push made 0);
    }

-- whether a meter that is left is one of the neighbours
pub spread_test : (p : ℕ → Bool) (f : ℕ → ℕ) (all left rest words made near : List ℕ) (x : ℕ) (b : Bool) → left ≡ x ∷ rest → near ≡ filter p all → b ≡ is_member x near → Spread p f all left words made → p x ≡ b
spread_test p f all left rest words made near x b is near_is b_is before =
    sym (b_is ∙ ap (is_member x) near_is ∙ is_member-filter p x all ∙ ap (λ c. c && p x) (before.within x (ap (is_member x) is ∙ member_head x rest)))

-- the word of a meter with another one on the ring
pub between-ring : (w n : ℕ) (pair : ℕ → ℕ → ℕ) (i : ℕ)
    → spread_word (are_neighbours w n i) (between pair i) ≡ between (λ a b. if are_neighbours w n a b then pair a b else 0) i
between-ring w n pair i = fun_ext (λ j. step j (nat_lt i j))
  where
    step : (j : ℕ) (b : Bool) → (if are_neighbours w n i j then (if b then pair i j else pair j i) else 0)
        ≡ (if b then (if are_neighbours w n i j then pair i j else 0) else (if are_neighbours w n j i then pair j i else 0))
    step j true = refl
    step j false = ap (λ c. if c then pair j i else 0) (neighbours-back w n i j)

-- who pass a test are ends of a pair, too
pub ends-filter : (end p : ℕ → Bool) (xs : List ℕ) → list_all end xs ≡ true → list_all end (filter p xs) ≡ true
ends-filter end p [] all = refl
ends-filter end p (x ∷ xs) all = step (p x) (and_parts (end x) (list_all end xs) all).0 (ends-filter end p xs (and_parts (end x) (list_all end xs) all).1)
  where
    step : (b : Bool) → end x ≡ true → list_all end (filter p xs) ≡ true → list_all end (cond b (x ∷ filter p xs) (filter p xs)) ≡ true
    step true here rest = and_from (end x) (list_all end (filter p xs)) here rest
    step false here rest = rest
