-- Sets of meters as four blocks of 64 bits.
use Rattle.std.proofs.Common.{◌≡◌, ℕ, zero, suc, ◌+◌, ◌-◌, ◌*◌, ◌/◌, ◌%◌, ◌^◌, ◌<◌, ◌≤◌, Bool, true, false, not, ◌&&◌, ◌||◌, cond, ltb, List, [], ◌∷◌, length, get_or, set, refl, sym, ap, ◌∙◌, ⊎_elim, arith, ◌==◌, bit_or, bit_and, count_ones, min, ◌≢◌, slice_get, is_some, Ok, Err, Result}
use Rattle.std.specs.List.{filter, range_with_len}
use Rattle.std.specs.Int.{bit_at, w64, trailing_zeros}
use Rattle.std.specs.Int.Count.{ones_step}
use Rattle.std.proofs.Math.Nat.{pow-suc}
use Rattle.std.proofs.lemmas.Bool.{false≢true, cases_eq, cases_lt, eq-eqb, ne_eqb, lt-ltb, le-ltb}
use Rattle.std.proofs.lemmas.Bool.Decides.{nat_tests}
use Rattle.std.proofs.lemmas.Grind.{common_steps}
use Rattle.std.proofs.lemmas.List.{get_or-set_same, get_or-set_other}
use Rattle.std.proofs.lemmas.Nat.{ones_le_self, and_le_l}
use Rattle.std.proofs.lemmas.Nat.Bits.{bit_at_lowest, bit_at-suc, bit_at-zero, bit_at-lt, bit_at_cat_low, bit_at_cat_high, same_from_bits_below, bit_at_set_same, bit_at_set_other, bit_at_clear_same, bit_at_clear_other, bit_at_ones, bit_at_ones_above, bit_at_and, bit_at_not, bit_at-trailing_zeros, shr_and_one}
use Rattle.missing_round.specs.declared.SetError.{SetError}
use Rattle.missing_round.specs.declared.SetError.TheVariants.{OutOfGroup}
use Rattle.missing_round.specs.Sets.{IsSet, is_member, joined, without, less, beyond, FromBits, has_bit, members, number_by, max_meters, block_at, blocks_of, IsBlocks, IsFrom}
use Rattle.missing_round.proofs.SetLemmas.{same_picked, is_member-picked, joined-picked, first-picked, none-picked, filter-picked, length_cond, length-picked-more, below-picked, set-picked, picked-set, is_member-filter}

-- the members among the bits of one block
pub length-picked-ones : (p : ℕ → Bool) (n a w : ℕ) → w < 2 ^ n → ((i : ℕ) → i < n → p (a + i) ≡ (bit_at w i == 1)) → length (filter p (range_with_len a n)) ≡ count_ones w
length-picked-ones p zero a w u h = omega (arith, ones_le_self w)
length-picked-ones p (suc n) a w u h =
    let z : a + 0 ≡ a = omega arith in
    let small : w / 2 < 2 ^ n = omega (arith, pow-suc 2 n) in
    let first : p a ≡ (w % 2 == 1) = ap p (sym z) ∙ h 0 (omega arith) ∙ ap (λ x. x == 1) (bit_at_lowest w) in
    let rest : length (filter p (range_with_len (a + 1) n)) ≡ count_ones (w / 2) =
    length-picked-ones p n (a + 1) (w / 2) small
    (λ i l. let y : a + 1 + i ≡ a + suc i = omega arith in ap p y ∙ h (suc i) (omega arith) ∙ ap (λ x. x == 1) (bit_at-suc w i)) in
    length_cond (p a) a (filter p (range_with_len (a + 1) n))
    ∙ ap (λ b. cond {A = ℕ} b 1 0 + length (filter p (range_with_len (a + 1) n))) first
    ∙ omega (arith, rest, ones_step w, odd w)
  where
    odd : (w : ℕ) → cond {A = ℕ} (w % 2 == 1) 1 0 ≡ w % 2
    odd w = ⊎_elim (λ e. grind (arith, eq-eqb (w % 2) 1 e)) (λ ne. grind (arith, ne_eqb (w % 2) 1 ne)) (cases_eq (w % 2) 1)

digit-lt : (b : Bool) (x y : ℕ) → y < x → cond {A = ℕ} b 1 0 * x + y < x * 2
digit-lt true x y h = omega arith
digit-lt false x y h = omega arith

number_by-lt : (t : ℕ → Bool) (n : ℕ) → number_by t n < 2 ^ n
unfolding number_by
number_by-lt t zero = omega arith
number_by-lt t (suc n) = rw (pow-suc 2 n) (digit-lt (t n) (2 ^ n) (number_by t n) (number_by-lt t n))

lowest : (b : Bool) → bit_at (cond {A = ℕ} b 1 0) 0 ≡ cond {A = ℕ} b 1 0
lowest true = refl
lowest false = refl

bit_at-number_by : (t : ℕ → Bool) (n i : ℕ) → i < n → bit_at (number_by t n) i ≡ cond {A = ℕ} (t i) 1 0
unfolding number_by
bit_at-number_by t zero i h = absurd (omega arith)
bit_at-number_by t (suc n) i h =
    ⊎_elim
    (λ lt. bit_at_cat_low (cond {A = ℕ} (t n) 1 0) n (number_by t n) i lt ∙ bit_at-number_by t n i lt)
    (λ ge.
    let e : i ≡ n = omega arith in
    let z : i - n ≡ 0 = omega arith in
    bit_at_cat_high (cond {A = ℕ} (t n) 1 0) n (number_by t n) i (number_by-lt t n) ge ∙ ap (bit_at (cond {A = ℕ} (t n) 1 0)) z ∙ lowest (t n) ∙ ap (λ x. cond {A = ℕ} (t x) 1 0) (sym e))
    (cases_lt i n)

bit_test : (b : ℕ) → b < 2 → cond {A = ℕ} (b == 1) 1 0 ≡ b
bit_test b h = ⊎_elim (λ e. grind (arith, eq-eqb b 1 e)) (λ ne. grind (arith, ne_eqb b 1 ne)) (cases_eq b 1)

-- ---- four blocks
max_meters-is : max_meters ≡ 256
unfolding max_meters
max_meters-is = refl

has_bit-at : (ws : List ℕ) (k j i : ℕ) → j < 64 → 64 * k + j ≡ i → has_bit ws i ≡ (bit_at (get_or ws k 0) j == 1)
has_bit-at ws k j i h e =
    let q : i / 64 ≡ k = omega arith in
    let r : i % 64 ≡ j = omega arith in
    λ x. bit_at (get_or ws (q x) 0) (r x) == 1

pub is_member-members : (ws : List ℕ) (i : ℕ) → i < 256 → is_member i (members ws) ≡ has_bit ws i
unfolding members
is_member-members ws i h = is_member-picked (has_bit ws) 0 max_meters i (omega arith) (omega (arith, max_meters-is))

pub block_at-members : (ws : List ℕ) → ((k : ℕ) → get_or ws k 0 < 2 ^ 64) → (k : ℕ) → k < 4 → block_at (members ws) k ≡ get_or ws k 0
block_at-members ws small k h =
    same_from_bits_below 64 (block_at (members ws) k) (get_or ws k 0) (number_by-lt _ 64) (small k)
    (λ j l.
    bit_at-number_by (λ j. is_member (64 * k + j) (members ws)) 64 j l
    ∙ ap (λ b. cond {A = ℕ} b 1 0) (is_member-members ws (64 * k + j) (omega arith) ∙ has_bit-at ws k j (64 * k + j) l refl)
    ∙ bit_test (bit_at (get_or ws k 0) j) (bit_at-lt (get_or ws k 0) j))

four : (ws : List ℕ) → length ws ≡ 4 → get_or ws 0 0 ∷ get_or ws 1 0 ∷ get_or ws 2 0 ∷ get_or ws 3 0 ∷ [] ≡ ws
four [] h = absurd (omega (arith, h))
four (a ∷ []) h = absurd (omega (arith, h))
four (a ∷ b ∷ []) h = absurd (omega (arith, h))
four (a ∷ b ∷ c ∷ []) h = absurd (omega (arith, h))
four (a ∷ b ∷ c ∷ d ∷ []) h = refl
four (a ∷ b ∷ c ∷ d ∷ e ∷ xs) h = absurd (omega (arith, h))

-- the blocks come back from the set
pub blocks : (ws : List ℕ) → length ws ≡ 4 → ((k : ℕ) → get_or ws k 0 < 2 ^ 64) → IsBlocks ws
blocks ws long small =
    let a : block_at (members ws) 0 ≡ get_or ws 0 0 = block_at-members ws small 0 (omega arith) in
    let b : block_at (members ws) 1 ≡ get_or ws 1 0 = block_at-members ws small 1 (omega arith) in
    let c : block_at (members ws) 2 ≡ get_or ws 2 0 = block_at-members ws small 2 (omega arith) in
    let d : block_at (members ws) 3 ≡ get_or ws 3 0 = block_at-members ws small 3 (omega arith) in
    let all : blocks_of (members ws) ≡ get_or ws 0 0 ∷ get_or ws 1 0 ∷ get_or ws 2 0 ∷ get_or ws 3 0 ∷ [] = λ x. a x ∷ b x ∷ c x ∷ d x ∷ [] in
    record { long = long; small = small; kept = all ∙ four ws long }

-- the blocks after one is replaced
pub blocks-set : (ws : List ℕ) (k v : ℕ) → IsBlocks ws → k < 4 → v < 2 ^ 64 → IsBlocks (set ws k v)
blocks-set ws k v w h small =
    blocks (set ws k v) (grind (arith, common_steps, w.long))
    (λ j. ⊎_elim
    (λ e. grind (arith, common_steps, get_or-set_same ws k v 0 (omega (arith, w.long)), e))
    (λ ne. rw (get_or-set_other ws k j v 0 ne) (w.small j))
    (cases_eq j k))

-- four blocks
pub blocks-four : (a b c d : ℕ) → a < 2 ^ 64 → b < 2 ^ 64 → c < 2 ^ 64 → d < 2 ^ 64 → IsBlocks (a ∷ b ∷ c ∷ d ∷ [])
blocks-four a b c d ha hb hc hd = blocks (a ∷ b ∷ c ∷ d ∷ []) refl small
  where
    small : (k : ℕ) → get_or (a ∷ b ∷ c ∷ d ∷ []) k 0 < 2 ^ 64
    small zero = ha
    small (suc zero) = hb
    small (suc (suc zero)) = hc
    small (suc (suc (suc zero))) = hd
    small (suc (suc (suc (suc k)))) = omega arith

-- the set of blocks by a test
pub members-by : (ws : List ℕ) (q : ℕ → Bool) → ((i : ℕ) → i < 256 → has_bit ws i ≡ q i) → members ws ≡ filter q (range_with_len 0 max_meters)
unfolding members
members-by ws q h = same_picked (has_bit ws) q 0 max_meters (λ i l u. h i (omega (arith, max_meters-is)))

-- the same, block by block
pub members-by_blocks : (ws : List ℕ) (q : ℕ → Bool) → ((k j : ℕ) → k < 4 → j < 64 → (bit_at (get_or ws k 0) j == 1) ≡ q (64 * k + j)) → members ws ≡ filter q (range_with_len 0 max_meters)
members-by_blocks ws q h = members-by ws q (λ i u. let e : 64 * (i / 64) + i % 64 ≡ i = omega arith in h (i / 64) (i % 64) (omega arith) (omega arith) ∙ ap q e)

has_bit-set : (ws : List ℕ) (k v j : ℕ) → k < length ws → has_bit (set ws k v) j ≡ cond (j / 64 == k) (bit_at v (j % 64) == 1) (has_bit ws j)
has_bit-set ws k v j h = ⊎_elim
    (λ e. ap (λ x. bit_at x (j % 64) == 1) (ap (λ x. get_or (set ws k v) x 0) e ∙ get_or-set_same ws k v 0 h) ∙ grind (arith, eq-eqb (j / 64) k e))
    (λ ne. ap (λ x. bit_at x (j % 64) == 1) (get_or-set_other ws k (j / 64) v 0 ne) ∙ grind (arith, ne_eqb (j / 64) k ne))
    (cases_eq (j / 64) k)

pub members-with : (ws : List ℕ) (i : ℕ) → IsBlocks ws → i < 256
    → members (set ws (i / 64) (bit_or (get_or ws (i / 64) 0) (1 * 2 ^ (i % 64) % 2 ^ 64))) ≡ joined i (members ws)
unfolding members
members-with ws i w h =
    let v : ℕ = bit_or (get_or ws (i / 64) 0) (1 * 2 ^ (i % 64) % 2 ^ 64) in
    members-by (set ws (i / 64) v) (λ j. (j == i) || has_bit ws j)
    (λ j u. has_bit-set ws (i / 64) v j (omega (arith, w.long)) ∙ ⊎_elim
    (λ e. grind (arith, eq-eqb j i e, e, bit_at_set_same w64 (get_or ws (i / 64) 0) (i % 64) (omega arith)))
    (λ ne. grind (arith, ne_eqb j i ne, bit_at_set_other w64 (get_or ws (i / 64) 0) (i % 64) (omega arith) (j % 64)))
    (cases_eq j i))
    ∙ sym (joined-picked (has_bit ws) (λ j. (j == i) || has_bit ws j) 0 max_meters i (omega arith) (omega (arith, max_meters-is)) (λ j l u. refl))

pub members-without : (ws : List ℕ) (i : ℕ) → IsBlocks ws → i < 256
    → members (set ws (i / 64) (bit_and (get_or ws (i / 64) 0) (2 ^ 64 - 1 - 1 * 2 ^ (i % 64) % 2 ^ 64))) ≡ without i (members ws)
unfolding members
members-without ws i w h =
    let v : ℕ = bit_and (get_or ws (i / 64) 0) (2 ^ 64 - 1 - 1 * 2 ^ (i % 64) % 2 ^ 64) in
    members-by (set ws (i / 64) v) (λ j. has_bit ws j && not (j == i))
    (λ j u. has_bit-set ws (i / 64) v j (omega (arith, w.long)) ∙ ⊎_elim
    (λ e. grind (arith, eq-eqb j i e, e, bit_at_clear_same w64 (get_or ws (i / 64) 0) (i % 64) (omega arith)))
    (λ ne. grind (arith, ne_eqb j i ne, bit_at_clear_other w64 (get_or ws (i / 64) 0) (i % 64) (omega arith) (j % 64) (omega arith)))
    (cases_eq j i))
    ∙ sym (filter-picked (has_bit ws) (λ j. not (j == i)) 0 max_meters)

pub members-less : (ws vs ns : List ℕ) → IsBlocks ws → IsBlocks vs
    → ((k : ℕ) → k < 4 → get_or ns k 0 ≡ bit_and (get_or ws k 0) (2 ^ 64 - 1 - get_or vs k 0))
    → members ns ≡ less (members ws) (members vs)
unfolding members
members-less ws vs ns w v h =
    members-by_blocks ns (λ j. has_bit ws j && not (is_member j (members vs)))
    (λ k j lk lj.
    let a : bit_at (get_or ns k 0) j ≡ min (bit_at (get_or ws k 0) j) (1 - bit_at (get_or vs k 0) j) =
    ap (λ x. bit_at x j) (h k lk) ∙ bit_at_and (get_or ws k 0) (2 ^ 64 - 1 - get_or vs k 0) j
    ∙ ap (min (bit_at (get_or ws k 0) j)) (bit_at_not w64 (get_or vs k 0) j (v.small k) lj) in
    ap (λ x. x == 1) a ∙ both (bit_at (get_or ws k 0) j) (bit_at (get_or vs k 0) j) (bit_at-lt (get_or ws k 0) j) (bit_at-lt (get_or vs k 0) j)
    ∙ (λ x. sym (has_bit-at ws k j (64 * k + j) lj refl) x && not (sym (is_member-members vs (64 * k + j) (omega arith) ∙ has_bit-at vs k j (64 * k + j) lj refl) x)))
    ∙ sym (filter-picked (has_bit ws) (λ j. not (is_member j (members vs))) 0 max_meters)
  where
    both : (x y : ℕ) → x < 2 → y < 2 → (min x (1 - y) == 1) ≡ ((x == 1) && not (y == 1))
    both x y hx hy = grind (arith, nat_tests)

pub has-member : (ws : List ℕ) (i : ℕ) → i < 256 → (bit_and (get_or ws (i / 64) 0 / 2 ^ (i % 64)) 1 == 1) ≡ is_member i (members ws)
has-member ws i h = ap (λ x. x == 1) (shr_and_one (get_or ws (i / 64) 0) (i % 64)) ∙ sym (is_member-members ws i h)

pub length-members : (ws : List ℕ) → IsBlocks ws → count_ones (get_or ws 0 0) + count_ones (get_or ws 1 0) + count_ones (get_or ws 2 0) + count_ones (get_or ws 3 0) ≡ length (members ws)
unfolding members
length-members ws w =
    let ones : (k a : ℕ) → 64 * k ≡ a → length (filter (has_bit ws) (range_with_len a 64)) ≡ count_ones (get_or ws k 0) =
    λ k a e. length-picked-ones (has_bit ws) 64 a (get_or ws k 0) (w.small k) (λ i l. has_bit-at ws k i (a + i) l (omega arith)) in
    omega (
      arith,
      length-picked-more (has_bit ws) 0 64 192 max_meters (omega (arith, max_meters-is)),
      length-picked-more (has_bit ws) 64 64 128 192 refl,
      length-picked-more (has_bit ws) 128 64 64 128 refl,
      ones 0 0 refl,
      ones 1 64 refl,
      ones 2 128 refl,
      ones 3 192 refl,
    )

pub members-full : (ns : List ℕ) (n : ℕ) → n ≤ 256 → ((k : ℕ) → k < 4 → get_or ns k 0 ≡ 2 ^ min 64 (n - 64 * k) - 1) → members ns ≡ range_with_len 0 n
members-full ns n h at =
    members-by_blocks ns (λ j. ltb j n)
    (λ k j lk lj. ap (λ x. bit_at x j == 1) (at k lk) ∙ ⊎_elim
    (λ lt. grind (arith, bit_at_ones (min 64 (n - 64 * k)) j (omega arith), lt-ltb (64 * k + j) n lt))
    (λ ge. grind (arith, bit_at_ones_above (min 64 (n - 64 * k)) j (omega arith), le-ltb (64 * k + j) n ge))
    (cases_lt (64 * k + j) n))
    ∙ (let e : n ≡ 0 + n = omega arith in ap (λ x. filter (λ j. ltb j x) (range_with_len 0 max_meters)) e) ∙ below-picked 0 n max_meters (omega (arith, max_meters-is))

pub and-lt : (a b w : ℕ) → a < w → bit_and a b < w
and-lt a b w h = omega (arith, and_le_l a b, h)

-- the first member of the blocks that are left, and the blocks after it
pub members-next : (ws : List ℕ) (at : ℕ) → IsFrom at ws → at < 4 → get_or ws at 0 ≢ 0
    → members ws ≡ (64 * at + trailing_zeros w64 (get_or ws at 0)) ∷ members (set ws at (bit_and (get_or ws at 0) (2 ^ 64 - 1 - 1 * 2 ^ trailing_zeros w64 (get_or ws at 0) % 2 ^ 64)))
unfolding members
members-next ws at left within some =
    let w : ℕ = get_or ws at 0 in
    let t : ℕ = trailing_zeros w64 w in
    let i : ℕ = 64 * at + t in
    let pos : 0 < w = omega (arith, some) in
    let z : (t < 64) × (bit_at w t ≡ 1) × ((j : ℕ) → j < t → bit_at w j ≡ 0) = bit_at-trailing_zeros w64 w pos (left.small at) in
    let lt : t < 64 = z.0 in
    let q : i / 64 ≡ at = omega (arith, lt) in
    let r : i % 64 ≡ t = omega (arith, lt) in
    let rest : members (set ws (i / 64) (bit_and (get_or ws (i / 64) 0) (2 ^ 64 - 1 - 1 * 2 ^ (i % 64) % 2 ^ 64))) ≡ filter (λ j. not (j == i)) (members ws) = members-without ws i (blocks ws left.long left.small) (omega (arith, lt)) in
    let here : has_bit ws i ≡ true = has_bit-at ws at t i lt refl ∙ eq-eqb (bit_at w t) 1 z.1 in
    let below : (j : ℕ) → 0 ≤ j → j < i → has_bit ws j ≡ false = λ j lo hi.
    ⊎_elim
    (λ same. has_bit-at ws at (j % 64) j (omega arith) (omega (arith, same)) ∙ ap (λ x. x == 1) (z.2 (j % 64) (omega (arith, same))))
    (λ ne. ap (λ x. bit_at x (j % 64) == 1) (left.done (j / 64) (omega (arith, lt, ne))) ∙ ap (λ x. x == 1) (bit_at-zero (j % 64)))
    (cases_eq (j / 64) at) in
    first-picked (has_bit ws) (λ j. has_bit ws j && not (j == i)) 0 max_meters i (omega arith) (omega (arith, lt, max_meters-is)) here below (λ j l u. refl)
    ∙ ap (λ xs. i ∷ xs) (sym (filter-picked (has_bit ws) (λ j. not (j == i)) 0 max_meters) ∙ sym rest
    ∙ (λ x. members (set ws (q x) (bit_and (get_or ws (q x) 0) (2 ^ 64 - 1 - 1 * 2 ^ r x % 2 ^ 64)))))

-- no blocks are left
pub members-none : (ws : List ℕ) (at : ℕ) → IsFrom at ws → 4 ≤ at → members ws ≡ []
unfolding members
members-none ws at left h = none-picked (has_bit ws) 0 max_meters
    (λ i l u. ap (λ x. bit_at x (i % 64) == 1) (left.done (i / 64) (omega (arith, max_meters-is))) ∙ ap (λ x. x == 1) (bit_at-zero (i % 64)))

-- nothing is beyond 255
pub beyond-all : (ws : List ℕ) → beyond 256 (members ws) ≡ []
unfolding members
beyond-all ws = filter-picked (has_bit ws) (λ j. not (ltb j 256)) 0 max_meters
    ∙ none-picked (λ j. has_bit ws j && not (ltb j 256)) 0 max_meters (λ i l u. grind (arith, lt-ltb i 256 (omega (arith, max_meters-is))))

-- any four blocks are a set of 256
pub from_bits-256 : (bits : List ℕ) (r : Result (List ℕ) SetError) → FromBits 256 bits r → (set : List ℕ) × (r ≡ Ok set)
from_bits-256 bits (Ok set) h = (set, refl)
from_bits-256 bits (Err (OutOfGroup bit)) h = absurd (false≢true (ap is_some (sym (ap (λ xs. slice_get xs 0) (beyond-all bits)) ∙ h)))

-- a block of a set is a number of 64 bits
pub block_at-lt : (xs : List ℕ) (k : ℕ) → block_at xs k < 2 ^ 64
block_at-lt xs k = number_by-lt (λ j. is_member (64 * k + j) xs) 64

-- one block is a set of 64
pub beyond-block : (w : ℕ) → beyond 64 (members (w ∷ 0 ∷ 0 ∷ 0 ∷ [])) ≡ []
unfolding members
beyond-block w = filter-picked (has_bit ws) (λ j. not (ltb j 64)) 0 max_meters
    ∙ none-picked (λ j. has_bit ws j && not (ltb j 64)) 0 max_meters
    (λ i l u. ⊎_elim
    (λ lt. grind (arith, lt-ltb i 64 lt))
    (λ ge. grind (arith, ap (λ x. bit_at x (i % 64) == 1) (none (i / 64) (omega arith)), ap (λ x. x == 1) (bit_at-zero (i % 64))))
    (cases_lt i 64))
  where
    ws : List ℕ
    ws = w ∷ 0 ∷ 0 ∷ 0 ∷ []

    none : (k : ℕ) → 1 ≤ k → get_or (w ∷ 0 ∷ 0 ∷ 0 ∷ []) k 0 ≡ 0
    none zero h = absurd (omega arith)
    none (suc zero) h = refl
    none (suc (suc zero)) h = refl
    none (suc (suc (suc zero))) h = refl
    none (suc (suc (suc (suc k)))) h = refl

pub from_bits-64 : (w : ℕ) (r : Result (List ℕ) SetError) → FromBits 64 (w ∷ 0 ∷ 0 ∷ 0 ∷ []) r → (set : List ℕ) × (r ≡ Ok set)
from_bits-64 w (Ok set) h = (set, refl)
from_bits-64 w (Err (OutOfGroup bit)) h = absurd (false≢true (ap is_some (sym (ap (λ xs. slice_get xs 0) (beyond-block w)) ∙ h)))

-- what blocks keep is a set
pub set-members : (ws : List ℕ) → IsSet (members ws)
unfolding members
set-members ws = set-picked (has_bit ws) 0 max_meters (omega (arith, max_meters-is))

-- a set's blocks give it back
pub members-blocks_of : (xs : List ℕ) → IsSet xs → members (blocks_of xs) ≡ xs
members-blocks_of xs h =
    members-by_blocks (blocks_of xs) (λ i. is_member i xs)
    (λ k j lk lj. ap (λ b. b == 1) (at k lk j ∙ bit_at-number_by (λ j. is_member (64 * k + j) xs) 64 j lj) ∙ one (is_member (64 * k + j) xs))
    ∙ ap (λ n. filter (λ i. is_member i xs) (range_with_len 0 n)) max_meters-is
    ∙ picked-set xs h
  where
    at : (k : ℕ) → k < 4 → (j : ℕ) → bit_at (get_or (blocks_of xs) k 0) j ≡ bit_at (block_at xs k) j
    at zero l j = refl
    at (suc zero) l j = refl
    at (suc (suc zero)) l j = refl
    at (suc (suc (suc zero))) l j = refl
    at (suc (suc (suc (suc k)))) l j = absurd (omega arith)

    one : (b : Bool) → (cond {A = ℕ} b 1 0 == 1) ≡ b
    one true = refl
    one false = refl

-- no bit is set where the test holds nowhere
number_by-none : (t : ℕ → Bool) (n : ℕ) → ((i : ℕ) → i < n → t i ≡ false) → number_by t n ≡ 0
unfolding number_by
number_by-none t zero h = refl
number_by-none t (suc n) h = grind (arith, h n (omega arith), number_by-none t n (λ i l. h i (omega arith)))

-- a set of meters below 64 has one block
pub members-block_at : (xs : List ℕ) → IsSet xs → beyond 64 xs ≡ [] → members (block_at xs 0 ∷ 0 ∷ 0 ∷ 0 ∷ []) ≡ xs
members-block_at xs h none = ap members (λ k. block_at xs 0 ∷ sym (empty 1 (omega arith)) k ∷ sym (empty 2 (omega arith)) k ∷ sym (empty 3 (omega arith)) k ∷ []) ∙ members-blocks_of xs h
  where
    above : (i : ℕ) → 64 ≤ i → is_member i xs ≡ false
    above i l =
        let e : (is_member i xs && not (ltb i 64)) ≡ false = sym (is_member-filter (λ j. not (ltb j 64)) i xs) ∙ ap (is_member i) none in
        grind (arith, e, le-ltb i 64 l)

    empty : (k : ℕ) → 1 ≤ k → block_at xs k ≡ 0
    empty k l = number_by-none (λ j. is_member (64 * k + j) xs) 64 (λ j u. above (64 * k + j) (omega arith))
