-- Vectors of eight lanes, lane by lane.
use Rattle.std.proofs.Common.{◌≡◌, ℕ, ◌<◌, ◌-◌, ◌*◌, ◌/◌, ◌%◌, ◌^◌, List, length, replicate, get_or, bit_or, bit_xor, arith, refl, sym, ap₂, ◌∙◌}
use Rattle.std.specs.Simd.Lanes.{zip2}
use Rattle.std.proofs.lemmas.Simd.{get_or-zip2, get_or-replicate, length-zip2}
use Rattle.rand_chacha.specs.Block.{xor_rotate}

-- an operator of two vectors, in a lane
in_lane : (f : ℕ → ℕ → ℕ) (xs ys : List ℕ) → length xs ≡ 8 → length ys ≡ 8 → (j : ℕ) → j < 8 → get_or (zip2 f xs ys) j 0 ≡ f (get_or xs j 0) (get_or ys j 0)
in_lane f xs ys a b j h = get_or-zip2 f xs ys j 0 0 0 (omega arith) (omega arith)

-- and it has as many lanes
long : (f : ℕ → ℕ → ℕ) (xs ys : List ℕ) → length xs ≡ 8 → length ys ≡ 8 → length (zip2 f xs ys) ≡ 8
long f xs ys a b = length-zip2 f xs ys (a ∙ sym b) ∙ a

-- a vector with one number in each lane
pub in_splat : (x j : ℕ) → j < 8 → get_or (replicate 8 x) j 0 ≡ x
in_splat x j h = get_or-replicate 8 j x 0 h

-- shifted to the left, and what falls out taken from a shift to the right
pub rotated : (k : ℕ) → 0 < k → k < 32 → (xs ys : List ℕ) → length xs ≡ 8 → length ys ≡ 8 → (j : ℕ) → j < 8 →
    get_or (zip2 bit_or
    (zip2 (λ x n. x * 2 ^ n % 2 ^ 32) (zip2 bit_xor xs ys) (replicate 8 k))
    (zip2 (λ x n. x / 2 ^ n) (zip2 bit_xor xs ys) (replicate 8 (32 - k)))) j 0
    ≡ xor_rotate (get_or xs j 0) (get_or ys j 0) k
rotated k low high xs ys a b j h =
    let left : k % 32 ≡ k = omega arith in
    let right : (32 - k) % 32 ≡ 32 - k = omega arith in
    let both = zip2 bit_xor xs ys in
    let eight : length both ≡ 8 = long bit_xor xs ys a b in
    in_lane bit_or (zip2 (λ x n. x * 2 ^ n % 2 ^ 32) both (replicate 8 k)) (zip2 (λ x n. x / 2 ^ n) both (replicate 8 (32 - k)))
    (long (λ x n. x * 2 ^ n % 2 ^ 32) both (replicate 8 k) eight refl) (long (λ x n. x / 2 ^ n) both (replicate 8 (32 - k)) eight refl) j h
    ∙ ap₂ bit_or
    (in_lane (λ x n. x * 2 ^ n % 2 ^ 32) both (replicate 8 k) eight refl j h ∙ ap₂ (λ x n. x * 2 ^ n % 2 ^ 32) (in_lane bit_xor xs ys a b j h) (in_splat k j h))
    (in_lane (λ x n. x / 2 ^ n) both (replicate 8 (32 - k)) eight refl j h ∙ ap₂ (λ x n. x / 2 ^ n) (in_lane bit_xor xs ys a b j h) (in_splat (32 - k) j h))
    ∙ rw (left, right) refl
