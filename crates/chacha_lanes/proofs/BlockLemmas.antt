-- From the states of blocks to their words of 64 bits.
use Rattle.std.proofs.Common.{◌≡◌, ◌∙◌, ℕ, zero, suc, ◌+◌, ◌*◌, ◌/◌, ◌%◌, ◌^◌, ◌<◌, ◌≤◌, List, ◌∷◌, map, refl, ap₂, arith}
use Rattle.std.specs.List.{range_with_len}
use Rattle.rand_chacha.specs.Block.{add32, initial_state, double_rounds, block_word}
use Rattle.rand_chacha.specs.ChaCha.{key_of}
use Rattle.rand_chacha.specs.Lanes.{lane, lane_at}
use Rattle.chacha_lanes.specs.Blocks.{lane_words}
use Rattle.chacha_lanes.specs.Stream.{chacha_word, word_of_block, words_of_block}
use Rattle.chacha_lanes.proofs.WordLemmas.{word-in_lane}

-- functions that are the same on a range
pub map_range : {X : Type 0} (f h : ℕ → X) (a n : ℕ) → ((k : ℕ) → a ≤ k → k < a + n → f k ≡ h k) → map f (range_with_len a n) ≡ map h (range_with_len a n)
map_range f h a zero same = refl
map_range {X = X} f h a (suc n) same =
    ap₂ (λ x (l : List X). x ∷ l) (same a (omega arith) (omega arith)) (map_range f h (a + 1) n (λ k low high. same k (omega (arith, low)) (omega (arith, high))))

-- a word of the block is that of the stream
pub place_of : (key : List ℕ) (round k : ℕ) → k < 16 → block_word 10 (key_of key) 0 round k ≡ chacha_word key round k
place_of key round k lt =
    let at : k / 16 ≡ 0 = omega (arith, lt) in
    let in_block : k % 16 ≡ k = omega (arith, lt) in
    rw (at, in_block) refl

-- the words in a lane are those of its key
pub lane_is : (key : List ℕ) (round j : ℕ) (halves first last : List (List ℕ)) → ((k : ℕ) → k < 16 → lane_at halves k j ≡ add32 (lane_at last k j) (lane_at first k j))
    → lane j first ≡ initial_state (key_of key) 0 round → lane j last ≡ double_rounds 10 (lane j first) → lane_words halves j ≡ words_of_block key round
unfolding word_of_block
lane_is key round j halves first last sums begin end =
    map_range (λ k. lane_at halves (2 * k) j + 2 ^ 32 * lane_at halves (2 * k + 1) j) (λ k. chacha_word key round (2 * k) + 2 ^ 32 * chacha_word key round (2 * k + 1)) 0 8 (λ k low high.
    ap₂ (λ a b. a + 2 ^ 32 * b) (word (2 * k) (omega (arith, high))) (word (2 * k + 1) (omega (arith, high))))
  where
    word : (k : ℕ) → k < 16 → lane_at halves k j ≡ chacha_word key round k
    word k lt = sums k lt ∙ word-in_lane (key_of key) round j k first last lt begin end ∙ place_of key round k lt
