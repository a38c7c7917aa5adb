-- Words of 64 bits are below 2^64.
use Rattle.std.proofs.Common.{ℕ, ◌+◌, ◌*◌, ◌^◌, ◌<◌, List, arith}
use Rattle.rand_chacha.specs.Block.{add32, block_word}
use Rattle.chacha_lanes.specs.Stream.{chacha_word, mask_word, word_of_block}

sum_small : (x y : ℕ) → add32 x y < 2 ^ 32
sum_small x y = omega arith

half_small : (key : List ℕ) (stream place : ℕ) → chacha_word key stream place < 2 ^ 32
unfolding block_word
half_small key stream place = sum_small _ _

halves_small : (low high : ℕ) → low < 2 ^ 32 → high < 2 ^ 32 → low + 2 ^ 32 * high < 2 ^ 64
halves_small low high low_small high_small = omega arith

pub mask_word_small : (key : List ℕ) (round : ℕ) → mask_word key round < 2 ^ 64
mask_word_small key round = halves_small (chacha_word key round 0) (chacha_word key round 1) (half_small key round 0) (half_small key round 1)

pub word_of_block_small : (key : List ℕ) (round k : ℕ) → word_of_block key round k < 2 ^ 64
unfolding word_of_block
word_of_block_small key round k = halves_small (chacha_word key round (2 * k)) (chacha_word key round (2 * k + 1)) (half_small key round (2 * k)) (half_small key round (2 * k + 1))
