-- Mask words: the first 64 bits of a round's ChaCha20 stream, and the words of 64 bits in its first block.
use Rattle.std.specs.Prelude.{ℕ, ◌+◌, ◌*◌, ◌^◌, List, map}
use Rattle.std.specs.List.{range_with_len}
use Rattle.rand_chacha.specs.ChaCha.{word_at, key_of}

-- the word of 32 bits at a place of ChaCha20's stream with this number: ten double rounds, as RFC 8439 has them
abbrev pub chacha_word : List ℕ → ℕ → ℕ → ℕ
chacha_word key stream place = word_at 10 (key_of key) stream place

-- the mask word of a key in a round: the words at places 0 and 1 of the stream numbered by the round, the lower half first
abbrev pub mask_word : List ℕ → ℕ → ℕ
mask_word key round = chacha_word key round 0 + 2 ^ 32 * chacha_word key round 1

-- word k of a key in a round: the words at places 2k and 2k + 1 of the stream numbered by the round, the lower half first
unfoldable pub word_of_block : List ℕ → (round k : ℕ) → ℕ
word_of_block key round k = chacha_word key round (2 * k) + 2 ^ 32 * chacha_word key round (2 * k + 1)

-- the words of a key in a round: the eight of the stream's first block
abbrev pub words_of_block : List ℕ → ℕ → List ℕ
words_of_block key round = map (word_of_block key round) (range_with_len 0 8)
