-- The words of registers: each register of a key has words of its own in the round's stream.
use Rattle.std.specs.Prelude.{ℕ, List, map, Option, Some, None}
use Rattle.std.specs.List.{range_with_len}
use Rattle.missing_round.specs.Masks.{Masks}
use Rattle.pair_keys.specs.declared.KeyId.TheVariants.{Own, Pair}
use Rattle.pair_keys.specs.Keys.{Keys}
use Rattle.chacha_lanes.specs.Stream.{word_of_block}

-- the word of register k of a key in a round: word k of the first block of the stream numbered by the round
abbrev pub register_word : List ℕ → (round k : ℕ) → ℕ
register_word key round k = word_of_block key round k

-- the word of a register of a key, and 0 where there is no key
abbrev pub word_of : Option (List ℕ) → (round k : ℕ) → ℕ
word_of None round k = 0
word_of (Some key) round k = register_word key round k

-- the mask table of register k of the keys
abbrev pub register_streams : ℕ → Keys → Masks
register_streams k keys = record {
  own = λ g r i. word_of (keys.key (Own g i)) r k;
  pair = λ g r i j. word_of (keys.key (Pair g i j)) r k;
}

-- the words of all eight registers of a key in a round
abbrev pub words_of : Option (List ℕ) → ℕ → List ℕ
words_of key round = map (word_of key round) (range_with_len 0 8)
