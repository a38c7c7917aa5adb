-- The mask table of keys: each word is the mask word of its key in its round.
use Rattle.std.specs.Prelude.{ℕ, List, Option, Some, None}
use Rattle.missing_round.specs.Masks.{Masks}
use Rattle.pair_keys.specs.declared.KeyId.TheVariants.{Own, Pair}
use Rattle.pair_keys.specs.Keys.{Keys}
use Rattle.chacha_lanes.specs.Stream.{mask_word}

-- the mask word of a key, and 0 where there is no key
abbrev pub word_of : Option (List ℕ) → ℕ → ℕ
word_of None round = 0
word_of (Some key) round = mask_word key round

-- the stream words of the keys
abbrev pub streams : Keys → Masks
streams keys = record {
  own = λ g r i. word_of (keys.key (Own g i)) r;
  pair = λ g r i j. word_of (keys.key (Pair g i j)) r;
}
