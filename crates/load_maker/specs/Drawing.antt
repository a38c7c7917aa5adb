-- What the words of a generator draw.
use Rattle.std.specs.Prelude.{ℕ, ◌+◌, ◌%◌, ◌==◌, if◌then◌else◌, List, Option, Some, None}
use Rattle.std.specs.Int.{w32, to_le_bytes}
use Rattle.std.specs.List.{flat_map, range_with_len}
use Rattle.link_lanes.specs.Kinds.{key_of_seed}
use Rattle.rand_chacha.specs.ChaCha.{ChaCha, key_of, word_at}

-- a stream of the seed's key, at a place
abbrev pub stream_at : (seed number place : ℕ) → ChaCha
stream_at seed number place = record { key = key_of (key_of_seed seed); stream = number; word_pos = place }

-- the word that is k places ahead
abbrev pub word_ahead : ChaCha → ℕ → ℕ
word_ahead stream k = word_at 10 stream.key stream.stream (stream.word_pos + k)

-- the stream some places further
abbrev pub ahead : ChaCha → ℕ → ChaCha
ahead stream k = record stream { word_pos = stream.word_pos + k }

-- a key: the bytes of the next eight words, the lowest of each first
unfoldable pub key_drawn : ChaCha → List ℕ
key_drawn stream = flat_map (λ k. to_le_bytes w32 (word_ahead stream k)) (range_with_len 0 8)

-- a reading by two words: one in 50 is absent, and no other is above 4999
unfoldable pub reading_by : (value presence : ℕ) → Option ℕ
reading_by value presence = if presence % 50 == 0 then None else Some (value % 5000)

-- a reading: by the next two words
abbrev pub reading_drawn : ChaCha → Option ℕ
reading_drawn stream = reading_by (word_ahead stream 0) (word_ahead stream 1)
