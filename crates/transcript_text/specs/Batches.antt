-- Pieces of the lines of entries that are made side by side.
use Rattle.std.specs.Prelude.{◌≡◌, ℕ, ◌+◌, ◌*◌, ◌<◌, min, List, ◌++◌, length, All}
use Rattle.event_schedule.specs.declared.Entry.{Entry}
use Rattle.transcript_text.specs.Writing.{IsWritable, lines_from}

-- the place at which piece k begins, where the first one begins at a place
abbrev pub piece_start : List Entry → ℕ → ℕ → ℕ
piece_start entries at k = min (length entries) (at + k * 512)

-- each entry can be written, and piece k of those from a place on has some of them
pub record HasPiece (entries : List Entry) (at k : ℕ) : Type 0 where
  pub lines : All (λ e. IsWritable e.line) entries
  pub within : at + k * 512 < length entries
  pub few : k < 32

-- the bytes are the lines of piece k, and there are some
pub record IsPiece (entries : List Entry) (at k : ℕ) (bytes : List ℕ) : Type 0 where
  pub lines : bytes ++ lines_from entries (piece_start entries at (k + 1)) ≡ lines_from entries (piece_start entries at k)
  pub some : 0 < length bytes
