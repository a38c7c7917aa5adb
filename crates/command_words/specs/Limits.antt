-- The limits of what a command reads.
use Rattle.std.specs.Prelude.{◌^◌, ℕ}

-- the most bytes that a file may have
abbrev pub most_bytes : ℕ
most_bytes = 2 ^ 28
