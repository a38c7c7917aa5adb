-- Words: numbers modulo 2^64.
use Rattle.std.specs.Prelude.{ℕ, ◌-◌, ◌%◌, ◌^◌}

-- the word of a number
abbrev pub word : ℕ → ℕ
word n = n % 2 ^ 64

-- what is added to a word in order to take another away
abbrev pub negative : ℕ → ℕ
negative n = 2 ^ 64 - n
