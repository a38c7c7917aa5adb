-- Hexadecimal digits read back.
use Rattle.std.specs.Prelude.{◌≡◌, ◌<◌, ℕ, List, slice_index}
use Rattle.hex.specs.Hex.{encode_lower, lower_digits, IsBytes}

-- where the byte is a lower-case digit, the number is the one that it stands for
abbrev pub IsNumberOf : ℕ → ℕ → Type 0
IsNumberOf digit number = (n : ℕ) → n < 16 → digit ≡ slice_index lower_digits n → number ≡ n

-- where the digits are those of some bytes, these are the bytes
abbrev pub AreBytesOf : List ℕ → List ℕ → Type 0
AreBytesOf digits bytes = (bs : List ℕ) → IsBytes bs → digits ≡ encode_lower bs → bytes ≡ bs
