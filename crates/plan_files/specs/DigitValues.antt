-- The values of the digits of a key.
use Rattle.std.specs.Prelude.{◌≡◌, ℕ, ◌<◌, List, length, slice_index, unwrap_or}
use Rattle.hex.specs.Hex.{hex_digit_value}

-- each digit's value, and 16 for another byte
abbrev pub AreDigitValues : (digits values : List ℕ) → Type 0
AreDigitValues digits values = (k : ℕ) → k < length digits → slice_index values k ≡ unwrap_or (hex_digit_value (slice_index digits k)) 16
