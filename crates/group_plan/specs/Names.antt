-- Names of groups.
use Rattle.std.specs.Prelude.{◌≡◌, ℕ, nat_le, Bool, false, ◌==◌, ◌&&◌, ◌||◌, IsTrue, List, length, Option, Some, None}
use Rattle.std.specs.List.{list_all}

-- a letter, a digit, `_` or `-` of ASCII
abbrev pub is_name_byte : ℕ → Bool
is_name_byte b =
    (nat_le 97 b && nat_le b 122) || (nat_le 65 b && nat_le b 90) || (nat_le 48 b && nat_le b 57) || (b == 95) || (b == 45)

-- a name: 1 to 16 letters, digits, `_` or `-`
abbrev pub is_name : List ℕ → Bool
is_name bytes = nat_le 1 (length bytes) && nat_le (length bytes) 16 && list_all is_name_byte bytes

-- the text is made a name: none exactly where it is not of that form
abbrev pub MakesName : List ℕ → Option (List ℕ) → Type 0
MakesName text None = is_name text ≡ false
MakesName text (Some name) = IsTrue (is_name text) × (name ≡ text)
