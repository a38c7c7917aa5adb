-- The bytes of arguments.
use Rattle.std.specs.Prelude.{ℕ, nat_le, Bool, ◌&&◌}

-- a graphic byte of ASCII
abbrev pub is_arg_byte : ℕ → Bool
is_arg_byte b = nat_le 0x21 b && nat_le b 0x7e
