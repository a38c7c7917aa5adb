-- Arguments of lanes.
use Rattle.std.specs.Prelude.{◌≡◌, ℕ, true, not, ⊤, List, Some, Result, Ok, Err, position}
use Rattle.std.specs.List.{list_all}
use Rattle.link_lanes.specs.declared.row.ArgError.{ArgError}
use Rattle.link_lanes.specs.declared.row.ArgError.TheVariants.{Byte, Memory}
use Rattle.link_lanes.specs.ArgBytes.{is_arg_byte}

-- the text is made an argument, or the place of its first other byte is answered
abbrev pub MakesArg : List ℕ → Result (List ℕ) ArgError → Type 0
MakesArg text (Ok arg) = (arg ≡ text) × (list_all is_arg_byte text ≡ true)
MakesArg text (Err (Byte at)) = position (λ b. not (is_arg_byte b)) text ≡ Some at
MakesArg text (Err Memory) = ⊤
