-- What a test says.
use Rattle.std.specs.Prelude.{Bool, true, false}

-- it holds, or it doesn't
abbrev pub Decides : Type 0 → Bool → Type 0
Decides P true = P
Decides P false = ¬ P
