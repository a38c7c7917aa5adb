-- What a meter knows of one round.
use Rattle.std.specs.Prelude.{ℕ, List, Option}

-- the members of the round once it is marked read, and the set that is answered once there is one
pub record Note : Type 0 where
  pub members : Option (List ℕ)
  pub kept : Option (List ℕ)
