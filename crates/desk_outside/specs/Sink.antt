-- What takes the bytes of a file.
use Rattle.std.specs.Prelude.{ℕ, List, ◌++◌}

-- a sink has taken these bytes more, behind those that it had
abbrev pub Takes : {S : Type 0} → (has : S → List ℕ → Type 0) → (before : S) → (bytes : List ℕ) → (now : S) → Type 0
Takes has before bytes now = (taken : List ℕ) → has before taken → has now (taken ++ bytes)

-- it is told of some bytes that a sink has taken them
abbrev pub HasSome : {S : Type 0} → (has : S → List ℕ → Type 0) → S → Type 0
HasSome has sink = (taken : List ℕ) × has sink taken
