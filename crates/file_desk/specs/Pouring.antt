-- What a sink has taken of a source.
use Rattle.std.specs.Prelude.{◌≡◌, ◌≤◌, ◌+◌, ℕ, List, length, Result, Ok, Err, ⊤}
use Rattle.desk_outside.specs.declared.desk.FetchError.{FetchError}
use Rattle.desk_outside.specs.declared.desk.FetchError.TheVariants.{Failed, TooLong, Memory}
use Rattle.desk_outside.specs.Sink.{Takes}

-- a sink has taken so many bytes more
abbrev pub TakesCount : {S : Type 0} → (has : S → List ℕ → Type 0) → (before : S) → (count : ℕ) → (now : S) → Type 0
TakesCount has before count now = (bytes : List ℕ) × (length bytes ≡ count) × Takes has before bytes now

-- a sink has taken some bytes, not more than the most, or it is told that there are more
abbrev pub PoursAtMost : {S : Type 0} → (has : S → List ℕ → Type 0) → ℕ → S → Result S FetchError → Type 0
PoursAtMost has most sink (Ok full) = (bytes : List ℕ) × (length bytes ≤ most) × Takes has sink bytes full
PoursAtMost has most sink (Err (TooLong seen)) = seen ≡ most + 1
PoursAtMost has most sink (Err Failed) = ⊤
PoursAtMost has most sink (Err Memory) = ⊤

-- why a file can't be read, which is not the number of its bytes
abbrev pub IsUnreadable : FetchError → Type 0
IsUnreadable Failed = ⊤
IsUnreadable (TooLong seen) = ⊥
IsUnreadable Memory = ⊤
