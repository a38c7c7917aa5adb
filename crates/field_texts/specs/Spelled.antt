-- Where a text writes a number or a set, said without a reader.
use Rattle.std.specs.Prelude.{◌≡◌, ◌≢◌, ℕ, ◌<◌, ◌^◌, List, decimal, Option, Some, None}
use Rattle.std.specs.List.{All}
use Rattle.missing_round.specs.Sets.{IsSet}
use Rattle.field_texts.specs.Sets.{numbers_text}

-- n, where the text is n in decimal; none, where it is no number below 2^64
abbrev pub IsNumberOf : List ℕ → Option ℕ → Type 0
IsNumberOf text (Some n) = text ≡ decimal n
IsNumberOf text None = (n : ℕ) → n < 2 ^ 64 → text ≢ decimal n

-- a set, where the text is its members' text and all are below high; none, where it is no set of meters below high
abbrev pub IsSetOf : ℕ → List ℕ → Option (List ℕ) → Type 0
IsSetOf high text (Some set) = (text ≡ numbers_text set) × All (λ meter. meter < high) set
IsSetOf high text None = (set : List ℕ) → IsSet set → All (λ meter. meter < high) set → text ≢ numbers_text set
