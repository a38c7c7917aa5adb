-- Parts and fates in a text.
use Rattle.std.specs.Prelude.{ℕ, zero, suc, Bool, if◌then◌else◌, List, [], ◌∷◌, Option, Some, None, codes, bytes_eq}
use Rattle.std.specs.Option.{option_map, option_zip}
use Rattle.field_texts.specs.Numbers.{number_of, within}
use Rattle.field_texts.specs.Parts.{parts}
use Rattle.field_texts.specs.Sets.{with_first}

-- what is read of every part, where each can be read
abbrev pub each : {X : Type 0} → (List ℕ → Option X) → List (List ℕ) → Option (List X)
each read [] = Some []
each read (p ∷ ps) = option_map (λ both. both.0 ∷ both.1) (option_zip (read p) (each read ps))

-- a value, where it passes the test
abbrev pub passing : {X : Type 0} → (X → Bool) → Option X → Option X
passing test None = None
passing test (Some x) = if test x then Some x else None

-- two parts, where there are two
abbrev pub two : List (List ℕ) → Option (List ℕ × List ℕ)
two (a ∷ b ∷ []) = Some (a, b)
two _ = None

-- four parts, where there are four
abbrev pub four : List (List ℕ) → Option (List ℕ × List ℕ × List ℕ × List ℕ)
four (a ∷ b ∷ c ∷ d ∷ []) = Some (a, b, c, d)
four _ = None

-- up to k delays of at most 16 that don't fall, from low on
unfoldable pub delays_from : ℕ → ℕ → List (List ℕ) → Option (List ℕ)
delays_from k low [] = Some []
delays_from zero low (p ∷ ps) = None
delays_from (suc k) low (p ∷ ps) = with_first (within low 17 (number_of p)) (λ d. delays_from k d ps)

-- the fate that a text writes: `-`, or 1 to 3 delays from 1 to 16 joined by `+`, none below the one before it
unfoldable pub fate_of : List ℕ → Option (List ℕ)
fate_of text = if bytes_eq text (codes "-") then Some [] else delays_from 3 1 (parts 43 text)
