-- The fields of a line that has more than three.
use Rattle.std.proofs.Common.{◌≡◌, ◌∙◌, ◌<◌, ℕ, List, [], ◌∷◌, length, refl, ap, arith}
use Rattle.field_texts.specs.Parts.{parts}
use Rattle.field_texts.proofs.Cutting.{parts_some}

first_of : (fs : List (List ℕ)) → 0 < length fs → (f : List ℕ) × (rest : List (List ℕ)) × (fs ≡ f ∷ rest)
first_of [] some = absurd (omega (arith, some))
first_of (f ∷ rest) some = (f, rest, refl)

pub more_fields : (line first second third : List ℕ) (after after_first after_second : List ℕ) → parts 44 line ≡ first ∷ parts 44 after_first → parts 44 after_first ≡ second ∷ parts 44 after_second
    → parts 44 after_second ≡ third ∷ parts 44 after → (b : List ℕ) × (c : List ℕ) × (d : List ℕ) × (rest : List (List ℕ)) × (parts 44 line ≡ first ∷ b ∷ c ∷ d ∷ rest)
more_fields line first second third after after_first after_second one two three =
    let last = first_of (parts 44 after) (parts_some 44 after) in (
      second,
      third,
      last.0,
      last.1,
      one ∙ ap (λ fs. first ∷ fs) (two ∙ ap (λ fs. second ∷ fs) (three ∙ ap (λ fs. third ∷ fs) last.2)),
    )
