-- The fields of a line.
use Rattle.std.specs.Prelude.{◌≡◌, ℕ, List, [], ◌∷◌}
use Rattle.apart_lines.specs.declared.fields.Fields.{Fields}
use Rattle.apart_lines.specs.declared.fields.Fields.TheVariants.{One, Two, Three, More}

-- these are the fields: up to three, or more than three and this is the first
abbrev pub AreFields : List (List ℕ) → Fields → Type 0
AreFields fs (One a) = fs ≡ a.now ∷ []
AreFields fs (Two a b) = fs ≡ a.now ∷ b.now ∷ []
AreFields fs (Three a b c) = fs ≡ a.now ∷ b.now ∷ c.now ∷ []
AreFields fs (More a) = (b : List ℕ) × (c : List ℕ) × (d : List ℕ) × (rest : List (List ℕ)) × (fs ≡ a.now ∷ b ∷ c ∷ d ∷ rest)
