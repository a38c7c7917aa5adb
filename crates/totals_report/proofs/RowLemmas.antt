-- A line that has not six fields.
use Rattle.std.proofs.Common.{◌≡◌, ◌≢◌, ℕ, List, [], ◌∷◌, length, None, refl}
use Rattle.totals_report.specs.Reading.{row_of}

pub not_six : (texts : List (List ℕ)) → length texts ≢ 6 → row_of texts ≡ None
unfolding row_of
not_six [] h = refl
not_six (a ∷ []) h = refl
not_six (a ∷ b ∷ []) h = refl
not_six (a ∷ b ∷ c ∷ []) h = refl
not_six (a ∷ b ∷ c ∷ d ∷ []) h = refl
not_six (a ∷ b ∷ c ∷ d ∷ e ∷ []) h = refl
not_six (a ∷ b ∷ c ∷ d ∷ e ∷ f ∷ []) h = absurd (h refl)
not_six (a ∷ b ∷ c ∷ d ∷ e ∷ f ∷ g ∷ texts) h = refl
