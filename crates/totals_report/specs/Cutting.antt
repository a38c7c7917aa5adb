-- How a line is cut into six fields.
use Rattle.std.specs.Prelude.{◌≡◌, ◌≢◌, ℕ, List, [], ◌∷◌, Option, None, Some, length}
use Rattle.field_texts.specs.Parts.{parts}
use Rattle.totals_report.specs.declared.cut.Fields.{Fields}

-- the fields of a line, where there are six
abbrev pub SplitsRow : List ℕ → Option Fields → Type 0
SplitsRow line None = length (parts 44 line) ≢ 6
SplitsRow line (Some f) = parts 44 line ≡ f.name.now ∷ f.round.now ∷ f.survivors.now ∷ f.missing.now ∷ f.outcome.now ∷ f.total.now ∷ []
