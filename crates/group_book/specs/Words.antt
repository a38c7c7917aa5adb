-- The words that a book keeps, each beside the mark that it is there.
use Rattle.std.specs.Prelude.{ℕ, Bool, if◌then◌else◌, List, [], ◌∷◌, Option, Some, None}

-- the words that are marked, and none at the other places
abbrev pub marked_words : List Bool → List ℕ → List (Option ℕ)
marked_words [] values = []
marked_words (mark ∷ marks) [] = []
marked_words (mark ∷ marks) (value ∷ values) = (if mark then Some value else None) ∷ marked_words marks values
