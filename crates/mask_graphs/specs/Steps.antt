-- Steps along the graph: each hands all that a meter has left to another one.
use Rattle.std.specs.Prelude.{ℕ, ◌+◌, ◌==◌, Bool, not, ◌&&◌, List, [], ◌∷◌, if◌then◌else◌}
use Rattle.mask_graphs.specs.Graphs.{Graph}

-- what meter `from` has left goes to meter `to`
pub record Step : Type 0 where
  pub from : ℕ
  pub to : ℕ

-- it stays in the own word of `to`, and isn't handed on, where the answer of `to` has its mask with `from`
abbrev pub stays : Graph → Step → Bool
stays graph s = graph.answered s.to && not (graph.stands s.to s.from)

-- what each meter has left after a step
abbrev pub handed : Graph → Step → (ℕ → ℕ) → ℕ → ℕ
handed graph s left i = (if i == s.from then 0 else left i) + (if (i == s.to) && not (stays graph s) then left s.from else 0)

-- and after all steps
abbrev pub left_after : Graph → List Step → (ℕ → ℕ) → ℕ → ℕ
left_after graph [] left = left
left_after graph (s ∷ rest) left = left_after graph rest (handed graph s left)

-- what stays in the own word of meter i
abbrev pub stays_at : Graph → List Step → (ℕ → ℕ) → ℕ → ℕ
stays_at graph [] left i = 0
stays_at graph (s ∷ rest) left i = (if (i == s.to) && stays graph s then left s.from else 0) + stays_at graph rest (handed graph s left) i
