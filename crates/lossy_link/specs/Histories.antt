-- A link over many calls.
use Rattle.std.specs.Prelude.{◌≡◌, ℕ, ◌+◌, List, [], ◌∷◌, ◌++◌, length, map}
use Rattle.lossy_link.specs.Arrivals.{Arrival, arrival, posted, due_at, due_elsewhere}

-- a call that succeeds: a post with its fate, or the copies due at a tick are taken out
pub data Step : Type 0 where
  Posted : (tick : ℕ) (bytes : List ℕ) (fate : List ℕ) → Step
  Taken : (tick : ℕ) → Step

-- the copies of a link after these steps, as each call leaves them
abbrev pub copies_after : List Arrival → List Step → List Arrival
copies_after copies [] = copies
copies_after copies (Posted tick bytes fate ∷ steps) = copies_after (posted tick bytes fate copies) steps
copies_after copies (Taken tick ∷ steps) = copies_after (due_elsewhere tick copies) steps

-- the copies that were posted less those that were taken out, in the order of their posts
abbrev pub left_after : List Arrival → List Step → List Arrival
left_after copies [] = copies
left_after copies (Posted tick bytes fate ∷ steps) = left_after (copies ++ map (λ delay. arrival (tick + delay) bytes) fate) steps
left_after copies (Taken tick ∷ steps) = left_after (due_elsewhere tick copies) steps

-- a link that began empty has the copies that were posted less those that were taken out, and hands those of a tick out in the order of their posts, each with its bytes
pub record KeepsEachCopy (steps : List Step) : Type 0 where
  pub due : (tick : ℕ) → due_at tick (copies_after [] steps) ≡ due_at tick (left_after [] steps)
  pub left : length (copies_after [] steps) ≡ length (left_after [] steps)

abbrev pub EachCopyOnce : Type 0
EachCopyOnce = (steps : List Step) → KeepsEachCopy steps
