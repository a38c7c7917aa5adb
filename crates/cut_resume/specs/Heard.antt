-- How many entries of a run, from its first on, are heard to be those of a cut.
use Rattle.std.specs.Prelude.{◌≡◌, ◌≢◌, ℕ, ◌<◌, ◌≤◌, true, List, length, take, slice_index_or, Option, IfSome}
use Rattle.event_schedule.specs.declared.Entry.{Entry}
use Rattle.cut_resume.specs.declared.heard.Heard.{Heard}

-- so many entries are the first of both
pub record AreFirst (xs ys : List Entry) (n : ℕ) : Type 0 where
  pub one : n ≤ length xs
  pub other : n ≤ length ys
  pub same : take n xs ≡ take n ys

-- so many are, and where both go on, the next ones differ
pub record AreAllFirst (xs ys : List Entry) (n : ℕ) : Type 0 where
  pub first : AreFirst xs ys n
  pub stops : n < length xs → n < length ys → (x y : Entry) → slice_index_or xs n x ≢ slice_index_or ys n y

-- as long as none differs, so many entries of the cut are the first of the run
abbrev pub AreHeard : List Entry → List Entry → Option ℕ → Type 0
AreHeard cut run heard = IfSome heard (AreFirst cut run)

-- the run begins with the entries of the cut, where it is in order
abbrev pub IsInOrder : List Entry → Heard → Type 0
IsInOrder cut h = h.is_in_order ≡ true → AreFirst cut h.run.transcript.entries (length cut)
