-- Lines, compared one by one.
use Rattle.std.specs.Prelude.{◌≡◌, ◌≢◌, ℕ, ◌<◌, Bool, true, false, List, length, take, slice_get, Option, Some, None}
use Rattle.group_plan.specs.Plans.{PlanView}
use Rattle.event_schedule.specs.declared.Line.{Line}
use Rattle.event_schedule.specs.Tables.{Masks}
use Rattle.event_schedule.specs.Transcripts.{TranscriptView}
use Rattle.twin_worlds.specs.declared.world.World.{World}
use Rattle.twin_worlds.specs.Worlds.{Tells}

-- it holds, or it doesn't
abbrev pub Decides : Type 0 → Bool → Type 0
Decides P true = P
Decides P false = ¬ P

-- the lists differ at this place, or they don't
abbrev pub IsOther : List Line → List Line → ℕ → Bool → Type 0
IsOther xs ys k true = slice_get xs k ≢ slice_get ys k
IsOther xs ys k false = slice_get xs k ≡ slice_get ys k

-- the lists are the same, or this is the first place, counted from 0, at which they differ
abbrev pub DifferAt : List Line → List Line → Option ℕ → Type 0
DifferAt xs ys None = xs ≡ ys
DifferAt xs ys (Some k) = (k < length xs) × (take k xs ≡ take k ys) × (slice_get xs k ≢ slice_get ys k)

-- the world tells the lines of t, and t has this entry
pub record CanCompare {M : Type 0} (plan_of : M → PlanView) (table_of : M → Masks) (world : World M) (t : TranscriptView) (k : ℕ) : Type 0 where
  pub tells : Tells plan_of table_of world t
  pub within : k < length t.entries
