-- A rack over many calls: posts, lanes hung later, and lanes let go.
use Rattle.std.specs.Prelude.{◌≡◌, ℕ, ◌≤◌, List, [], ◌∷◌, ◌++◌, map, filter}
use Rattle.group_plan.specs.declared.tag.Tag.{Tag}
use Rattle.link_lanes.specs.declared.Post.{Post}
use Rattle.link_lanes.specs.Lanes.{Slot, fate_through, after_post, after_posts, lasts}

-- what is done to a rack: a post is made, a lane is hung, or the lanes whose span ended before a tick are let go
pub data Step : Type 0 where
  Passed : (p : Post) → Step
  Hung : (s : Slot) → Step
  Retired : (tick : ℕ) → Step

-- the lanes of a rack after these steps, as each call leaves them
abbrev pub slots_after : List Slot → List Step → List Slot
slots_after slots [] = slots
slots_after slots (Passed p ∷ steps) = slots_after (map (after_post p.tick) slots) steps
slots_after slots (Hung s ∷ steps) = slots_after (slots ++ s ∷ []) steps
slots_after slots (Retired tick ∷ steps) = slots_after (filter (lasts tick) slots) steps

-- the posts among the steps
abbrev pub posts_made : List Step → List Post
posts_made [] = []
posts_made (Passed p ∷ steps) = p ∷ posts_made steps
posts_made (Hung s ∷ steps) = posts_made steps
posts_made (Retired tick ∷ steps) = posts_made steps

-- the lanes hung in these steps, each after the posts made since
abbrev pub hung_since : List Step → List Slot
hung_since [] = []
hung_since (Passed p ∷ steps) = hung_since steps
hung_since (Hung s ∷ steps) = after_posts (posts_made steps) s ∷ hung_since steps
hung_since (Retired tick ∷ steps) = hung_since steps

-- no lane was let go whose span ends at this tick or later
abbrev pub RetiresBy : ℕ → List Step → Type 0
RetiresBy tick [] = Unit {0}
RetiresBy tick (Passed p ∷ steps) = RetiresBy tick steps
RetiresBy tick (Hung s ∷ steps) = RetiresBy tick steps
RetiresBy tick (Retired t ∷ steps) = (t ≤ tick) × RetiresBy tick steps

-- after any steps, a post has the fate of the lanes that hung at first and of those hung later, in the order of hanging,
-- each of which has counted the posts made since it was hung whose tick its span holds
abbrev pub FatesByPostsSince : Type 0
FatesByPostsSince =
    (slots : List Slot) (steps : List Step) (tick : ℕ) (tag : Tag) (coming : List ℕ) → RetiresBy tick steps
    → fate_through tick tag (slots_after slots steps) coming ≡ fate_through tick tag (map (after_posts (posts_made steps)) slots ++ hung_since steps) coming
