-- Lanes: each hangs in a rack for a span of ticks and changes the fates of the posts made in it.
use Rattle.std.specs.Prelude.{◌≡◌, ℕ, ◌+◌, Bool, ◌&&◌, nat_le, if◌then◌else◌, List, [], ◌∷◌, ◌++◌, map, filter, count_by}
use Rattle.group_plan.specs.declared.Tag.{Tag}
use Rattle.link_lanes.specs.declared.Post.{Post}

-- what a lane answers to its post number k of a tag, given the fate so far
abbrev pub Answer : Type 0
Answer = ℕ → Tag → List ℕ → List ℕ

-- a lane: its name, its test of an argument, the number of its posts, its answer, and the answer that loading an argument gives it
pub record Meaning : Type 0 where
  pub called : List ℕ
  pub fits : List ℕ → Bool
  pub count : ℕ
  pub answer : Answer
  pub given : List ℕ → Answer

-- the lane after one more post
abbrev pub counted : Meaning → Meaning
counted m = record m { count = m.count + 1 }

-- the lane after a load
abbrev pub loaded : Meaning → List ℕ → Meaning
loaded m arg = record m { count = 0; answer = m.given arg }

-- a lane that hangs from one tick to another, both included
pub record Slot : Type 0 where
  pub lane : Meaning
  pub from : ℕ
  pub to : ℕ

abbrev pub hangs_at : ℕ → Slot → Bool
hangs_at tick s = nat_le s.from tick && nat_le tick s.to

-- ---- the fate of a post

-- a lane whose span holds the tick answers; the others leave the fate as it is
abbrev pub answer_at : ℕ → Tag → Slot → List ℕ → List ℕ
answer_at tick tag s coming = if hangs_at tick s then s.lane.answer s.lane.count tag coming else coming

-- through all lanes, in the order of hanging
abbrev pub fate_through : ℕ → Tag → List Slot → List ℕ → List ℕ
fate_through tick tag [] coming = coming
fate_through tick tag (s ∷ slots) coming = fate_through tick tag slots (answer_at tick tag s coming)

-- a lane after these posts: it has counted those whose tick its span holds
abbrev pub after_posts : List Post → Slot → Slot
after_posts posts s = record s { lane = record s.lane { count = s.lane.count + count_by (λ p. hangs_at p.tick s) posts } }

-- the fate of a post that comes after these, which starts as one copy of delay 1
abbrev pub fate_after : List Slot → List Post → ℕ → Tag → List ℕ
fate_after slots before tick tag = fate_through tick tag (map (after_posts before) slots) (1 ∷ [])

-- the fates of posts in order, each after those before it
abbrev pub fates_after : List Slot → List Post → List Post → List (List ℕ)
fates_after slots before [] = []
fates_after slots before (p ∷ rest) = fate_after slots before p.tick p.tag ∷ fates_after slots (before ++ p ∷ []) rest

-- ---- the same, post by post

-- a lane after a post of this tick
abbrev pub after_post : ℕ → Slot → Slot
after_post tick s = if hangs_at tick s then record s { lane = counted s.lane } else s

-- a lane whose span has not ended
abbrev pub lasts : ℕ → Slot → Bool
lasts tick s = nat_le tick s.to

-- counting post by post counts them all, and letting go of lanes whose span has ended changes no fate
pub record RackGoesOn (slots : List Slot) : Type 0 where
  pub counted : (before : List Post) (p : Post) →
      map (after_post p.tick) (map (after_posts before) slots) ≡ map (after_posts (before ++ p ∷ [])) slots
  pub lasting : (tick : ℕ) (tag : Tag) (coming : List ℕ) →
      fate_through tick tag (filter (lasts tick) slots) coming ≡ fate_through tick tag slots coming

abbrev pub RacksGoOn : Type 0
RacksGoOn = (slots : List Slot) → RackGoesOn slots
