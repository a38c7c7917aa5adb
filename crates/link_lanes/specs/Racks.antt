-- What contracts see of a rack: the lanes that hang in it, by their meanings and spans, and its posts.
use Rattle.std.specs.Prelude.{◌≡◌, ℕ, ◌+◌, ◌-◌, ◌^◌, ◌≤◌, IsTrue, ⊤, List, [], ◌∷◌, ◌++◌, map, length, vec_len, vec_capacity, Result, Ok, Err}
use Rattle.std.specs.declared.alloc.Global.{Global}
use Rattle.std.specs.declared.alloc.AllocError.{AllocError}
use Rattle.std.specs.declared.dyn_box.DynBox.{DynBox}
use Rattle.link_lanes.specs.declared.rack.Rack.{Rack}
use Rattle.link_lanes.specs.declared.Post.{Post}
use Rattle.link_lanes.specs.Lanes.{Meaning, Slot}
use Rattle.link_lanes.specs.Counts.{slot, are_up_to}

-- the lanes that hang, in the order of hanging; `meaning` says what a boxed lane means
abbrev pub slots : {I : Type 0} {D : I → Type 0} → (DynBox I Global D → Meaning) → Rack I D → List Slot
slots meaning rack = map (λ h. slot (meaning h.lane) h.from h.to) rack.hung.items

-- the posts so far
abbrev pub posts_of : {I : Type 0} {D : I → Type 0} → Rack I D → List Post
posts_of rack = rack.posts.items

-- how many posts have room without memory
abbrev pub spare_of : {I : Type 0} {D : I → Type 0} → Rack I D → ℕ
spare_of rack = vec_capacity rack.posts - vec_len rack.posts

-- no lane's count comes near 2 ^ 63 before the list of posts has 2 ^ 32
abbrev pub HasRoom : {I : Type 0} {D : I → Type 0} → (DynBox I Global D → Meaning) → Rack I D → Type 0
HasRoom meaning rack = IsTrue (are_up_to (2 ^ 62 + length (posts_of rack)) (slots meaning rack))

-- a lane is hung behind the others, or handed back
abbrev pub HangEnds : {B : Type 0} → List Slot → B → Slot → List Slot → Result (Unit {0}) B → Type 0
HangEnds before lane s after (Ok done) = after ≡ before ++ s ∷ []
HangEnds before lane s after (Err back) = (after ≡ before) × (back ≡ lane)

-- so many posts have room, unless memory lacks
abbrev pub ReserveEnds : ℕ → ℕ → Result (Unit {0}) AllocError → Type 0
ReserveEnds posts spare (Ok done) = posts ≤ spare
ReserveEnds posts spare (Err lack) = ⊤
