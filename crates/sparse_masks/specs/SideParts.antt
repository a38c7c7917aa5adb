-- A round of two tables of readings, as the calls of this crate compare them.
use Rattle.std.specs.Prelude.{◌≡◌, ℕ, ◌<◌, List, length}
use Rattle.group_plan.specs.Plans.{size}
use Rattle.group_plan.specs.Tables.{ReadingsView, reading}
use Rattle.event_schedule.specs.Tables.{Masks}
use Rattle.group_book.specs.Books.{BookView, shape_of, past}
use Rattle.ideal_masks.specs.declared.Offset.{Offset}
use Rattle.ideal_masks.specs.Offsets.{delta}
use Rattle.ideal_masks.specs.Moves.{own_list, pair_list}
use Rattle.sparse_masks.specs.declared.sides.Sides.{Sides}
use Rattle.sparse_masks.specs.Offsets.{HasOneRingSum, ring_moves}
use Rattle.sparse_masks.specs.OffsetEnds.{AreOfBook}
use Rattle.sparse_masks.specs.TreeParts.{delta_in}

-- the tables are of the book's plan, and the plan has the round
pub record AreSides (c : Sides) : Type 0 where
  pub plans : AreOfBook c.first.now c.second.now c.book.now
  pub group : c.group < length c.book.now.presence.plan.groups
  pub round : c.round < c.book.now.presence.plan.rounds

-- at a place, both tables have one sum over its component
abbrev pub one_sum : Sides → ℕ → ℕ → ℕ → Type 0
one_sum c = HasOneRingSum c.width (shape_of c.book.now) (reading c.first.now.table) (reading c.second.now.table) (past c.book.now)

-- by how much each meter's reading is more in the first table
abbrev pub deltas_of : Sides → ℕ → ℕ
deltas_of c = delta (reading c.first.now.table) (reading c.second.now.table) c.group c.round

-- how many meters the group has
abbrev pub size_of : Sides → ℕ
size_of c = size c.book.now.presence.plan.groups c.group

-- by meter, their deltas
pub record AreDeltas (c : Sides) (deltas : List ℕ) : Type 0 where
  pub long : length deltas ≡ size_of c
  pub are : delta_in deltas ≡ deltas_of c

-- by how much the words of a ring move between two tables, after the events of a book
abbrev pub moves_between : ℕ → ReadingsView → ReadingsView → BookView → Masks
moves_between w x y b = ring_moves w (shape_of b) (delta (reading x.table) (reading y.table)) (past b)

abbrev pub moves_in : Sides → Masks
moves_in c = moves_between c.width c.first.now c.second.now c.book.now

-- the own words of the round that move, and its pair words
abbrev pub owns_of : Sides → List Offset
owns_of c = own_list (moves_in c) c.group c.round (size_of c)

abbrev pub pairs_of : Sides → List Offset
pairs_of c = pair_list (moves_in c) c.group c.round (size_of c)
