-- The chain of a round, as it is found in a book.
use Rattle.std.specs.Prelude.{◌≡◌, ℕ, ◌<◌, ◌≤◌, Bool, true, false, nat_lt, IsTrue, List, [], ◌∷◌, ◌+◌, ◌++◌, sum_by, Option, Some, None, slice_get, if◌then◌else◌}
use Rattle.std.specs.List.{list_all}
use Rattle.missing_round.specs.Words.{word}
use Rattle.group_plan.specs.Plans.{size}
use Rattle.group_plan.specs.Tables.{ReadingsView, reading}
use Rattle.event_schedule.specs.declared.Event.{Event}
use Rattle.event_schedule.specs.Schedule.{Shape, is_announced, is_answer_sent}
use Rattle.event_schedule.specs.Tables.{Masks}
use Rattle.group_book.specs.Books.{BookView, shape_of, past, has_round}
use Rattle.ideal_masks.specs.declared.chain.Chain.{Chain}
use Rattle.ideal_masks.specs.declared.chain.Link.{Link}
use Rattle.ideal_masks.specs.declared.links.Walk.{Walk}
use Rattle.ideal_masks.specs.declared.compared.Compared.{Compared}
use Rattle.ideal_masks.specs.declared.Offset.{Offset}
use Rattle.ideal_masks.specs.Pools.{Pool, nobody, pool_of, others, others_answered, others_silent, is_open}
use Rattle.ideal_masks.specs.Offsets.{delta, own_move, moves_for}
use Rattle.ideal_masks.specs.Moves.{own_list, pair_list}

-- the deltas of two tables
abbrev pub deltas : ReadingsView → ReadingsView → ℕ → ℕ → ℕ → ℕ
deltas x y = delta (reading x.table) (reading y.table)

-- the moves between two tables, for a pool, after the events of a book
abbrev pub moves_of : Pool → ReadingsView → ReadingsView → BookView → Masks
moves_of pool x y b = moves_for pool (shape_of b) (deltas x y) (past b)

-- the two tables are of the book's plan, and the plan has the round
pub record IsCompared (c : Compared) : Type 0 where
  pub first : c.first.now.plan ≡ c.book.now.presence.plan
  pub second : c.second.now.plan ≡ c.book.now.presence.plan
  pub round : IsTrue (has_round c.book.now c.group c.round)

-- who is in the pool
abbrev pub pool_in : Compared → Pool
pool_in c = pool_of c.known.now

-- how many meters the group has
abbrev pub size_of : Compared → ℕ
size_of c = size c.book.now.presence.plan.groups c.group

-- by how much each meter's reading is more in the first table
abbrev pub deltas_of : Compared → ℕ → ℕ
deltas_of c = deltas c.first.now c.second.now c.group c.round

-- each of these is a meter of a group of n
abbrev pub are_below : ℕ → List ℕ → Bool
are_below n meters = list_all (λ i. nat_lt i n) meters

-- by how much the own word of each meter moves where the round is announced: of one outside the pool, and of any
abbrev pub others_moves_of : Compared → ℕ → ℕ
others_moves_of c =
    own_move (deltas_of c) (λ k. is_answer_sent (shape_of c.book.now) c.group c.round k (past c.book.now))
    (others_answered (pool_in c) (shape_of c.book.now) c.group c.round (past c.book.now)) (others_silent (pool_in c) (shape_of c.book.now) c.group c.round (past c.book.now))

abbrev pub own_moves_of : Compared → ℕ → ℕ
own_moves_of c i = if pool_in c c.group i then 0 else others_moves_of c i

-- and where it isn't
abbrev pub own_deltas_of : Compared → ℕ → ℕ
own_deltas_of c i = if pool_in c c.group i then 0 else deltas_of c i

-- an announced round's survivors outside the pool, those of them that answered, and the least of the others
pub record IsChainOf (pool : Pool) (s : Shape) (g r : ℕ) (p : List Event) (c : Chain) : Type 0 where
  pub announced : is_announced s g r p ≡ true
  pub others : c.others ≡ others pool s g r p
  pub answered : c.answered ≡ others_answered pool s g r p
  pub end : c.end ≡ slice_get (others_silent pool s g r p) 0

abbrev pub IsChain : Pool → Shape → ℕ → ℕ → List Event → Option Chain → Type 0
IsChain pool s g r p (Some c) = IsChainOf pool s g r p c
IsChain pool s g r p None = is_announced s g r p ≡ false

-- the survivors of a round outside the pool, exactly where it is open to it
abbrev pub IsOpenTo : Pool → Shape → ℕ → ℕ → List Event → Option (List ℕ) → Type 0
IsOpenTo pool s g r p (Some set) = (is_open pool s g r p ≡ true) × (set ≡ others pool s g r p)
IsOpenTo pool s g r p None = is_open pool s g r p ≡ false

-- the survivors of a round, exactly where it is opened
abbrev pub IsOpened : Shape → ℕ → ℕ → List Event → Option (List ℕ) → Type 0
IsOpened = IsOpenTo nobody

-- the one pair word of a row that moves: f is by how much the word of the lower meter and each meter above it moves, in a group of n
abbrev pub IsRow : (ℕ → ℕ) → ℕ → ℕ → Option Link → Type 0
IsRow f low n None = (j : ℕ) → low < j → word (f j) ≡ 0
IsRow f low n (Some l) =
    (low < l.high) × (l.high < n) × (l.by ≡ word (f l.high)) × ((j : ℕ) → low < j → (j ≡ l.high → ⊥) → word (f j) ≡ 0)

-- ---- the walk along a group

-- numbers that ascend, none below low
abbrev pub RisesFrom : ℕ → List ℕ → Type 0
RisesFrom low [] = Unit {0}
RisesFrom low (x ∷ xs) = (low ≤ x) × RisesFrom (x + 1) xs

-- each number is below n
abbrev pub AreBelow : ℕ → List ℕ → Type 0
AreBelow n [] = Unit {0}
AreBelow n (x ∷ xs) = (x < n) × AreBelow n xs

-- those of B that are ahead of meter low, and the sum of the deltas d of the others
pub record IsWalk (d : ℕ → ℕ) (b : List ℕ) (low : ℕ) (w : Walk) : Type 0 where
  pub passed : List ℕ
  pub whole : passed ++ w.ahead ≡ b
  pub below : AreBelow low passed
  pub above : RisesFrom low w.ahead
  pub sum : w.sum ≡ word (sum_by d passed)

-- the first of those ahead, or else the end
abbrev pub next_of : List ℕ → Option ℕ → Option ℕ
next_of [] end = end
next_of (x ∷ xs) end = Some x

-- the link from a meter to a higher one
abbrev pub link_to : ℕ → ℕ → Option ℕ → Option Link
link_to low by None = None
link_to low by (Some high) = if nat_lt low high then Some (record { high = high; by = by }) else None

-- ---- the list of a round

-- by how much the words of the round move
abbrev pub moves_in : Compared → Masks
moves_in c = moves_of (pool_in c) c.first.now c.second.now c.book.now

-- the own words of the round that move, and its pair words
abbrev pub owns_of : Compared → List Offset
owns_of c = own_list (moves_in c) c.group c.round (size_of c)

abbrev pub pairs_of : Compared → List Offset
pairs_of c = pair_list (moves_in c) c.group c.round (size_of c)
