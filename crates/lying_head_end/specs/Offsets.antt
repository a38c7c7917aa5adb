-- Offsets: how the masks move, so that one table of readings takes the place of another before a head end that lies.
use Rattle.std.specs.Prelude.{◌≡◌, ℕ, true, List, is_some, if◌then◌else◌}
use Rattle.group_plan.specs.Plans.{Group}
use Rattle.event_schedule.specs.Schedule.{Shape}
use Rattle.event_schedule.specs.Tables.{Readings, Masks, reading_at}
use Rattle.event_schedule.specs.Transcript.{shape_of_readings}
use Rattle.ideal_masks.specs.Pools.{Pool}
use Rattle.ideal_masks.specs.Offsets.{delta}
use Rattle.mask_graphs.specs.Graphs.{HaveOneSum}
use Rattle.mask_graphs.specs.Search.{steps_of}
use Rattle.mask_graphs.specs.Moves.{load, own_move, pair_move}
use Rattle.lying_head_end.specs.Acts.{Act}
use Rattle.lying_head_end.specs.Graphs.{graph_for}

-- the tables have the same presence, the same readings of the meters of the pool, and one sum over each bare part of each round
pub record AgreeTold (pool : Pool) (groups : List Group) (x y : Readings) (whole : List Act) : Type 0 where
  pub presence : (g r i : ℕ) → is_some (x g r i) ≡ is_some (y g r i)
  pub readings : (g r i : ℕ) → pool g i ≡ true → x g r i ≡ y g r i
  pub sums : (g r : ℕ) → HaveOneSum (graph_for pool (shape_of_readings groups x) whole g r) (reading_at x g r) (reading_at y g r)

-- the own words of the pool stay; each other word moves by the steps of its round, along spanning trees of the parts
abbrev pub own_offset_told : Pool → Shape → (ℕ → ℕ → ℕ → ℕ) → List Act → ℕ → ℕ → ℕ → ℕ
own_offset_told pool s d whole g r i =
    if pool g i then 0 else own_move (graph_for pool s whole g r) (steps_of (graph_for pool s whole g r)) (d g r) i

abbrev pub pair_offset_told : Pool → Shape → (ℕ → ℕ → ℕ → ℕ) → List Act → ℕ → ℕ → ℕ → ℕ → ℕ
pair_offset_told pool s d whole g r i j =
    pair_move (graph_for pool s whole g r) (steps_of (graph_for pool s whole g r)) (load (graph_for pool s whole g r) (d g r)) i j

-- for any deltas
abbrev pub moves_told : Pool → Shape → (ℕ → ℕ → ℕ → ℕ) → List Act → Masks
moves_told pool s d whole = record { own = own_offset_told pool s d whole; pair = pair_offset_told pool s d whole }

-- between two tables of readings that agree
abbrev pub offsets_told : Pool → List Group → Readings → Readings → List Act → Masks
offsets_told pool groups x y whole = moves_told pool (shape_of_readings groups x) (delta x y) whole
