-- Offsets: how the masks of a schedule move, so that one table of readings takes the place of another.
-- `whole` is the whole schedule as a past: all its events, the newest first.
use Rattle.std.specs.Prelude.{◌≡◌, ℕ, ◌+◌, ◌==◌, Bool, true, ◌&&◌, List, [], ◌∷◌, sum_by, is_some, if◌then◌else◌}
use Rattle.missing_round.specs.Words.{word, minus}
use Rattle.group_plan.specs.Plans.{Group}
use Rattle.event_schedule.specs.declared.Event.{Event}
use Rattle.event_schedule.specs.Tables.{Readings, Masks, reading_at, plain_sum}
use Rattle.event_schedule.specs.Schedule.{Shape, is_announced, is_answer_sent}
use Rattle.event_schedule.specs.Transcript.{shape_of_readings}
use Rattle.ideal_masks.specs.Pools.{Pool, nobody, others, others_answered, others_silent, is_open, chain_for}

-- ---- agreement

-- for a pool: the tables have the same presence, the same readings of the meters of the pool, and in each round that is open to it the
-- same sum over the survivors outside it
pub record AgreeFor (pool : Pool) (groups : List Group) (x y : Readings) (whole : List Event) : Type 0 where
  pub presence : (g r i : ℕ) → is_some (x g r i) ≡ is_some (y g r i)
  pub readings : (g r i : ℕ) → pool g i ≡ true → x g r i ≡ y g r i
  pub totals : (g r : ℕ) → is_open pool (shape_of_readings groups x) g r whole ≡ true →
      plain_sum x g r (others pool (shape_of_readings groups x) g r whole)
      ≡ plain_sum y g r (others pool (shape_of_readings groups x) g r whole)

-- where nobody is in the pool: the same presence, and the same sum over the survivors of each round that is opened
abbrev pub Agree : List Group → Readings → Readings → List Event → Type 0
Agree groups x y whole = AgreeFor nobody groups x y whole

-- ---- the chain

-- by how much a reading is more in the first table than in the second
abbrev pub delta : Readings → Readings → ℕ → ℕ → ℕ → ℕ
delta x y g r i = word (reading_at x g r i + minus (reading_at y g r i))

-- the survivors that sent no answer
abbrev pub silent : Shape → ℕ → ℕ → List Event → List ℕ
silent = others_silent nobody

-- the chain: those that answered, ascending, and then the least silent survivor, where there is one
abbrev pub chain : Shape → ℕ → ℕ → List Event → List ℕ
chain = chain_for nobody

-- the pair word of i and j, for i < j, moves by the sum with the sign of u and v, where u and v are these two
abbrev pub link : ℕ → ℕ → ℕ → ℕ → ℕ → ℕ
link u v sum i j = (if (u == i) && (v == j) then sum else 0) + (if (u == j) && (v == i) then minus sum else 0)

-- each two neighbours of the chain move their pair word by the sum of the deltas d from its start up to and with the first of them
abbrev pub pair_move : (ℕ → ℕ) → ℕ → List ℕ → ℕ → ℕ → ℕ
pair_move d sum [] i j = 0
pair_move d sum (u ∷ []) i j = 0
pair_move d sum (u ∷ v ∷ rest) i j = link u v (sum + d u) i j + pair_move d (sum + d u) (v ∷ rest) i j

-- in an announced round the own word of a meter that answered stays, and each other moves by its delta;
-- the silent end of the chain moves besides by the sum of the deltas of those that answered
abbrev pub own_move : (ℕ → ℕ) → (ℕ → Bool) → List ℕ → List ℕ → ℕ → ℕ
own_move d answers answered [] i = if answers i then 0 else d i
own_move d answers answered (z ∷ _) i = if answers i then 0 else (d i + (if z == i then sum_by d answered else 0))

-- ---- the offsets of all words

-- the own words of the pool stay; in a round that isn't announced each other moves by its delta
abbrev pub own_offset_for : Pool → Shape → (ℕ → ℕ → ℕ → ℕ) → List Event → ℕ → ℕ → ℕ → ℕ
own_offset_for pool s d whole g r i =
    if pool g i then 0 else
    if is_announced s g r whole
    then own_move (d g r) (λ k. is_answer_sent s g r k whole) (others_answered pool s g r whole) (others_silent pool s g r whole) i
    else d g r i

-- and each pair word stays
abbrev pub pair_offset_for : Pool → Shape → (ℕ → ℕ → ℕ → ℕ) → List Event → ℕ → ℕ → ℕ → ℕ → ℕ
pair_offset_for pool s d whole g r i j =
    if is_announced s g r whole then pair_move (d g r) 0 (chain_for pool s g r whole) i j else 0

-- for any deltas
abbrev pub moves_for : Pool → Shape → (ℕ → ℕ → ℕ → ℕ) → List Event → Masks
moves_for pool s d whole = record { own = own_offset_for pool s d whole; pair = pair_offset_for pool s d whole }

-- the offsets between two tables of readings that agree for a pool
abbrev pub offsets_for : Pool → List Group → Readings → Readings → List Event → Masks
offsets_for pool groups x y whole = moves_for pool (shape_of_readings groups x) (delta x y) whole

-- and where nobody is in it
abbrev pub own_offset : Shape → (ℕ → ℕ → ℕ → ℕ) → List Event → ℕ → ℕ → ℕ → ℕ
own_offset = own_offset_for nobody

abbrev pub pair_offset : Shape → (ℕ → ℕ → ℕ → ℕ) → List Event → ℕ → ℕ → ℕ → ℕ → ℕ
pair_offset = pair_offset_for nobody

abbrev pub moves : Shape → (ℕ → ℕ → ℕ → ℕ) → List Event → Masks
moves = moves_for nobody

abbrev pub offsets : List Group → Readings → Readings → List Event → Masks
offsets = offsets_for nobody

-- ---- the shift of a mask table, word by word

abbrev pub shift : Masks → Masks → Masks
shift o m = record {
  own = λ g r i. word (m.own g r i + o.own g r i);
  pair = λ g r i j. word (m.pair g r i j + o.pair g r i j);
}

abbrev pub unshift : Masks → Masks → Masks
unshift o m = record {
  own = λ g r i. word (m.own g r i + minus (o.own g r i));
  pair = λ g r i j. word (m.pair g r i j + minus (o.pair g r i j));
}
