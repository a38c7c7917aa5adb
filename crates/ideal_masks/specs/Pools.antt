-- A pool: meters, of any groups, that share all that they know, with each other and with whoever sees the transcript.
-- `whole` is the whole schedule as a past: all its events, the newest first.
use Rattle.std.specs.Prelude.{◌≡◌, ℕ, ◌<◌, Bool, true, false, not, ◌&&◌, ◌||◌, List, [], ◌++◌, take, filter, slice_index_or}
use Rattle.std.specs.List.{list_all}
use Rattle.missing_round.specs.Sets.{is_member}
use Rattle.event_schedule.specs.declared.Event.{Event}
use Rattle.event_schedule.specs.Tables.{Masks}
use Rattle.event_schedule.specs.Schedule.{Shape, members_of, is_reading_taken, is_announced, is_answer_sent}

-- whether a meter is in the pool, by its group and its number
abbrev pub Pool : Type 0
Pool = ℕ → ℕ → Bool

-- the pool that no meter is in
abbrev pub nobody : Pool
nobody g i = false

-- the pool that is kept as a set of meters for each group, by group; a group past the last set has no meter in it
abbrev pub pool_of : List (List ℕ) → Pool
pool_of sets g i = is_member i (slice_index_or sets g [])

-- ---- a round

-- the others: the survivors of the round outside the pool
abbrev pub others : Pool → Shape → ℕ → ℕ → List Event → List ℕ
others pool s g r whole = filter (λ i. not (pool g i) && is_reading_taken s g r i whole) (members_of s g r)

-- those of them that sent their answer, whether or not it arrived
abbrev pub others_answered : Pool → Shape → ℕ → ℕ → List Event → List ℕ
others_answered pool s g r whole = filter (λ i. is_answer_sent s g r i whole) (others pool s g r whole)

-- those of them that sent no answer
abbrev pub others_silent : Pool → Shape → ℕ → ℕ → List Event → List ℕ
others_silent pool s g r whole = filter (λ i. not (is_answer_sent s g r i whole)) (others pool s g r whole)

-- an announced round is open to the pool where each survivor outside it sent its answer, also after the End
abbrev pub is_open : Pool → Shape → ℕ → ℕ → List Event → Bool
is_open pool s g r whole = is_announced s g r whole && list_all (λ i. is_answer_sent s g r i whole) (others pool s g r whole)

-- the chain of the round: the others that answered, ascending, and then the least silent one, where there is one
abbrev pub chain_for : Pool → Shape → ℕ → ℕ → List Event → List ℕ
chain_for pool s g r whole = others_answered pool s g r whole ++ take 1 (others_silent pool s g r whole)

-- ---- what the pool knows of the masks

-- the two mask tables have the same words of the pool: the own words of its meters, and each pair word with an end in it
pub record ShareWords (pool : Pool) (m k : Masks) : Type 0 where
  pub own : (g r i : ℕ) → pool g i ≡ true → m.own g r i ≡ k.own g r i
  pub pair : (g r i j : ℕ) → i < j → (pool g i || pool g j) ≡ true → m.pair g r i j ≡ k.pair g r i j
