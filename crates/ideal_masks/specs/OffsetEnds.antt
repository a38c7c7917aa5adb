-- What `offsets_after` answers, by cases.
use Rattle.std.specs.Prelude.{◌≡◌, ℕ, ◌==◌, nat_lt, Bool, true, ◌&&◌, ◌||◌, List, reverse, is_some, Result, Ok, Err}
use Rattle.group_plan.specs.Tables.{ReadingsView, reading}
use Rattle.event_schedule.specs.declared.Event.{Event}
use Rattle.event_schedule.specs.Tables.{Readings, Masks, plain_sum}
use Rattle.event_schedule.specs.Schedule.{Shape}
use Rattle.event_schedule.specs.Transcript.{shape_of_readings, transcript}
use Rattle.ideal_masks.specs.declared.Offset.{Offset}
use Rattle.ideal_masks.specs.declared.Differ.{Differ}
use Rattle.ideal_masks.specs.declared.Differ.TheVariants.{Presence, Total, Memory}
use Rattle.ideal_masks.specs.declared.PoolDiffer.{PoolDiffer}
use Rattle.ideal_masks.specs.declared.PoolDiffer.TheVariants.{Known, Other}
use Rattle.ideal_masks.specs.Pools.{Pool, nobody, others, is_open, ShareWords}
use Rattle.ideal_masks.specs.Offsets.{AgreeFor, Agree}
use Rattle.ideal_masks.specs.ListTables.{MaskTable, IsMaskTable}
use Rattle.ideal_masks.specs.Moves.{listed}
use Rattle.ideal_masks.specs.Isolation.{CarriesFor, offsets_between_for, offsets_between}

-- ---- the order of rounds and of places

-- round b of group a comes before round r of group g
abbrev pub is_earlier_round : ℕ → ℕ → ℕ → ℕ → Bool
is_earlier_round a b g r = nat_lt a g || ((a == g) && nat_lt b r)

-- the place (a, b, c) comes before (g, r, i): by group, then by round, then by meter
abbrev pub is_earlier : ℕ → ℕ → ℕ → ℕ → ℕ → ℕ → Bool
is_earlier a b c g r i = is_earlier_round a b g r || ((a == g) && (b == r) && nat_lt c i)

-- ---- presence

-- both tables have a reading at the place, or neither has
abbrev pub IsAlike : Readings → Readings → ℕ → ℕ → ℕ → Type 0
IsAlike x y g r i = is_some (x g r i) ≡ is_some (y g r i)

-- so it is at each place before this one
abbrev pub AreAlikeBefore : Readings → Readings → ℕ → ℕ → ℕ → Type 0
AreAlikeBefore x y g r i = (a b c : ℕ) → is_earlier a b c g r i ≡ true → IsAlike x y a b c

-- the first place at which one table alone has a reading
pub record IsFirstPresence (x y : Readings) (g r i : ℕ) : Type 0 where
  pub differs : IsAlike x y g r i → ⊥
  pub before : AreAlikeBefore x y g r i

-- ---- the readings that a pool knows

-- both tables have the same reading at the place, if its meter is in the pool
abbrev pub IsKnownAlike : Pool → Readings → Readings → ℕ → ℕ → ℕ → Type 0
IsKnownAlike pool x y g r i = pool g i ≡ true → x g r i ≡ y g r i

-- the first place of a meter of the pool at which the tables have another reading
pub record IsFirstKnown (pool : Pool) (x y : Readings) (g r i : ℕ) : Type 0 where
  pub known : pool g i ≡ true
  pub differs : x g r i ≡ y g r i → ⊥
  pub before : (a b c : ℕ) → is_earlier a b c g r i ≡ true → IsKnownAlike pool x y a b c

-- ---- totals

-- if the round is open to the pool, both tables have one sum over its survivors outside the pool
abbrev pub HasOneTotalFor : Pool → Shape → Readings → Readings → List Event → ℕ → ℕ → Type 0
HasOneTotalFor pool s x y whole g r =
    is_open pool s g r whole ≡ true → plain_sum x g r (others pool s g r whole) ≡ plain_sum y g r (others pool s g r whole)

-- so it is in each round before this one
abbrev pub HaveOneTotalBeforeFor : Pool → Shape → Readings → Readings → List Event → ℕ → ℕ → Type 0
HaveOneTotalBeforeFor pool s x y whole g r = (a b : ℕ) → is_earlier_round a b g r ≡ true → HasOneTotalFor pool s x y whole a b

-- the first round open to the pool over whose survivors outside it the tables' sums differ, and these sums
pub record IsFirstTotalFor (pool : Pool) (s : Shape) (x y : Readings) (whole : List Event) (g r a b : ℕ) : Type 0 where
  pub opened : is_open pool s g r whole ≡ true
  pub first : a ≡ plain_sum x g r (others pool s g r whole)
  pub second : b ≡ plain_sum y g r (others pool s g r whole)
  pub differ : a ≡ b → ⊥
  pub before : HaveOneTotalBeforeFor pool s x y whole g r

-- and where nobody is in the pool: of the opened rounds, over all their survivors
abbrev pub HasOneTotal : Shape → Readings → Readings → List Event → ℕ → ℕ → Type 0
HasOneTotal = HasOneTotalFor nobody

abbrev pub HaveOneTotalBefore : Shape → Readings → Readings → List Event → ℕ → ℕ → Type 0
HaveOneTotalBefore = HaveOneTotalBeforeFor nobody

abbrev pub IsFirstTotal : Shape → Readings → Readings → List Event → ℕ → ℕ → ℕ → ℕ → Type 0
IsFirstTotal = IsFirstTotalFor nobody

-- ---- the answer

-- the list of the moved words where the tables agree; else the first place of another presence, or where there is none, the first other total
abbrev pub OffsetsEnd : ReadingsView → ReadingsView → List Event → Result (List Offset) Differ → Type 0
OffsetsEnd x y events (Ok list) =
    Agree x.plan.groups (reading x.table) (reading y.table) (reverse events)
    × (list ≡ offsets_between x.plan x.table y.table events)
OffsetsEnd x y events (Err (Presence g r i)) = IsFirstPresence (reading x.table) (reading y.table) g r i
OffsetsEnd x y events (Err (Total g r a b)) =
    ((h q i : ℕ) → IsAlike (reading x.table) (reading y.table) h q i)
    × IsFirstTotal (shape_of_readings x.plan.groups (reading x.table)) (reading x.table) (reading y.table) (reverse events) g r a b
OffsetsEnd x y events (Err Memory) = Unit {0}

-- the same for a pool: presence first, then the readings that it knows, then the totals
abbrev pub PooledEnd : Pool → ReadingsView → ReadingsView → List Event → Result (List Offset) PoolDiffer → Type 0
PooledEnd pool x y events (Ok list) =
    AgreeFor pool x.plan.groups (reading x.table) (reading y.table) (reverse events)
    × (list ≡ offsets_between_for pool x.plan x.table y.table events)
PooledEnd pool x y events (Err (Known g r i)) =
    ((h q j : ℕ) → IsAlike (reading x.table) (reading y.table) h q j)
    × IsFirstKnown pool (reading x.table) (reading y.table) g r i
PooledEnd pool x y events (Err (Other (Presence g r i))) = IsFirstPresence (reading x.table) (reading y.table) g r i
PooledEnd pool x y events (Err (Other (Total g r a b))) =
    ((h q i : ℕ) → IsAlike (reading x.table) (reading y.table) h q i)
    × ((h q i : ℕ) → IsKnownAlike pool (reading x.table) (reading y.table) h q i)
    × IsFirstTotalFor pool (shape_of_readings x.plan.groups (reading x.table)) (reading x.table) (reading y.table) (reverse events) g r a b
PooledEnd pool x y events (Err (Other Memory)) = Unit {0}

-- two worlds for a pool: under each mask table the shift gives the second table the transcript of the first, and the pool the same words
abbrev pub HasTwoWorldsFor : Pool → ReadingsView → ReadingsView → List Event → List Offset → Type 0
HasTwoWorldsFor pool x y events list = (m : MaskTable) → IsMaskTable x.plan m → CarriesFor pool x.plan x.table events y.table (listed list) m

-- where a total differs, no masks at all that give the pool the same words make the transcripts one
abbrev pub HasNoWorldsFor : Pool → ReadingsView → ReadingsView → List Event → Differ → Type 0
HasNoWorldsFor pool x y events (Total g r a b) =
    (m k : Masks) → ShareWords pool m k → transcript x.plan.groups (reading x.table) m events ≡ transcript x.plan.groups (reading y.table) k events → ⊥
HasNoWorldsFor pool x y events _ = Unit {0}

abbrev pub HasNoPooledWorlds : Pool → ReadingsView → ReadingsView → List Event → PoolDiffer → Type 0
HasNoPooledWorlds pool x y events (Other differ) = HasNoWorldsFor pool x y events differ
HasNoPooledWorlds pool x y events _ = Unit {0}

-- two worlds: under each mask table the shift gives the second table the transcript of the first
abbrev pub HasTwoWorlds : ReadingsView → ReadingsView → List Event → List Offset → Type 0
HasTwoWorlds = HasTwoWorldsFor nobody

-- where a total differs, no masks at all make the transcripts one
abbrev pub HasNoWorlds : ReadingsView → ReadingsView → List Event → Differ → Type 0
HasNoWorlds x y events (Total g r a b) =
    (m k : Masks) → transcript x.plan.groups (reading x.table) m events ≡ transcript x.plan.groups (reading y.table) k events → ⊥
HasNoWorlds x y events _ = Unit {0}
