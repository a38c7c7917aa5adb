-- What the parts of the comparison of two tables of readings answer.
use Rattle.std.specs.Prelude.{◌≡◌, ℕ, true, List, reverse, Option, None, Result, Ok, Err, if◌then◌else◌}
use Rattle.group_plan.specs.Tables.{ReadingsView, reading}
use Rattle.event_schedule.specs.declared.Event.{Event}
use Rattle.event_schedule.specs.Tables.{Readings}
use Rattle.event_schedule.specs.Transcript.{shape_of_readings}
use Rattle.group_book.specs.Books.{BookView, shape_of, past}
use Rattle.ideal_masks.specs.declared.Differ.{Differ}
use Rattle.ideal_masks.specs.declared.Differ.TheVariants.{Presence, Total, Memory}
use Rattle.ideal_masks.specs.declared.PoolDiffer.{PoolDiffer}
use Rattle.ideal_masks.specs.declared.PoolDiffer.TheVariants.{Known}
use Rattle.ideal_masks.specs.declared.Offset.{Offset}
use Rattle.ideal_masks.specs.Pools.{Pool}
use Rattle.ideal_masks.specs.Offsets.{AgreeFor}
use Rattle.ideal_masks.specs.Isolation.{offsets_between_for}
use Rattle.ideal_masks.specs.OffsetEnds.{is_earlier, IsAlike, AreAlikeBefore, IsFirstPresence, HasOneTotalFor, HaveOneTotalBeforeFor, IsFirstTotalFor}

-- the two tables are of the book's plan
pub record AreOfOne (x y : ReadingsView) (b : BookView) : Type 0 where
  pub first : x.plan ≡ b.presence.plan
  pub second : y.plan ≡ b.presence.plan

-- the tables are alike before round r of group g; or this is the first place where they aren't
abbrev pub PresenceGoesOn : ReadingsView → ReadingsView → ℕ → ℕ → Result (Unit {0}) Differ → Type 0
PresenceGoesOn x y g r (Ok _) = AreAlikeBefore (reading x.table) (reading y.table) g r 0
PresenceGoesOn x y g r (Err (Presence h q i)) = IsFirstPresence (reading x.table) (reading y.table) h q i
PresenceGoesOn x y g r (Err _) = ⊥

-- the tables are alike everywhere; or this is the first place where they aren't
abbrev pub PresenceEnds : ReadingsView → ReadingsView → Result (Unit {0}) Differ → Type 0
PresenceEnds x y (Ok _) = (g r i : ℕ) → IsAlike (reading x.table) (reading y.table) g r i
PresenceEnds x y (Err (Presence h q i)) = IsFirstPresence (reading x.table) (reading y.table) h q i
PresenceEnds x y (Err _) = ⊥

-- the reading that a pool knows, none where the meter isn't in it
abbrev pub known_reading : Pool → Readings → ℕ → ℕ → ℕ → Option ℕ
known_reading pool x g r i = if pool g i then x g r i else None

-- the pool knows the same of each place before this one
abbrev pub AreKnownBefore : Pool → Readings → Readings → ℕ → ℕ → ℕ → Type 0
AreKnownBefore pool x y g r i = (a b c : ℕ) → is_earlier a b c g r i ≡ true → known_reading pool x a b c ≡ known_reading pool y a b c

-- the first place of which it knows another reading
pub record IsFirstSeen (pool : Pool) (x y : Readings) (g r i : ℕ) : Type 0 where
  pub differs : known_reading pool x g r i ≡ known_reading pool y g r i → ⊥
  pub before : AreKnownBefore pool x y g r i

-- the pool knows the same before round r of group g; or this is the first place of which it doesn't
abbrev pub KnownGoesOn : Pool → ReadingsView → ReadingsView → ℕ → ℕ → Result (Unit {0}) PoolDiffer → Type 0
KnownGoesOn pool x y g r (Ok _) = AreKnownBefore pool (reading x.table) (reading y.table) g r 0
KnownGoesOn pool x y g r (Err (Known h q i)) = IsFirstSeen pool (reading x.table) (reading y.table) h q i
KnownGoesOn pool x y g r (Err _) = ⊥

-- the pool knows the same everywhere; or this is the first place of which it doesn't
abbrev pub KnownEnds : Pool → ReadingsView → ReadingsView → Result (Unit {0}) PoolDiffer → Type 0
KnownEnds pool x y (Ok _) = (g r i : ℕ) → known_reading pool (reading x.table) g r i ≡ known_reading pool (reading y.table) g r i
KnownEnds pool x y (Err (Known h q i)) = IsFirstSeen pool (reading x.table) (reading y.table) h q i
KnownEnds pool x y (Err _) = ⊥

-- the totals are one before round r of group g; or this is the first round where they aren't
abbrev pub TotalsGoOn : Pool → ReadingsView → ReadingsView → BookView → ℕ → ℕ → Result (Unit {0}) Differ → Type 0
TotalsGoOn pool x y b g r (Ok _) = HaveOneTotalBeforeFor pool (shape_of b) (reading x.table) (reading y.table) (past b) g r
TotalsGoOn pool x y b g r (Err (Total h q v w)) = IsFirstTotalFor pool (shape_of b) (reading x.table) (reading y.table) (past b) h q v w
TotalsGoOn pool x y b g r (Err _) = ⊥

-- the totals are one in every round; or this is the first round where they aren't
abbrev pub TotalsEnd : Pool → ReadingsView → ReadingsView → BookView → Result (Unit {0}) Differ → Type 0
TotalsEnd pool x y b (Ok _) = (g r : ℕ) → HasOneTotalFor pool (shape_of b) (reading x.table) (reading y.table) (past b) g r
TotalsEnd pool x y b (Err (Total h q v w)) = IsFirstTotalFor pool (shape_of b) (reading x.table) (reading y.table) (past b) h q v w
TotalsEnd pool x y b (Err _) = ⊥

-- of tables with the same presence, of which the pool knows the same: they agree for it, and this is the list of the moved words; or this
-- is the first round where the totals aren't one
abbrev pub MovesEnd : Pool → ReadingsView → ReadingsView → List Event → Result (List Offset) Differ → Type 0
MovesEnd pool x y events (Ok list) =
    AgreeFor pool x.plan.groups (reading x.table) (reading y.table) (reverse events)
    × (list ≡ offsets_between_for pool x.plan x.table y.table events)
MovesEnd pool x y events (Err (Total g r a b)) =
    IsFirstTotalFor pool (shape_of_readings x.plan.groups (reading x.table)) (reading x.table) (reading y.table) (reverse events) g r a b
MovesEnd pool x y events (Err Memory) = Unit {0}
MovesEnd pool x y events (Err _) = ⊥
