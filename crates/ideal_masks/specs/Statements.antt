-- What the laws of this crate say. Each is proved for every plan, table and schedule.
use Rattle.std.specs.Prelude.{◌≡◌, ◌↔◌, ℕ, ◌^◌, ◌<◌, ◌≤◌, true, List, map, reverse, is_some}
use Rattle.group_plan.specs.Plans.{Group, PlanView, size}
use Rattle.group_plan.specs.Tables.{IsReadingTable}
use Rattle.event_schedule.specs.declared.Event.{Event}
use Rattle.event_schedule.specs.declared.Line.{Line}
use Rattle.event_schedule.specs.Events.{event_of}
use Rattle.event_schedule.specs.Tables.{Readings, Masks, reading_at, IsOfPlan, IsBounded, IsMasks}
use Rattle.event_schedule.specs.Transcript.{transcript}
use Rattle.event_schedule.specs.Frames.{IsPossible, HasWordsOf64Bits}
use Rattle.ideal_masks.specs.Pools.{Pool, ShareWords}
use Rattle.ideal_masks.specs.Offsets.{offsets_for, offsets, shift, unshift, AgreeFor, Agree}
use Rattle.ideal_masks.specs.ListTables.{ReadingTable}
use Rattle.ideal_masks.specs.Moves.{ListIsOffsets}
use Rattle.ideal_masks.specs.Isolation.{IsolatedFor, Isolated}

-- two worlds: tables that agree have one transcript under the shift
abbrev pub TwoWorlds : Type 0
TwoWorlds = (groups : List Group) (x y : Readings) (m : Masks) (events : List Event) → IsOfPlan groups x → Agree groups x y (reverse events) →
    transcript groups y (shift (offsets groups x y (reverse events)) m) events ≡ transcript groups x m events

-- shift and unshift undo each other
abbrev pub Undone : Type 0
Undone = (o m : Masks) → IsMasks m → (unshift o (shift o m) ≡ m) × (shift o (unshift o m) ≡ m)

-- the converse: tables of one presence with one transcript agree, whatever the masks are
abbrev pub Converse : Type 0
Converse = (groups : List Group) (x y : Readings) (m k : Masks) (events : List Event) → ((g r i : ℕ) → is_some (x g r i) ≡ is_some (y g r i)) →
    IsBounded groups x → IsBounded groups y → transcript groups x m events ≡ transcript groups y k events → Agree groups x y (reverse events)

-- ---- for a pool, whatever meters are in it

-- two worlds: tables that agree for the pool have one transcript under the shift
abbrev pub TwoWorldsFor : Type 0
TwoWorldsFor = (pool : Pool) (groups : List Group) (x y : Readings) (m : Masks) (events : List Event) → IsOfPlan groups x →
    AgreeFor pool groups x y (reverse events) →
    transcript groups y (shift (offsets_for pool groups x y (reverse events)) m) events ≡ transcript groups x m events

-- and the shift moves no word of the pool
abbrev pub PoolWordsStay : Type 0
PoolWordsStay = (pool : Pool) (groups : List Group) (x y : Readings) (m : Masks) (events : List Event) → IsMasks m →
    ShareWords pool m (shift (offsets_for pool groups x y (reverse events)) m)

-- the converse: tables of one presence, with the same readings and the same words of the pool, and with one transcript, agree for the
-- pool, whatever the other words are
abbrev pub ConverseFor : Type 0
ConverseFor = (pool : Pool) (groups : List Group) (x y : Readings) (m k : Masks) (events : List Event) →
    ((g r i : ℕ) → is_some (x g r i) ≡ is_some (y g r i)) → ((g r i : ℕ) → pool g i ≡ true → x g r i ≡ y g r i) →
    IsBounded groups x → IsBounded groups y → ShareWords pool m k →
    transcript groups x m events ≡ transcript groups y k events → AgreeFor pool groups x y (reverse events)

-- each table of readings is isolated from each pool, whatever the schedule is
abbrev pub IsolatedFromPools : Type 0
IsolatedFromPools = (pool : Pool) (plan : PlanView) (x : ReadingTable) (events : List Event) → IsReadingTable plan x → IsolatedFor pool plan x events

-- ---- the list, and the lines

-- the list of the moved words is the offsets
abbrev pub OffsetsAreListed : Type 0
OffsetsAreListed = (plan : PlanView) (o : Masks) → ListIsOffsets plan o

-- each table of readings is isolated, whatever the schedule is
abbrev pub IsolatedAlways : Type 0
IsolatedAlways = (plan : PlanView) (x : ReadingTable) (events : List Event) → IsReadingTable plan x → Isolated plan x events

-- some readings within the limits and some masks explain the lines: the lines are the transcript of their events
abbrev pub IsExplained : List Group → List Line → Type 0
IsExplained groups ls =
    (x : Readings) × (m : Masks) × IsOfPlan groups x × ((g r i : ℕ) → reading_at x g r i < 2 ^ 40) × IsMasks m
    × (transcript groups x m (map event_of ls) ≡ ls)

-- lines are possible exactly where some readings and some masks explain them
abbrev pub PossibleIsExplained : Type 0
PossibleIsExplained = (groups : List Group) (ls : List Line) → ((g : ℕ) → size groups g ≤ 256) → HasWordsOf64Bits ls →
    IsPossible groups ls ↔ IsExplained groups ls
