-- What the laws of this crate say. Each is proved for every plan, number of registers, tables and schedule.
use Rattle.std.specs.Prelude.{◌≡◌, ℕ, ◌<◌, ◌≤◌, ◌-◌, true, List, length, reverse, is_some}
use Rattle.group_plan.specs.Plans.{Group, size}
use Rattle.group_plan.specs.Tables.{reading}
use Rattle.pair_keys.specs.Keys.{Keys}
use Rattle.mask_stream.specs.KeyStreams.{streams}
use Rattle.event_schedule.specs.declared.Event.{Event}
use Rattle.event_schedule.specs.declared.Line.{Line}
use Rattle.event_schedule.specs.Schedule.{is_opened, survivors}
use Rattle.event_schedule.specs.Tables.{Readings, Masks, IsOfPlan, IsBounded, IsMasks, plain_sum}
use Rattle.event_schedule.specs.Transcript.{shape_of_readings, transcript}
use Rattle.ideal_masks.specs.Isolation.{Isolated}
use Rattle.ideal_masks.specs.Offsets.{offsets, shift, unshift, Agree}
use Rattle.plan_files.specs.Registers.{AreRegisters, RegistersView, table}
use Rattle.register_words.specs.SideReports.{side_total}
use Rattle.register_words.specs.Sides.{side_rows}
use Rattle.register_words.specs.Words.{register_streams}
use Rattle.register_words.specs.Worlds.{register_world, row_words, sent_words}

-- the tables of n registers agree, register by register
abbrev pub RegistersAgree : ℕ → List Group → (x y : ℕ → Readings) → List Event → Type 0
RegistersAgree n groups x y whole = (k : ℕ) → k < n → Agree groups (x k) (y k) whole

-- the shifts of all registers
abbrev pub register_offsets : List Group → (x y : ℕ → Readings) → List Event → ℕ → Masks
register_offsets groups x y whole k = offsets groups (x k) (y k) whole

-- tables that agree register by register have one register world under the shifts, whatever the masks are
abbrev pub RegistersIsolated : Type 0
RegistersIsolated =
    (n : ℕ) (groups : List Group) (x y : ℕ → Readings) (m : ℕ → Masks) (events : List Event) → ((k : ℕ) → k < n → IsOfPlan groups (x k))
    → RegistersAgree n groups x y (reverse events)
    → register_world n groups y (λ k. shift (register_offsets groups x y (reverse events) k) (m k)) events ≡ register_world n groups x m events

-- the shifts and their inverses undo each other
abbrev pub RegistersUndone : Type 0
RegistersUndone =
    (n : ℕ) (o m : ℕ → Masks) → ((k : ℕ) → k < n → IsMasks (m k)) → (k : ℕ) → k < n
    → (unshift (o k) (shift (o k) (m k)) ≡ m k) × (shift (o k) (unshift (o k) (m k)) ≡ m k)

-- the converse: tables of one presence with one register world agree register by register, whatever the masks are
abbrev pub RegistersConverse : Type 0
RegistersConverse =
    (n : ℕ) (groups : List Group) (x y : ℕ → Readings) (m c : ℕ → Masks) (events : List Event)
    → ((k : ℕ) → k < n → (g r i : ℕ) → is_some (x k g r i) ≡ is_some (y k g r i))
    → ((k : ℕ) → k < n → IsBounded groups (x k)) → ((k : ℕ) → k < n → IsBounded groups (y k))
    → register_world n groups x m events ≡ register_world n groups y c events → RegistersAgree n groups x y (reverse events)

-- each register of a file is isolated, whatever the schedule is
abbrev pub EachIsolated : Type 0
EachIsolated = (registers : RegistersView) (events : List Event) → AreRegisters registers → (k : ℕ) → k < length registers.tables → Isolated registers.plan (table registers k) events

-- the transcript of register 0
abbrev pub first_lines : RegistersView → Keys → List Event → List Line
first_lines registers keys events = transcript registers.plan.groups (reading (table registers 0)) (streams keys) events

-- where the lines are the transcript of register 0, the side words of register k are the words of its own transcript
abbrev pub SideWordsAreWorld : Type 0
SideWordsAreWorld =
    (registers : RegistersView) (keys : Keys) (events : List Event) (n k : ℕ) → AreRegisters registers → 1 ≤ k → k < length registers.tables
    → row_words k (side_rows registers keys n (first_lines registers keys events))
    ≡ sent_words (transcript registers.plan.groups (reading (table registers k)) (register_streams k keys) events)

-- the words of register 0 are the mask words of the keys
abbrev pub FirstRegister : Type 0
FirstRegister = (keys : Keys) → register_streams 0 keys ≡ streams keys

-- where the lines are the transcript of register 0, the frame total of an opened round by the side words of register k is the plain sum of the survivors' readings
abbrev pub SideTotalsArePlain : Type 0
SideTotalsArePlain =
    (registers : RegistersView) (keys : Keys) (events : List Event) (n k g r : ℕ) → AreRegisters registers → ((h : ℕ) → size registers.plan.groups h ≤ 256) → 1 ≤ k → k < length registers.tables
    → is_opened (shape_of_readings registers.plan.groups (reading (table registers 0))) g r (reverse events) ≡ true
    → side_total (first_lines registers keys events) (side_rows registers keys n (first_lines registers keys events)) g r
    (survivors (shape_of_readings registers.plan.groups (reading (table registers 0))) g r (reverse events)) (k - 1)
    ≡ plain_sum (reading (table registers k)) g r (survivors (shape_of_readings registers.plan.groups (reading (table registers 0))) g r (reverse events))
