-- Entries on course: each entry is one that a run of these readings, under these words and lanes, can have next. It is judged by itself and the entries before it.
use Rattle.std.specs.Prelude.{◌≡◌, ℕ, ◌+◌, ◌<◌, ◌≤◌, List, [], ◌∷◌, ◌++◌, length, take, reverse, sum_by, All}
use Rattle.std.specs.List.{flat_map, range_with_len}
use Rattle.missing_round.specs.Masks.{Masks}
use Rattle.group_plan.specs.declared.Tag.{Tag}
use Rattle.group_plan.specs.Tables.{ReadingsView, reading}
use Rattle.link_lanes.specs.Lanes.{Slot, fate_after}
use Rattle.event_schedule.specs.declared.Event.{Event}
use Rattle.event_schedule.specs.declared.Event.TheVariants.{Send, Take, Close, End}
use Rattle.event_schedule.specs.declared.Entry.{Entry}
use Rattle.event_schedule.specs.Events.{event_of, events_of, is_close, is_end}
use Rattle.event_schedule.specs.Schedule.{Shape}
use Rattle.event_schedule.specs.Transcript.{Contents, line, shape_of_readings, contents_of_tables}
use Rattle.event_schedule.specs.Transcripts.{last_tick_from}
use Rattle.run_rows.specs.Ticks.{Clock, clock_of, last_tick, in_plan, phase, takes_at, copies, StandsOnce, sent_at, due_of, posts_of}

-- ---- 1. the line: what its event says after the events before it

abbrev pub HasItsLine : Shape → Contents → List Entry → Entry → Type 0
HasItsLine s words before e = e.line ≡ line s words (reverse (events_of before)) (event_of e.line)

-- ---- 2. the tick, and the fate

-- its tick is not below the one before, and at most the last tick
pub record IsInTicks (c : Clock) (before : List Entry) (e : Entry) : Type 0 where
  pub rises : last_tick_from 0 before ≤ e.tick
  pub within : e.tick ≤ last_tick c

-- the fate of an event at a tick: a Send's is that of the lanes after the Sends before it, and the others have none
abbrev pub fate_due : List Slot → List Entry → ℕ → Event → List ℕ
fate_due slots before tick (Send tag) = fate_after slots (posts_of before) tick tag
fate_due slots before tick _ = []

abbrev pub HasItsFate : List Slot → List Entry → Entry → Type 0
HasItsFate slots before e = e.fate ≡ fate_due slots before e.tick (event_of e.line)

-- ---- 3. the order within its tick: none stands before it that comes after it, of Takes, Closes and Ends, and Sends

abbrev pub IsInOrder : List Entry → Entry → Type 0
IsInOrder before e = All (λ x. x.tick ≡ e.tick → phase (event_of x.line) ≤ phase (event_of e.line)) before

-- ---- 4. a Take: the Takes of its tag in its tick, up to it, are at most the copies that are due then

abbrev pub IsDueTake : List Entry → ℕ → Event → Type 0
IsDueTake so_far tick (Take tag) = takes_at so_far tag tick ≤ sum_by (copies tag tick) so_far
IsDueTake so_far tick _ = Unit {0}

-- ---- 5. a Close, or an End: it is the first of its round, at the tick at which it is due

abbrev pub IsDueCall : Shape → Clock → List Entry → Event → Type 0
IsDueCall s c so_far (Close g r) = StandsOnce (is_close g r) (in_plan s c g r) (r + c.w1) so_far
IsDueCall s c so_far (End g r) = StandsOnce (is_end g r) (in_plan s c g r) (r + c.w1 + c.w2) so_far
IsDueCall s c so_far _ = Unit {0}

-- ---- 6. a Send: the Sends of its tick, up to it, are the first of those that are due then

-- what all groups are to send at a tick, in order
abbrev pub due_at : Shape → Clock → List Entry → ℕ → List Tag
due_at s c entries t = flat_map (due_of s c entries t) (range_with_len 0 (length s.groups))

abbrev pub IsDueSend : Shape → Clock → List Entry → ℕ → Event → Type 0
IsDueSend s c so_far tick (Send tag) = (rest : List Tag) × (due_at s c so_far tick ≡ sent_at so_far tick ++ rest)
IsDueSend s c so_far tick _ = Unit {0}

-- ---- 7. what comes before it stands before it

-- each copy that is due at this tick was taken
abbrev pub TakesAreWhole : List Entry → ℕ → Type 0
TakesAreWhole entries t = (tag : Tag) → takes_at entries tag t ≡ sum_by (copies tag t) entries

-- each round that is due to be closed or ended at this tick was, once and then
pub record CallsAreWhole (s : Shape) (c : Clock) (entries : List Entry) (t : ℕ) : Type 0 where
  pub closed : (g r : ℕ) → r + c.w1 ≡ t → StandsOnce (is_close g r) (in_plan s c g r) t entries
  pub ended : (g r : ℕ) → r + c.w1 + c.w2 ≡ t → StandsOnce (is_end g r) (in_plan s c g r) t entries

-- all that was to be sent at this tick was, in order
abbrev pub SendsAreWhole : Shape → Clock → List Entry → ℕ → Type 0
SendsAreWhole s c entries t = sent_at entries t ≡ due_at s c entries t

pub record IsWholeTick (s : Shape) (c : Clock) (entries : List Entry) (t : ℕ) : Type 0 where
  pub takes : TakesAreWhole entries t
  pub calls : CallsAreWhole s c entries t
  pub sends : SendsAreWhole s c entries t

-- the ticks below its own are whole; of its own the Takes are, where it is a Close, an End or a Send, and the Closes and Ends, where it is a Send
pub record IsWholeBefore (s : Shape) (c : Clock) (before : List Entry) (e : Entry) : Type 0 where
  pub ticks : (t : ℕ) → t < e.tick → IsWholeTick s c before t
  pub takes : 0 < phase (event_of e.line) → TakesAreWhole before e.tick
  pub calls : 1 < phase (event_of e.line) → CallsAreWhole s c before e.tick

-- ---- all points

-- the entry can come next after these
pub record IsNext (s : Shape) (c : Clock) (slots : List Slot) (words : Contents) (before : List Entry) (e : Entry) : Type 0 where
  pub says : HasItsLine s words before e
  pub ticks : IsInTicks c before e
  pub fate : HasItsFate slots before e
  pub order : IsInOrder before e
  pub take : IsDueTake (before ++ e ∷ []) e.tick (event_of e.line)
  pub call : IsDueCall s c (before ++ e ∷ []) (event_of e.line)
  pub send : IsDueSend s c (before ++ e ∷ []) e.tick (event_of e.line)
  pub whole : IsWholeBefore s c before e

-- each of these entries can come next after those before it
abbrev pub AreOnCourse : Shape → Clock → List Slot → Contents → List Entry → Type 0
AreOnCourse s c slots words entries = (before : List Entry) (e : Entry) (after : List Entry) → entries ≡ before ++ e ∷ after → IsNext s c slots words before e

-- entries on course for readings, under the words of a mask table, and lanes
abbrev pub OnCourse : ReadingsView → Masks → List Slot → List Entry → Type 0
OnCourse readings m slots entries =
    AreOnCourse (shape_of_readings readings.plan.groups (reading readings.table)) (clock_of readings.plan) slots
    (contents_of_tables readings.plan.groups (reading readings.table) m) entries

-- entry k, counted from 0, is the first with which they are not on course
pub record IsFirstOff (readings : ReadingsView) (m : Masks) (slots : List Slot) (entries : List Entry) (k : ℕ) : Type 0 where
  pub there : k < length entries
  pub before : OnCourse readings m slots (take k entries)
  pub here : ¬ OnCourse readings m slots (take (k + 1) entries)
