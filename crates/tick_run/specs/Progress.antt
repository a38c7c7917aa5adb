-- How far a run by ticks has come.
use Rattle.std.specs.Prelude.{◌≡◌, ℕ, ◌+◌, ◌<◌, ◌≤◌, ◌==◌, nat_lt, Bool, true, ◌&&◌, List, [], reverse, All, sum_by, Option}
use Rattle.std.specs.List.{flat_map, list_any}
use Rattle.group_plan.specs.declared.Kind.{Kind}
use Rattle.group_plan.specs.declared.Kind.TheVariants.{Reading, Announcement, Answer}
use Rattle.group_plan.specs.declared.Tag.{Tag}
use Rattle.group_plan.specs.Plans.{size}
use Rattle.event_schedule.specs.declared.Event.{Event}
use Rattle.event_schedule.specs.declared.Event.TheVariants.{Send}
use Rattle.meter_frames.specs.declared.Frame.{Frame}
use Rattle.event_schedule.specs.declared.Line.TheVariants.{Send as SendLine}
use Rattle.event_schedule.specs.declared.Entry.{Entry}
use Rattle.event_schedule.specs.Events.{event_of, events_of, is_close, is_end}
use Rattle.event_schedule.specs.Schedule.{Shape, is_sent, is_announced, missing, is_announcement_taken}
use Rattle.run_rows.specs.Ticks.{Clock, phase, moment, IsOrdered, takes_at, copies, StandsOnce, tags_of, tag_of, sent_at, due_of}

-- a delay of a copy, in ticks
abbrev pub IsDelay : ℕ → Type 0
IsDelay d = (0 < d) × (d ≤ 16)

-- the ticks at which a frame of this kind and round may be sent: an answer follows its announcement by a delay
abbrev pub earliest : Clock → Kind → ℕ → ℕ
earliest c Reading r = r
earliest c Announcement r = r + c.w1
earliest c Answer r = r + c.w1

abbrev pub latest : Clock → Kind → ℕ → ℕ
latest c Reading r = r
latest c Announcement r = r + c.w1
latest c Answer r = r + c.w1 + 16

-- a tag of the plan, at one of the ticks at which it may be sent
pub record IsTimely (s : Shape) (c : Clock) (tick : ℕ) (tag : Tag) : Type 0 where
  pub round : tag.round < c.rounds
  pub from : earliest c tag.kind tag.round ≤ tick
  pub to : tick ≤ latest c tag.kind tag.round
  pub meter : tag.meter < size s.groups tag.group

abbrev pub IsInTime : Shape → Clock → ℕ → Event → Type 0
IsInTime s c tick (Send tag) = IsTimely s c tick tag
IsInTime s c tick _ = Unit {0}

-- a Send had effect by now
abbrev pub HadEffect : Shape → List Event → Event → Type 0
HadEffect s past (Send tag) = is_sent s tag.kind tag.group tag.round tag.meter past ≡ true
HadEffect s past _ = Unit {0}

-- the past of a list of entries: its events, the newest first
abbrev pub past_of_entries : List Entry → List Event
past_of_entries entries = reverse (events_of entries)

-- what was announced or taken by one past is so by the other, with the same missing set
pub record KeepSets (s : Shape) (before after : List Event) : Type 0 where
  pub sets : (g r : ℕ) → is_announced s g r before ≡ true → (is_announced s g r after ≡ true) × (missing s g r after ≡ missing s g r before)
  pub taken : (g r i : ℕ) → is_announcement_taken s g r i before ≡ true → is_announcement_taken s g r i after ≡ true

-- a round of one of these groups
abbrev pub is_round_of : List ℕ → Clock → ℕ → ℕ → Bool
is_round_of these c g r = list_any (λ h. h == g) these && nat_lt r c.rounds

-- these entries are those of a tick run of these groups before moment m: all Takes of the ticks below `taken`, all Closes and Ends
-- of the ticks below `closed`, and all Sends of the ticks below `sent`
pub record RunsTo (s : Shape) (c : Clock) (these : List ℕ) (m takes closes sends : ℕ) (entries : List Entry) : Type 0 where
  pub ordered : IsOrdered entries
  pub before : All (λ e. moment e < m) entries
  pub taken : (tag : Tag) (u : ℕ) → u < takes → takes_at entries tag u ≡ sum_by (copies tag u) entries
  pub closed : (g r : ℕ) → StandsOnce (is_close g r) (is_round_of these c g r && nat_lt (r + c.w1) closes) (r + c.w1) entries
  pub ended : (g r : ℕ) → StandsOnce (is_end g r) (is_round_of these c g r && nat_lt (r + c.w1 + c.w2) closes) (r + c.w1 + c.w2) entries
  pub sent : (u : ℕ) → u < sends → sent_at entries u ≡ flat_map (due_of s c entries u) these
  pub others : All (λ e. tags_of (event_of e.line) ≡ [] → e.fate ≡ []) entries
  pub delays : All (λ e. All IsDelay e.fate) entries
  pub in_time : All (λ e. IsInTime s c e.tick (event_of e.line)) entries
  pub effects : All (λ e. HadEffect s (past_of_entries entries) (event_of e.line)) entries
  pub heard : (g r i u : ℕ) → 0 < takes_at entries (tag_of Announcement g r i) u → is_announcement_taken s g r i (past_of_entries entries) ≡ true

-- entries of one tick and one phase, which is not that of the Sends, with no fates
pub record IsBatch (t k : ℕ) (entries : List Entry) : Type 0 where
  pub ticks : All (λ e. e.tick ≡ t) entries
  pub phases : All (λ e. phase (event_of e.line) ≡ k) entries
  pub fates : All (λ e. e.fate ≡ []) entries

-- the entry of a Send
abbrev pub sending : ℕ → Tag → Option Frame → List ℕ → Entry
sending t tag frame fate = record { tick = t; fate = fate; line = SendLine tag frame }
