-- Tick runs: lists of entries in which each round follows its windows and each copy comes when its delay is over.
use Rattle.std.specs.Prelude.{◌≡◌, ℕ, ◌+◌, ◌-◌, ◌*◌, ◌<◌, ◌≤◌, ◌==◌, nat_lt, Bool, true, ◌&&◌, List, [], ◌∷◌, ◌++◌, length, map, reverse, filter, sum_by, count_by, All, if◌then◌else◌}
use Rattle.std.specs.List.{flat_map, range_with_len}
use Rattle.group_plan.specs.declared.Kind.{Kind}
use Rattle.group_plan.specs.declared.Kind.TheVariants.{Reading, Announcement, Answer}
use Rattle.group_plan.specs.declared.Tag.{Tag}
use Rattle.group_plan.specs.Plans.{PlanView, is_member}
use Rattle.link_lanes.specs.declared.Post.{Post}
use Rattle.link_lanes.specs.Lanes.{Slot, fates_after}
use Rattle.event_schedule.specs.declared.Event.{Event}
use Rattle.event_schedule.specs.declared.Event.TheVariants.{Send, Take, Close, End}
use Rattle.event_schedule.specs.declared.Entry.{Entry}
use Rattle.event_schedule.specs.Events.{event_of, events_of, is_send, is_take, is_close, is_end}
use Rattle.event_schedule.specs.Schedule.{Shape, members_of, survivors, is_announced}

-- the numbers of a plan that ticks depend on: its rounds, and its two windows in ticks
pub record Clock : Type 0 where
  pub rounds : ℕ
  pub w1 : ℕ
  pub w2 : ℕ

abbrev pub clock_of : PlanView → Clock
clock_of plan = record { rounds = plan.rounds; w1 = plan.w1; w2 = plan.w2 }

abbrev pub last_tick : Clock → ℕ
last_tick c = c.rounds - 1 + c.w1 + c.w2 + 32

abbrev pub in_plan : Shape → Clock → ℕ → ℕ → Bool
in_plan s c g r = nat_lt g (length s.groups) && nat_lt r c.rounds

-- a presence within the plan, and windows that are not empty
pub record IsRunPlan (s : Shape) (c : Clock) : Type 0 where
  pub places : (g r i : ℕ) → s.present g r i ≡ true → (g < length s.groups) × (r < c.rounds) × (is_member s.groups g r i ≡ true)
  pub first_window : 0 < c.w1
  pub open_window : 0 < c.w2

-- ---- 1. the order of entries

-- within a tick the Takes come first, then Closes and Ends, then Sends
abbrev pub phase : Event → ℕ
phase (Take tag) = 0
phase (Close g r) = 1
phase (End g r) = 1
phase (Send tag) = 2

abbrev pub moment : Entry → ℕ
moment e = 3 * e.tick + phase (event_of e.line)

-- none of these entries comes before this moment
abbrev pub NoneBefore : ℕ → List Entry → Type 0
NoneBefore m [] = Unit {0}
NoneBefore m (e ∷ rest) = (m ≤ moment e) × NoneBefore m rest

-- moments never fall
abbrev pub IsOrdered : List Entry → Type 0
IsOrdered [] = Unit {0}
IsOrdered (e ∷ rest) = NoneBefore (moment e) rest × IsOrdered rest

-- ---- 2. the Takes

-- how many Takes of a tag stand at tick t
abbrev pub takes_at : List Entry → Tag → ℕ → ℕ
takes_at entries tag t =
    count_by (λ e. is_take tag.group tag.round tag.meter tag.kind (event_of e.line) && (e.tick == t)) entries

-- how many copies of a tag an entry sends for tick t
abbrev pub copies : Tag → ℕ → Entry → ℕ
copies tag t e =
    if is_send tag.group tag.round tag.meter tag.kind (event_of e.line) then count_by (λ d. e.tick + d == t) e.fate else 0

-- ---- 3. the Closes and Ends

-- one entry passes the test, at this tick, where it is due; otherwise none does
abbrev pub StandsOnce : (Event → Bool) → Bool → ℕ → List Entry → Type 0
StandsOnce test due tick entries =
    map (λ e. e.tick) (filter (λ e. test (event_of e.line)) entries) ≡ (if due then tick ∷ [] else [])

-- ---- 4. the Sends

abbrev pub tag_of : Kind → ℕ → ℕ → ℕ → Tag
tag_of kind g r i = record { group = g; round = r; meter = i; kind = kind }

abbrev pub tags : Kind → ℕ → ℕ → List ℕ → List Tag
tags kind g r meters = map (tag_of kind g r) meters

-- the tag of a Send
abbrev pub tags_of : Event → List Tag
tags_of (Send tag) = tag ∷ []
tags_of _ = []

-- the tags that are sent at tick t, in order
abbrev pub sent_at : List Entry → ℕ → List Tag
sent_at entries t = flat_map (λ e. if e.tick == t then tags_of (event_of e.line) else []) entries

-- what group g is to send at tick t: the present readings of round t; the announcements of the round that closed in this tick;
-- an answer of each meter and round whose announcement has a Take in this tick
abbrev pub due_of : Shape → Clock → List Entry → ℕ → ℕ → List Tag
due_of s c entries t g =
    tags Reading g t (if nat_lt t c.rounds then filter (λ i. s.present g t i) (members_of s g t) else [])
    ++ flat_map (λ r.
    if (r + c.w1 == t) && is_announced s g r (reverse (events_of entries))
    then tags Announcement g r (survivors s g r (reverse (events_of entries)))
    else []) (range_with_len 0 c.rounds)
    ++ flat_map (λ r.
    tags Answer g r (filter (λ i. nat_lt 0 (takes_at entries (tag_of Announcement g r i) t)) (members_of s g r))) (range_with_len 0 c.rounds)

-- ---- 5. the fates

-- the posts of a run: its Sends in order
abbrev pub posts_of : List Entry → List Post
posts_of entries = flat_map (λ e. map (λ tag. record { tick = e.tick; tag = tag; fate = e.fate }) (tags_of (event_of e.line))) entries

-- each delay of an entry is at least 1 tick
abbrev pub HaveDelays : List Entry → Type 0
HaveDelays entries = All (λ e. All (λ d. 0 < d) e.fate) entries

-- ---- a tick run of these groups, presence, windows and lanes

pub record IsTickRun (s : Shape) (c : Clock) (slots : List Slot) (entries : List Entry) : Type 0 where
  pub ordered : IsOrdered entries
  pub within : All (λ e. e.tick ≤ last_tick c) entries
  -- each Take is a copy that was sent, and each copy is taken when its delay is over
  pub taken : (tag : Tag) (t : ℕ) → takes_at entries tag t ≡ sum_by (copies tag t) entries
  pub closed : (g r : ℕ) → StandsOnce (is_close g r) (in_plan s c g r) (r + c.w1) entries
  pub ended : (g r : ℕ) → StandsOnce (is_end g r) (in_plan s c g r) (r + c.w1 + c.w2) entries
  pub sent : (t : ℕ) → sent_at entries t ≡ flat_map (due_of s c entries t) (range_with_len 0 (length s.groups))
  pub fates : map (λ p. p.fate) (posts_of entries) ≡ fates_after slots [] (posts_of entries)
  pub others : All (λ e. tags_of (event_of e.line) ≡ [] → e.fate ≡ []) entries
