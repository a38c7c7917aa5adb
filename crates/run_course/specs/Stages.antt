-- Where a run stands after some entries, and that the entries so far keep to their times.
use Rattle.std.specs.Prelude.{◌≡◌, ℕ, zero, suc, ◌+◌, ◌-◌, ◌*◌, ◌==◌, ◌<◌, ◌≤◌, nat_lt, nat_le, Bool, true, false, ◌&&◌, ◌⊎◌, List, [], ◌∷◌, ◌++◌, length, map, filter, not, sum_by, count_by, All, if◌then◌else◌}
use Rattle.std.specs.List.{range_with_len}
use Rattle.group_plan.specs.declared.Kind.{Kind}
use Rattle.group_plan.specs.declared.Kind.TheVariants.{Reading, Announcement, Answer}
use Rattle.group_plan.specs.declared.Tag.{Tag}
use Rattle.group_plan.specs.Plans.{PlanView, is_member}
use Rattle.event_schedule.specs.declared.Event.{Event}
use Rattle.event_schedule.specs.declared.Event.TheVariants.{Send, Take}
use Rattle.event_schedule.specs.declared.Entry.{Entry}
use Rattle.event_schedule.specs.Events.{event_of, is_tag, is_close, is_end}
use Rattle.link_lanes.specs.Fates.{IsFate}
use Rattle.run_rows.specs.Ticks.{clock_of, last_tick, moment, IsOrdered, takes_at, copies, sent_at, tags_of}
use Rattle.run_course.specs.declared.waiting.Arrival.{Arrival}
use Rattle.run_course.specs.Beginnings.{is_void_send}
use Rattle.run_course.specs.Lists.{IsIn}
use Rattle.run_course.specs.Sends.{rank, is_reading, owed}

-- where a run stands in a tick: in its first phase copies are taken, in the second rounds close and end, in the third frames are sent
pub record Stage : Type 0 where
  pub tick : ℕ
  pub phase : ℕ
  -- the copies that are still to be taken in this tick, and those of later ticks
  pub due : List Tag
  pub later : List Arrival
  -- the groups whose round is still to be closed in this tick, and ended
  pub closing : List ℕ
  pub ending : List ℕ
  -- the frames that are still to be sent in this tick, besides readings, and the least rank that the next Send may have
  pub left : List Tag
  pub least : ℕ

-- how many copies of a tag are on their way for tick t
abbrev pub on_way : Stage → Tag → ℕ → ℕ
on_way st tag t =
    (if t == st.tick then count_by (is_tag tag.group tag.round tag.meter tag.kind) st.due else 0)
    + count_by (λ a. is_tag tag.group tag.round tag.meter tag.kind a.tag && (a.tick == t)) st.later

abbrev pub is_round_of : PlanView → ℕ → ℕ → Bool
is_round_of plan g r = nat_lt g (length plan.groups) && nat_lt r plan.rounds

-- each round has one such call so many ticks after it began, and this tick's are those made and those still to come
pub record AreCalled (plan : PlanView) (test : ℕ → ℕ → Event → Bool) (window : ℕ) (entries : List Entry) (tick : ℕ) (groups : List ℕ) : Type 0 where
  pub counted : (g r : ℕ) →
      count_by (λ e. test g r (event_of e.line)) entries + (if r + window == tick then count_by (λ h. h == g) groups else 0)
      ≡ (if is_round_of plan g r && nat_le (r + window) tick then 1 else 0)
  pub when : (g r : ℕ) → All (λ e. test g r (event_of e.line) ≡ true → e.tick ≡ r + window) entries
  pub began : All (λ g. window ≤ tick) groups

-- the ranks of Sends ascend, from one number to below another
abbrev pub Ascends : ℕ → ℕ → List Tag → Type 0
Ascends from to [] = from ≤ to
Ascends from to (y ∷ ys) = (from ≤ rank y) × Ascends (rank y + 1) to ys

-- above the rank of each Send
abbrev pub all_ranks : PlanView → ℕ
all_ranks plan = length plan.groups * 3145728

-- the Sends of a whole tick: in their order, and besides readings just those that are owed
pub record IsWholeTick (plan : PlanView) (entries : List Entry) (t : ℕ) : Type 0 where
  pub ascends : Ascends 0 (all_ranks plan) (sent_at entries t)
  pub only : (y : Tag) → IsIn y (sent_at entries t) → is_reading y.kind ≡ false → IsIn y (owed plan entries t)
  pub each : (y : Tag) → IsIn y (owed plan entries t) → IsIn y (sent_at entries t)

-- a Send is of a meter of the plan; that of a reading is of a member, at the tick of its round
pub record IsSendInTime (plan : PlanView) (e : Entry) (tag : Tag) : Type 0 where
  pub group : tag.group < length plan.groups
  pub round : tag.round < plan.rounds
  pub reading : tag.kind ≡ Reading → (e.tick ≡ tag.round) × (is_member plan.groups tag.group tag.round tag.meter ≡ true)

abbrev pub IsInTime : PlanView → Entry → Event → Type 0
IsInTime plan e (Send tag) = IsSendInTime plan e tag
IsInTime plan e _ = Unit {0}

-- the last tick at which a copy of this tag can come
abbrev pub last_of : PlanView → Tag → Kind → ℕ
last_of plan tag Reading = tag.round + 16
last_of plan tag Announcement = tag.round + plan.w1 + 16
last_of plan tag Answer = tag.round + plan.w1 + 32

-- the first tick after which a copy of this tag can come
abbrev pub start_of : PlanView → Tag → Kind → ℕ
start_of plan tag Reading = tag.round
start_of plan tag _ = tag.round + plan.w1

-- a copy of this tag can come at this tick
pub record CanCome (plan : PlanView) (tag : Tag) (t : ℕ) : Type 0 where
  pub round : tag.round < plan.rounds
  pub after : start_of plan tag tag.kind < t
  pub before : t ≤ last_of plan tag tag.kind

abbrev pub CouldCome : PlanView → ℕ → Event → Type 0
CouldCome plan t (Take tag) = CanCome plan tag t
CouldCome plan t _ = Unit {0}

-- the entries so far keep to their times, and the stage is theirs
pub record Follows (plan : PlanView) (entries : List Entry) (st : Stage) : Type 0 where
  pub ordered : IsOrdered entries
  pub reached : All (λ e. moment e ≤ 3 * st.tick + st.phase) entries
  pub within : All (λ e. e.tick ≤ last_tick (clock_of plan)) entries
  pub taken : (tag : Tag) (t : ℕ) → takes_at entries tag t + on_way st tag t ≡ sum_by (copies tag t) entries
  pub ahead : All (λ a. st.tick < a.tick) st.later
  pub closed : AreCalled plan is_close plan.w1 entries st.tick st.closing
  pub ended : AreCalled plan is_end (plan.w1 + plan.w2) entries st.tick st.ending
  pub whole : (t : ℕ) → t < st.tick → IsWholeTick plan entries t
  pub in_time : All (λ e. IsInTime plan e (event_of e.line)) entries
  pub fates : All (λ e. IsFate e.fate) entries
  pub others : All (λ e. tags_of (event_of e.line) ≡ [] → e.fate ≡ []) entries
  pub posted : All (λ e. is_void_send e.line ≡ false) entries
  pub could : All (λ e. CouldCome plan e.tick (event_of e.line)) entries
  pub due_can : All (λ tag. CanCome plan tag st.tick) st.due
  pub later_can : All (λ a. CanCome plan a.tag a.tick) st.later

-- the Sends of this tick: those besides readings are the first that are owed, and the others are left
pub record IsSending (plan : PlanView) (entries : List Entry) (st : Stage) : Type 0 where
  pub taken : st.due ≡ []
  pub closed : st.closing ≡ []
  pub ended : st.ending ≡ []
  pub gone : List Tag
  pub owed_are : owed plan entries st.tick ≡ gone ++ st.left
  pub ascends : Ascends 0 st.least (sent_at entries st.tick)
  pub onwards : Ascends st.least (all_ranks plan) st.left
  pub only : (y : Tag) → IsIn y (sent_at entries st.tick) → is_reading y.kind ≡ false → IsIn y gone
  pub each : (y : Tag) → IsIn y gone → IsIn y (sent_at entries st.tick)
  pub last : (st.least ≡ 0) ⊎ ((y : Tag) × IsIn y (sent_at entries st.tick) × (rank y + 1 ≡ st.least))

-- what holds in each phase besides
abbrev pub HoldsIn : ℕ → PlanView → List Entry → Stage → Type 0
HoldsIn zero plan entries st = Unit {0}
HoldsIn (suc zero) plan entries st = st.due ≡ []
HoldsIn (suc (suc n)) plan entries st = (n ≡ 0) × IsSending plan entries st

-- the copies that are due at a tick, and the others
pub record AreDueCopies (tick : ℕ) (all : List Arrival) (due : List Tag) (rest : List Arrival) : Type 0 where
  pub counted : (p : Tag → Bool) → count_by p due ≡ count_by (λ a. p a.tag && (a.tick == tick)) all
  pub from : (tag : Tag) → IsIn tag due → (a : Arrival) × IsIn a all × (a.tick ≡ tick) × (a.tag ≡ tag)
  pub others : rest ≡ filter (λ a. not (a.tick == tick)) all

-- the groups with a round that began so many ticks ago, each once
pub record AreDueRounds (plan : PlanView) (window tick : ℕ) (groups : List ℕ) : Type 0 where
  pub each : (g r : ℕ) → r + window ≡ tick → count_by (λ h. h == g) groups ≡ (if is_round_of plan g r then 1 else 0)
  pub began : All (λ g. window ≤ tick) groups

-- the groups whose round began so many ticks before this one
abbrev pub due_groups : PlanView → ℕ → ℕ → List ℕ
due_groups plan window tick = if nat_le window tick && nat_lt (tick - window) plan.rounds then range_with_len 0 (length plan.groups) else []

-- the copies of a frame that is sent at this tick
abbrev pub arrivals : ℕ → Tag → List ℕ → List Arrival
arrivals tick tag fate = map (λ d. record { tick = tick + d; tag = tag }) fate
