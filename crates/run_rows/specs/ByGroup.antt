-- Tick runs cut by groups.
use Rattle.std.specs.Prelude.{◌≡◌, ℕ, ◌+◌, ◌<◌, ◌≤◌, ◌==◌, nat_lt, List, [], length, map, filter, sum_by, All}
use Rattle.std.specs.List.{flat_map, range_with_len}
use Rattle.group_plan.specs.declared.Tag.{Tag}
use Rattle.link_lanes.specs.Lanes.{Slot, fates_after}
use Rattle.event_schedule.specs.declared.Entry.{Entry}
use Rattle.event_schedule.specs.Events.{event_of, is_close, is_end}
use Rattle.event_schedule.specs.Schedule.{Shape}
use Rattle.event_schedule.specs.ByGroup.{group_of}
use Rattle.run_rows.specs.Ticks.{Clock, last_tick, IsOrdered, takes_at, copies, StandsOnce, tags_of, sent_at, due_of, posts_of, IsTickRun}

-- the entries of a group among these, in their order
abbrev pub entries_in : ℕ → List Entry → List Entry
entries_in g entries = filter (λ e. group_of (event_of e.line) == g) entries

-- what a tick run asks of the entries of group g
pub record IsGroupRun (s : Shape) (c : Clock) (g : ℕ) (entries : List Entry) : Type 0 where
  pub within : All (λ e. e.tick ≤ last_tick c) entries
  pub taken : (tag : Tag) (t : ℕ) → tag.group ≡ g → takes_at entries tag t ≡ sum_by (copies tag t) entries
  pub closed : (r : ℕ) → StandsOnce (is_close g r) (nat_lt r c.rounds) (r + c.w1) entries
  pub ended : (r : ℕ) → StandsOnce (is_end g r) (nat_lt r c.rounds) (r + c.w1 + c.w2) entries
  pub sent : (t : ℕ) → sent_at entries t ≡ due_of s c entries t g
  pub others : All (λ e. tags_of (event_of e.line) ≡ [] → e.fate ≡ []) entries

-- entries of the plan's groups, of which each group's are a run of it: in order, in each tick the Sends of one group after another, with the fates of the lanes
pub record AreGroupRuns (s : Shape) (c : Clock) (slots : List Slot) (entries : List Entry) : Type 0 where
  pub ordered : IsOrdered entries
  pub of_plan : All (λ e. group_of (event_of e.line) < length s.groups) entries
  pub turns : (t : ℕ) → sent_at entries t ≡ flat_map (λ g. sent_at (entries_in g entries) t) (range_with_len 0 (length s.groups))
  pub fates : map (λ p. p.fate) (posts_of entries) ≡ fates_after slots [] (posts_of entries)
  pub groups : (g : ℕ) → g < length s.groups → IsGroupRun s c g (entries_in g entries)

-- runs of all groups are one tick run
abbrev pub GroupRunsAreTickRuns : Type 0
GroupRunsAreTickRuns = (s : Shape) (c : Clock) (slots : List Slot) (entries : List Entry) → AreGroupRuns s c slots entries → IsTickRun s c slots entries
