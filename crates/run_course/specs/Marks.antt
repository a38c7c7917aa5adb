-- Which copies came: a table has, for each place of a plan, the tick at which its reading or its announcement was taken.
use Rattle.std.specs.Prelude.{◌≡◌, ℕ, ◌+◌, ◌<◌, ◌≤◌, ◌==◌, nat_lt, nat_le, Bool, false, ◌&&◌, List, [], ◌++◌, length, filter, reverse, Option, Some, None, if◌then◌else◌}
use Rattle.std.specs.List.{flat_map, range_with_len}
use Rattle.group_plan.specs.declared.Kind.{Kind}
use Rattle.group_plan.specs.declared.Kind.TheVariants.{Reading, Announcement, Answer}
use Rattle.group_plan.specs.declared.Tag.{Tag}
use Rattle.group_plan.specs.Plans.{PlanView, size, floor_of, is_member}
use Rattle.group_plan.specs.Tables.{ReadingsView, reading, is_same_place}
use Rattle.event_schedule.specs.declared.Entry.{Entry}
use Rattle.event_schedule.specs.Events.{events_of}
use Rattle.event_schedule.specs.Schedule.{is_reading_taken}
use Rattle.run_rows.specs.Ticks.{tag_of, tags, takes_at}
use Rattle.run_course.specs.Sends.{all_present}

-- a tick is noted, and not before this one
abbrev pub is_noted : ℕ → Option ℕ → Bool
is_noted from None = false
is_noted from (Some tick) = nat_le from tick

-- the meters of a round at which a tick is noted, and not before this one
abbrev pub marked : ReadingsView → ℕ → ℕ → ℕ → List ℕ
marked table from g r = filter (λ i. is_noted from (reading table.table g r i)) (range_with_len 0 (size table.plan.groups g))

-- the tick is noted at the place of the tag, where it is a member's
pub record Marks (old : ReadingsView) (tag : Tag) (tick : ℕ) (new : ReadingsView) : Type 0 where
  pub plan_stays : new.plan ≡ old.plan
  pub readings : (g r i : ℕ) → reading new.table g r i
      ≡ (if is_same_place tag.group tag.round tag.meter g r i && is_member old.plan.groups tag.group tag.round tag.meter then Some tick else reading old.table g r i)

-- a reading that was taken is marked where it came before its round closed, and an announcement always
abbrev pub NotesTake : Kind → Tag → ℕ → ReadingsView → ReadingsView → ReadingsView → ReadingsView → Type 0
NotesTake Reading tag tick came heard came_now heard_now =
    (tick ≤ tag.round + came.plan.w1 → Marks came tag tick came_now) × (tag.round + came.plan.w1 < tick → came_now ≡ came) × (heard_now ≡ heard)
NotesTake Announcement tag tick came heard came_now heard_now = (came_now ≡ came) × Marks heard tag tick heard_now
NotesTake Answer tag tick came heard came_now heard_now = (came_now ≡ came) × (heard_now ≡ heard)

-- the announcements of a round, where it closes at this tick and enough readings came
abbrev pub announced_marks : ReadingsView → ℕ → ℕ → ℕ → List Tag
announced_marks came t g r =
    if (r + came.plan.w1 == t) && nat_le (floor_of came.plan.groups g) (length (marked came 0 g r)) then tags Announcement g r (marked came 0 g r) else []

-- the answers of a round to announcements that came at this tick
abbrev pub answered_marks : ReadingsView → ℕ → ℕ → ℕ → List Tag
answered_marks heard t g r =
    if nat_lt (r + heard.plan.w1) t && nat_le t (r + heard.plan.w1 + 16) then tags Answer g r (marked heard t g r) else []

-- what is to be sent at a tick besides readings, by what came
abbrev pub owed_by_marks : ReadingsView → ReadingsView → ℕ → ℕ → List Tag
owed_by_marks came heard t g =
    flat_map (announced_marks came t g) (range_with_len 0 came.plan.rounds) ++ flat_map (answered_marks heard t g) (range_with_len 0 heard.plan.rounds)

abbrev pub owed_marks : ReadingsView → ReadingsView → ℕ → List Tag
owed_marks came heard t = flat_map (owed_by_marks came heard t) (range_with_len 0 (length came.plan.groups))

-- the tables note which readings were taken before their Close, and which announcements at this tick
pub record AreNoted (plan : PlanView) (entries : List Entry) (tick : ℕ) (came heard : ReadingsView) : Type 0 where
  pub came_plan : came.plan ≡ plan
  pub heard_plan : heard.plan ≡ plan
  pub came_are : (g r i : ℕ) → is_noted 0 (reading came.table g r i) ≡ (is_member plan.groups g r i && is_reading_taken (all_present plan) g r i (reverse (events_of entries)))
  pub heard_are : (g r i t : ℕ) → tick ≤ t → is_noted t (reading heard.table g r i) ≡ (is_member plan.groups g r i && nat_lt 0 (takes_at entries (tag_of Announcement g r i) t))
