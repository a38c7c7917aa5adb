-- The Sends of a tick: their order, those that the entries so far call for, and the readings, which any member may send.
use Rattle.std.specs.Prelude.{ℕ, ◌+◌, ◌*◌, ◌==◌, nat_lt, Bool, true, false, ◌&&◌, List, [], ◌++◌, length, filter, reverse, if◌then◌else◌}
use Rattle.std.specs.List.{flat_map, range_with_len, list_any}
use Rattle.group_plan.specs.declared.Kind.{Kind}
use Rattle.group_plan.specs.declared.Kind.TheVariants.{Reading, Announcement, Answer}
use Rattle.group_plan.specs.declared.Tag.{Tag}
use Rattle.group_plan.specs.Plans.{PlanView}
use Rattle.event_schedule.specs.declared.Entry.{Entry}
use Rattle.event_schedule.specs.Events.{event_of, events_of, is_send}
use Rattle.event_schedule.specs.Schedule.{Shape, members_of, survivors, is_announced}
use Rattle.run_rows.specs.Ticks.{tag_of, tags, takes_at}
use Rattle.run_course.specs.Beginnings.{shape_where}

abbrev pub kind_rank : Kind → ℕ
kind_rank Reading = 0
kind_rank Announcement = 1
kind_rank Answer = 2

-- the place of a Send among those of its tick: by group, kind, round and meter; a plan has at most 4096 rounds, and a group 256 meters
abbrev pub rank : Tag → ℕ
rank tag = tag.group * 3145728 + kind_rank tag.kind * 1048576 + tag.round * 256 + tag.meter

abbrev pub is_reading : Kind → Bool
is_reading Reading = true
is_reading _ = false

-- whether these entries send the reading
abbrev pub is_read_in : List Entry → ℕ → ℕ → ℕ → Bool
is_read_in entries g r i = list_any (λ e. is_send g r i Reading (event_of e.line)) entries

-- the shape of a plan where whatever is sent has a reading
abbrev pub all_present : PlanView → Shape
all_present plan = shape_where plan (λ g r i. true)

-- what group g has to send at tick t besides readings: as in a tick run
abbrev pub owed_by : PlanView → List Entry → ℕ → ℕ → List Tag
owed_by plan entries t g =
    flat_map (λ r.
    if (r + plan.w1 == t) && is_announced (all_present plan) g r (reverse (events_of entries))
    then tags Announcement g r (survivors (all_present plan) g r (reverse (events_of entries)))
    else []) (range_with_len 0 plan.rounds)
    ++ flat_map (λ r.
    tags Answer g r (filter (λ i. nat_lt 0 (takes_at entries (tag_of Announcement g r i) t)) (members_of (all_present plan) g r))) (range_with_len 0 plan.rounds)

-- what all groups have to send at tick t besides readings, in order
abbrev pub owed : PlanView → List Entry → ℕ → List Tag
owed plan entries t = flat_map (owed_by plan entries t) (range_with_len 0 (length plan.groups))
