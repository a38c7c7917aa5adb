-- The posts of a run from its plan, presence and lanes alone, tick by tick.
use Rattle.std.specs.Prelude.{ℕ, zero, suc, ◌+◌, ◌==◌, nat_lt, nat_le, ◌&&◌, List, [], ◌∷◌, ◌++◌, length, filter, sum_by, count_by, if◌then◌else◌}
use Rattle.std.specs.List.{flat_map, range_with_len}
use Rattle.group_plan.specs.declared.Kind.TheVariants.{Reading, Announcement, Answer}
use Rattle.group_plan.specs.declared.Tag.{Tag}
use Rattle.link_lanes.specs.declared.Post.{Post}
use Rattle.link_lanes.specs.Lanes.{Slot, fate_after}
use Rattle.event_schedule.specs.Events.{is_tag}
use Rattle.event_schedule.specs.Schedule.{Shape, members_of, floor_of}
use Rattle.run_rows.specs.Ticks.{Clock, tag_of, tags, last_tick}
use Rattle.run_rows.specs.Report.{fate_at, report_survivors}

-- how many copies of a tag come at tick t
abbrev pub coming : List Post → Tag → ℕ → ℕ
coming posts tag t =
    sum_by (λ p. if is_tag tag.group tag.round tag.meter tag.kind p.tag then count_by (λ d. p.tick + d == t) p.fate else 0) posts

-- what group g is to send at tick t, after these posts: as in a tick run, with the survivors by the fates
abbrev pub due_by : Shape → Clock → List Post → ℕ → ℕ → List Tag
due_by s c posts t g =
    tags Reading g t (if nat_lt t c.rounds then filter (λ i. s.present g t i) (members_of s g t) else [])
    ++ flat_map (λ r.
    if (r + c.w1 == t) && nat_le (floor_of s g) (length (report_survivors s c (fate_at posts) g r))
    then tags Announcement g r (report_survivors s c (fate_at posts) g r)
    else []) (range_with_len 0 c.rounds)
    ++ flat_map (λ r.
    tags Answer g r (filter (λ i. nat_lt 0 (coming posts (tag_of Announcement g r i) t)) (members_of s g r))) (range_with_len 0 c.rounds)

-- these tags posted at tick t, one after another
abbrev pub post_all : List Slot → List Post → ℕ → List Tag → List Post
post_all slots posts t [] = posts
post_all slots posts t (tag ∷ rest) =
    post_all slots (posts ++ record { tick = t; tag = tag; fate = fate_after slots posts t tag } ∷ []) t rest

-- the posts of the ticks below t
abbrev pub posts_before : Shape → Clock → List Slot → ℕ → List Post
posts_before s c slots zero = []
posts_before s c slots (suc t) =
    let posts = posts_before s c slots t in
    post_all slots posts t (flat_map (due_by s c posts t) (range_with_len 0 (length s.groups)))

-- the posts of all ticks
abbrev pub posts_by_lanes : Shape → Clock → List Slot → List Post
posts_by_lanes s c slots = posts_before s c slots (last_tick c + 1)
