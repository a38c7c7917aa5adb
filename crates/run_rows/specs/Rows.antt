-- Worked rows: runs of a group of three meters by ticks, with lanes as functions.
use Rattle.std.specs.Prelude.{ℕ, zero, suc, ◌%◌, nat_le, true, List, [], ◌∷◌, ◌++◌, map, Some, None, if◌then◌else◌}
use Rattle.group_plan.specs.declared.Kind.{Kind}
use Rattle.group_plan.specs.declared.Kind.TheVariants.{Reading, Announcement, Answer}
use Rattle.group_plan.specs.Plans.{Rounds, Group}
use Rattle.link_lanes.specs.Lanes.{Answer as LaneAnswer, Slot}
use Rattle.event_schedule.specs.declared.Event.{Event}
use Rattle.event_schedule.specs.declared.Event.TheVariants.{Send, Take, Close, End}
use Rattle.event_schedule.specs.declared.Entry.{Entry}
use Rattle.event_schedule.specs.Events.{is_tag}
use Rattle.event_schedule.specs.Tables.{Readings, plain_sum}
use Rattle.event_schedule.specs.Schedule.{Shape}
use Rattle.event_schedule.specs.Transcript.{Contents, line, shape_of_readings, contents_of_tables}
use Rattle.event_schedule.specs.Rows.{three, readings, readings_of, masks, tag, all}
use Rattle.run_rows.specs.Ticks.{Clock}
use Rattle.run_rows.specs.Report.{Row, row, fate_at}
use Rattle.run_rows.specs.Summary.{Summary, all_rows, summary_of_posts}
use Rattle.run_rows.specs.Posts.{posts_by_lanes}

abbrev pub clock : ℕ → ℕ → ℕ → Clock
clock rounds w1 w2 = record { rounds = rounds; w1 = w1; w2 = w2 }

-- ---- lanes

-- a lane with this answer, which hangs for these ticks
abbrev pub hung : LaneAnswer → ℕ → ℕ → Slot
hung answer from to = record { lane = record { called = []; fits = λ _. true; count = 0; answer = answer; given = λ _. answer }; from = from; to = to }

-- this fate for one tag of round 0, and the coming fate for the others
abbrev pub only : Kind → ℕ → List ℕ → LaneAnswer
only kind i fate k tag coming = if is_tag 0 0 i kind tag then fate else coming

-- of each three posts the last is lost
abbrev pub burst : LaneAnswer
burst k tag coming = if nat_le 2 (k % 3) then [] else coming

-- ---- readings and plans

abbrev pub first_two_read : Readings
first_two_read g r zero = Some 10
first_two_read g r (suc zero) = Some 20
first_two_read g r (suc (suc i)) = None

abbrev pub one_read : Readings
one_read g r zero = Some 10
one_read g r (suc i) = None

abbrev pub three_rounds_read : Readings
three_rounds_read g zero i = readings g 0 i
three_rounds_read g (suc zero) i = readings_of 1 2 3 g 1 i
three_rounds_read g (suc (suc r)) i = readings_of 100 200 300 g 2 i

-- three meters that are members in rounds 0 to 2
abbrev pub three_long : List Group
three_long =
    let span : Rounds = record { from = 0; until = 3 } in
    record { name = []; floor = 2; spans = span ∷ span ∷ span ∷ [] } ∷ []

-- one member in round 0, and three in round 1
abbrev pub one_then_three : List Group
one_then_three =
    let late : Rounds = record { from = 1; until = 2 } in
    record { name = []; floor = 2; spans = record { from = 0; until = 2 } ∷ late ∷ late ∷ [] } ∷ []

abbrev pub one_then_three_read : Readings
one_then_three_read g zero i = one_read g 0 i
one_then_three_read g (suc r) i = readings_of 1 2 3 g 1 i

-- ---- the report and the summary by the lanes alone

abbrev pub reported : List Group → Readings → Clock → List Slot → List Row × Summary
reported groups x c slots =
    let s : Shape = shape_of_readings groups x in
    (all_rows s c (row s c (fate_at (posts_by_lanes s c slots)) (plain_sum x)), summary_of_posts s c (plain_sum x) (posts_by_lanes s c slots))

abbrev pub counts : ℕ → ℕ → ℕ → ℕ → ℕ → ℕ → Summary
counts rounds totals nones thins sends takes =
    record { rounds = rounds; totals = totals; nones = nones; thins = thins; sends = sends; takes = takes }

-- the announcement of meter 1 arrives after 1 and after 2 ticks, and its answer of tick 2 never
abbrev pub heard_twice : List Slot
heard_twice = hung (only Announcement 1 (1 ∷ 2 ∷ [])) 1 1 ∷ hung (only Answer 1 []) 2 2 ∷ []

-- ---- second_answer_too_late as a list of entries

abbrev pub north : Shape
north = shape_of_readings three readings

abbrev pub words : Contents
words = contents_of_tables three readings masks

-- an event at a tick, with its fate
pub record Step : Type 0 where
  pub tick : ℕ
  pub fate : List ℕ
  pub event : Event

-- entries with the lines of their events
abbrev pub entries_after : List Event → List Step → List Entry
entries_after past [] = []
entries_after past (x ∷ rest) =
    record { tick = x.tick; fate = x.fate; line = line north words past x.event } ∷ entries_after (x.event ∷ past) rest

abbrev pub sends_at : ℕ → Kind → List ℕ → List ℕ → List Step
sends_at t kind fate meters = map (λ i. record { tick = t; fate = fate; event = Send (tag 0 kind i) }) meters

abbrev pub takes_of : ℕ → Kind → List ℕ → List Step
takes_of t kind meters = map (λ i. record { tick = t; fate = []; event = Take (tag 0 kind i) }) meters

abbrev pub late_run : List Entry
late_run =
    let step : ℕ → Event → List Step = λ t e. record { tick = t; fate = []; event = e } ∷ [] in
    entries_after [] (
    sends_at 0 Reading (1 ∷ []) all
    ++ takes_of 1 Reading all ++ step 1 (Close 0 0)
    ++ sends_at 1 Announcement (1 ∷ []) (0 ∷ []) ++ sends_at 1 Announcement (1 ∷ 2 ∷ []) (1 ∷ []) ++ sends_at 1 Announcement (1 ∷ []) (2 ∷ [])
    ++ takes_of 2 Announcement all
    ++ sends_at 2 Answer (1 ∷ []) (0 ∷ []) ++ sends_at 2 Answer [] (1 ∷ []) ++ sends_at 2 Answer (1 ∷ []) (2 ∷ [])
    ++ takes_of 3 Announcement (1 ∷ []) ++ takes_of 3 Answer (0 ∷ 2 ∷ []) ++ step 3 (End 0 0) ++ sends_at 3 Answer (1 ∷ []) (1 ∷ [])
    ++ takes_of 4 Answer (1 ∷ []))
