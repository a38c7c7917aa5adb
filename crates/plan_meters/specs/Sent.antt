-- What the meters of a group send at a tick.
use Rattle.std.specs.Prelude.{ℕ, nat_lt, List, [], map, filter, if◌then◌else◌}
use Rattle.std.specs.List.{flat_map, range_with_len}
use Rattle.missing_round.specs.Masks.{Masks}
use Rattle.group_plan.specs.Plans.{PlanView}
use Rattle.group_plan.specs.Tables.{ReadingsView, reading}
use Rattle.meter_frames.specs.declared.Frame.{Frame}
use Rattle.event_schedule.specs.Schedule.{members_of}
use Rattle.plan_meters.specs.TickFrames.{run_shape, reading_frame, answers_to}

-- the readings of group g at tick t
abbrev pub readings_at : ReadingsView → Masks → ℕ → ℕ → List Frame
readings_at readings m t g =
    map (reading_frame readings.plan.groups (reading readings.table) m g t)
    (if nat_lt t readings.plan.rounds then filter (λ i. (run_shape readings).present g t i) (members_of (run_shape readings) g t) else [])

-- the answers of group g to the announcements that came
abbrev pub answers_at : PlanView → Masks → List Frame → ℕ → List Frame
answers_at plan m came g = flat_map (answers_to plan.groups m came g) (range_with_len 0 plan.rounds)
