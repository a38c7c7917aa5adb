-- The shape of readings, by their table and by their presence.
use Rattle.std.proofs.Common.{◌≡◌, ℕ, Bool, ap}
use mathlib.Core.Path.{fun_ext}
use Rattle.group_plan.specs.Tables.{ReadingsView, reading}
use Rattle.event_schedule.specs.Schedule.{Shape}
use Rattle.event_schedule.specs.Transcript.{shape_of_readings}
use Rattle.plan_meters.specs.TickFrames.{run_shape}
use Rattle.plan_meters.proofs.ShapeLemmas.{present_is}

-- the shape of the presence of readings is that of the readings
pub shapes-same : (readings : ReadingsView) → run_shape readings ≡ shape_of_readings readings.plan.groups (reading readings.table)
shapes-same readings =
    ap (λ (f : ℕ → ℕ → ℕ → Bool). let s : Shape = record { groups = readings.plan.groups; present = f } in s)
    (fun_ext (λ g. fun_ext (λ r. fun_ext (λ i. present_is readings g r i))))
