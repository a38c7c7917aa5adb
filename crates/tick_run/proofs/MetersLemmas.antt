-- Announcements that were taken, as the head end goes on.
use Rattle.std.proofs.Common.{◌≡◌, true, List}
use Rattle.event_schedule.specs.declared.Event.{Event}
use Rattle.event_schedule.specs.Schedule.{Shape, is_announced}
use Rattle.event_schedule.proofs.ScheduleLemmas.{is_announced-from_sent, is_announcement_sent-from_taken}
use Rattle.tick_run.specs.Progress.{KeepSets}
use Rattle.plan_meters.proofs.MeterLemmas.{KeepTold}

-- an announcement that was taken stays so, with its set
pub told-kept : (s : Shape) (before after : List Event) → KeepSets s before after → KeepTold s before after
told-kept s before after sets g r i told =
    let announced : is_announced s g r before ≡ true = is_announced-from_sent s g r i before (is_announcement_sent-from_taken s g r i before told) in
    (sets.taken g r i told, (sets.sets g r announced).1)
