use Rattle.std.proofs.Common.{◌≡◌, ℕ, take, List}
use Rattle.std.specs.Prelude.{All}
use Rattle.group_plan.specs.Tables.{PresenceView}
use Rattle.event_schedule.specs.declared.Event.{Event}
use Rattle.plan_meters.specs.GroupMeters.{AreGroupMeters}
use Rattle.plan_meters.specs.Meters.{AreTold, announcements}
use Rattle.tick_run.proofs.group_tick.hear_all.Given as goal

abbrev pub invariant-loop-frame : goal.invariant-loop-frame
invariant-loop-frame l = record {
  meters : (p : PresenceView) (past : List Event) (t g : ℕ) → All (λ f. f.tag.group ≡ g) l.came → AreGroupMeters p past t g l.fn.meters.meters.items → AreTold p past t l.came → AreGroupMeters p past t g l.meters.meters.items;
  answered : l.heard.items ≡ announcements (take l.frame-index l.came);
}
