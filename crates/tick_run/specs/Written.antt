-- What a group made of a tick, as it is written down.
use Rattle.std.specs.Prelude.{◌≡◌, [], map, All}
use Rattle.group_plan.specs.Plans.{PlanView}
use Rattle.event_schedule.specs.Transcripts.{FitsLine}
use Rattle.tick_run.specs.declared.running.Group.{Group}
use Rattle.tick_run.specs.GroupRuns.{send_line, IsInParts, taken_in, closed_in, sends_in}
use Rattle.tick_run.specs.Sending.{IsOfPlan}

-- its lines fit the plan, and its Sends are those of its frames
pub record Fits (plan : PlanView) (it : Group) : Type 0 where
  pub parts : IsInParts it.work
  pub taken : All (FitsLine plan []) (taken_in it.work)
  pub closed : All (FitsLine plan []) (closed_in it.work)
  pub frames : All (IsOfPlan plan) it.work.frames.items
  pub sends : sends_in it.work ≡ map send_line it.work.frames.items
