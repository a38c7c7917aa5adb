use Rattle.std.proofs.Common.{◌≡◌, ◌++◌, ◌-◌, ◌≤◌, ℕ, List}
use Rattle.std.specs.List.{flat_map, range_with_len}
use Rattle.meter_frames.specs.declared.Frame.{Frame}
use Rattle.plan_meters.specs.TickFrames.{answers_to}
use Rattle.plan_meters.proofs.group.add_answer_frames.Given as goal

-- the answers of the rounds so far
pub record Answered (F : ℕ → List Frame) (first until round : ℕ) (before now : List Frame) : Type 0 where
  pub from : first ≤ round
  pub to : round ≤ until
  pub frames : now ≡ before ++ flat_map F (range_with_len first (round - first))

abbrev pub invariant-loop-round : goal.invariant-loop-round
invariant-loop-round g l =
    Answered (answers_to l.known.readings.now.plan.groups (g.M.Masks.table l.known.masks.now) l.came l.group) l.first l.until l.round l.fn.frames.items l.frames.items
