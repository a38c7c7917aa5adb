use Rattle.std.proofs.Common.{◌≡◌, take}
use Rattle.plan_meters.specs.Came.{frames_in}
use Rattle.tick_run.proofs.group_tick.frames_of.Given as goal

abbrev pub invariant-loop-bytes : goal.invariant-loop-bytes
invariant-loop-bytes l = l.came.items ≡ frames_in (take l.bytes-index l.copies)
