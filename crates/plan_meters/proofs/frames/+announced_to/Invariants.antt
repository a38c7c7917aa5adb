use Rattle.std.proofs.Common.{length}
use Rattle.plan_meters.proofs.frames.+announced_to.Given as goal

abbrev pub decreases-announced_to : goal.decreases-announced_to
decreases-announced_to l = length l.came.now
