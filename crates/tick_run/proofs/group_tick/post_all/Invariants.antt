use Rattle.std.proofs.Common.{◌≡◌, drop}
use Rattle.tick_run.specs.GroupRuns.{posted_all}
use Rattle.tick_run.proofs.group_tick.post_all.Given as goal

abbrev pub invariant-loop-at : goal.invariant-loop-at
invariant-loop-at l = posted_all l.tick (drop l.at l.frames) (drop l.at l.fates) l.link ≡ posted_all l.tick l.frames l.fates l.fn.link
