use Rattle.std.proofs.Common.{◌≡◌, length, take}
use Rattle.tick_run.specs.ByGroups.{frames_by}
use Rattle.tick_run.proofs.by_groups.count_frames.Given as goal

abbrev pub invariant-loop-group : goal.invariant-loop-group
invariant-loop-group l = l.count ≡ length (frames_by (take l.group-index l.groups))
