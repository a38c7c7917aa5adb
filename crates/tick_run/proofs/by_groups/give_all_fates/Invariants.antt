use Rattle.std.proofs.Common.{◌≡◌, ◌+◌, length, drop}
use Rattle.tick_run.specs.ByGroups.{frames_by}
use Rattle.tick_run.proofs.PassLemmas.{Giving}
use Rattle.tick_run.proofs.by_groups.give_all_fates.Given as goal

abbrev pub invariant-loop-at : goal.invariant-loop-at
invariant-loop-at l = record {
  here : l.from + length (frames_by (drop l.at l.fn.groups)) ≡ length l.fates;
  giving : Giving l.at l.fn.groups l.groups l.from l.fates;
}
