use Rattle.std.proofs.Common.{◌≡◌, ◌++◌, map}
use Rattle.missing_round.specs.Sets.{less}
use Rattle.tick_run.specs.TickFrames.{announcement_frame}
use Rattle.tick_run.proofs.announcements.add_announcements.Given as goal

abbrev pub invariant-loop-meter : goal.invariant-loop-meter
invariant-loop-meter l =
    l.frames.items ++ map (announcement_frame l.group l.round l.missing) l.meter-iterator
    ≡ l.fn.frames.items ++ map (announcement_frame l.group l.round l.missing) (less l.members l.missing)
