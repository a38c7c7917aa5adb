use Rattle.std.proofs.Common.{◌≤◌, ◌+◌, length, take}
use Rattle.std.specs.Prelude.{List, All}
use Rattle.group_plan.specs.Tables.{PresenceView}
use Rattle.event_schedule.specs.declared.Line.{Line}
use Rattle.group_book.specs.Replay.{Replays}
use Rattle.tick_run.specs.GroupRuns.{Calls, IsTakeable, takes_of}
use Rattle.tick_run.proofs.group_tick.take_all.Given as goal

abbrev pub invariant-loop-frame : goal.invariant-loop-frame
invariant-loop-frame l = record {
  takes : (p : PresenceView) (j : List Line) → Replays p j l.fn.pages → All (IsTakeable p l.fn.pages.group j) l.came → Calls p j (takes_of (take l.frame-index l.came)) l.fn.lines l.fn.pages.group l.pages l.lines;
  spare : length l.came ≤ l.lines.spare + l.frame-index;
}
