use Rattle.std.proofs.Common.{◌≤◌, ◌+◌, length}
use Rattle.std.specs.Prelude.{List}
use Rattle.event_schedule.specs.declared.Line.{Line}
use Rattle.group_book.specs.Replay.{Replays}
use Rattle.tick_run.specs.GroupRuns.{AreSendable}
use Rattle.tick_run.proofs.GroupCalls.{SendsUpto}
use Rattle.tick_run.proofs.group_tick.send_all.Given as goal

abbrev pub invariant-loop-frame : goal.invariant-loop-frame
invariant-loop-frame l = record {
  sends : (j : List Line) → Replays l.presence j l.fn.pages → AreSendable l.presence l.fn.pages.group j l.frames → SendsUpto l.presence j l.frame-index l.frames l.fn.lines l.fn.pages.group l.pages l.lines;
  spare : length l.frames ≤ l.lines.spare + l.frame-index;
}
