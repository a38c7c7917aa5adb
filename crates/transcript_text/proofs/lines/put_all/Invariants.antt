use Rattle.std.proofs.Common.{◌≡◌, ◌++◌, All, drop}
use Rattle.event_schedule.specs.Transcripts.{Fits, NeverFalls, last_tick_from}
use Rattle.transcript_text.proofs.lines.put_all.Given as goal

-- the entries so far are put, and those behind them follow
abbrev pub invariant-loop-entry : goal.invariant-loop-entry
invariant-loop-entry l = record {
  plan : l.transcript.plan ≡ l.fn.transcript.plan;
  so_far : l.transcript.entries ++ drop l.entry-index l.entries ≡ l.fn.transcript.entries ++ l.entries;
  ticks : NeverFalls (last_tick_from 0 l.transcript.entries) (drop l.entry-index l.entries);
  fits : All (Fits l.fn.transcript.plan) (drop l.entry-index l.entries);
}
