use Rattle.std.proofs.Common.{◌≡◌, take}
use Rattle.event_schedule.specs.Events.{lines_of}
use Rattle.event_schedule.specs.Frames.{IsPossible}
use Rattle.audit_check.specs.Following.{IsReplay}
use Rattle.audit_check.proofs.auditing.first_impossible.Given as goal

abbrev pub invariant-loop-at : goal.invariant-loop-at
invariant-loop-at l = record {
  plan : l.replay.rounds.presence.plan ≡ l.transcript.plan;
  journal : l.replay.rounds.journal ≡ take l.at (lines_of l.transcript.entries);
  replay : IsReplay l.replay.rounds.presence l.replay.rounds.journal l.replay.seen l.replay.answered.items;
  possible : IsPossible l.transcript.plan.groups (take l.at (lines_of l.transcript.entries));
}
