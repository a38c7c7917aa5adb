use Rattle.std.proofs.Common.{◌≤◌, length, drop}
use Rattle.event_schedule.specs.Events.{lines_of}
use Rattle.frame_presence.specs.Presence.{IsNoted}
use Rattle.frame_presence.proofs.presence.readings_of_frames.Given as goal

abbrev pub invariant-loop-at : goal.invariant-loop-at
invariant-loop-at l = record {
  noted : IsNoted l.transcript.plan (lines_of (drop l.at l.transcript.entries)) l.readings;
  within : l.at ≤ length l.transcript.entries;
}

abbrev pub decreases-loop-at : goal.decreases-loop-at
decreases-loop-at l = l.at
