use Rattle.event_schedule.specs.Events.{lines_of}
use Rattle.frame_presence.proofs.PresenceLemmas.{presence_ends}
use Rattle.frame_presence.proofs.presence.presence_of_frames.Goals as goal

pub returns : goal.returns
returns c = presence_ends c.args.transcript.now.plan (lines_of c.args.transcript.now.entries) c.in_ok-readings.readings c.of.result c.in_ok-readings.ensures c.of.ensures
