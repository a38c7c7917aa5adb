use Rattle.std.proofs.Common.{◌∙◌, ap, arith}
use Rattle.group_plan.specs.Tables.{absent}
use Rattle.frame_presence.proofs.PresenceLemmas.{none_noted, next_noted, all_noted}
use Rattle.frame_presence.proofs.presence.readings_of_frames.Goals as goal

pub loop-at-init : goal.loop-at-init
loop-at-init c =
    let t = c.args.transcript.now in
    let len = c.len-at.ensures.len in
    record {
      noted = none_noted t.plan t.entries c.len-at.result c.in_ok-readings.readings len (c.in_ok-readings.ensures ∙ ap absent c.plan.ensures);
      within = omega (arith, len);
    }

pub loop-at-preserved : goal.loop-at-preserved
loop-at-preserved c =
    let t = c.args.transcript.now in
    let le = c.loop-at.invariant.within in
    record {
      noted = next_noted t.plan t.entries c.loop-at.at c.entry-entry.result c.loop-at.readings c.note.new.readings c.loop-at-test.true le c.loop-at.invariant.noted c.entry-entry.ensures c.note.ensures;
      within = omega (arith, le);
    }

pub returns : goal.returns
returns c = all_noted c.args.transcript.now.plan c.args.transcript.now.entries c.loop-at.at c.loop-at.readings c.loop-at-test.false c.loop-at.invariant.noted
