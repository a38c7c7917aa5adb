use Rattle.std.proofs.Common.{◌++◌, map, take, sym, subst, arith}
use Rattle.std.proofs.lemmas.List.{take_all}
use Rattle.tick_run.specs.GroupRuns.{send_line, SendsAll}
use Rattle.tick_run.proofs.GroupCalls.{sends-next, sends-more}
use Rattle.tick_run.proofs.group_tick.send_all.Goals as goal

pub send_one-requires-clause-can : goal.send_one-requires-clause-can
send_one-requires-clause-can c =
    let j = c.requires.can.journal in
    let upto = c.loop-frame.invariant.sends j c.requires.can.replays c.requires.can.sendable in
    record {
      journal = j ++ map send_line (take c.loop-frame.frame-index c.args.frames.now);
      replays = upto.first.pages;
      sendable = sends-next c.args.presence.now j c.loop-frame.frame-index c.args.frames.now c.frame-item.result c.args.lines.now c.args.pages.now.group c.loop-frame.pages c.loop-frame.lines
          c.loop-frame-test.true (sym c.frame-item.is) upto;
    }

pub loop-frame-preserved : goal.loop-frame-preserved
loop-frame-preserved c = record {
  sends = λ j rep can.
      let k = c.loop-frame.frame-index in
      let upto = c.loop-frame.invariant.sends j rep can in
      sends-more c.args.presence.now j k c.args.frames.now c.frame-item.result c.args.lines.now c.loop-frame.lines c.send_one.new.lines c.args.pages.now.group c.loop-frame.pages c.send_one.new.pages
      c.loop-frame-test.true (sym c.frame-item.is) upto
      (c.send_one.ensures.sends (j ++ map send_line (take k c.args.frames.now)) upto.first.pages
      (sends-next c.args.presence.now j k c.args.frames.now c.frame-item.result c.args.lines.now c.args.pages.now.group c.loop-frame.pages c.loop-frame.lines c.loop-frame-test.true (sym c.frame-item.is) upto));
  spare = let room = c.loop-frame.invariant.spare in let more = c.send_one.ensures.spare in omega (arith, room, more);
}

pub returns : goal.returns
returns c = λ j rep can.
    let over = c.loop-frame-test.false in
    let upto = c.loop-frame.invariant.sends j rep can in
    subst (λ fs. SendsAll c.args.presence.now j fs c.args.lines.now c.args.pages.now.group c.loop-frame.pages c.loop-frame.lines) (take_all c.loop-frame.frame-index c.args.frames.now over) upto.first
