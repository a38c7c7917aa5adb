use Rattle.std.proofs.Common.{arith, refl, ◌∙◌, ap}
use Rattle.transcript_text.specs.Reading.{sent_of}
use Rattle.transcript_text.proofs.WrittenLines.{send_written}
use Rattle.transcript_text.proofs.written.send.Goals as goal

pub returns : goal.returns
returns c =
    let tag = c.in_ok-tag.tag in
    let sent = c.in_ok-frame.ensures ∙ ap (λ n. sent_of c.args.version n tag c.in_ok-fate.fate c.in_ok-delays.digits.now) c.meters.ensures.meters in (
      refl,
      send_written c.args.version c.args.plan.now c.args.tick tag c.in_ok-fate.fate c.in_ok-delays.delays.now c.in_ok-delays.digits.now c.in_ok-frame.frame c.args.text.now c.in_ok-tag.text.now (omega arith) c.in_ok-tag.ensures.0
          c.in_ok-tag.ensures.1 c.in_ok-delays.ensures.0 c.in_ok-fate.ensures sent,
    )
