use Rattle.std.proofs.Common.{sym, ◌∙◌, subst}
use Rattle.event_schedule.specs.declared.Line.{Line}
use Rattle.transcript_log.specs.SmallLines.{extra_of, StandsAt}
use Rattle.transcript_log.proofs.small.small_line.Goals as goal

pub returns-in-Send : goal.returns-in-Send
returns-in-Send c = λ extras stands.
    let kept = c.small_send.ensures extras (subst (λ (l : Line). StandsAt extras c.args.at (extra_of l)) c.in-Send.is stands) in
    (kept.0, kept.1 ∙ sym c.in-Send.is)

pub returns-in-Close : goal.returns-in-Close
returns-in-Close c = λ extras stands.
    let kept = c.small_closing.ensures extras (subst (λ (l : Line). StandsAt extras c.args.at (extra_of l)) c.in-Close.is stands) in
    (kept.0, kept.1 ∙ sym c.in-Close.is)

pub returns-in-End : goal.returns-in-End
returns-in-End c = λ extras stands.
    let kept = c.small_ending.ensures extras (subst (λ (l : Line). StandsAt extras c.args.at (extra_of l)) c.in-End.is stands) in
    (kept.0, kept.1 ∙ sym c.in-End.is)
