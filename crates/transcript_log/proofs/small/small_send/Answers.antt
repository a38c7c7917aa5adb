use Rattle.std.proofs.Common.{◌≡◌, sym, ap, ◌∙◌, subst, Some}
use Rattle.group_plan.specs.declared.Tag.{Tag}
use Rattle.event_schedule.specs.declared.Line.{Line}
use Rattle.event_schedule.specs.declared.Line.TheVariants.{Send}
use Rattle.transcript_log.specs.Lines.{HasOwnTag}
use Rattle.transcript_log.specs.SmallLines.{extra_of, StandsAt}
use Rattle.transcript_log.proofs.small.small_send.Goals as goal

pub returns-in-Some : goal.returns-in-Some
returns-in-Some c = λ extras stands.
    let frame = c.in-Some.field-0 in
    let is = ap (Send c.args.tag) c.in-Some.is in
    let own : frame.tag ≡ c.args.tag = subst HasOwnTag is c.requires in
    let kept = c.small_sent.ensures extras (record { set = frame.missing; word = frame.word }) (subst (λ (l : Line). StandsAt extras c.args.at (extra_of l)) is stands) in
    (kept.0, kept.1 ∙ ap (λ (t : Tag). Send c.args.tag (Some (record { tag = t; missing = frame.missing; word = frame.word }))) (sym own) ∙ sym is)
