use Rattle.std.proofs.Common.{rules, refl, ap, ◌∙◌}
use Rattle.command_texts.proofs.InspectLemmas.{head_other}
use Rattle.command_texts.proofs.inspect.read_texts.Goals as goal

pub returns-in-Err-Transcript-clause-ends : goal.returns-in-Err-Transcript-clause-ends
returns-in-Err-Transcript-clause-ends c = λ tb read. search (rules, c.in-Err-Transcript.ensures.ends tb read, c.in-Err-Transcript.field-0-is, c.in-Err-Transcript.fault-is)

pub returns-in-Err-Head-clause-ends : goal.returns-in-Err-Head-clause-ends
returns-in-Err-Head-clause-ends c = λ tb read.
    let other = head_other c.args.plan.now tb c.in-Err-Head.field-0 c.in-Err-Head.field-0-is (c.in-Err-Head.ensures.ends tb read) in
    c.other_plan.ensures.ends c.args.plan.now tb other.0 other.1 other.2

pub returns-clause-ends : goal.returns-clause-ends
returns-clause-ends c = λ tb read. search (rules, c.in-Ok.ensures.ends tb read, c.in-Ok-report_of.ensures.text, c.in-Ok-report_of.ensures.value)
