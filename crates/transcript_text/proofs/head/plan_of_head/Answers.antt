use Rattle.std.proofs.Common.{ap, ◌∙◌}
use Rattle.group_plan.specs.Spans.{span_fault}
use Rattle.transcript_text.proofs.SpanFaults.{no_span_fault}
use Rattle.transcript_text.proofs.head.plan_of_head.Goals as goal

pub with_spans-requires : goal.with_spans-requires
with_spans-requires c =
    ap (λ p. span_fault p c.args.spans.now) c.in-Ok.ensures.1 ∙ no_span_fault c.args.groups.now c.args.start.rounds c.args.start.w1 c.args.start.w2 c.args.spans.now c.requires
