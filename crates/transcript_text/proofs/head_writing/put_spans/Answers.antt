use Rattle.std.proofs.Common.{rules, ◌≡◌, ◌++◌}
use Rattle.group_plan.specs.Plans.{size}
use Rattle.transcript_text.specs.Spelling.{members_text, spans_below}
use Rattle.transcript_text.proofs.SpanText.{group_written}
use Rattle.transcript_text.proofs.head_writing.put_spans.Goals as goal

pub loop-group-preserved : goal.loop-group-preserved
loop-group-preserved c =
    let put : c.put_spans_of.new.out.items ≡ c.loop-group.out.items ++ members_text (spans_below c.args.plan.now c.loop-group.group (size c.args.plan.now.groups c.loop-group.group)) = search rules in
    group_written c.args.plan.now c.loop-group.group c.loop-group.out.items c.args.out.now.items _ c.loop-group.invariant put
