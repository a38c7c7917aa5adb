use Rattle.std.proofs.Common.{rules, ◌≡◌, ◌++◌, [], if◌then◌else◌}
use Rattle.transcript_text.specs.Spelling.{ended, joined, member_fields, is_partial}
use Rattle.transcript_text.proofs.SpanText.{meter_written}
use Rattle.transcript_text.proofs.head_writing.put_spans_of.Goals as goal

pub loop-meter-preserved : goal.loop-meter-preserved
loop-meter-preserved c =
    let put : c.put_span.new.out.items ≡ c.loop-meter.out.items ++ (if is_partial c.rounds-rounds.result c.meter_span-span.result then ended (joined (member_fields c.meter_span-span.result)) else []) = search rules in
    meter_written c.args.plan.now c.args.group c.loop-meter.meter c.loop-meter.out.items c.args.out.now.items _ c.loop-meter.invariant (rw (c.rounds-rounds.ensures.rounds, c.meter_span-span.ensures) at put)
