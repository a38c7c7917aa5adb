use Rattle.std.proofs.Common.{sym, ap, ◌∙◌, ◌+◌, length, arith}
use Rattle.std.specs.List.{flat_map, range_with_len}
use Rattle.group_plan.specs.Plans.{size}
use Rattle.transcript_text.specs.Spelling.{spans_below}
use Rattle.transcript_text.proofs.LineNumbers.{group_stated}
use Rattle.transcript_text.proofs.entry_lines.all_stated.Goals as goal

pub loop-group-preserved : goal.loop-group-preserved
loop-group-preserved c =
    let few = c.loop-group.invariant.few in
    let more = c.stated_of-stated.ensures.few in
    record {
      spans = ap (λ n. n + c.stated_of-stated.result) c.loop-group.invariant.spans
          ∙ ap (λ n. length (flat_map (λ g. spans_below c.args.plan.now g (size c.args.plan.now.groups g)) (range_with_len 0 c.loop-group.group)) + n) c.stated_of-stated.ensures.spans
          ∙ sym (group_stated c.args.plan.now c.loop-group.group);
      few = omega (arith, few, more);
    }
