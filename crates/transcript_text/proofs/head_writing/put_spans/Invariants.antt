use Rattle.std.proofs.Common.{◌≡◌, ◌++◌}
use Rattle.std.specs.List.{flat_map, range_with_len}
use Rattle.group_plan.specs.Plans.{size}
use Rattle.transcript_text.specs.Spelling.{members_text, spans_below}
use Rattle.transcript_text.proofs.head_writing.put_spans.Given as goal

abbrev pub invariant-loop-group : goal.invariant-loop-group
invariant-loop-group l = l.out.items ≡ l.fn.out.items ++ members_text (flat_map (λ g. spans_below l.plan g (size l.plan.groups g)) (range_with_len 0 l.group))
